use Rattle.std.proofs.Common.{◌≡◌, ◌++◌, List, ℕ, replicate}
use Rattle.orc_yang.specs.inside.Valuing.{spelled_with}
use Rattle.orc_yang.proofs.quoted.Value.add_spaces.Given as goal

-- the spaces so far are added, and nothing else changed
abbrev pub invariant-loop-i : goal.invariant-loop-i
invariant-loop-i l = record {
  value : (rest : List ℕ) → spelled_with l.self rest ≡ spelled_with l.fn.self (replicate l._i 32 ++ rest);
  left : l.self.left ≡ l.fn.self.left;
  blank : l.self.blank ≡ l.fn.self.blank;
  trailing : l.self.trailing ≡ l.fn.self.trailing;
}
