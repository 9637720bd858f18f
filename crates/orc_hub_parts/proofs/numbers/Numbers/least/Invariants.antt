use Rattle.std.proofs.Common.{◌≡◌, ◌<◌, ◌≤◌, ℕ, true}
use Rattle.orc_hub_parts.specs.Numbered.{is_noted}
use Rattle.orc_hub_parts.proofs.numbers.Numbers.least.Given as goal

abbrev pub invariant-loop-t : goal.invariant-loop-t
invariant-loop-t l = (u : ℕ) → l.self.next ≤ u → 1 ≤ u → u < l.t-counter → is_noted l.self u ≡ true
