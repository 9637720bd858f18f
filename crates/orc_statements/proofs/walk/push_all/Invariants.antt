use Rattle.std.proofs.Common.{◌≡◌, ℕ, List, drop}
use Rattle.std.specs.Prelude.{◌||◌}
use Rattle.orc_statements.specs.Names.{contains_text}
use Rattle.orc_statements.specs.inside.Seen.{is_seen}
use Rattle.orc_statements.proofs.walk.push_all.Given as goal

abbrev pub invariant-loop-name : goal.invariant-loop-name
invariant-loop-name l = (q : List ℕ) → (is_seen l.names q || contains_text (drop l.name-index l.more) q) ≡ (is_seen l.fn.names q || contains_text l.more q)
