use Rattle.std.proofs.Common.{ℕ, ◌<◌, get_or}
use Rattle.orc_tree.specs.declared.change.Change.{Change}
use Rattle.orc_refs.specs.inside.Plans.{PutsAtPath}
use Rattle.orc_refs.proofs.planning.put_at_paths.Given as goal

abbrev pub invariant-loop-change : goal.invariant-loop-change
invariant-loop-change l = (k : ℕ) (d : Change) → k < l.change-index → PutsAtPath (get_or l.changes k d)
