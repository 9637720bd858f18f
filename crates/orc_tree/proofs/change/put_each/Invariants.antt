use Rattle.std.proofs.Common.{◌≡◌, drop}
use Rattle.orc_tree.specs.Changes.{put_each}
use Rattle.orc_tree.proofs.change.put_each.Given as goal

-- to put what is left makes what putting all makes
abbrev pub invariant-loop-change : goal.invariant-loop-change
invariant-loop-change l = put_each (drop l.change-index l.changes) l.tree ≡ put_each l.changes l.fn.tree
