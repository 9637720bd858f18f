use Rattle.std.proofs.Common.{◌≡◌, drop}
use Rattle.orc_tree.specs.Changes.{drop_each}
use Rattle.orc_tree.proofs.change.drop_each.Given as goal

-- to remove what is left leaves what removing all leaves
abbrev pub invariant-loop-change : goal.invariant-loop-change
invariant-loop-change l = drop_each (drop l.change-index l.changes) l.tree ≡ drop_each l.changes l.fn.tree
