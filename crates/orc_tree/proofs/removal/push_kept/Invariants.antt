use Rattle.std.proofs.Common.{◌≡◌, ◌++◌, take}
use Rattle.orc_tree.specs.inside.Removal.{kept_of}
use Rattle.orc_tree.proofs.removal.push_kept.Given as goal

abbrev pub invariant-loop-row : goal.invariant-loop-row
invariant-loop-row l = l.out.items ≡ l.fn.out.items ++ kept_of l.path (take l.row-index l.rows)
