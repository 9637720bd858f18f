use Rattle.std.proofs.Common.{◌≡◌, ◌≤◌, length, take}
use Rattle.orc_tree.specs.inside.Removal.{kept_of}
use Rattle.orc_tree.proofs.removal.count_kept.Given as goal

abbrev pub invariant-loop-row : goal.invariant-loop-row
invariant-loop-row l = record {
  count : l.kept ≡ length (kept_of l.path (take l.row-index l.rows));
  bound : l.kept ≤ l.row-index;
}
