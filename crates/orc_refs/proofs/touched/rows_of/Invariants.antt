use Rattle.std.proofs.Common.{◌≤◌, take, vec_len}
use Rattle.orc_refs.specs.inside.Marks.{AreRowsOf, by_path, read}
use Rattle.orc_refs.proofs.touched.rows_of.Given as goal

-- the rows of the marks so far
abbrev pub invariant-loop-mark : goal.invariant-loop-mark
invariant-loop-mark l = record {
  rows : AreRowsOf (read (take l.mark-index l.marks)) (by_path l.rows.items);
  len : vec_len l.rows ≤ l.mark-index;
}
