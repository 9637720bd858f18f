use Rattle.std.proofs.lemmas.Slice.Eq.{slice_eq-Decides}
use Rattle.orc_tree.proofs.Equal.{row_eq_decides}
use Rattle.orc_change.proofs.difference.same_rows.Goals as goal

pub returns : goal.returns
returns c = λ same. (slice_eq-Decides row_eq_decides c.args.left.now c.args.right.now c.eq.result c.eq.ensures).0 same
