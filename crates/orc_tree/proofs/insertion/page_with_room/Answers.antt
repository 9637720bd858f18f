use Rattle.std.proofs.Common.{arith}
use Rattle.orc_tree.proofs.insertion.page_with_room.Goals as goal

pub page_for-requires-clause-some : goal.page_for-requires-clause-some
page_for-requires-clause-some c = omega (arith, c.requires.page.within, c.in_ok-split.ensures.len, c.as_slice.ensures.len)
