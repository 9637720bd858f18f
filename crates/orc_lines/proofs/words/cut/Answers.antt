use Rattle.std.proofs.Common.{arith}
use Rattle.orc_lines.proofs.Cuts.{cut_parts}
use Rattle.orc_lines.proofs.words.cut.Goals as goal

pub returns : goal.returns
returns c = cut_parts 32 _ _ (omega arith) c.split_once.ensures.cases
