use Rattle.orc_template.proofs.CutSoFar.{cut_written}
use Rattle.orc_template.proofs.laws.cut_strings_are_written.Goals as goal

pub returns : goal.returns
returns c = cut_written
