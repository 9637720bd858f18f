use Rattle.orc_template.proofs.CutAgain.{cut_again}
use Rattle.orc_template.proofs.laws.strings_are_cut.Goals as goal

pub returns : goal.returns
returns c = cut_again
