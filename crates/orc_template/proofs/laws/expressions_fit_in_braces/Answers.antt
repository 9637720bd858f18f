use Rattle.orc_template.proofs.InBraces.{expression_fits}
use Rattle.orc_template.proofs.laws.expressions_fit_in_braces.Goals as goal

pub returns : goal.returns
returns c = expression_fits
