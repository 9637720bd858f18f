use Rattle.orc_check.proofs.Least.{least_is}
use Rattle.orc_check.proofs.laws.least_breach_is_least.Goals as goal

pub returns : goal.returns
returns c = least_is
