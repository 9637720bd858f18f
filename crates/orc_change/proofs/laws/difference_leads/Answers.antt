use Rattle.orc_change.proofs.Exact.{applied-difference}
use Rattle.orc_change.proofs.laws.difference_leads.Goals as goal

pub returns : goal.returns
returns c = applied-difference
