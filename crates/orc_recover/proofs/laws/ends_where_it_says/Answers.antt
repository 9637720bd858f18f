use Rattle.orc_recover.proofs.Ending.{ends_always}
use Rattle.orc_recover.proofs.laws.ends_where_it_says.Goals as goal

pub returns : goal.returns
returns c = ends_always
