use Rattle.orc_schema.proofs.Lawful.{depth_is_no_limit}
use Rattle.orc_schema.proofs.laws.depth_is_no_limit.Goals as goal

pub returns : goal.returns
returns c = depth_is_no_limit
