use Rattle.orc_tree.proofs.Equated.{configs_decided}
use Rattle.orc_tree.proofs.laws.equal_configs_are_one.Goals as goal

pub returns : goal.returns
returns c = configs_decided
