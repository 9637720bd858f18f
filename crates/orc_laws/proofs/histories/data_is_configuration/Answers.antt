use Rattle.orc_laws.proofs.Data.{data_is_config}
use Rattle.orc_laws.proofs.histories.data_is_configuration.Goals as goal

pub returns : goal.returns
returns c = data_is_config
