use Rattle.orc_laws.proofs.Data.{data_valid}
use Rattle.orc_laws.proofs.histories.data_is_valid.Goals as goal

pub returns : goal.returns
returns c = data_valid
