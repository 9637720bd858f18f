use Rattle.orc_laws.proofs.Data.{devices_stay}
use Rattle.orc_laws.proofs.histories.devices_stay.Goals as goal

pub returns : goal.returns
returns c = devices_stay
