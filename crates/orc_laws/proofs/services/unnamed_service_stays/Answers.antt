use Rattle.orc_laws.proofs.Made.{services_stay}
use Rattle.orc_laws.proofs.services.unnamed_service_stays.Goals as goal

pub returns : goal.returns
returns c = services_stay
