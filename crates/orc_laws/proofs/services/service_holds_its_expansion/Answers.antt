use Rattle.orc_laws.proofs.Made.{service_holds}
use Rattle.orc_laws.proofs.services.service_holds_its_expansion.Goals as goal

pub returns : goal.returns
returns c = service_holds c.literal_is_expansion.ensures
