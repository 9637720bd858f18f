use Rattle.orc_laws.proofs.Made.{last_made}
use Rattle.orc_laws.proofs.services.living_is_last_made.Goals as goal

pub returns : goal.returns
returns c = last_made c.literal_is_expansion.ensures
