use Rattle.orc_laws.proofs.Presence.{lives_where_it_stands}
use Rattle.orc_laws.proofs.services.service_lives_where_it_stands.Goals as goal

pub returns : goal.returns
returns c = lives_where_it_stands
