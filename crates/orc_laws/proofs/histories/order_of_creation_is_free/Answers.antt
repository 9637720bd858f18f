use Rattle.orc_laws.proofs.Overlays.{order_free}
use Rattle.orc_laws.proofs.histories.order_of_creation_is_free.Goals as goal

pub returns : goal.returns
returns c = order_free
