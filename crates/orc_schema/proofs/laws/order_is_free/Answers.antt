use Rattle.orc_schema.proofs.Orders.{order_is_free}
use Rattle.orc_schema.proofs.laws.order_is_free.Goals as goal

pub returns : goal.returns
returns c = order_is_free
