use Rattle.orc_check.proofs.Orders.{more_keys}
use Rattle.orc_check.proofs.order.order_keys.Goals as goal

pub returns-in_default : goal.returns-in_default
returns-in_default c = more_keys c.args.keys.now c.in_default.len_at_least
