use Rattle.orc_journal.proofs.Rules.{order_kept}
use Rattle.orc_journal.proofs.laws.keeps_order.Goals as goal

pub returns : goal.returns
returns c = order_kept
