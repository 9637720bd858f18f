use Rattle.orc_journal.proofs.Pushed.{more_kept}
use Rattle.orc_journal.proofs.laws.entry_more_keeps_order.Goals as goal

pub returns : goal.returns
returns c = more_kept
