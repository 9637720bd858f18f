use Rattle.orc_journal.proofs.Unique.{one_journal}
use Rattle.orc_journal.proofs.laws.has_one_list_of_entries.Goals as goal

pub returns : goal.returns
returns c = one_journal
