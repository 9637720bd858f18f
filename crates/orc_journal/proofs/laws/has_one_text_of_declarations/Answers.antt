use Rattle.orc_journal.proofs.Unique.{one_text_of_declarations}
use Rattle.orc_journal.proofs.laws.has_one_text_of_declarations.Goals as goal

pub returns : goal.returns
returns c = one_text_of_declarations
