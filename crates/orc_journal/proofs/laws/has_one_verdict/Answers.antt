use Rattle.orc_journal.proofs.Verdicts.{one_verdict}
use Rattle.orc_journal.proofs.laws.has_one_verdict.Goals as goal

pub returns : goal.returns
returns c = one_verdict
