use Rattle.orc_statements.proofs.Numerals.{uncounted}
use Rattle.orc_statements.proofs.counts.count_of.Goals as goal

pub returns-in-Err : goal.returns-in-Err
returns-in-Err c = uncounted c.args.text.now c.in-Err.ensures.value.0
