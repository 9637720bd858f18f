use Rattle.orc_types.proofs.NumberLaws.{unread}
use Rattle.orc_types.proofs.numbers.written_number.Goals as goal

pub returns-in-Err : goal.returns-in-Err
returns-in-Err c = unread c.args.text.now c.in-Err.ensures.value.0
