use Rattle.orc_lines.proofs.Utf8.{utf8_so, utf8_not}
use Rattle.orc_lines.proofs.words.read_text.Goals as goal

pub returns-in-Ok : goal.returns-in-Ok
returns-in-Ok c = (utf8_so c.args.bytes.now c.in-Ok.ensures.cases.1, c.in-Ok.ensures.cases.0)

pub returns-in-Err : goal.returns-in-Err
returns-in-Err c = utf8_not c.args.bytes.now c.in-Err.ensures.cases.0
