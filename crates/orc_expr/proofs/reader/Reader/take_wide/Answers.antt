use Rattle.orc_expr.proofs.Wide.{reader_quoted, reader_tested, reader_refuses}
use Rattle.orc_expr.proofs.reader.Reader.take_wide.Goals as goal

pub returns-in_ok-push-in-InQuotes : goal.returns-in_ok-push-in-InQuotes
returns-in_ok-push-in-InQuotes c =
    reader_quoted c.args.self.now c.args.character c.requires c.in-InQuotes.is c.push.new.self c.in_ok-push-in-InQuotes.ensures.ok

pub returns-in_ok-push-in-InTest : goal.returns-in_ok-push-in-InTest
returns-in_ok-push-in-InTest c =
    reader_tested c.args.self.now c.args.character c.requires c.in-InTest.is c.push-in-InTest.new.self c.in_ok-push-in-InTest.ensures.ok

pub returns-in_default : goal.returns-in_default
returns-in_default c = reader_refuses c.args.self.now c.args.character c.requires c.in_default.not-InQuotes c.in_default.not-InTest
