use Rattle.orc_expr.specs.Parts.{expression_of}
use Rattle.orc_template.proofs.Told.{expression_told, no_expression}
use Rattle.orc_template.proofs.readers.expression.Goals as goal

pub returns-in-Ok : goal.returns-in-Ok
returns-in-Ok c = expression_told (expression_of c.in-Ok.expr) c.args.text.now c.in-Ok.ensures.kind c.in-Ok.ensures.text

pub returns-in-Err-Bad : goal.returns-in-Err-Bad
returns-in-Err-Bad c = no_expression c.args.text.now (rw c.in-Err-Bad.field-0-is at c.in-Err-Bad.ensures.fault).none
