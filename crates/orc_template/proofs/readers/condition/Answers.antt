use Rattle.orc_expr.specs.Parts.{condition_of}
use Rattle.orc_template.proofs.Told.{condition_told, no_condition}
use Rattle.orc_template.proofs.readers.condition.Goals as goal

pub returns-in-Ok : goal.returns-in-Ok
returns-in-Ok c = condition_told (condition_of c.in-Ok.cond) c.args.text.now c.in-Ok.ensures.kind c.in-Ok.ensures.text

pub returns-in-Err-Bad : goal.returns-in-Err-Bad
returns-in-Err-Bad c = no_condition c.args.text.now (rw c.in-Err-Bad.field-0-is at c.in-Err-Bad.ensures.fault).none
