use Rattle.orc_expr.specs.Parts.{condition_of}
use Rattle.orc_expr.proofs.Grammars.{condition_kind, condition_only, condition_fault}
use Rattle.orc_expr.proofs.expr.Cond.parse.Goals as goal

pub returns-in-Ok-clause-kind : goal.returns-in-Ok-clause-kind
returns-in-Ok-clause-kind c = condition_kind c.args.text.now (condition_of c.in-Ok.cond) c.in-Ok.ensures.ok

pub returns-in-Ok-clause-text : goal.returns-in-Ok-clause-text
returns-in-Ok-clause-text c = c.in-Ok.ensures.ok.text

pub returns-in-Ok-clause-again : goal.returns-in-Ok-clause-again
returns-in-Ok-clause-again c = condition_only c.args.text.now (condition_of c.in-Ok.cond) c.in-Ok.ensures.ok

pub returns-in-Err-clause-fault : goal.returns-in-Err-clause-fault
returns-in-Err-clause-fault c = condition_fault c.args.text.now c.in-Err.fault c.in-Err.ensures.fault
