use Rattle.std.proofs.Common.{◌∙◌, Some, ap}
use Rattle.std.specs.Result.{result_ok}
use Rattle.orc_script.proofs.BodyTexts.{body_found, fault_given, no_json_given}
use Rattle.orc_script.proofs.bodies.read_body.Goals as goal

pub returns-in_ok-puts_of-in-Ok : goal.returns-in_ok-puts_of-in-Ok
returns-in_ok-puts_of-in-Ok c =
    let given = c.in-Ok.ensures in
    ap (λ body. Some body) c.in_ok-puts_of-in-Ok.ensures
    ∙ body_found c.args.schema.now c.args.entry.now c.args.text.now given.0 given.1 c.in-Ok.rows.items given.2 (ap (λ r. result_ok r) given.3) given.4

pub returns-in-Err-Syntax : goal.returns-in-Err-Syntax
returns-in-Err-Syntax c =
    no_json_given c.args.schema.now c.args.entry.now c.args.text.now c.in-Err-Syntax.field-0 c.in-Err-Syntax.field-0-is c.in-Err-Syntax.ensures

pub returns-in-Err-Bad : goal.returns-in-Err-Bad
returns-in-Err-Bad c =
    fault_given c.args.schema.now c.args.entry.now c.args.text.now c.in-Err-Bad.field-0 _ _ c.in-Err-Bad.field-0-is c.in-Err-Bad.ensures
