use Rattle.orc_call.specs.Encoding.{action_fields}
use Rattle.orc_call.proofs.Grammars.{handed_on}
use Rattle.orc_call.proofs.Determined.{many_fail}
use Rattle.orc_call.proofs.ActionKinds.{action_determined, some_an_action}
use Rattle.orc_call.proofs.actions.actions_at.Goals as goal

pub returns-in_err-action : goal.returns-in_err-action
returns-in_err-action c =
    let e = c.in_err-action.field-0.0 in
    handed_on _ c.args.bytes.now _ e c.from_residual.ensures.1
    (many_fail action_fields some_an_action action_determined c.loop.counter c.args.count c.args.bytes.now c.loop.actions c.loop.rest.now e c.loop.invariant c.in_err-action.ensures c.loop-test.true)
