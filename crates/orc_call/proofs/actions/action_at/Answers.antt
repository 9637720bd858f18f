use Rattle.orc_call.proofs.Grammars.{handed_on}
use Rattle.orc_call.proofs.Sequels.{first_fails, later_fails}
use Rattle.orc_call.proofs.ActionKinds.{action_sequel, kind_determined}
use Rattle.orc_call.proofs.actions.action_at.Goals as goal

pub returns-in_err-kind : goal.returns-in_err-kind
returns-in_err-kind c =
    let e = c.in_err-kind.field-0.0 in
    handed_on _ c.args.bytes.now _ e c.from_residual.ensures.1 (first_fails _ _ _ _ action_sequel c.args.bytes.now e c.in_err-kind.ensures.reads)

pub returns-in_err-action : goal.returns-in_err-action
returns-in_err-action c =
    let e = c.in_err-action.field-0.0 in
    handed_on _ c.args.bytes.now _ e c.from_residual-in_err-action.ensures.1
    (later_fails _ _ _ _ action_sequel kind_determined c.args.bytes.now c.in_ok-kind.kind c.in_ok-kind.rest.now e c.in_ok-kind.ensures.reads c.in_err-action.ensures)
