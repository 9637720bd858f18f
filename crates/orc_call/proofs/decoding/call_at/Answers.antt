use Rattle.std.proofs.Common.{Err, ap}
use Rattle.orc_call.proofs.Grammars.{handed_on, memory_on}
use Rattle.orc_call.proofs.Singles.{text_there}
use Rattle.orc_call.proofs.Sequels.{first_fails, later_fails}
use Rattle.orc_call.proofs.Determined.{text_determined, number_determined, action_count_determined}
use Rattle.orc_call.proofs.ActionKinds.{call_sequel, numbered_sequel, counted_actions_sequel}
use Rattle.orc_call.proofs.decoding.call_at.Goals as goal

pub returns-in_err-caller-clause-reads : goal.returns-in_err-caller-clause-reads
returns-in_err-caller-clause-reads c =
    let e = c.in_err-caller.field-0.0 in
    handed_on _ c.args.bytes.now _ e c.from_residual.ensures.1 (first_fails _ _ _ _ call_sequel c.args.bytes.now e c.in_err-caller.ensures.reads)

pub returns-in_err-number-clause-reads : goal.returns-in_err-number-clause-reads
returns-in_err-number-clause-reads c =
    let e = c.in_err-number.field-0.0 in
    let rest = c.in_ok-caller.rest.now in
    handed_on _ c.args.bytes.now _ e c.from_residual-in_err-number.ensures.1
    (later_fails _ _ _ _ call_sequel text_determined c.args.bytes.now c.in_ok-caller.caller rest e c.in_ok-caller.ensures.reads
    (first_fails _ _ _ _ numbered_sequel rest e c.in_err-number.ensures.reads))

pub returns-in_err-count-clause-reads : goal.returns-in_err-count-clause-reads
returns-in_err-count-clause-reads c =
    let e = c.in_err-count.field-0.0 in
    let rest = c.in_ok-caller.rest.now in
    handed_on _ c.args.bytes.now _ e c.from_residual-in_err-count.ensures.1
    (later_fails _ _ _ _ call_sequel text_determined c.args.bytes.now c.in_ok-caller.caller rest e c.in_ok-caller.ensures.reads
    (later_fails _ _ _ _ numbered_sequel number_determined rest c.in_ok-number.number c.in_ok-number.rest.now e c.in_ok-number.ensures.reads
    (first_fails _ _ _ _ counted_actions_sequel c.in_ok-number.rest.now e c.in_err-count.ensures.reads)))

pub returns-in_err-actions-clause-reads : goal.returns-in_err-actions-clause-reads
returns-in_err-actions-clause-reads c =
    let e = c.in_err-actions.field-0.0 in
    let rest = c.in_ok-caller.rest.now in
    handed_on _ c.args.bytes.now _ e c.from_residual-in_err-actions.ensures.1
    (later_fails _ _ _ _ call_sequel text_determined c.args.bytes.now c.in_ok-caller.caller rest e c.in_ok-caller.ensures.reads
    (later_fails _ _ _ _ numbered_sequel number_determined rest c.in_ok-number.number c.in_ok-number.rest.now e c.in_ok-number.ensures.reads
    (later_fails _ _ _ _ counted_actions_sequel action_count_determined c.in_ok-number.rest.now c.in_ok-count.count c.in_ok-count.rest.now e c.in_ok-count.ensures.reads c.in_err-actions.ensures)))

pub returns-in_err-caller-clause-memory : goal.returns-in_err-caller-clause-memory
returns-in_err-caller-clause-memory c = memory_on _ c.in_err-caller.field-0.0 c.from_residual.ensures.1 (λ is. c.in_err-caller.ensures.memory (ap Err is))

pub returns-in_err-number-clause-memory : goal.returns-in_err-number-clause-memory
returns-in_err-number-clause-memory c = λ _. (_, _, text_there c.args.bytes.now _ _ c.in_ok-caller.ensures.reads)

pub returns-in_err-count-clause-memory : goal.returns-in_err-count-clause-memory
returns-in_err-count-clause-memory c = λ _. (_, _, text_there c.args.bytes.now _ _ c.in_ok-caller.ensures.reads)

pub returns-in_err-actions-clause-memory : goal.returns-in_err-actions-clause-memory
returns-in_err-actions-clause-memory c = λ _. (_, _, text_there c.args.bytes.now _ _ c.in_ok-caller.ensures.reads)
