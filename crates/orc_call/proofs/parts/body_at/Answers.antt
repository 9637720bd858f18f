use Rattle.orc_call.proofs.Grammars.{handed_on}
use Rattle.orc_call.proofs.Sequels.{first_fails, later_fails}
use Rattle.orc_call.proofs.Determined.{body_sequel, counted_puts_sequel, text_determined, item_count_determined}
use Rattle.orc_call.proofs.parts.body_at.Goals as goal

pub returns-in_err-service : goal.returns-in_err-service
returns-in_err-service c =
    let e = c.in_err-service.field-0.0 in
    handed_on _ c.args.bytes.now _ e c.from_residual.ensures.1 (first_fails _ _ _ _ body_sequel c.args.bytes.now e c.in_err-service.ensures.reads)

pub returns-in_err-count : goal.returns-in_err-count
returns-in_err-count c =
    let e = c.in_err-count.field-0.0 in
    let rest = c.in_ok-service.rest.now in
    handed_on _ c.args.bytes.now _ e c.from_residual-in_err-count.ensures.1
    (later_fails _ _ _ _ body_sequel text_determined c.args.bytes.now c.in_ok-service.service rest e c.in_ok-service.ensures.reads
    (first_fails _ _ _ _ counted_puts_sequel rest e c.in_err-count.ensures.reads))

pub returns-in_err-puts : goal.returns-in_err-puts
returns-in_err-puts c =
    let e = c.in_err-puts.field-0.0 in
    let rest = c.in_ok-service.rest.now in
    handed_on _ c.args.bytes.now _ e c.from_residual-in_err-puts.ensures.1
    (later_fails _ _ _ _ body_sequel text_determined c.args.bytes.now c.in_ok-service.service rest e c.in_ok-service.ensures.reads
    (later_fails _ _ _ _ counted_puts_sequel item_count_determined rest c.in_ok-count.count c.in_ok-count.rest.now e c.in_ok-count.ensures.reads c.in_err-puts.ensures))
