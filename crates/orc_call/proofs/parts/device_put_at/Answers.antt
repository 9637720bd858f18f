use Rattle.orc_call.proofs.Grammars.{handed_on}
use Rattle.orc_call.proofs.Sequels.{first_fails, later_fails}
use Rattle.orc_call.proofs.Determined.{device_put_sequel, text_determined}
use Rattle.orc_call.proofs.parts.device_put_at.Goals as goal

pub returns-in_err-device : goal.returns-in_err-device
returns-in_err-device c =
    let e = c.in_err-device.field-0.0 in
    handed_on _ c.args.bytes.now _ e c.from_residual.ensures.1 (first_fails _ _ _ _ device_put_sequel c.args.bytes.now e c.in_err-device.ensures.reads)

pub returns-in_err-put : goal.returns-in_err-put
returns-in_err-put c =
    let e = c.in_err-put.field-0.0 in
    handed_on _ c.args.bytes.now _ e c.from_residual-in_err-put.ensures.1
    (later_fails _ _ _ _ device_put_sequel text_determined c.args.bytes.now c.in_ok-device.device c.in_ok-device.rest.now e c.in_ok-device.ensures.reads c.in_err-put.ensures)
