use Rattle.orc_call.specs.Encoding.{device_put_fields}
use Rattle.orc_call.proofs.Grammars.{handed_on}
use Rattle.orc_call.proofs.Determined.{many_fail, some_device_put, device_put_determined}
use Rattle.orc_call.proofs.parts.device_puts_at.Goals as goal

pub returns-in_err-write : goal.returns-in_err-write
returns-in_err-write c =
    let e = c.in_err-write.field-0.0 in
    handed_on _ c.args.bytes.now _ e c.from_residual.ensures.1
    (many_fail device_put_fields some_device_put device_put_determined c.loop.counter c.args.count c.args.bytes.now c.loop.writes c.loop.rest.now e c.loop.invariant c.in_err-write.ensures c.loop-test.true)
