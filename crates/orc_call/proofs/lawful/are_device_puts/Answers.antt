use Rattle.orc_call.specs.Encoding.{device_put_fields}
use Rattle.orc_call.proofs.Elements.{refuses, lawful_at}
use Rattle.orc_call.proofs.lawful.are_device_puts.Goals as goal

pub returns-then-not-is_device_put : goal.returns-then-not-is_device_put
returns-then-not-is_device_put c =
    refuses c.is_device_put.result c.if-not-is_device_put.true c.is_device_put.ensures
    (λ all. rw c.put-item.is (lawful_at device_put_fields c.args.puts.now c.loop-put.put-index c.put-item.result c.loop-put-test.true all))
