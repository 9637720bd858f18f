use Rattle.std.proofs.Common.{take}
use Rattle.std.specs.List.{flat_map}
use Rattle.orc_call.specs.Fields.{AreLawful}
use Rattle.orc_call.specs.Encoding.{device_put_fields}
use Rattle.orc_call.proofs.lawful.are_device_puts.Given as goal

abbrev pub invariant-loop-put : goal.invariant-loop-put
invariant-loop-put l = AreLawful (flat_map device_put_fields (take l.put-index l.puts))
