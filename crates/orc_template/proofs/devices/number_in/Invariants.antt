use Rattle.std.proofs.Common.{◌≡◌, ◌+◌, drop}
use Rattle.std.specs.Option.{option_map}
use Rattle.orc_template.specs.Devices.{device_of}
use Rattle.orc_template.proofs.devices.number_in.Given as goal

abbrev pub invariant-loop-other : goal.invariant-loop-other
invariant-loop-other l = (option_map (λ n. l.number + n) (device_of l.name (drop l.other-index l.names)) ≡ device_of l.name l.names) × (l.number ≡ l.other-index)
