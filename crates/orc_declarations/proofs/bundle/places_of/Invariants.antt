use Rattle.std.proofs.Common.{◌≡◌, map, take}
use Rattle.orc_decls.specs.declared.declarations.Device.{Device}
use Rattle.orc_declarations.proofs.bundle.places_of.Given as goal

abbrev pub invariant-loop-device : goal.invariant-loop-device
invariant-loop-device l = l.places ≡ map (λ (device : Device). device.schema) (take l.device-index l.devices)
