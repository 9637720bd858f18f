use Rattle.std.proofs.Common.{◌≡◌, take}
use Rattle.orc_hub_parts.proofs.log.copied_devices.Given as goal

abbrev pub invariant-loop-device : goal.invariant-loop-device
invariant-loop-device l = l.copies ≡ take l.device-index l.devices
