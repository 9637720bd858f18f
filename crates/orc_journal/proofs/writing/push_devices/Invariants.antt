use Rattle.std.proofs.Common.{◌≡◌, ◌++◌, take, length}
use Rattle.std.specs.Int.{w16, to_be_bytes}
use Rattle.orc_journal.proofs.Devices.{numbers_bytes}
use Rattle.orc_journal.proofs.writing.push_devices.Given as goal

-- the count, and the devices so far
abbrev pub invariant-loop-device : goal.invariant-loop-device
invariant-loop-device l = l.out.items ≡ l.fn.out.items ++ (to_be_bytes w16 (length l.devices) ++ numbers_bytes (take l.device-index l.devices))
