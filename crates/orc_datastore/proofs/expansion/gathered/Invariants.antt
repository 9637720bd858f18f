use Rattle.std.proofs.Common.{◌≡◌, ◌++◌, ◌-◌}
use Rattle.orc_template.specs.Expansions.{device_parts}
use Rattle.orc_datastore.specs.Services.{spread}
use Rattle.orc_datastore.proofs.expansion.gathered.Given as goal

-- the parts so far, and those of the devices that are left
abbrev pub invariant-loop-device : goal.invariant-loop-device
invariant-loop-device l =
    l.parts ++ device_parts l.device (spread l.written l.device (l.devices - l.device)) ≡ device_parts 0 (spread l.written 0 l.devices)
