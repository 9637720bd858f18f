use Rattle.std.proofs.Common.{◌≡◌, drop}
use Rattle.orc_rules.specs.Fits.{first_stale}
use Rattle.orc_hub_parts.proofs.stale.first_stale.Given as goal

abbrev pub invariant-loop-device : goal.invariant-loop-device
invariant-loop-device l = first_stale l.devices l.stale ≡ first_stale (drop l.device-index l.devices) l.stale
