use Rattle.std.proofs.Common.{◌≡◌, length}
use Rattle.orc_template.specs.Devices.{all_differ}
use Rattle.orc_template.proofs.devices.all_differ.Given as goal

abbrev pub decreases-loop-rest : goal.decreases-loop-rest
decreases-loop-rest l = length l.rest

abbrev pub invariant-loop-rest : goal.invariant-loop-rest
invariant-loop-rest l = all_differ l.rest ≡ all_differ l.names
