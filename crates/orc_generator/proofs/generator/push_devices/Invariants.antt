use Rattle.std.proofs.Common.{◌≡◌, ◌++◌}
use Rattle.std.specs.String.{string_bytes}
use Rattle.orc_generator.specs.Generated.{generated_devices}
use Rattle.orc_generator.proofs.generator.push_devices.Given as goal

abbrev pub invariant-loop-device : goal.invariant-loop-device
invariant-loop-device l = string_bytes l.out ≡ string_bytes l.initial.out ++ generated_devices l.device
