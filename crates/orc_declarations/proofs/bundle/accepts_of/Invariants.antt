use Rattle.std.proofs.Common.{◌≡◌, map, take}
use Rattle.orc_decls.specs.Declarations.{accept_of}
use Rattle.orc_declarations.proofs.bundle.accepts_of.Given as goal

abbrev pub invariant-loop-device : goal.invariant-loop-device
invariant-loop-device l = l.accepts ≡ map (accept_of l.schemas) (take l.device-index l.devices)
