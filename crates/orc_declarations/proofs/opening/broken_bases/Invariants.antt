use Rattle.std.proofs.Common.{◌≡◌, take, true}
use Rattle.std.specs.List.{list_all}
use Rattle.orc_decls.specs.Declarations.{accepts_base}
use Rattle.orc_declarations.proofs.opening.broken_bases.Given as goal

-- each so far accepts its base
abbrev pub invariant-loop-device : goal.invariant-loop-device
invariant-loop-device l = list_all (accepts_base l.schemas) (take l.device-index l.devices) ≡ true
