use Rattle.std.proofs.Common.{◌≡◌, take}
use Rattle.std.specs.Prelude.{map}
use Rattle.orc_types.specs.declared.types.EnumName.{EnumName}
use Rattle.orc_types.proofs.types.row_of_names.Given as goal

abbrev pub invariant-loop-known : goal.invariant-loop-known
invariant-loop-known l = l.names ≡ map (λ (e : EnumName). e.name) (take l.known-index l.enums)
