use Rattle.std.proofs.Common.{◌≡◌, false, take}
use Rattle.std.specs.List.{list_any}
use Rattle.orc_declarations.specs.Modules.{has_long_name}
use Rattle.orc_declarations.proofs.module.+has_long_name.Given as goal

abbrev pub invariant-loop-sub : goal.invariant-loop-sub
invariant-loop-sub l = list_any has_long_name (take l.sub-index l.sub-items) ≡ false
