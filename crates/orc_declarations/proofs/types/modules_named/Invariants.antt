use Rattle.std.proofs.Common.{◌≡◌, ◌++◌, drop}
use Rattle.orc_declarations.specs.Declarations.{modules_named}
use Rattle.orc_declarations.proofs.types.modules_named.Given as goal

abbrev pub invariant-loop-name : goal.invariant-loop-name
invariant-loop-name l = l.modules.items ++ modules_named l.declared (drop l.name-index l.names) ≡ modules_named l.declared l.names
