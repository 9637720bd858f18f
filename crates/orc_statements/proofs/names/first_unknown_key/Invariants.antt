use Rattle.std.proofs.Common.{◌≡◌, drop}
use Rattle.std.specs.List.{find}
use Rattle.orc_modules.specs.Stack.{stack, modules_of}
use Rattle.orc_statements.specs.Names.{is_unknown_key}
use Rattle.orc_statements.proofs.names.first_unknown_key.Given as goal

abbrev pub invariant-loop-name : goal.invariant-loop-name
invariant-loop-name l = find (is_unknown_key (modules_of l.modules) (stack l.above)) (drop l.name-index l.names)
    ≡ find (is_unknown_key (modules_of l.modules) (stack l.above)) l.names
