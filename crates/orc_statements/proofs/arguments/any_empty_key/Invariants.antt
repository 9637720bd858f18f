use Rattle.std.proofs.Common.{◌≡◌, drop}
use Rattle.std.specs.List.{list_any}
use Rattle.orc_modules.specs.Stack.{stack, modules_of}
use Rattle.orc_statements.specs.Names.{leaf_around}
use Rattle.orc_statements.specs.Arguments.{is_empty_leaf}
use Rattle.orc_statements.proofs.arguments.any_empty_key.Given as goal

abbrev pub invariant-loop-name : goal.invariant-loop-name
invariant-loop-name l = list_any (λ name. is_empty_leaf (modules_of l.modules) (leaf_around (modules_of l.modules) (stack l.above) name)) (drop l.name-index l.names)
    ≡ list_any (λ name. is_empty_leaf (modules_of l.modules) (leaf_around (modules_of l.modules) (stack l.above) name)) l.names
