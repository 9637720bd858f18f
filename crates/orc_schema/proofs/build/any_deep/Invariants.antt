use Rattle.std.proofs.Common.{◌≡◌, drop}
use Rattle.std.specs.List.{list_any}
use Rattle.orc_modules.specs.Stack.{modules_of}
use Rattle.orc_schema.specs.Schemas.{is_deep_module}
use Rattle.orc_schema.proofs.build.any_deep.Given as goal

abbrev pub invariant-loop-stmt : goal.invariant-loop-stmt
invariant-loop-stmt l = list_any (is_deep_module (modules_of l.fn.modules)) (drop l.stmt-index l.fn.modules.all.now)
    ≡ list_any (is_deep_module (modules_of l.fn.modules)) l.fn.modules.all.now
