use Rattle.std.proofs.Common.{◌≡◌, ◌++◌, drop}
use Rattle.orc_modules.specs.Stack.{modules_of}
use Rattle.orc_schema.specs.Drafts.{drafts_of}
use Rattle.orc_schema.proofs.build.drafts_of.Given as goal

abbrev pub invariant-loop-stmt : goal.invariant-loop-stmt
invariant-loop-stmt l = drafts_of (modules_of l.fn.modules) l.fn.modules.all.now ≡ l.out ++ drafts_of (modules_of l.fn.modules) (drop l.stmt-index l.fn.modules.all.now)
