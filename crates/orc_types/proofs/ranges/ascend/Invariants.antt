use Rattle.std.proofs.Common.{◌≡◌, drop}
use Rattle.orc_types.specs.Ranges.{ascend_behind}
use Rattle.orc_types.proofs.ranges.ascend.Given as goal

abbrev pub invariant-loop-range : goal.invariant-loop-range
invariant-loop-range l = ascend_behind l.high (drop l.range-index l.rest) ≡ ascend_behind l.initial.high l.rest
