use Rattle.std.proofs.Common.{◌≡◌, ◌≤◌, true, take, drop, length}
use Rattle.std.specs.List.{list_all}
use Rattle.orc_types.specs.Ranges.{lies_within}
use Rattle.orc_types.specs.inside.Behind.{ends_before}
use Rattle.orc_types.proofs.ranges.lie_within.Given as goal

abbrev pub invariant-loop-range : goal.invariant-loop-range
invariant-loop-range l = record {
  within : l.at ≤ length l.base;
  before : list_all (ends_before l.low) (take l.at l.base) ≡ true;
  left : list_all (lies_within l.base) (drop l.range-index l.ranges) ≡ list_all (lies_within l.base) l.ranges;
}
