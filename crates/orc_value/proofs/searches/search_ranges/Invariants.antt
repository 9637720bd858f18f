use Rattle.std.proofs.Common.{◌≡◌, true, length}
use Rattle.std.specs.Prelude.{int_le}
use Rattle.orc_value.specs.Ranges.{stand_apart}
use Rattle.orc_value.specs.Integers.{in_ranges}
use Rattle.orc_value.proofs.searches.search_ranges.Given as goal

-- what is left has what the whole has
abbrev pub invariant-loop-front : goal.invariant-loop-front
invariant-loop-front l = record {
  apart : stand_apart int_le l.rest ≡ true;
  value : in_ranges l.rest l.number ≡ in_ranges l.ranges l.number;
}

abbrev pub decreases-loop-front : goal.decreases-loop-front
decreases-loop-front l = length l.rest
