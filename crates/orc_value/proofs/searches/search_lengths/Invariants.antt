use Rattle.std.proofs.Common.{◌≡◌, true, length}
use Rattle.std.specs.Prelude.{nat_le}
use Rattle.orc_value.specs.Ranges.{stand_apart}
use Rattle.orc_value.specs.Canon.{in_lengths}
use Rattle.orc_value.proofs.searches.search_lengths.Given as goal

-- what is left has what the whole has
abbrev pub invariant-loop-front : goal.invariant-loop-front
invariant-loop-front l = record {
  apart : stand_apart nat_le l.rest ≡ true;
  value : in_lengths l.rest l.count ≡ in_lengths l.lengths l.count;
}

abbrev pub decreases-loop-front : goal.decreases-loop-front
decreases-loop-front l = length l.rest
