use Rattle.std.proofs.Common.{◌≡◌, drop}
use Rattle.std.specs.Prelude.{map}
use Rattle.orc_types.specs.Ranges.{all_of, length_range}
use Rattle.orc_types.proofs.Parts.{behind}
use Rattle.orc_types.proofs.lengths.length_ranges.Given as goal

abbrev pub invariant-loop-range : goal.invariant-loop-range
invariant-loop-range l = behind l.lengths (all_of (map length_range (drop l.range-index l.ranges))) ≡ all_of (map length_range l.ranges)
