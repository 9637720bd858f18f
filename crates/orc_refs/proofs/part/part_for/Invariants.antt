use Rattle.std.proofs.Common.{◌≡◌, ◌<◌, ◌≤◌, ◌-◌, length, take, drop, true}
use Rattle.std.specs.Arc.{arc_value}
use Rattle.std.specs.List.{flat_map}
use Rattle.std.specs.FinMap.Entries.{below_all}
use Rattle.orc_path.specs.Order.{path_cmp}
use Rattle.orc_refs.specs.inside.Shelves.{all_before}
use Rattle.orc_refs.proofs.part.part_for.Given as goal

-- the rows of the parts below `low` come before the path, and those from `high` on after it
abbrev pub invariant-loop-low : goal.invariant-loop-low
invariant-loop-low g l = record {
  order : l.low < l.high;
  within : l.high ≤ length l.parts;
  before : all_before l.path (flat_map (λ part. g.P.Part.rows (arc_value part)) (take l.low l.parts)) ≡ true;
  behind : below_all path_cmp l.path (flat_map (λ part. g.P.Part.rows (arc_value part)) (drop l.high l.parts)) ≡ true;
}

abbrev pub decreases-loop-low : goal.decreases-loop-low
decreases-loop-low g l = l.high - l.low
