use Rattle.std.proofs.Common.{◌≡◌, take}
use Rattle.std.specs.List.{flat_map}
use Rattle.orc_plans.specs.Plans.{part_writes}
use Rattle.orc_state.proofs.literals.first_writes.Given as goal

-- those of the parts so far
abbrev pub invariant-loop-part : goal.invariant-loop-part
invariant-loop-part l = l.writes ≡ flat_map (part_writes l.names) (take l.part-index l.part-items)
