use Rattle.std.proofs.Common.{◌≡◌, map}
use Rattle.std.specs.List.{range_with_len}
use Rattle.orc_hub.proofs.starting.all_free.Given as goal
use Rattle.orc_rules.specs.declared.duty.Duty.TheVariants.{Free}

abbrev pub invariant-loop-place : goal.invariant-loop-place
invariant-loop-place l = l.duties ≡ map (λ device. Free) (range_with_len 0 l._place)
