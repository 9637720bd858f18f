use Rattle.std.proofs.Common.{◌≡◌, map}
use Rattle.std.specs.List.{range_with_len}
use Rattle.orc_hub.proofs.starting.all_known.Given as goal
use Rattle.orc_hub.specs.Starts.{known_at_start}

abbrev pub invariant-loop-place : goal.invariant-loop-place
invariant-loop-place l = l.stale ≡ map (λ device. known_at_start l.fresh) (range_with_len 0 l._place)
