use Rattle.std.proofs.Common.{◌≡◌, ◌<◌, ℕ, false, get_or, nat_eq}
use Rattle.orc_hub_parts.specs.declared.log.Unsettled.{Unsettled}
use Rattle.orc_hub_parts.proofs.log.place_of.Given as goal

abbrev pub invariant-loop-place : goal.invariant-loop-place
invariant-loop-place l = (k : ℕ) (d : Unsettled) → k < l.place → nat_eq (get_or l.unsettled k d).t l.t ≡ false
