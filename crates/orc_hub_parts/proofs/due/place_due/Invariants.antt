use Rattle.std.proofs.Common.{All, take}
use Rattle.orc_hub_parts.specs.Due.{IsDueAs}
use Rattle.orc_hub_parts.proofs.due.place_due.Given as goal

abbrev pub invariant-loop-place : goal.invariant-loop-place
invariant-loop-place l = All (λ it. IsDueAs l.duties l.t it → ⊥) (take l.place l.active)
