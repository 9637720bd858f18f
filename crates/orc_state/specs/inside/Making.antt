-- What one action comes to by the expansions that are left.
use Rattle.std.specs.Prelude.{ℕ, List, drop}
use Rattle.orc_call.specs.declared.call.Action.{Action}
use Rattle.orc_call.specs.declared.call.Action.TheVariants.{Create, Modify, Redeploy, Literal}
use Rattle.orc_template.specs.declared.expansion.Expansion.{Expansion}
use Rattle.orc_plans.specs.Plans.{first_writes}

-- what an action comes to
abbrev pub made_by : List (List ℕ) → Action → List (List ℕ × Expansion) → Action
made_by names (Create id body) left = Literal id (first_writes names left)
made_by names (Modify id body) left = Literal id (first_writes names left)
made_by names (Redeploy id) left = Literal id (first_writes names left)
made_by names other left = other

-- the expansions after it
abbrev pub left_by : Action → List (List ℕ × Expansion) → List (List ℕ × Expansion)
left_by (Create id body) left = drop 1 left
left_by (Modify id body) left = drop 1 left
left_by (Redeploy id) left = drop 1 left
left_by other left = left
