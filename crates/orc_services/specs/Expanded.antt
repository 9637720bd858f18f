-- What actions on services come to, once the data of a call is done.
use Rattle.std.specs.Prelude.{◌≡◌, ℕ, Bool, true, false, List, [], ◌∷◌, ◌++◌, map, Option, Result}
use Rattle.std.specs.declared.option.Option.TheVariants.{None, Some}
use Rattle.std.specs.declared.result.Result.TheVariants.{Ok, Err}
use Rattle.std.specs.FinMap.{entries}
use Rattle.orc_path.specs.Steps.{PathStep}
use Rattle.orc_path.specs.Configurations.{Config}
use Rattle.orc_path.specs.declared.item.Item.{Item}
use Rattle.orc_call.specs.declared.answer.Answer.{Answer}
use Rattle.orc_call.specs.declared.answer.Answer.TheVariants.{Expand}
use Rattle.orc_call.specs.declared.call.Action.{Action}
use Rattle.orc_call.specs.declared.call.Action.TheVariants.{Create, Modify, Redeploy, Literal}
use Rattle.orc_call.specs.declared.call.DevicePut.{DevicePut}
use Rattle.orc_expr.specs.declared.read.Read.{Read}
use Rattle.orc_template.specs.Expansions.{Expanding, Failed}
use Rattle.orc_services.specs.Services.{Serving, expansion_of}

-- an item of a configuration, as a write on the device of a name
abbrev pub write_of : List ℕ → List PathStep × Item → DevicePut
write_of name row = record { device = name; path = row.0; item = row.1 }

-- those of a configuration
abbrev pub writes_to : List ℕ → Config → List DevicePut
writes_to name config = map (write_of name) (entries config)

-- those of the configurations of the devices of these names
abbrev pub writes_of : List (List ℕ) → List Config → List DevicePut
writes_of [] configs = []
writes_of (name ∷ names) [] = []
writes_of (name ∷ names) (config ∷ configs) = writes_to name config ++ writes_of names configs

-- what becomes of an action, or the answer that refuses it, and what was read for it
pub record ExpandedTo (X : Type 0) : Type 0 where
  pub outcome : Result X Answer
  pub reads : List Read

-- the service of an expansion, as a literal one with its items; one that no list has writes nothing
abbrev pub as_literal : List (List ℕ) → List ℕ → Option (Result Expanding Failed) → ExpandedTo Action
as_literal names id None = record { outcome = Ok (Literal id []); reads = [] }
as_literal names id (Some (Ok e)) = record { outcome = Ok (Literal id (writes_of names e.written)); reads = e.reads }
as_literal names id (Some (Err failed)) =
    record { outcome = Err (Expand id failed.block failed.rule); reads = failed.reads }

-- an action that creates, modifies or redeploys a service comes to that of a literal one, and each other one to itself
abbrev pub expanded_action : Serving → Action → ExpandedTo Action
expanded_action s (Create id body) = as_literal s.devices.names id (expansion_of s id)
expanded_action s (Modify id body) = as_literal s.devices.names id (expansion_of s id)
expanded_action s (Redeploy id) = as_literal s.devices.names id (expansion_of s id)
expanded_action s other = record { outcome = Ok other; reads = [] }

-- the action creates, modifies or redeploys a service: only such actions expand a template
abbrev pub is_templated : Action → Bool
is_templated (Create id body) = true
is_templated (Modify id body) = true
is_templated (Redeploy id) = true
is_templated other = false

-- an action before what later ones come to
abbrev pub with_expanded : Action → Result (List Action) Answer → Result (List Action) Answer
with_expanded action (Ok actions) = Ok (action ∷ actions)
with_expanded action (Err answer) = Err answer

-- an action before what later ones come to, with what was read; these aren't looked at where it is refused
abbrev pub expanded_by : Result Action Answer → List Read → ExpandedTo (List Action) → ExpandedTo (List Action)
expanded_by (Ok action) reads later =
    record { outcome = with_expanded action later.outcome; reads = reads ++ later.reads }
expanded_by (Err answer) reads later = record { outcome = Err answer; reads = reads }

-- what actions come to, or the first that can't be expanded
abbrev pub expanded_actions : Serving → List Action → ExpandedTo (List Action)
expanded_actions s [] = record { outcome = Ok []; reads = [] }
expanded_actions s (action ∷ actions) =
    expanded_by (expanded_action s action).outcome (expanded_action s action).reads (expanded_actions s actions)

-- The answer is the outcome, and its reads come after those before.
abbrev pub ExpandsTo : {X : Type 0} → ExpandedTo X → List Read → List Read → Result X Answer → Type 0
ExpandsTo due old new outcome = (outcome ≡ due.outcome) × (new ≡ old ++ due.reads)
