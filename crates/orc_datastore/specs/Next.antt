-- What a call does to a state, or why it is refused.
use Rattle.std.specs.Prelude.{◌≡◌, ℕ, Bool, List, [], ◌∷◌, length, Option, Result, option_map, if◌then◌else◌}
use Rattle.std.specs.declared.result.Result.TheVariants.{Ok, Err}
use Rattle.std.specs.declared.option.Option.TheVariants.{None, Some}
use Rattle.std.specs.Option.{option_or}
use Rattle.orc_path.specs.Configurations.{Config}
use Rattle.orc_schema_nodes.specs.Schemas.{SchemaTable, shape_at}
use Rattle.orc_services.specs.Services.{Serving}
use Rattle.orc_services.specs.Expanded.{expanded_actions}
use Rattle.orc_check.specs.Validity.{broken_of}
use Rattle.orc_call.specs.declared.answer.Answer.{Answer}
use Rattle.orc_call.specs.declared.answer.Answer.TheVariants.{Exists, Missing, Invalid}
use Rattle.orc_call.specs.declared.call.Action.{Action}
use Rattle.orc_call.specs.declared.call.Action.TheVariants.{Create, Modify, Redeploy, Literal, Delete}
use Rattle.orc_call.specs.declared.call.Call.{Call}
use Rattle.orc_datastore.specs.States.{IsComplete, lives, Datastore}
use Rattle.orc_datastore.specs.Actions.{bases_after, data_after, live_after, touched}
use Rattle.orc_datastore.specs.Clashes.{clash_from}
use Rattle.orc_decls.specs.declared.declarations.Decls.{Decls}
use Rattle.orc_datastore.specs.declared.service.Service.{Service}

-- the action creates a service that lives, or modifies, redeploys or deletes one that does not
abbrev pub service_fault : (List ℕ → Bool) → Action → Option Answer
service_fault is_alive (Create id body) = if is_alive id then Some (Exists id) else None
service_fault is_alive (Modify id body) = if is_alive id then None else Some (Missing id)
service_fault is_alive (Redeploy id) = if is_alive id then None else Some (Missing id)
service_fault is_alive (Literal id writes) = if is_alive id then Some (Exists id) else None
service_fault is_alive (Delete id) = if is_alive id then None else Some (Missing id)
service_fault is_alive other = None

-- the first such action
abbrev pub first_service_fault : (List ℕ → Bool) → List Action → Option Answer
first_service_fault is_alive [] = None
first_service_fault is_alive (action ∷ actions) =
    option_or (service_fault is_alive action) (first_service_fault is_alive actions)

-- the fault of an action of a call, and the first one of a call; each is looked at in the state before the call
abbrev pub existence_of : List Service → Action → Option Answer
existence_of live action = service_fault (lives live) action

abbrev pub existence : List Service → List Action → Option Answer
existence live actions = first_service_fault (lives live) actions

-- the least path of the data at which a rule is broken, and the first rule that is
abbrev pub invalid : SchemaTable → Config → Option Answer
invalid schema config = option_map (λ breach. Invalid breach.path breach.rule) (broken_of schema config)

-- what services stand on, where these are the data
abbrev pub serving_on : Decls → Config → Serving
serving_on decls config = record {
  lists = decls.services;
  devices = decls.table;
  view = record { items = config; shapes = shape_at decls.data_schema };
}

-- What the actions of a call come to on a state, with the data after all of them: each that creates, modifies or
-- redeploys a service of a list is that of a literal one with the items of its expansion. Or the answer is the first
-- that can't be expanded.
abbrev pub expanded_call : Decls → Datastore → Call → Result (List Action) Answer
expanded_call decls state call =
    (expanded_actions (serving_on decls (data_after call.actions state.data)) call.actions).outcome

abbrev pub unexpanded : Result (List Action) Answer → Option Answer
unexpanded (Ok actions) = None
unexpanded (Err answer) = Some answer

abbrev pub expanded_to : Result (List Action) Answer → List Action
expanded_to (Ok actions) = actions
expanded_to (Err answer) = []

-- the clash of the services that a call names with the other ones that live after it
abbrev pub clash : List (List ℕ) → List Service → List Action → Option Answer
clash devices live actions =
    let behind = live_after devices actions live in clash_from behind (touched actions behind) 0 devices

-- Why a call is refused, if it is: the first action at fault, else what is broken in the data after all its actions,
-- else the first service that can't be expanded on it, else a clash.
abbrev pub refusal_by : Decls → Datastore → Call → Result (List Action) Answer → Option Answer
refusal_by decls state call actions = option_or (existence state.live call.actions) (option_or
    (invalid decls.data_schema (data_after call.actions state.data)) (option_or
    (unexpanded actions)
    (clash decls.names state.live (expanded_to actions))))

abbrev pub refusal : Decls → Datastore → Call → Option Answer
refusal decls state call = refusal_by decls state call (expanded_call decls state call)

-- the state after a call that is not refused, by what its actions come to
abbrev pub after_by : Decls → Datastore → Call → List Action → Datastore
after_by decls state call actions = record state {
  «data» = data_after call.actions state.data;
  bases = bases_after decls.names actions state.bases;
  live = live_after decls.names actions state.live;
}

abbrev pub after : Decls → Datastore → Call → Datastore
after decls state call = after_by decls state call (expanded_to (expanded_call decls state call))

-- What each call keeps: there is a base for each declared device, and a part of each living service; and the data is
-- valid.
pub record IsStateOf (decls : Decls) (state : Datastore) : Type 0 where
  pub bases : length state.bases ≡ length decls.names
  pub complete : IsComplete state
  pub valid : broken_of decls.data_schema state.data ≡ None

-- this is the data, where there is no fault and nothing is broken in it, and else the first answer
abbrev pub IsDataUnless : Option Answer → SchemaTable → Config → Result Config Answer → Type 0
IsDataUnless fault schema data_due (Ok config) =
    (config ≡ data_due) × (fault ≡ None) × (invalid schema data_due ≡ None)
IsDataUnless fault schema data_due (Err found) = option_or fault (invalid schema data_due) ≡ Some found

-- it is the data after a call, where none of its actions is at fault and it isn't broken; else the first answer
abbrev pub IsDataAfter : Decls → Datastore → Call → Result Config Answer → Type 0
IsDataAfter decls state call =
    IsDataUnless (existence state.live call.actions) decls.data_schema (data_after call.actions state.data)
