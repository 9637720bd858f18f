-- What a call may write on any data, what it reads, and its plan on a state.
use Rattle.std.specs.Prelude.{ℕ, List, [], ◌∷◌, ◌++◌, map, Option, Result}
use Rattle.std.specs.declared.option.Option.TheVariants.{None, Some}
use Rattle.std.specs.declared.result.Result.TheVariants.{Ok, Err}
use Rattle.std.specs.List.{flat_map, Contains}
use Rattle.std.specs.Option.{option_or, option_to_list}
use Rattle.orc_path.specs.Steps.{PathStep}
use Rattle.orc_path.specs.Reading.{path_of}
use Rattle.orc_call.specs.declared.answer.Answer.{Answer}
use Rattle.orc_call.specs.declared.call.Action.{Action}
use Rattle.orc_call.specs.declared.call.Action.TheVariants.{Create, Modify, Redeploy, Delete, Set, Unset}
use Rattle.orc_call.specs.declared.call.Call.{Call}
use Rattle.orc_expr.specs.Touches.{IsInside}
use Rattle.orc_expr.specs.declared.read.Read.{Read}
use Rattle.orc_expr.specs.declared.read.Read.TheVariants as read
use Rattle.orc_expr.specs.declared.read.Target.{Target}
use Rattle.orc_expr.specs.declared.read.Target.TheVariants.{One, Under}
use Rattle.orc_queue.specs.declared.held.Held.{Held}
use Rattle.orc_template.specs.Expansions.{Expanding, Failed, device_parts}
use Rattle.orc_template.specs.declared.expansion.Expansion.{Expansion}
use Rattle.orc_services.specs.Expanded.{expanded_actions}
use Rattle.orc_services.specs.Services.{Serving, expansion_of}
use Rattle.orc_datastore.specs.Actions.{data_after}
use Rattle.orc_decls.specs.Calls.{service_of}
use Rattle.orc_datastore.specs.Next.{existence, expanded_call, invalid, serving_on, unexpanded}
use Rattle.orc_datastore.specs.States.{Datastore}
use Rattle.orc_datastore.specs.Touched.{touched_devices}
use Rattle.orc_decls.specs.declared.declarations.Decls.{Decls}
use Rattle.orc_datastore.specs.declared.plan.Plan.{Plan}

-- where the entry of a service may be written, with those on its way, and all below it
abbrev pub entry_targets : Option (List PathStep) → List Target
entry_targets None = []
entry_targets (Some path) = One path ∷ Under path ∷ []

-- where it may go, with all below it
abbrev pub leave_targets : Option (List PathStep) → List Target
leave_targets None = []
leave_targets (Some path) = Under path ∷ []

-- what an action may write on any data
abbrev pub targets_of : Action → List Target
targets_of (Create id body) = entry_targets (path_of id)
targets_of (Modify id body) = entry_targets (path_of id)
targets_of (Delete id) = leave_targets (path_of id)
targets_of (Set put) = One put.path ∷ []
targets_of (Unset path) = Under path ∷ []
targets_of other = []

abbrev pub call_targets : List Action → List Target
call_targets actions = flat_map targets_of actions

-- the path lies inside one of these targets
abbrev pub IsInsideOne : List Target → List PathStep → Type 0
IsInsideOne targets path = (target : Target) × Contains targets target × IsInside target path

-- what the expansions of a call read, done on a state
abbrev pub call_reads : Decls → Datastore → Call → List Read
call_reads decls state call =
    (expanded_actions (serving_on decls (data_after call.actions state.data)) call.actions).reads

-- the services that actions name, in their order
abbrev pub services_named : List Action → List (List ℕ)
services_named actions = flat_map (λ action. option_to_list (service_of action)) actions

-- what the call holds while it is under way: the devices that it touches, the services that it names, what its
-- expansions and it itself read, and what it may write on any data
abbrev pub call_held : Decls → Datastore → Call → Held
call_held decls state call = record {
  devices = touched_devices decls state call;
  services = services_named call.actions;
  reads = record { reads = call_reads decls state call ++ map read.Service (services_named call.actions) };
  targets = call_targets call.actions;
}

-- what an expansion writes on each device
abbrev pub written_parts : Option (Result Expanding Failed) → Expansion
written_parts None = record { parts = [] }
written_parts (Some (Ok e)) = record { parts = device_parts 0 e.written }
written_parts (Some (Err failed)) = record { parts = [] }

-- the expansion of the service that an action creates, modifies or redeploys
abbrev pub expansions_of : Serving → Action → List (List ℕ × Expansion)
expansions_of s (Create id body) = (id, written_parts (expansion_of s id)) ∷ []
expansions_of s (Modify id body) = (id, written_parts (expansion_of s id)) ∷ []
expansions_of s (Redeploy id) = (id, written_parts (expansion_of s id)) ∷ []
expansions_of s other = []

-- those of a call on a state, on the data after all its actions
abbrev pub call_expansions : Decls → Datastore → Call → List (List ℕ × Expansion)
call_expansions decls state call =
    flat_map (expansions_of (serving_on decls (data_after call.actions state.data))) call.actions

-- Why a call can't be planned on a state, if it can't: the first action at fault, else what is broken in the data
-- after all its actions, else the first service that can't be expanded on it.
abbrev pub plan_refusal : Decls → Datastore → Call → Option Answer
plan_refusal decls state call = option_or (existence state.live call.actions) (option_or
    (invalid decls.data_schema (data_after call.actions state.data))
    (unexpanded (expanded_call decls state call)))

abbrev pub plan_unless : Option Answer → Plan → Result Plan Answer
plan_unless None plan = Ok plan
plan_unless (Some answer) plan = Err answer

-- the plan of a call on a state, which is that of a front, or why there is none
abbrev pub planned : Decls → Datastore → ℕ → Call → Result Plan Answer
planned decls state front call = plan_unless (plan_refusal decls state call) (record {
  front = front;
  held = call_held decls state call;
  expansions = call_expansions decls state call;
  next = data_after call.actions state.data;
})
