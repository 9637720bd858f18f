-- What a plan holds, and after which calls it still stands.
use Rattle.std.specs.Prelude.{◌≡◌, ◌≢◌, ℕ, ◌<◌, length, true, false, List, [], ◌∷◌, ◌++◌, All, Contains, IsTrue, drop, map}
use Rattle.std.specs.declared.option.Option.TheVariants.{None}
use Rattle.std.specs.declared.result.Result.TheVariants.{Ok}
use Rattle.std.specs.FinMap.{get}
use Rattle.std.specs.Option.{option_or}
use Rattle.std.specs.List.{flat_map}
use Rattle.orc_path.specs.Steps.{PathStep}
use Rattle.orc_path.specs.Configurations.{Config}
use Rattle.orc_path.specs.declared.item.Write.{Write}
use Rattle.orc_path.specs.declared.item.Write.TheVariants as write
use Rattle.orc_datastore.specs.States.{config_of, tree_due, Datastore}
use Rattle.orc_decls.specs.Devices.{name_of}
use Rattle.orc_expr.specs.Touches.{Covers, write_touches_any}
use Rattle.orc_expr.specs.declared.read.Read.{Read}
use Rattle.orc_expr.specs.declared.read.Target.{Target}
use Rattle.orc_queue.specs.Fitting.{FitTogether}
use Rattle.orc_queue.specs.declared.held.Held.{Held}
use Rattle.orc_datastore.specs.Plans.{IsInsideOne, call_expansions, call_held, call_reads, call_targets, plan_refusal, planned}
use Rattle.orc_datastore.specs.declared.plan.Plan.{Plan}
use Rattle.orc_datastore.specs.Actions.{data_after}
use Rattle.orc_decls.specs.Calls.{is_service_among, is_action}
use Rattle.orc_datastore.specs.Next.{after, clash, existence, expanded_call, expanded_to, invalid, refusal, unexpanded}
use Rattle.orc_datastore.specs.Histories.{fold_from, IsUnrefused}
use Rattle.orc_decls.specs.Declarations.{AreDecls}
use Rattle.orc_datastore.specs.Legal.{IsLegal, IsNew, state_of}
use Rattle.orc_datastore.specs.Touched.{is_touched}
use Rattle.orc_decls.specs.declared.declarations.Decls.{Decls}
use Rattle.orc_call.specs.declared.call.Action.{Action}
use Rattle.orc_call.specs.declared.call.Action.TheVariants.{Create, Modify, Redeploy, Literal}
use Rattle.orc_call.specs.declared.call.Call.{Call}
use Rattle.orc_call.specs.declared.call.DevicePut.{DevicePut}
use Rattle.orc_call.specs.declared.call.Put.{Put}
use Rattle.orc_template.specs.declared.expansion.Expansion.{Expansion}

-- Each path of the data that a call changes lies inside one of its targets, whatever the data.
abbrev pub ChangesAreTargets : Type 0
ChangesAreTargets =
    (decls : Decls) (actions : List Action) (config : Config) (path : List PathStep)
    → All (λ action. IsTrue (is_action decls action)) actions
    → get (data_after actions config) path ≢ get config path → IsInsideOne (call_targets actions) path

-- What the actions of a call come to still stands after another call, where no target of that covers a read of its
-- expansions.
abbrev pub ExpandedStandsBehind : Type 0
ExpandedStandsBehind =
    (decls : Decls) (state : Datastore) (call other : Call)
    → All (λ action. IsTrue (is_action decls action)) other.actions
    → ((target : Target) (reading : Read) → Contains (call_targets other.actions) target
    → Contains (call_reads decls state call) reading → Covers target reading → ⊥)
    → expanded_call decls (after decls state other) call ≡ expanded_call decls state call

-- A call is refused for what refuses its plan, and else for a clash.
abbrev pub PlanRefusesFirst : Type 0
PlanRefusesFirst =
    (decls : Decls) (state : Datastore) (call : Call)
    → refusal decls state call
    ≡ option_or (plan_refusal decls state call)
    (clash decls.names state.live (expanded_to (expanded_call decls state call)))

-- A call changes no tree but those of the devices that it touches.
abbrev pub UntouchedStay : Type 0
UntouchedStay =
    (decls : Decls) (state : Datastore) (call : Call) (device : ℕ)
    → is_touched decls state call device ≡ false
    → tree_due (after decls state call) device ≡ tree_due state device

-- A call that is planned leaves the tree and the base of each device that its plan doesn't hold.
abbrev pub UnheldStay : Type 0
UnheldStay =
    (decls : Decls) (state : Datastore) (front : ℕ) (call : Call) (plan : Plan) (device : ℕ)
    → planned decls state front call ≡ Ok plan
    → device < length decls.names → (Contains plan.held.devices device → ⊥)
    → (tree_due (after decls state call) device ≡ tree_due state device)
    × (config_of (after decls state call).bases device ≡ config_of state.bases device)

-- Each path of the data that a call changes lies inside a target of its plan, and its plan holds each service that it
-- names.
abbrev pub ChangesAreHeld : Type 0
ChangesAreHeld =
    (decls : Decls) (state : Datastore) (front : ℕ) (call : Call) (plan : Plan)
    → All (λ action. IsTrue (is_action decls action)) call.actions → planned decls state front call ≡ Ok plan
    → ((path : List PathStep) → get (after decls state call).data path ≢ get state.data path
    → IsInsideOne plan.held.targets path)
    × ((id : List ℕ) → is_service_among call.actions id ≡ true → Contains plan.held.services id)

-- A plan is the call's on a state, whatever its front: no action of the call is at fault there, all its services can be
-- expanded, and it holds and its expansions write what the plan says. The data may be broken with the call there.
pub record StandsOn (decls : Decls) (state : Datastore) (call : Call) (plan : Plan) : Type 0 where
  pub exist : existence state.live call.actions ≡ None
  pub expanded : unexpanded (expanded_call decls state call) ≡ None
  pub held : call_held decls state call ≡ plan.held
  pub expansions : call_expansions decls state call ≡ plan.expansions

-- A plan stands on the state that it is made on. Where it stands and the data is valid with the call, the call is
-- planned there too, and that plan is the same but for the front and the data.
abbrev pub PlannedStands : Type 0
PlannedStands =
    (decls : Decls) (state : Datastore) (front : ℕ) (call : Call) (plan : Plan)
    → (planned decls state front call ≡ Ok plan → StandsOn decls state call plan)
    × (StandsOn decls state call plan → invalid decls.data_schema (data_after call.actions state.data) ≡ None
    → planned decls state front call ≡ Ok (record {
      front = front;
      held = plan.held;
      expansions = plan.expansions;
      next = data_after call.actions state.data;
    }))

-- what a part of an expansion writes on its device, where these are the names of the devices
abbrev pub part_writes : List (List ℕ) → ℕ × List Put → List DevicePut
part_writes names part =
    map (λ put. record { device = name_of names part.0; path = put.path; item = put.item }) part.1

-- what the first of some expansions writes
abbrev pub first_writes : List (List ℕ) → List (List ℕ × Expansion) → List DevicePut
first_writes names [] = []
first_writes names (one ∷ expansions) = flat_map (part_writes names) one.1.parts

-- actions with their expansions: each one that creates, modifies or redeploys a service is that of a literal one with
-- what the next expansion writes
abbrev pub with_expansions : List (List ℕ) → List Action → List (List ℕ × Expansion) → List Action
with_expansions names [] expansions = []
with_expansions names (Create id body ∷ actions) expansions =
    Literal id (first_writes names expansions) ∷ with_expansions names actions (drop 1 expansions)
with_expansions names (Modify id body ∷ actions) expansions =
    Literal id (first_writes names expansions) ∷ with_expansions names actions (drop 1 expansions)
with_expansions names (Redeploy id ∷ actions) expansions =
    Literal id (first_writes names expansions) ∷ with_expansions names actions (drop 1 expansions)
with_expansions names (action ∷ actions) expansions = action ∷ with_expansions names actions expansions

-- A plan is enough to do its call, with no service expanded again: where it stands, the call comes to its actions with
-- the expansions of the plan.
abbrev pub PlanIsEnough : Type 0
PlanIsEnough =
    (decls : Decls) (state : Datastore) (call : Call) (plan : Plan)
    → AreDecls decls → StandsOn decls state call plan
    → expanded_call decls state call ≡ Ok (with_expansions decls.names call.actions plan.expansions)

-- each call of a history is so on the state on which it is done
abbrev pub EachAlong : (Datastore → Call → Type 0) → Decls → Datastore → List Call → Type 0
EachAlong IsSo decls state [] = Unit {0}
EachAlong IsSo decls state (call ∷ calls) = IsSo state call × EachAlong IsSo decls (after decls state call) calls

-- what a call writes: each path of the data that it changes, and each service that it names
abbrev pub IsWriteOf : Datastore → Call → Write → Type 0
IsWriteOf state call (write.At path) = get (data_after call.actions state.data) path ≢ get state.data path
IsWriteOf state call (write.Service id) = is_service_among call.actions id ≡ true

-- no write of the call touches one of the reads
abbrev pub LeavesReads : List Read → Datastore → Call → Type 0
LeavesReads reads state call =
    (written : Write) → IsWriteOf state call written → write_touches_any reads written ≡ false

-- A plan stands until a write touches one of its reads: it does after calls that leave its reads, whatever else they
-- do, and its call comes to the same actions there.
abbrev pub UnreadPlanStands : Type 0
UnreadPlanStands =
    (decls : Decls) (state : Datastore) (call : Call) (plan : Plan) (others : List Call)
    → AreDecls decls → StandsOn decls state call plan
    → EachAlong (LeavesReads plan.held.reads.reads) decls state others
    → let behind = fold_from decls state others in
    StandsOn decls behind call plan × (expanded_call decls behind call ≡ expanded_call decls state call)

-- A call whose actions are ones that call blocks can give fits together with what is held: they share no device and no
-- service, and no target of either covers a read of the other. It is done also where it would be refused.
abbrev pub FitsBeside : Decls → Held → Datastore → Call → Type 0
FitsBeside decls held state call =
    All (λ action. IsTrue (is_action decls action)) call.actions × FitTogether held (call_held decls state call)

-- A plan still stands after other calls, each of which fits it on the state on which it is done, and its call comes to
-- the same actions there.
abbrev pub PlanStands : Type 0
PlanStands =
    (decls : Decls) (state : Datastore) (call : Call) (plan : Plan) (others : List Call)
    → AreDecls decls → StandsOn decls state call plan
    → EachAlong (FitsBeside decls plan.held) decls state others
    → let behind = fold_from decls state others in
    StandsOn decls behind call plan × (expanded_call decls behind call ≡ expanded_call decls state call)

-- So a call that isn't refused on a state isn't refused after other calls that fit it, where the data is valid with it
-- there: no action is at fault, each service can be expanded, and there is no clash.
abbrev pub UnrefusedStands : Type 0
UnrefusedStands =
    (decls : Decls) (state : Datastore) (call : Call) (others : List Call)
    → refusal decls state call ≡ None
    → EachAlong (FitsBeside decls (call_held decls state call)) decls state others
    → let behind = fold_from decls state others in
    invalid decls.data_schema (data_after call.actions behind.data) ≡ None → refusal decls behind call ≡ None

-- Nor is there a clash after other calls that fit a plan that stands, where there is none on the state, whether or not
-- the data is valid with it there.
abbrev pub UnclashedStands : Type 0
UnclashedStands =
    (decls : Decls) (state : Datastore) (call : Call) (plan : Plan) (others : List Call)
    → StandsOn decls state call plan → EachAlong (FitsBeside decls plan.held) decls state others
    → clash decls.names state.live (expanded_to (expanded_call decls state call)) ≡ None
    → let behind = fold_from decls state others in
    clash decls.names behind.live (expanded_to (expanded_call decls behind call)) ≡ None

-- Other calls that fit a plan leave the tree and the base of each device that it holds.
abbrev pub HeldStay : Type 0
HeldStay =
    (decls : Decls) (state : Datastore) (call : Call) (plan : Plan) (others : List Call) (device : ℕ)
    → StandsOn decls state call plan → EachAlong (FitsBeside decls plan.held) decls state others
    → Contains plan.held.devices device
    → let behind = fold_from decls state others in
    (tree_due behind device ≡ tree_due state device) × (config_of behind.bases device ≡ config_of state.bases device)

-- And what a call makes of each of these devices is the same after them.
abbrev pub PlannedTreeIsStable : Type 0
PlannedTreeIsStable =
    (decls : Decls) (state : Datastore) (call : Call) (plan : Plan) (others : List Call) (device : ℕ)
    → StandsOn decls state call plan → EachAlong (FitsBeside decls plan.held) decls state others
    → Contains plan.held.devices device
    → tree_due (after decls (fold_from decls state others) call) device ≡ tree_due (after decls state call) device

-- So a call that makes a history legal makes it legal with other calls in between that fit it, where the data is valid
-- with it there.
abbrev pub LegalStands : Type 0
LegalStands =
    (decls : Decls) (history others : List Call) (call : Call)
    → let state = state_of decls history in
    IsLegal decls (history ++ call ∷ []) → IsLegal decls (history ++ others) → IsNew others call
    → EachAlong (FitsBeside decls (call_held decls state call)) decls state others
    → invalid decls.data_schema (data_after call.actions (state_of decls (history ++ others)).data) ≡ None
    → IsLegal decls (history ++ others ++ call ∷ [])

-- what any two of these plans hold fits together
abbrev pub FitPairwise : List (Call × Plan) → Type 0
FitPairwise [] = Unit {0}
FitPairwise (one ∷ others) = All (λ other. FitTogether one.1.held other.1.held) others × FitPairwise others

-- calls with their plans, which all stand on a state, and what any two of them hold fits together
pub record ArePlannedTogether (decls : Decls) (state : Datastore) (plans : List (Call × Plan)) : Type 0 where
  pub lawful : All (λ it. All (λ action. IsTrue (is_action decls action)) it.0.actions) plans
  pub standing : All (λ it. StandsOn decls state it.0 it.1) plans
  pub fit : FitPairwise plans

-- Where one of the calls that are planned together is done, whichever it is, the others are still planned together.
abbrev pub PlansStandTogether : Type 0
PlansStandTogether =
    (decls : Decls) (state : Datastore) (before later : List (Call × Plan)) (call : Call) (plan : Plan)
    → AreDecls decls → ArePlannedTogether decls state (before ++ (call, plan) ∷ later)
    → ArePlannedTogether decls (after decls state call) (before ++ later)

-- The second list has the calls of the first one, in any order: one of them comes first, wherever it stands, and then
-- the others in any order.
abbrev pub AreInAnyOrder : List (Call × Plan) → List (Call × Plan) → Type 0
AreInAnyOrder plans [] = plans ≡ []
AreInAnyOrder plans (first ∷ rest) =
    (before : List (Call × Plan)) × (later : List (Call × Plan))
    × (plans ≡ before ++ first ∷ later) × AreInAnyOrder (before ++ later) rest

-- So each call that is planned together with others is fit by these, done one after another in any order.
abbrev pub PlannedTogetherFit : Type 0
PlannedTogetherFit =
    (decls : Decls) (state : Datastore) (before later others : List (Call × Plan)) (call : Call) (plan : Plan)
    → AreDecls decls → ArePlannedTogether decls state (before ++ (call, plan) ∷ later)
    → AreInAnyOrder (before ++ later) others
    → EachAlong (FitsBeside decls plan.held) decls state (map (λ other. other.0) others)

-- the data is valid with a call on the state on which it is done
abbrev pub IsValidWith : Decls → Datastore → Call → Type 0
IsValidWith decls state call = invalid decls.data_schema (data_after call.actions state.data) ≡ None

-- So calls that are planned together, none of which clashes on that state, are refused nowhere in any order in which
-- the data is valid with each of them where it is done.
abbrev pub TogetherUnrefused : Type 0
TogetherUnrefused =
    (decls : Decls) (state : Datastore) (plans order : List (Call × Plan))
    → AreDecls decls → ArePlannedTogether decls state plans
    → All (λ it. clash decls.names state.live (expanded_to (expanded_call decls state it.0)) ≡ None) plans
    → AreInAnyOrder plans order
    → let calls = map (λ it. it.0) order in
    EachAlong (IsValidWith decls) decls state calls → IsUnrefused decls state calls
