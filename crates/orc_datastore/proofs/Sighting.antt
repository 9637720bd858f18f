-- What is planned by a snapshot is what is planned on the state that it is of.
use Rattle.std.proofs.Common.{◌≡◌, ℕ, zero, suc, ◌+◌, ◌<◌, ◌≤◌, ◌^◌, Bool, true, false, cond, ◌&&◌, ◌||◌, List, [], ◌∷◌, ◌++◌, length, drop, map, All, IsTrue, None, Some, refl, sym, ap, ◌∙◌, subst, arith, append-nil}
use Rattle.std.specs.declared.option.Option.{Option}
use Rattle.std.specs.declared.result.Result.{Result}
use Rattle.std.specs.declared.result.Result.TheVariants.{Ok, Err}
use Rattle.std.specs.Option.{option_map, option_map_or, option_or}
use Rattle.std.specs.List.{filter, flat_map, list_all, list_any, range_with_len}
use Rattle.std.specs.FinMap.{empty, entries, len-empty, len-entries}
use Rattle.std.specs.Cmp.{first_so, second_so}
use Rattle.std.proofs.Math.Path.{fun_ext}
use Rattle.std.proofs.lemmas.List.{drop_all}
use Rattle.std.proofs.lemmas.List.Sums.{AllPass-from_list_all}
use Rattle.std.proofs.lemmas.Bool.{false≢true}
use Rattle.std.proofs.lemmas.List.Elements.{All-nil, All-cons, All-head, All-tail}
use Rattle.orc_path.specs.Alphabet.{is_key}
use Rattle.orc_path.specs.Steps.{PathStep}
use Rattle.orc_path.specs.Order.{path_cmp}
use Rattle.orc_path.specs.declared.item.Item.{Item}
use Rattle.orc_path.specs.Reading.{path_of}
use Rattle.orc_path.specs.Configurations.{Config}
use Rattle.orc_path.proofs.Characters.{is_plain_text-path_text}
use Rattle.orc_path.proofs.PathOf.{text_of_path}
use Rattle.orc_call.specs.declared.answer.Answer.{Answer}
use Rattle.orc_call.specs.declared.call.Action.{Action}
use Rattle.orc_call.specs.declared.call.Action.TheVariants.{Create, Modify, Redeploy, Literal, Delete, Set, Unset, BasePut, BaseRemove}
use Rattle.orc_call.specs.declared.call.Call.{Call}
use Rattle.orc_call.specs.declared.call.Put.{Put}
use Rattle.orc_expr.specs.declared.read.Read.TheVariants as read
use Rattle.orc_template.specs.Devices.{DeviceTable}
use Rattle.orc_template.specs.Expansions.{Expanding, Failed, device_part, device_parts}
use Rattle.orc_template.specs.declared.expansion.Expansion.{Expansion}
use Rattle.orc_services.specs.Services.{Instance, Serving, expansion_at, expansion_of, instance_of}
use Rattle.orc_services.specs.Expanded.{as_literal, expanded_action, expanded_actions, writes_of}
use Rattle.orc_datastore.specs.States.{Datastore, expansion}
use Rattle.orc_decls.specs.Devices.{name_of}
use Rattle.orc_datastore.specs.Actions.{data_after}
use Rattle.orc_decls.specs.Calls.{services_once, has_body, is_action, is_call, is_lawful_name, is_service, is_service_path, is_write}
use Rattle.orc_decls.specs.Declarations.{AreDecls}
use Rattle.orc_datastore.specs.Laws.{LiteralIsExpansion}
use Rattle.orc_datastore.specs.Next.{existence, expanded_call, expanded_to, first_service_fault, invalid, serving_on, unexpanded}
use Rattle.orc_datastore.specs.Plans.{call_expansions, call_held, call_reads, call_targets, expansions_of, services_named, plan_refusal, planned, plan_unless, written_parts}
use Rattle.orc_datastore.specs.Snapshots.{IsSnapshotOf, KnowsLiving, Snapshot, holds_on}
use Rattle.orc_datastore.specs.Touched.{is_touched_among, is_written_by, touched_among, touched_devices, touches_device}
use Rattle.orc_datastore.specs.inside.Sights.{all_expansions, expansions_by, knows_device, knows_service, literal_parts, planned_by, planned_known, planned_sight, unless_fault, service_key, touched_known}
use Rattle.orc_decls.specs.declared.declarations.Decls.{Decls}
use Rattle.orc_datastore.specs.declared.plan.Plan.{Plan}
use Rattle.orc_datastore.specs.declared.service.Service.{Service}
use Rattle.orc_decls.proofs.NameTexts.{name_key}
use Rattle.orc_datastore.proofs.Ranges.{filter_in}
use Rattle.orc_datastore.proofs.Expanded.{err_no_ok, ok_same, one_serves, parted}
use Rattle.orc_decls.proofs.Fits.{service_entry}

-- the services that a lawful call names can stand in entries

path_key : (o : Option (List PathStep)) (id : List ℕ) (decls : Decls) → path_of id ≡ o → option_map_or (is_service_path decls) o false ≡ true → is_key id ≡ true
path_key None id decls is h = absurd (false≢true h)
path_key (Some path) id decls is h =
    let entry = service_entry decls path h in
    subst (λ (text : List ℕ). is_key text ≡ true) (text_of_path path id is).1 (is_plain_text-path_text path entry.0)

served_key : (decls : Decls) (id : List ℕ) → is_service decls id ≡ true → is_key id ≡ true
served_key decls id h = path_key (path_of id) id decls refl h

either_key : (a b : Bool) (id : List ℕ) → (a ≡ true → is_key id ≡ true) → (b ≡ true → is_key id ≡ true) → (a || b) ≡ true → is_key id ≡ true
either_key true b id f g h = f refl
either_key false b id f g h = g h

action_key : (decls : Decls) (action : Action) → is_action decls action ≡ true → service_key action ≡ true
action_key decls (Create id body) h = served_key decls id (first_so (is_service decls id) (has_body decls id body) h)
action_key decls (Modify id body) h = served_key decls id (first_so (is_service decls id) (has_body decls id body) h)
action_key decls (Redeploy id) h = served_key decls id h
action_key decls (Literal id writes) h =
    name_key id (first_so (is_lawful_name id) _ (first_so _ (list_all (is_write decls) writes) h))
action_key decls (Delete id) h = either_key (is_lawful_name id) (is_service decls id) id (name_key id) (served_key decls id) h
action_key decls (Set put) h = refl
action_key decls (Unset path) h = refl
action_key decls (BasePut put) h = refl
action_key decls (BaseRemove device path) h = refl

pub actions_lawful : (decls : Decls) (call : Call) → IsTrue (is_call decls call) → IsTrue (list_all (is_action decls) call.actions)
actions_lawful decls call h = first_so (list_all (is_action decls) call.actions) (services_once call.actions) (second_so _ (list_all (is_action decls) call.actions && services_once call.actions) h)

pub lawful_actions : (decls : Decls) (call : Call) → IsTrue (is_call decls call) → All (λ action. IsTrue (is_action decls action)) call.actions
lawful_actions decls call h = AllPass-from_list_all (is_action decls) call.actions (actions_lawful decls call h)

keys_of : (decls : Decls) (actions : List Action) → list_all (is_action decls) actions ≡ true → All (λ action. IsTrue (service_key action)) actions
keys_of decls [] h = All-nil (λ (action : Action). IsTrue (service_key action))
keys_of decls (action ∷ actions) h =
    All-cons (λ (a : Action). IsTrue (service_key a)) action actions
    (action_key decls action (first_so (is_action decls action) (list_all (is_action decls) actions) h))
    (keys_of decls actions (second_so (is_action decls action) (list_all (is_action decls) actions) h))

pub call_keys : (decls : Decls) (call : Call) → IsTrue (is_call decls call) → All (λ action. IsTrue (service_key action)) call.actions
call_keys decls call h = keys_of decls call.actions (actions_lawful decls call h)

-- so can those that expanded actions name
pub made_keys : (s : Serving) (actions made : List Action) → (expanded_actions s actions).outcome ≡ Ok made
    → All (λ action. IsTrue (service_key action)) actions → All (λ action. IsTrue (service_key action)) made
made_keys s [] made h keys = subst (All (λ (a : Action). IsTrue (service_key a))) (ok_same [] made h) (All-nil (λ (a : Action). IsTrue (service_key a)))
made_keys s (action ∷ actions) made h keys =
    let p = parted (expanded_action s action).outcome (expanded_action s action).reads (expanded_actions s actions) made h in
    subst (All (λ (a : Action). IsTrue (service_key a))) (sym p.whole)
    (All-cons (λ (a : Action). IsTrue (service_key a)) p.one p.rest
    (ap (λ o. option_map_or is_key o true) (one_serves s action p.one p.first_is) ∙ All-head (λ (a : Action). IsTrue (service_key a)) action actions keys)
    (made_keys s actions p.rest p.later_is (All-tail (λ (a : Action). IsTrue (service_key a)) action actions keys)))

-- what lives

pub faults_same : (live : List Service) (known : Config) (actions : List Action) → KnowsLiving live known
    → first_service_fault (knows_service known) actions ≡ existence live actions
faults_same live known actions k = ap (λ (f : List ℕ → Bool). first_service_fault f actions) (fun_ext (λ id. k.services id))

-- the devices that are touched

touches_same : (live : List Service) (known : Config) (name : List ℕ) (d : ℕ) → KnowsLiving live known → d < 2 ^ 32 → (action : Action)
    → touches_device name (knows_device known) d action ≡ touches_device name (holds_on live) d action
touches_same live known name d k small (Literal id writes) = ap (λ t. is_written_by writes name || t) (k.devices id d small)
touches_same live known name d k small (Delete id) = k.devices id d small
touches_same live known name d k small other = refl

pub touched_same : (state : Datastore) (known : Config) (names : List (List ℕ)) (actions : List Action) → KnowsLiving state.live known
    → length names < 2 ^ 32 → touched_known names known actions ≡ touched_among names state actions
touched_same state known names actions k few =
    filter_in (λ d. list_any (touches_device (name_of names d) (knows_device known) d) actions) (is_touched_among names state actions) 0 (length names)
    (λ d less. ap (λ (f : Action → Bool). list_any f actions)
    (fun_ext (λ action. touches_same state.live known (name_of names d) d k (omega (arith, less, few)) action)))

-- what expansions write

nothing_listed : {X : Type 0} (xs : List X) → length xs ≡ 0 → xs ≡ []
nothing_listed [] h = refl
nothing_listed (x ∷ xs) h = absurd (omega (arith, h))

no_entries : entries (empty {K = List PathStep} {X = Item} {R = path_cmp}) ≡ []
no_entries = nothing_listed (entries empty) (sym (len-entries empty) ∙ len-empty path_cmp Item)

no_parts : (names : List (List ℕ)) (n : ℕ) → device_parts n (expansion names []) ≡ []
no_parts [] n = refl
no_parts (name ∷ names) n =
    ap (λ (rows : List (List PathStep × Item)). device_part n rows ++ device_parts (n + 1) (expansion names [])) no_entries ∙ no_parts names (n + 1)

abbrev parts_are : List (ℕ × List Put) → Expansion
parts_are parts = record { parts = parts }

module _ (law : LiteralIsExpansion) (decls : Decls) (are : AreDecls decls) (config : Config) where
  abbrev s : Serving
  s = serving_on decls config

  made_parts : (id : List ℕ) (one : Action) → (as_literal s.devices.names id (expansion_of s id)).outcome ≡ Ok one
      → written_parts (expansion_of s id) ≡ literal_parts decls.names one
  made_parts id one h = on (instance_of decls.services id) h
    where
      found : (it : Instance) (due : Result Expanding Failed) → expansion_at s it ≡ due → (as_literal s.devices.names id (Some due)).outcome ≡ Ok one
          → written_parts (Some due) ≡ literal_parts decls.names one
      found it (Ok e) is h =
          let same : expansion decls.names (writes_of s.devices.names e.written) ≡ e.written =
          ap (λ (t : DeviceTable). expansion decls.names (writes_of t.names e.written)) are.table ∙ law decls config it e are is in
          ap (λ (l : List Config). parts_are (device_parts 0 l)) (sym same)
          ∙ ap (literal_parts decls.names) (ok_same (Literal id (writes_of s.devices.names e.written)) one h)
      found it (Err failed) is h = absurd (err_no_ok _ one h)

      on : (o : Option Instance) → (as_literal s.devices.names id (option_map (expansion_at s) o)).outcome ≡ Ok one
          → written_parts (option_map (expansion_at s) o) ≡ literal_parts decls.names one
      on None h =
          ap parts_are (sym (no_parts decls.names 0)) ∙ ap (literal_parts decls.names) (ok_same (Literal id []) one h)
      on (Some it) h = found it (expansion_at s it) refl h

  one_expansion : (action one : Action) → (expanded_action s action).outcome ≡ Ok one → expansions_of s action ≡ expansions_by decls.names action one
  one_expansion (Create id body) one h = ap (λ (e : Expansion). (id, e) ∷ []) (made_parts id one h)
  one_expansion (Modify id body) one h = ap (λ (e : Expansion). (id, e) ∷ []) (made_parts id one h)
  one_expansion (Redeploy id) one h = ap (λ (e : Expansion). (id, e) ∷ []) (made_parts id one h)
  one_expansion other one h = refl

  pub expansions_are : (actions made : List Action) → (expanded_actions s actions).outcome ≡ Ok made
      → flat_map (expansions_of s) actions ≡ all_expansions decls.names actions made
  expansions_are [] made h = refl
  expansions_are (action ∷ actions) made h =
      let p = parted (expanded_action s action).outcome (expanded_action s action).reads (expanded_actions s actions) made h in
      ap (λ (l : List (List ℕ × Expansion)). l ++ flat_map (expansions_of s) actions) (one_expansion action p.one p.first_is)
      ∙ ap (λ (l : List (List ℕ × Expansion)). expansions_by decls.names action p.one ++ l) (expansions_are actions p.rest p.later_is)
      ∙ ap (all_expansions decls.names (action ∷ actions)) (sym p.whole)

none_expanded : (names : List (List ℕ)) (left : List Action) → all_expansions names left [] ≡ []
none_expanded names [] = refl
none_expanded names (action ∷ left) = refl

-- all of them, once none is left
pub all_expanded : (names : List (List ℕ)) (left actions made : List Action) (i : ℕ) (es : List (List ℕ × Expansion)) → length made ≤ i
    → es ++ all_expansions names left (drop i made) ≡ all_expansions names actions made → es ≡ all_expansions names actions made
all_expanded names left actions made i es end so_far =
    sym (ap (λ (l : List Action). es ++ all_expansions names left l) (drop_all i made end) ∙ ap (λ (l : List (List ℕ × Expansion)). es ++ l) (none_expanded names left)
    ∙ append-nil es) ∙ so_far

-- the plan

module _ (law : LiteralIsExpansion) (decls : Decls) (are : AreDecls decls) (state : Datastore) (snapshot : Snapshot) (of : IsSnapshotOf state snapshot)
    (call : Call) (few : length decls.names < 2 ^ 32) where
  abbrev behind : Config
  behind = data_after call.actions state.data

  abbrev whole : Plan
  whole = record { front = snapshot.front; held = call_held decls state call; expansions = call_expansions decls state call; next = behind }

  pub planned_fault : (actions : List Action) (answer : Answer) → actions ≡ call.actions
      → Some answer ≡ first_service_fault (knows_service snapshot.known) actions → Err answer ≡ planned decls state snapshot.front call
  planned_fault actions answer same is =
      let found : Some answer ≡ existence state.live call.actions =
      is ∙ faults_same state.live snapshot.known actions of.living ∙ ap (existence state.live) same in
      ap (λ o. plan_unless (option_or o (option_or (invalid decls.data_schema behind) (unexpanded (expanded_call decls state call)))) whole) found

  module _ (actions : List Action) (config : Config) (same : actions ≡ call.actions) (none : first_service_fault (knows_service snapshot.known) actions ≡ None)
      (is : config ≡ data_after actions snapshot.data) where
    config_is : config ≡ behind
    config_is = is ∙ ap (λ (l : List Action). data_after l snapshot.data) same ∙ ap (data_after call.actions) of.same_data

    exist : existence state.live call.actions ≡ None
    exist = sym (ap (existence state.live) same) ∙ sym (faults_same state.live snapshot.known actions of.living) ∙ none

    pub planned_invalid : (answer : Answer) → Some answer ≡ invalid decls.data_schema config → Err answer ≡ planned decls state snapshot.front call
    planned_invalid answer found =
        ap (λ o. plan_unless (option_or o (unexpanded (expanded_call decls state call))) whole) (found ∙ ap (invalid decls.data_schema) config_is)
        ∙ sym (ap (λ o. plan_unless (option_or o (option_or (invalid decls.data_schema behind) (unexpanded (expanded_call decls state call)))) whole) exist)

    abbrev plan_with : List ℕ → List (List ℕ × Expansion) → Result Plan Answer
    plan_with devices es = Ok (record {
      front = snapshot.front;
      held = record {
        devices = devices;
        services = services_named call.actions;
        reads = record { reads = call_reads decls state call ++ map read.Service (services_named call.actions) };
        targets = call_targets call.actions;
      };
      expansions = es;
      next = behind;
    })

    by_outcome : invalid decls.data_schema config ≡ None → (due : Result (List Action) Answer) → expanded_call decls state call ≡ due
        → planned_by decls snapshot.known snapshot.front call.actions behind due (expanded_actions (serving_on decls behind) call.actions).reads
        ≡ planned decls state snapshot.front call
    by_outcome valid due comes = on due comes
      where
        refused : plan_refusal decls state call ≡ unexpanded (expanded_call decls state call)
        refused =
            ap (λ o. option_or o (option_or (invalid decls.data_schema behind) (unexpanded (expanded_call decls state call)))) exist
            ∙ ap (λ o. option_or o (unexpanded (expanded_call decls state call))) (ap (invalid decls.data_schema) (sym config_is) ∙ valid)

        on : (due : Result (List Action) Answer) → expanded_call decls state call ≡ due
            → planned_by decls snapshot.known snapshot.front call.actions behind due (expanded_actions (serving_on decls behind) call.actions).reads
            ≡ planned decls state snapshot.front call
        on (Err answer) comes = sym (ap (λ o. plan_unless o whole) (refused ∙ ap unexpanded comes))
        on (Ok made) comes =
            ap (λ (devices : List ℕ). plan_with devices (all_expansions decls.names call.actions made))
            (touched_same state snapshot.known decls.names made of.living few ∙ ap (λ r. touched_among decls.names state (expanded_to r)) (sym comes))
            ∙ ap (plan_with (touched_devices decls state call)) (sym (expansions_are law decls are behind call.actions made comes))
            ∙ sym (ap (λ o. plan_unless o whole) (refused ∙ ap unexpanded comes))

    pub planned_there : invalid decls.data_schema config ≡ None
        → planned_known decls snapshot.known snapshot.front actions config ≡ planned decls state snapshot.front call
    planned_there valid =
        ap (λ (c : Config). planned_known decls snapshot.known snapshot.front actions c) config_is
        ∙ ap (λ (l : List Action). planned_known decls snapshot.known snapshot.front l behind) same
        ∙ by_outcome valid (expanded_call decls state call) refl

  pub sight_is : planned_sight decls snapshot call ≡ planned decls state snapshot.front call
  sight_is = on (first_service_fault (knows_service snapshot.known) call.actions) refl
    where
      valid_on : first_service_fault (knows_service snapshot.known) call.actions ≡ None
          → (o : Option Answer) → invalid decls.data_schema (data_after call.actions snapshot.data) ≡ o
          → unless_fault o (planned_known decls snapshot.known snapshot.front call.actions (data_after call.actions snapshot.data)) ≡ planned decls state snapshot.front call
      valid_on none (Some answer) found = planned_invalid call.actions (data_after call.actions snapshot.data) refl none refl answer (sym found)
      valid_on none None valid = planned_there call.actions (data_after call.actions snapshot.data) refl none refl valid

      on : (o : Option Answer) → first_service_fault (knows_service snapshot.known) call.actions ≡ o
          → unless_fault (option_or o (invalid decls.data_schema (data_after call.actions snapshot.data))) (planned_known decls snapshot.known snapshot.front call.actions (data_after call.actions snapshot.data)) ≡ planned decls state snapshot.front call
      on (Some answer) found = planned_fault call.actions answer refl (sym found)
      on None none = valid_on none (invalid decls.data_schema (data_after call.actions snapshot.data)) refl
