-- The writes of a call are the paths at which the data differ and the services that it names.
use Rattle.std.proofs.Common.{◌≡◌, ◌⊎◌, ℕ, inl, inr, Bool, true, false, List, ◌++◌, map, Contains, IsTrue, None, Some, sym, ap, subst, ◌∙◌}
use Rattle.std.specs.Prelude.{Option}
use Rattle.std.specs.Option.{option_map_or, option_to_list}
use Rattle.std.specs.Cmp.Lexicographic.{bytes_decides}
use Rattle.std.proofs.lemmas.Bool.{false≢true}
use Rattle.orc_path.specs.Steps.{PathStep}
use Rattle.orc_path.specs.Configurations.{Config}
use Rattle.orc_path.specs.declared.item.Write.{Write}
use Rattle.orc_path.specs.declared.item.Write.TheVariants as write
use Rattle.orc_call.specs.declared.call.Action.{Action}
use Rattle.orc_call.specs.declared.call.Call.{Call}
use Rattle.orc_expr.specs.declared.read.Target.{Target}
use Rattle.orc_queue.specs.declared.held.Held.{Held}
use Rattle.orc_revalidate.specs.Changes.{DiffersInside, ArePathsChanged}
use Rattle.orc_datastore.specs.Actions.{data_after}
use Rattle.orc_decls.specs.Calls.{is_service_among, service_of, is_call}
use Rattle.orc_datastore.specs.Plans.{call_held, call_targets, services_named}
use Rattle.orc_datastore.specs.States.{Datastore}
use Rattle.orc_decls.specs.Devices.{is_same_text}
use Rattle.orc_decls.specs.declared.declarations.Decls.{Decls}
use Rattle.orc_datastore.proofs.Planning.{differs_inside}
use Rattle.orc_datastore.proofs.Sighting.{lawful_actions}
use Rattle.orc_plans.specs.Plans.{IsWriteOf}
use Rattle.orc_state.specs.Writes.{AreWritesOf}
use Rattle.orc_revalidate.proofs.Members.{In, any_in, contains_in, from_any, from_flat_map, from_map, in_contains, in_flat_map, in_left, in_map, in_parts, in_right}

abbrev own_id : Action → List (List ℕ)
own_id action = option_to_list (service_of action)

abbrev has_own : List ℕ → Action → Bool
has_own id action = option_map_or (λ own. is_same_text id own) (service_of action) false

named_in : (actions : List Action) (id : List ℕ) → In (services_named actions) id → is_service_among actions id ≡ true
named_in actions id h =
    let found = from_flat_map own_id actions id h in
    any_in (has_own id) actions found.from found.among (on (service_of found.from) found.there)
  where
    on : (o : Option (List ℕ)) → In (option_to_list o) id → option_map_or (λ own. is_same_text id own) o false ≡ true
    on None there = absurd there
    on (Some own) (inl same) = (bytes_decides id own).1 (sym same)
    on (Some own) (inr more) = absurd more

in_named : (actions : List Action) (id : List ℕ) → is_service_among actions id ≡ true → In (services_named actions) id
in_named actions id h =
    let found = from_any (has_own id) actions h in
    in_flat_map own_id actions found.one id found.among (on (service_of found.one) found.passes)
  where
    on : (o : Option (List ℕ)) → option_map_or (λ own. is_same_text id own) o false ≡ true → In (option_to_list o) id
    on None e = absurd (false≢true e)
    on (Some own) is = inl (sym ((bytes_decides id own).0 is))

module _ (state : Datastore) (call : Call) (paths : List (List PathStep)) (services : List (List ℕ))
    (changed : ArePathsChanged state.data (data_after call.actions state.data) paths) (named : services ≡ services_named call.actions) where
  sound_in : (w : Write) → In (map write.At paths ++ map write.Service services) w → IsWriteOf state call w
  sound_in (write.At path) h = on (in_parts (map write.At paths) (map write.Service services) (write.At path) h)
    where
      on : In (map write.At paths) (write.At path) ⊎ In (map write.Service services) (write.At path) → IsWriteOf state call (write.At path)
      on (inl there) =
          let found = from_map write.At paths (write.At path) there in
          let is : write.At found.source ≡ write.At path = found.is in
          let same : found.source ≡ path = cc in
          let differs = changed.sound path (subst (Contains paths) same (contains_in paths found.source found.among)) in
          λ e. differs (sym e)
      on (inr there) =
          let found = from_map write.Service services (write.At path) there in
          let is : write.Service found.source ≡ write.At path = found.is in
          absurd cc
  sound_in (write.Service id) h = on (in_parts (map write.At paths) (map write.Service services) (write.Service id) h)
    where
      on : In (map write.At paths) (write.Service id) ⊎ In (map write.Service services) (write.Service id) → IsWriteOf state call (write.Service id)
      on (inl there) =
          let found = from_map write.At paths (write.Service id) there in
          let is : write.At found.source ≡ write.Service id = found.is in
          absurd cc
      on (inr there) =
          let found = from_map write.Service services (write.Service id) there in
          let is : write.Service found.source ≡ write.Service id = found.is in
          let same : found.source ≡ id = cc in
          named_in call.actions id (subst (λ (l : List (List ℕ)). In l id) named (subst (In services) same found.among))

  whole_in : (w : Write) → IsWriteOf state call w → In (map write.At paths ++ map write.Service services) w
  whole_in (write.At path) h =
      in_left (map write.At paths) (map write.Service services) (write.At path)
      (in_map write.At paths path (in_contains paths path (changed.whole path (λ e. h (sym e)))))
  whole_in (write.Service id) h =
      in_right (map write.At paths) (map write.Service services) (write.Service id)
      (in_map write.Service services id (subst (λ (l : List (List ℕ)). In l id) (sym named) (in_named call.actions id h)))

  pub are_writes : (row : List Write) → row ≡ map write.At paths ++ map write.Service services → AreWritesOf state call row
  are_writes row is = record {
    sound = λ w h. sound_in w (subst (λ (l : List Write). In l w) is (in_contains row w h));
    whole = λ w h. subst (λ (l : List Write). Contains l w) (sym is) (contains_in (map write.At paths ++ map write.Service services) w (whole_in w h));
  }

-- the plan's targets are those of its call
pub plan_inside : (decls : Decls) (state : Datastore) (call : Call) (held : Held) (old new : Config) (targets : List Target) → IsTrue (is_call decls call)
    → call_held decls state call ≡ held → old ≡ state.data → new ≡ data_after call.actions state.data → targets ≡ held.targets
    → DiffersInside targets old new
plan_inside decls state call held old new targets lawful is os ns ts =
    subst (λ (l : List Target). DiffersInside l old new) (ap (λ (h : Held). h.targets) is ∙ sym ts)
    (subst (λ (c : Config). DiffersInside (call_targets call.actions) old c) (sym ns)
    (subst (λ (c : Config). DiffersInside (call_targets call.actions) c (data_after call.actions state.data)) (sym os)
    (differs_inside decls call.actions state.data (lawful_actions decls call lawful))))
