-- A plan is enough to do its call.
use Rattle.std.proofs.Common.{◌≡◌, ℕ, suc, ◌+◌, ◌<◌, List, [], ◌∷◌, ◌++◌, map, length, Some, None, refl, sym, ap, subst, ◌∙◌, arith, append-nil}
use Rattle.std.specs.declared.option.Option.{Option}
use Rattle.std.specs.declared.result.Result.{Result}
use Rattle.std.specs.declared.result.Result.TheVariants.{Ok, Err}
use Rattle.std.specs.Prelude.{option_map}
use Rattle.std.specs.List.{flat_map}
use Rattle.std.specs.FinMap.{entries}
use Rattle.orc_path.specs.Steps.{PathStep}
use Rattle.orc_path.specs.Configurations.{Config}
use Rattle.orc_path.specs.declared.item.Item.{Item}
use Rattle.orc_call.specs.declared.call.Action.{Action}
use Rattle.orc_call.specs.declared.call.Action.TheVariants.{Create, Modify, Redeploy, Literal}
use Rattle.orc_call.specs.declared.call.DevicePut.{DevicePut}
use Rattle.orc_call.specs.declared.call.Put.{Put}
use Rattle.orc_template.specs.Devices.{DeviceTable}
use Rattle.orc_template.specs.Expansions.{Expanding, Failed, device_part, device_parts, row_put}
use Rattle.orc_services.specs.Expanded.{as_literal, expanded_action, expanded_actions, write_of, writes_of, writes_to}
use Rattle.orc_services.specs.Services.{Instance, Serving, expansion_at, expansion_of, instance_of}
use Rattle.orc_decls.specs.Declarations.{AreDecls}
use Rattle.orc_datastore.specs.Laws.{LiteralIsExpansion}
use Rattle.orc_datastore.specs.Actions.{data_after}
use Rattle.orc_datastore.specs.Next.{expanded_call, expanded_to, serving_on}
use Rattle.orc_datastore.specs.Plans.{expansions_of, written_parts}
use Rattle.orc_datastore.specs.States.{expansion}
use Rattle.orc_decls.specs.Devices.{name_of}
use Rattle.orc_decls.specs.declared.declarations.Decls.{Decls}
use Rattle.orc_datastore.proofs.Expanded.{err_no_ok, ok_same, parted}
use Rattle.orc_plans.specs.Plans.{PlanIsEnough, part_writes, with_expansions}
use Rattle.orc_plans.proofs.Standing.{expanded_ok}

-- the writes of the parts of trees are those of the trees

both_lists : {X Y : Type 0} (f : X → List Y) (xs ys : List X) → flat_map f (xs ++ ys) ≡ flat_map f xs ++ flat_map f ys
both_lists f [] ys = refl
both_lists f (x ∷ xs) ys = ap (λ l. f x ++ l) (both_lists f xs ys) ∙ sym (joined (f x) (flat_map f xs) (flat_map f ys))
  where
    joined : {Z : Type 0} (a b c : List Z) → (a ++ b) ++ c ≡ a ++ (b ++ c)
    joined [] b c = refl
    joined (z ∷ a) b c = ap (λ l. z ∷ l) (joined a b c)

module _ (all : List (List ℕ)) (k : ℕ) (name : List ℕ) (is : name_of all k ≡ name) where
  abbrev on_device : Put → DevicePut
  on_device put = record { device = name_of all k; path = put.path; item = put.item }

  each_write : (rows : List (List PathStep × Item)) → map on_device (map row_put rows) ≡ map (write_of name) rows
  each_write [] = refl
  each_write (row ∷ rows) =
      ap (λ (n : List ℕ). (write_of n row) ∷ map on_device (map row_put rows)) is ∙ ap (λ l. write_of name row ∷ l) (each_write rows)

  one_device : (rows : List (List PathStep × Item)) → flat_map (part_writes all) (device_part k rows) ≡ map (write_of name) rows
  one_device [] = refl
  one_device (row ∷ rows) = append-nil (map on_device (map row_put (row ∷ rows))) ∙ each_write (row ∷ rows)

gathered : (f : List ℕ → Config) (all rest : List (List ℕ)) (k : ℕ) → ((i : ℕ) → i < length rest → name_of all (k + i) ≡ name_of rest i)
    → flat_map (part_writes all) (device_parts k (map f rest)) ≡ writes_of rest (map f rest)
gathered f all [] k h = refl
gathered f all (name ∷ rest) k h =
    let here : name_of all k ≡ name = subst (λ (n : ℕ). name_of all n ≡ name) (omega arith) (h 0 (omega arith)) in
    both_lists (part_writes all) (device_part k (entries (f name))) (device_parts (k + 1) (map f rest))
    ∙ ap (λ (l : List DevicePut). l ++ flat_map (part_writes all) (device_parts (k + 1) (map f rest))) (one_device all k name here (entries (f name)))
    ∙ ap (λ (l : List DevicePut). writes_to name (f name) ++ l)
    (gathered f all rest (k + 1) (λ i lt. subst (λ (n : ℕ). name_of all n ≡ name_of rest i) (omega arith) (h (suc i) (omega (arith, lt)))))

-- so a plan's expansions give what the actions come to

module _ (law : LiteralIsExpansion) (decls : Decls) (are : AreDecls decls) (config : Config) where
  abbrev s : Serving
  s = serving_on decls config

  made_literal : (id : List ℕ) (one : Action) → (as_literal s.devices.names id (expansion_of s id)).outcome ≡ Ok one
      → Literal id (flat_map (part_writes decls.names) (written_parts (expansion_of s id)).parts) ≡ one
  made_literal id one h = on (instance_of decls.services id) h
    where
      found : (it : Instance) (due : Result Expanding Failed) → expansion_at s it ≡ due → (as_literal s.devices.names id (Some due)).outcome ≡ Ok one
          → Literal id (flat_map (part_writes decls.names) (written_parts (Some due)).parts) ≡ one
      found it (Ok e) is h =
          let same : e.written ≡ expansion decls.names (writes_of decls.names e.written) = sym (law decls config it e are is) in
          let named : s.devices.names ≡ decls.names = ap (λ (t : DeviceTable). t.names) are.table in
          let writes : flat_map (part_writes decls.names) (device_parts 0 e.written) ≡ writes_of decls.names e.written =
          ap (λ (l : List Config). flat_map (part_writes decls.names) (device_parts 0 l)) same
          ∙ gathered _ decls.names decls.names 0 (λ i lt. ap (name_of decls.names) (omega arith))
          ∙ ap (writes_of decls.names) (sym same) in
          ap (λ (l : List DevicePut). Literal id l) (writes ∙ ap (λ (l : List (List ℕ)). writes_of l e.written) (sym named))
          ∙ ok_same (Literal id (writes_of s.devices.names e.written)) one h
      found it (Err failed) is h = absurd (err_no_ok _ one h)

      on : (o : Option Instance) → (as_literal s.devices.names id (option_map (expansion_at s) o)).outcome ≡ Ok one
          → Literal id (flat_map (part_writes decls.names) (written_parts (option_map (expansion_at s) o)).parts) ≡ one
      on None h = ok_same (Literal id []) one h
      on (Some it) h = found it (expansion_at s it) refl h

  first_made : (id : List ℕ) (one : Action) (actions rest made : List Action) → (as_literal s.devices.names id (expansion_of s id)).outcome ≡ Ok one
      → with_expansions decls.names actions (flat_map (expansions_of s) actions) ≡ rest → made ≡ one ∷ rest
      → Literal id (flat_map (part_writes decls.names) (written_parts (expansion_of s id)).parts)
      ∷ with_expansions decls.names actions (flat_map (expansions_of s) actions) ≡ made
  first_made id one actions rest made h later whole =
      ap (λ (a : Action). a ∷ with_expansions decls.names actions (flat_map (expansions_of s) actions)) (made_literal id one h)
      ∙ ap (λ (l : List Action). one ∷ l) later ∙ sym whole

  all_made : (actions made : List Action) → (expanded_actions s actions).outcome ≡ Ok made
      → with_expansions decls.names actions (flat_map (expansions_of s) actions) ≡ made
  all_made [] made h = ok_same [] made h
  all_made (Create id body ∷ actions) made h =
      let p = parted (expanded_action s (Create id body)).outcome (expanded_action s (Create id body)).reads (expanded_actions s actions) made h in
      first_made id p.one actions p.rest made p.first_is (all_made actions p.rest p.later_is) p.whole
  all_made (Modify id body ∷ actions) made h =
      let p = parted (expanded_action s (Modify id body)).outcome (expanded_action s (Modify id body)).reads (expanded_actions s actions) made h in
      first_made id p.one actions p.rest made p.first_is (all_made actions p.rest p.later_is) p.whole
  all_made (Redeploy id ∷ actions) made h =
      let p = parted (expanded_action s (Redeploy id)).outcome (expanded_action s (Redeploy id)).reads (expanded_actions s actions) made h in
      first_made id p.one actions p.rest made p.first_is (all_made actions p.rest p.later_is) p.whole
  all_made (other ∷ actions) made h =
      let p = parted (expanded_action s other).outcome (expanded_action s other).reads (expanded_actions s actions) made h in
      ap (λ (l : List Action). other ∷ l) (all_made actions p.rest p.later_is)
      ∙ ap (λ (a : Action). a ∷ p.rest) (ok_same other p.one p.first_is) ∙ sym p.whole

pub plan_is_enough : LiteralIsExpansion → PlanIsEnough
plan_is_enough law decls state call plan are own =
    let made = expanded_to (expanded_call decls state call) in
    let is : expanded_call decls state call ≡ Ok made = expanded_ok (expanded_call decls state call) own.expanded in
    subst (λ (l : List Action). expanded_call decls state call ≡ Ok l)
    (sym (all_made law decls are (data_after call.actions state.data) call.actions made is)
    ∙ ap (with_expansions decls.names call.actions) own.expansions)
    is
