-- What a call writes lies inside its targets.
use Rattle.std.proofs.Common.{◌≡◌, ◌≢◌, ◌⊎◌, inl, inr, ℕ, zero, suc, ◌<◌, ◌≤◌, Bool, true, false, List, [], ◌∷◌, ◌++◌, length, take, All, IsTrue, None, Some, refl, sym, ap, subst, ◌∙◌, cond, arith}
use Rattle.std.specs.declared.option.Option.{Option}
use Rattle.std.specs.Option.{option_map_or}
use Rattle.std.specs.List.{list_all}
use Rattle.std.specs.Cmp.{first_so, second_so}
use Rattle.std.specs.FinMap.{get}
use Rattle.std.specs.Ordering.{eq_by_cmp}
use Rattle.std.proofs.lemmas.Bool.{and_from, cases_lt, false≢true}
use Rattle.std.proofs.lemmas.List.{take-append-le}
use Rattle.std.proofs.lemmas.List.Elements.{All-head, All-tail, Contains-append_left, Contains-append_right}
use Rattle.orc_path.specs.Steps.{PathStep, ends_in_keys}
use Rattle.orc_path.specs.Order.{is_prefix, path_cmp, step_eq}
use Rattle.orc_path.specs.Configurations.{Config, IsWay, drop_item, is_removed_with, put_item}
use Rattle.orc_path.specs.Reading.{path_of}
use Rattle.orc_path.specs.declared.item.Item.{Item}
use Rattle.orc_path.specs.declared.item.Item.TheVariants.{Entry}
use Rattle.orc_path.proofs.ConfigurationLaws.{get-drop_item, put_item_cases, same_path}
use Rattle.orc_path.proofs.Extensions.{is_prefix_rest, is_prefix-append}
use Rattle.orc_call.specs.declared.call.Action.{Action}
use Rattle.orc_call.specs.declared.call.Action.TheVariants.{Create, Modify, Delete, Set, Unset}
use Rattle.orc_call.specs.declared.call.Put.{Put}
use Rattle.orc_expr.specs.declared.read.Target.TheVariants.{One, Under}
use Rattle.orc_revalidate.specs.Changes.{DiffersInside}
use Rattle.orc_decls.specs.Openings.{put_all}
use Rattle.orc_datastore.specs.Actions.{data_after, data_step, enter_service, leave_service}
use Rattle.orc_decls.specs.Calls.{has_body, is_action, is_body, is_body_item, is_put, is_service}
use Rattle.orc_datastore.specs.Plans.{IsInsideOne, call_targets, entry_targets, leave_targets, targets_of}
use Rattle.orc_decls.specs.declared.declarations.Decls.{Decls}
use Rattle.orc_datastore.proofs.Agreement.{first_in, later_in}

-- what an action changes lies inside one of its targets

-- a prefix of a path below another is below it too, or on its way
prefix_take : (entry path : List PathStep) (n : ℕ) → is_prefix entry path ≡ true → length entry ≤ n → is_prefix entry (take n path) ≡ true
prefix_take [] path n h le = refl
prefix_take (own ∷ entry) [] n h le = absurd (false≢true h)
prefix_take (own ∷ entry) (step ∷ path) zero h le = absurd (omega (arith, le))
prefix_take (own ∷ entry) (step ∷ path) (suc n) h le =
    and_from (step_eq own step) (is_prefix entry (take n path)) (first_so (step_eq own step) (is_prefix entry path) h)
    (prefix_take entry path n (second_so (step_eq own step) (is_prefix entry path) h) (omega (arith, le)))

pub way_below : (entry path way : List PathStep) → is_prefix entry path ≡ true → IsWay way path → IsWay way entry ⊎ (is_prefix entry way ≡ true)
way_below entry path way h is = on (cases_lt (length way) (length entry))
  where
    on : (length way < length entry) ⊎ (length entry ≤ length way) → IsWay way entry ⊎ (is_prefix entry way ≡ true)
    on (inl less) =
        let rest = is_prefix_rest entry path h in
        inl (record {
          shorter = less;
          begins = is.begins ∙ ap (take (length way)) rest.1 ∙ take-append-le (length way) entry rest.0 (omega (arith, less));
          keyed = is.keyed;
        })
    on (inr upto) = inr (ap (is_prefix entry) is.begins ∙ prefix_take entry path (length way) h upto)

-- a path is below itself
pub below_itself : (path : List PathStep) → is_prefix path path ≡ true
below_itself path = subst (λ (q : List PathStep). is_prefix path q ≡ true) (append_none path) (is_prefix-append path [])
  where
    append_none : (xs : List PathStep) → xs ++ [] ≡ xs
    append_none [] = refl
    append_none (x ∷ xs) = ap (λ l. x ∷ l) (append_none xs)

entry_changes : (path : List PathStep) (m : Config) (q : List PathStep) → IsInsideOne (entry_targets (Some path)) q ⊎ (get (put_item m path Entry) q ≡ get m q)
entry_changes path m q = on (put_item_cases m path Entry q)
  where
    on : ((q ≡ path) × (get (put_item m path Entry) q ≡ Some Entry)) ⊎ ((IsWay q path × (get (put_item m path Entry) q ≡ Some Entry)) ⊎ (get (put_item m path Entry) q ≡ get m q))
        → IsInsideOne (entry_targets (Some path)) q ⊎ (get (put_item m path Entry) q ≡ get m q)
    on (inl one) = inl (One path, first_in (One path) (Under path ∷ []), inl one.0)
    on (inr (inl one)) = inl (One path, first_in (One path) (Under path ∷ []), inr one.0)
    on (inr (inr same)) = inr same

-- an item of a body is put at or below the entry
put_changes : (entry path : List PathStep) (item : Item) (m : Config) (q : List PathStep) → is_prefix entry path ≡ true
    → IsInsideOne (entry_targets (Some entry)) q ⊎ (get (put_item m path item) q ≡ get m q)
put_changes entry path item m q below = on (put_item_cases m path item q)
  where
    at : is_prefix entry q ≡ true → IsInsideOne (entry_targets (Some entry)) q
    at h = (Under entry, later_in (One entry) (Under entry) (Under entry ∷ []) (first_in (Under entry) []), h)

    way : IsWay q entry ⊎ (is_prefix entry q ≡ true) → IsInsideOne (entry_targets (Some entry)) q
    way (inl above) = (One entry, first_in (One entry) (Under entry ∷ []), inr above)
    way (inr h) = at h

    on : ((q ≡ path) × (get (put_item m path item) q ≡ Some item)) ⊎ ((IsWay q path × (get (put_item m path item) q ≡ Some Entry)) ⊎ (get (put_item m path item) q ≡ get m q))
        → IsInsideOne (entry_targets (Some entry)) q ⊎ (get (put_item m path item) q ≡ get m q)
    on (inl one) = inl (at (ap (is_prefix entry) one.0 ∙ below))
    on (inr (inl one)) = inl (way (way_below entry path q below one.0))
    on (inr (inr same)) = inr same

puts_change : (entry : List PathStep) (puts : List Put) (m : Config) (q : List PathStep) → list_all (λ put. is_prefix entry put.path) puts ≡ true
    → IsInsideOne (entry_targets (Some entry)) q ⊎ (get (put_all puts m) q ≡ get m q)
puts_change entry [] m q h = inr refl
puts_change entry (put ∷ puts) m q h =
    on (put_changes entry put.path put.item m q (first_so (is_prefix entry put.path) _ h))
    (puts_change entry puts (put_item m put.path put.item) q (second_so (is_prefix entry put.path) _ h))
  where
    on : IsInsideOne (entry_targets (Some entry)) q ⊎ (get (put_item m put.path put.item) q ≡ get m q)
        → IsInsideOne (entry_targets (Some entry)) q ⊎ (get (put_all puts (put_item m put.path put.item)) q ≡ get (put_item m put.path put.item) q)
        → IsInsideOne (entry_targets (Some entry)) q ⊎ (get (put_all puts (put_item m put.path put.item)) q ≡ get m q)
    on (inl one) later = inl one
    on (inr one) (inl later) = inl later
    on (inr one) (inr later) = inr (later ∙ one)

body_below : (decls : Decls) (entry : List PathStep) (body : List Put) → is_body decls.data_schema entry body ≡ true
    → list_all (λ put. is_prefix entry put.path) body ≡ true
body_below decls entry body h =
    weaker body (second_so _ (list_all (is_body_item decls.data_schema entry) body) (first_so _ _ h))
  where
    weaker : (puts : List Put) → list_all (is_body_item decls.data_schema entry) puts ≡ true → list_all (λ put. is_prefix entry put.path) puts ≡ true
    weaker [] k = refl
    weaker (put ∷ puts) k =
        and_from (is_prefix entry put.path) (list_all (λ p. is_prefix entry p.path) puts)
        (first_so (is_prefix entry put.path) _ (second_so (is_put decls.data_schema put) _ (first_so (is_body_item decls.data_schema entry put) _ k)))
        (weaker puts (second_so (is_body_item decls.data_schema entry put) _ k))

enter_changes : (decls : Decls) (o : Option (List PathStep)) (body : List Put) (m : Config) (q : List PathStep)
    → option_map_or (λ entry. is_body decls.data_schema entry body) o false ≡ true
    → IsInsideOne (entry_targets o) q ⊎ (get (enter_service o body m) q ≡ get m q)
enter_changes decls None body m q h = inr refl
enter_changes decls (Some entry) body m q h =
    on (entry_changes entry m q) (puts_change entry body (put_item m entry Entry) q (body_below decls entry body h))
  where
    on : IsInsideOne (entry_targets (Some entry)) q ⊎ (get (put_item m entry Entry) q ≡ get m q)
        → IsInsideOne (entry_targets (Some entry)) q ⊎ (get (put_all body (put_item m entry Entry)) q ≡ get (put_item m entry Entry) q)
        → IsInsideOne (entry_targets (Some entry)) q ⊎ (get (put_all body (put_item m entry Entry)) q ≡ get m q)
    on (inl one) later = inl one
    on (inr one) (inl later) = inl later
    on (inr one) (inr later) = inr (later ∙ one)

-- removing a path takes what is at or below it
drop_changes : (path : List PathStep) (m : Config) (q : List PathStep) → (is_prefix path q ≡ true) ⊎ (get (drop_item m path) q ≡ get m q)
drop_changes path m q = on (is_removed_with path q) refl
  where
    below : (t : Bool) → cond t (is_prefix path q) (eq_by_cmp path_cmp path q) ≡ true → is_prefix path q ≡ true
    below true h = h
    below false h = subst (λ (x : List PathStep). is_prefix path x ≡ true) (same_path path q h) (below_itself path)

    on : (t : Bool) → is_removed_with path q ≡ t → (is_prefix path q ≡ true) ⊎ (get (drop_item m path) q ≡ get m q)
    on true is = inl (below (ends_in_keys path) is)
    on false is = inr (get-drop_item m path q ∙ ap (λ t. cond t None (get m q)) is)

leave_changes : (o : Option (List PathStep)) (m : Config) (q : List PathStep) → IsInsideOne (leave_targets o) q ⊎ (get (leave_service o m) q ≡ get m q)
leave_changes None m q = inr refl
leave_changes (Some path) m q = on (drop_changes path m q)
  where
    on : (is_prefix path q ≡ true) ⊎ (get (drop_item m path) q ≡ get m q) → IsInsideOne (leave_targets (Some path)) q ⊎ (get (drop_item m path) q ≡ get m q)
    on (inl h) = inl (Under path, first_in (Under path) [], h)
    on (inr same) = inr same

leave_inside : (o : Option (List PathStep)) (q : List PathStep) → IsInsideOne (leave_targets o) q → IsInsideOne (entry_targets o) q
leave_inside None q h = h
leave_inside (Some path) q h = (h.0, later_in (One path) h.0 (Under path ∷ []) h.1, h.2)

step_changes : (decls : Decls) (action : Action) (m : Config) (q : List PathStep) → is_action decls action ≡ true
    → IsInsideOne (targets_of action) q ⊎ (get (data_step m action) q ≡ get m q)
step_changes decls (Create id body) m q h = enter_changes decls (path_of id) body m q (second_so (is_service decls id) (has_body decls id body) h)
step_changes decls (Modify id body) m q h =
    on (leave_changes (path_of id) m q) (enter_changes decls (path_of id) body (leave_service (path_of id) m) q (second_so (is_service decls id) (has_body decls id body) h))
  where
    on : IsInsideOne (leave_targets (path_of id)) q ⊎ (get (leave_service (path_of id) m) q ≡ get m q)
        → IsInsideOne (entry_targets (path_of id)) q ⊎ (get (enter_service (path_of id) body (leave_service (path_of id) m)) q ≡ get (leave_service (path_of id) m) q)
        → IsInsideOne (entry_targets (path_of id)) q ⊎ (get (enter_service (path_of id) body (leave_service (path_of id) m)) q ≡ get m q)
    on (inl one) later = inl (leave_inside (path_of id) q one)
    on (inr one) (inl later) = inl later
    on (inr one) (inr later) = inr (later ∙ one)
step_changes decls (Delete id) m q h = leave_changes (path_of id) m q
step_changes decls (Set put) m q h = on (put_item_cases m put.path put.item q)
  where
    on : ((q ≡ put.path) × (get (put_item m put.path put.item) q ≡ Some put.item)) ⊎ ((IsWay q put.path × (get (put_item m put.path put.item) q ≡ Some Entry)) ⊎ (get (put_item m put.path put.item) q ≡ get m q))
        → IsInsideOne (One put.path ∷ []) q ⊎ (get (put_item m put.path put.item) q ≡ get m q)
    on (inl one) = inl (One put.path, first_in (One put.path) [], inl one.0)
    on (inr (inl one)) = inl (One put.path, first_in (One put.path) [], inr one.0)
    on (inr (inr same)) = inr same
step_changes decls (Unset path) m q h = on (drop_changes path m q)
  where
    on : (is_prefix path q ≡ true) ⊎ (get (drop_item m path) q ≡ get m q) → IsInsideOne (Under path ∷ []) q ⊎ (get (drop_item m path) q ≡ get m q)
    on (inl below) = inl (Under path, first_in (Under path) [], below)
    on (inr same) = inr same
step_changes decls other m q h = inr refl

behind_changes : (decls : Decls) (actions : List Action) (m : Config) (q : List PathStep) → All (λ action. is_action decls action ≡ true) actions
    → IsInsideOne (call_targets actions) q ⊎ (get (data_after actions m) q ≡ get m q)
behind_changes decls [] m q h = inr refl
behind_changes decls (action ∷ actions) m q h =
    on (step_changes decls action m q (All-head (λ (a : Action). is_action decls a ≡ true) action actions h))
    (behind_changes decls actions (data_step m action) q (All-tail (λ (a : Action). is_action decls a ≡ true) action actions h))
  where
    on : IsInsideOne (targets_of action) q ⊎ (get (data_step m action) q ≡ get m q)
        → IsInsideOne (call_targets actions) q ⊎ (get (data_after actions (data_step m action)) q ≡ get (data_step m action) q)
        → IsInsideOne (targets_of action ++ call_targets actions) q ⊎ (get (data_after actions (data_step m action)) q ≡ get m q)
    on (inl one) later = inl (one.0, Contains-append_left (targets_of action) (call_targets actions) one.0 one.1, one.2)
    on (inr one) (inl later) = inl (later.0, Contains-append_right (targets_of action) (call_targets actions) later.0 later.1, later.2)
    on (inr one) (inr later) = inr (later ∙ one)

-- each path of the data that actions change lies inside one of their targets
pub changes_are_targets : (decls : Decls) (actions : List Action) (config : Config) (path : List PathStep)
    → All (λ action. IsTrue (is_action decls action)) actions
    → get (data_after actions config) path ≢ get config path → IsInsideOne (call_targets actions) path
changes_are_targets decls actions config path h differs = on (behind_changes decls actions config path h)
  where
    on : IsInsideOne (call_targets actions) path ⊎ (get (data_after actions config) path ≡ get config path) → IsInsideOne (call_targets actions) path
    on (inl one) = one
    on (inr same) = absurd (differs same)

-- so the data after a lawful call differ inside its targets
pub differs_inside : (decls : Decls) (actions : List Action) (config : Config) → All (λ action. IsTrue (is_action decls action)) actions
    → DiffersInside (call_targets actions) config (data_after actions config)
differs_inside decls actions config lawful = λ path differs.
    changes_are_targets decls actions config path lawful (λ same. differs (sym same))
