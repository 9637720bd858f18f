-- A service of a list lives exactly where its entry stands in the data.
use Rattle.std.proofs.Common.{◌≡◌, ◌≢◌, ℕ, ◌<◌, Bool, true, false, cond, not, ◌&&◌, ◌||◌, List, [], ◌∷◌, length, All, IsTrue, None, Some, is_some, refl, sym, ap, subst, ◌∙◌, ◌⊎◌, inl, inr, arith}
use Rattle.std.specs.Prelude.{codes, if◌then◌else◌}
use Rattle.std.specs.declared.option.Option.{Option}
use Rattle.std.specs.declared.result.Result.{Result}
use Rattle.std.specs.declared.result.Result.TheVariants.{Ok, Err}
use Rattle.std.specs.Option.{option_map_or}
use Rattle.std.specs.List.{find, fold, list_all}
use Rattle.std.specs.Cmp.{first_so, second_so}
use Rattle.std.specs.Cmp.Lexicographic.{bytes_decides}
use Rattle.std.specs.Ordering.{eq_by_cmp}
use Rattle.std.specs.FinMap.{empty, get, get-empty}
use Rattle.std.proofs.lemmas.List.Elements.{All-head, All-tail}
use Rattle.std.proofs.lemmas.List.Sums.{AllPass-from_list_all}
use Rattle.orc_path.specs.Steps.{PathStep, ends_in_keys, has_keys, is_path}
use Rattle.orc_path.specs.Limits.{is_long_path}
use Rattle.orc_path.specs.Order.{is_prefix, path_cmp}
use Rattle.orc_path.specs.Configurations.{Config, IsWay, is_entry_of, is_removed_with, list_of, put_item}
use Rattle.orc_path.specs.Reading.{path_of}
use Rattle.orc_path.specs.declared.item.Item.{Item}
use Rattle.orc_path.specs.declared.item.Item.TheVariants.{Entry}
use Rattle.orc_path.proofs.ConfigurationLaws.{get-drop_item, get-put_item-elsewhere, get-put_item-here, put_item_cases, same_path}
use Rattle.orc_path.proofs.PathOf.{text_of_path}
use Rattle.orc_schema_nodes.specs.Schemas.{SchemaTable}
use Rattle.orc_call.specs.declared.answer.Answer.TheVariants.{Missing}
use Rattle.orc_call.specs.declared.call.Action.{Action}
use Rattle.orc_call.specs.declared.call.Action.TheVariants.{Create, Modify, Redeploy, Literal, Delete, Set, Unset, BasePut, BaseRemove}
use Rattle.orc_call.specs.declared.call.Call.{Call}
use Rattle.orc_call.specs.declared.call.DevicePut.{DevicePut}
use Rattle.orc_call.specs.declared.call.Put.{Put}
use Rattle.orc_template.specs.Expansions.{Expanding, Failed}
use Rattle.orc_services.specs.Services.{Serving, expansion_of, list_with}
use Rattle.orc_services.specs.Expanded.{as_literal, expanded_actions, expanded_action, writes_of}
use Rattle.orc_services.specs.declared.list.ServiceList.{ServiceList}
use Rattle.orc_datastore.specs.States.{Datastore, has_id, lives, opening}
use Rattle.orc_decls.specs.Devices.{device_entry, device_list_path, is_same_text}
use Rattle.orc_decls.specs.Openings.{enter_devices, opening_data, put_all}
use Rattle.orc_datastore.specs.Actions.{data_after, data_step, enter_service, leave_service, live_after, live_step}
use Rattle.orc_decls.specs.Calls.{is_service_among, service_of, services_once, has_body, is_action, is_body, is_body_item, is_call, is_data_item, is_data_path, is_kept, is_lawful_name, is_put, is_served, is_service, is_service_path, meets}
use Rattle.orc_datastore.specs.Next.{after, existence, existence_of, expanded_to, refusal, serving_on}
use Rattle.orc_datastore.specs.Histories.{fold_from, IsUnrefused}
use Rattle.orc_decls.specs.Declarations.{AreDecls, has_template, is_list_of_services, is_service_list}
use Rattle.orc_laws.specs.Services.{ServiceLivesWhereItStands}
use Rattle.orc_decls.specs.declared.declarations.Decls.{Decls}
use Rattle.orc_datastore.specs.declared.service.Service.{Service}
use Rattle.orc_datastore.proofs.Agreement.{or_none}
use Rattle.orc_laws.proofs.Data.{name_no_path}
use Rattle.orc_datastore.proofs.Expanded.{parted}
use Rattle.orc_decls.proofs.Fits.{call-actions, call-once, list_all_weaker}
use Rattle.orc_decls.proofs.Lists.{not_true, or_first, or_second, true_not_false}
use Rattle.orc_laws.proofs.Lone.{body_elsewhere, drop_elsewhere, entry_elsewhere, is_lone, leave_elsewhere, list_meets, lone_entry, lone_keyed, meets_list, put_elsewhere}
use Rattle.orc_laws.proofs.Made.{expanded_whole, named_once, no_ok, same_ok, step_makes, step_stays, step_takes}
use Rattle.orc_datastore.proofs.Named.{is_text_itself, other_way}
use Rattle.orc_datastore.proofs.Placed.{any_find}
use Rattle.orc_datastore.proofs.Planning.{below_itself}

-- what an action makes of the life of a service, and of its entry in the data

abbrev lives_step : List ℕ → Bool → Action → Bool
lives_step id b (Create own body) = is_same_text own id || b
lives_step id b (Modify own body) = is_same_text own id || b
lives_step id b (Redeploy own) = is_same_text own id || b
lives_step id b (Literal own writes) = is_same_text own id || b
lives_step id b (Delete own) = not (is_same_text own id) && b
lives_step id b other = b

abbrev stands_step : List ℕ → Bool → Action → Bool
stands_step id b (Create own body) = is_same_text own id || b
stands_step id b (Modify own body) = is_same_text own id || b
stands_step id b (Delete own) = not (is_same_text own id) && b
stands_step id b other = b

-- the action names the service
abbrev is_of : List ℕ → Action → Bool
is_of id action = option_map_or (λ own. is_same_text id own) (service_of action) false

lives_unnamed : (id : List ℕ) (b : Bool) (a : Action) → is_of id a ≡ false → lives_step id b a ≡ b
lives_unnamed id b (Create own body) h = ap (λ t. t || b) (other_way id own h)
lives_unnamed id b (Modify own body) h = ap (λ t. t || b) (other_way id own h)
lives_unnamed id b (Redeploy own) h = ap (λ t. t || b) (other_way id own h)
lives_unnamed id b (Literal own writes) h = ap (λ t. t || b) (other_way id own h)
lives_unnamed id b (Delete own) h = ap (λ t. not t && b) (other_way id own h)
lives_unnamed id b (Set put) h = refl
lives_unnamed id b (Unset path) h = refl
lives_unnamed id b (BasePut put) h = refl
lives_unnamed id b (BaseRemove device path) h = refl

stands_unnamed : (id : List ℕ) (b : Bool) (a : Action) → is_of id a ≡ false → stands_step id b a ≡ b
stands_unnamed id b (Create own body) h = ap (λ t. t || b) (other_way id own h)
stands_unnamed id b (Modify own body) h = ap (λ t. t || b) (other_way id own h)
stands_unnamed id b (Delete own) h = ap (λ t. not t && b) (other_way id own h)
stands_unnamed id b (Redeploy own) h = refl
stands_unnamed id b (Literal own writes) h = refl
stands_unnamed id b (Set put) h = refl
stands_unnamed id b (Unset path) h = refl
stands_unnamed id b (BasePut put) h = refl
stands_unnamed id b (BaseRemove device path) h = refl

all_unnamed : (id : List ℕ) (step : Bool → Action → Bool) → ((b : Bool) (a : Action) → is_of id a ≡ false → step b a ≡ b)
    → (actions : List Action) (b : Bool) → is_service_among actions id ≡ false → fold step b actions ≡ b
all_unnamed id step still [] b h = refl
all_unnamed id step still (a ∷ actions) b h =
    ap (λ c. fold step c actions) (still b a (or_first (is_of id a) (is_service_among actions id) h))
    ∙ all_unnamed id step still actions b (or_second (is_of id a) (is_service_among actions id) h)

-- the living services after expanded actions

literal_of : (names : List (List ℕ)) (id : List ℕ) (o : Option (Result Expanding Failed)) (a : Action) → (as_literal names id o).outcome ≡ Ok a
    → (writes : List DevicePut) × (a ≡ Literal id writes)
literal_of names id None a h = ([], sym (same_ok (Literal id []) a h))
literal_of names id (Some (Ok e)) a h = (writes_of names e.written, sym (same_ok _ a h))
literal_of names id (Some (Err failed)) a h = absurd (no_ok _ a h)

module _ (devices : List (List ℕ)) (id : List ℕ) where
  abbrev is_alive : List Service → Bool
  is_alive live = is_some (find (has_id id) live)

  makes : (live : List Service) (own : List ℕ) (writes : List DevicePut)
      → is_alive (live_step devices live (Literal own writes)) ≡ (is_same_text own id || is_alive live)
  makes live own writes = on (is_same_text own id) refl
    where
      on : (t : Bool) → is_same_text own id ≡ t → is_alive (live_step devices live (Literal own writes)) ≡ (t || is_alive live)
      on true is =
          ap (λ (x : List ℕ). is_alive (live_step devices live (Literal x writes))) ((bytes_decides own id).0 is)
          ∙ ap is_some (step_makes devices live id writes)
      on false is = ap is_some (step_stays devices live (Literal own writes) id (other_way own id is))

  takes : (live : List Service) (own : List ℕ) → is_alive (live_step devices live (Delete own)) ≡ (not (is_same_text own id) && is_alive live)
  takes live own = on (is_same_text own id) refl
    where
      on : (t : Bool) → is_same_text own id ≡ t → is_alive (live_step devices live (Delete own)) ≡ (not t && is_alive live)
      on true is =
          ap (λ (x : List ℕ). is_alive (live_step devices live (Delete x))) ((bytes_decides own id).0 is)
          ∙ ap is_some (step_takes devices live id)
      on false is = ap is_some (step_stays devices live (Delete own) id (other_way own id is))

  module _ (s : Serving) where
    made : (live : List Service) (own : List ℕ) (a : Action) → (as_literal s.devices.names own (expansion_of s own)).outcome ≡ Ok a
        → is_alive (live_step devices live a) ≡ (is_same_text own id || is_alive live)
    made live own a h =
        let literal = literal_of s.devices.names own (expansion_of s own) a h in
        ap (λ (x : Action). is_alive (live_step devices live x)) literal.1 ∙ makes live own literal.0

    one_lives : (live : List Service) (action a : Action) → (expanded_action s action).outcome ≡ Ok a
        → is_alive (live_step devices live a) ≡ lives_step id (is_alive live) action
    one_lives live (Create own body) a h = made live own a h
    one_lives live (Modify own body) a h = made live own a h
    one_lives live (Redeploy own) a h = made live own a h
    one_lives live (Literal own writes) a h =
        ap (λ (x : Action). is_alive (live_step devices live x)) (sym (same_ok (Literal own writes) a h)) ∙ makes live own writes
    one_lives live (Delete own) a h =
        ap (λ (x : Action). is_alive (live_step devices live x)) (sym (same_ok (Delete own) a h)) ∙ takes live own
    one_lives live (Set put) a h =
        ap (λ (x : Action). is_alive (live_step devices live x)) (sym (same_ok (Set put) a h)) ∙ ap is_some (step_stays devices live (Set put) id refl)
    one_lives live (Unset path) a h =
        ap (λ (x : Action). is_alive (live_step devices live x)) (sym (same_ok (Unset path) a h)) ∙ ap is_some (step_stays devices live (Unset path) id refl)
    one_lives live (BasePut put) a h =
        ap (λ (x : Action). is_alive (live_step devices live x)) (sym (same_ok (BasePut put) a h)) ∙ ap is_some (step_stays devices live (BasePut put) id refl)
    one_lives live (BaseRemove device path) a h =
        ap (λ (x : Action). is_alive (live_step devices live x)) (sym (same_ok (BaseRemove device path) a h))
        ∙ ap is_some (step_stays devices live (BaseRemove device path) id refl)

    all_live : (actions acts : List Action) (live : List Service) → (expanded_actions s actions).outcome ≡ Ok acts
        → is_alive (live_after devices acts live) ≡ fold (lives_step id) (is_alive live) actions
    all_live [] acts live h = ap (λ (l : List Action). is_alive (live_after devices l live)) (sym (same_ok [] acts h))
    all_live (action ∷ actions) acts live h =
        let p = parted (expanded_action s action).outcome (expanded_action s action).reads (expanded_actions s actions) acts h in
        ap (λ (l : List Action). is_alive (live_after devices l live)) p.whole
        ∙ all_live actions p.rest (live_step devices live p.one) p.later_is
        ∙ ap (λ b. fold (lives_step id) b actions) (one_lives live action p.one p.first_is)

-- the lists of services

listed_lone : (schema : SchemaTable) (lists : List ServiceList) (path : List PathStep) → list_all (is_list_of_services schema) lists ≡ true
    → is_some (list_with lists path) ≡ true → (is_lone path ≡ true) × (is_kept path ≡ false)
listed_lone schema [] path h k = absurd (true_not_false (sym k))
listed_lone schema (it ∷ lists) path h k = on (is_entry_of it.list path) refl k (listed_lone schema lists path (second_so (is_list_of_services schema it) _ h))
  where
    on : (t : Bool) → is_entry_of it.list path ≡ t → is_some (if t then Some it else list_with lists path) ≡ true
        → (is_some (list_with lists path) ≡ true → (is_lone path ≡ true) × (is_kept path ≡ false)) → (is_lone path ≡ true) × (is_kept path ≡ false)
    on true is e rest =
        let list : is_service_list schema it.list ≡ true =
        first_so (is_service_list schema it.list) (has_template schema it) (first_so (is_list_of_services schema it) (list_all (is_list_of_services schema) lists) h) in
        let same : list_of path ≡ it.list = same_path (list_of path) it.list (second_so (ends_in_keys path) (eq_by_cmp path_cmp (list_of path) it.list) is) in
        let bare : list_all (λ (step : PathStep). not (has_keys step)) it.list ≡ true =
        second_so (is_path it.list && not (is_long_path it.list)) _ (first_so _ _ (first_so _ _ (first_so _ _ list))) in (
          lone_entry path (first_so (ends_in_keys path) (eq_by_cmp path_cmp (list_of path) it.list) is)
              (subst (λ (l : List PathStep). list_all (λ (step : PathStep). not (has_keys step)) l ≡ true) (sym same) bare),
          sym (list_meets device_list_path path) ∙ ap is_kept same ∙ not_true (is_kept it.list) (second_so _ (not (is_kept it.list)) list),
        )
    on false is e rest = rest e

unserved_apart : (lists : List ServiceList) (path other : List PathStep) → is_some (list_with lists path) ≡ true → is_served lists other ≡ false
    → meets path other ≡ false
unserved_apart [] path other k h = absurd (true_not_false (sym k))
unserved_apart (it ∷ lists) path other k h =
    on (is_entry_of it.list path) refl k (λ later. unserved_apart lists path other later (or_second (meets it.list other) (is_served lists other) h))
  where
    on : (t : Bool) → is_entry_of it.list path ≡ t → is_some (if t then Some it else list_with lists path) ≡ true
        → (is_some (list_with lists path) ≡ true → meets path other ≡ false) → meets path other ≡ false
    on true is e rest =
        let same : list_of path ≡ it.list = same_path (list_of path) it.list (second_so (ends_in_keys path) (eq_by_cmp path_cmp (list_of path) it.list) is) in
        sym (meets_list path other) ∙ ap (λ (l : List PathStep). meets l other) same ∙ or_first (meets it.list other) (is_served lists other) h
    on false is e rest = rest e

-- an entry that stands goes on standing where items are put
put_keeps : (m : Config) (other : List PathStep) (item : Item) (path : List PathStep) → is_some (get m path) ≡ true
    → is_some (get (put_item m other item) path) ≡ true
put_keeps m other item path h = on (put_item_cases m other item path)
  where
    on : ((path ≡ other) × (get (put_item m other item) path ≡ Some item)) ⊎ ((IsWay path other × (get (put_item m other item) path ≡ Some Entry)) ⊎ (get (put_item m other item) path ≡ get m path))
        → is_some (get (put_item m other item) path) ≡ true
    on (inl here) = ap is_some here.1
    on (inr (inl way)) = ap is_some way.1
    on (inr (inr same)) = ap is_some same ∙ h

puts_keep : (puts : List Put) (m : Config) (path : List PathStep) → is_some (get m path) ≡ true → is_some (get (put_all puts m) path) ≡ true
puts_keep [] m path h = h
puts_keep (put ∷ puts) m path h = puts_keep puts (put_item m put.path put.item) path (put_keeps m put.path put.item path h)

module _ (decls : Decls) (is : AreDecls decls) (id : List ℕ) (path : List PathStep) (own : path_of id ≡ Some path)
    (listed : is_some (list_with decls.services path) ≡ true) where
  lone : is_lone path ≡ true
  lone = (listed_lone decls.data_schema decls.services path is.services listed).0

  abbrev is_there : Config → Bool
  is_there m = is_some (get m path)

  -- another service has another path
  other_entry : (other : List ℕ) (entry : List PathStep) → is_same_text other id ≡ false → path_of other ≡ Some entry → entry ≢ path
  other_entry other entry h found same =
      let text = (text_of_path path other (found ∙ ap Some same)).1 in
      let own_text = (text_of_path path id own).1 in
      true_not_false (sym ((bytes_decides other id).1 (sym text ∙ own_text)) ∙ h)

  service_lone : (entry : List PathStep) → is_service_path decls entry ≡ true → is_lone entry ≡ true
  service_lone entry h =
      (listed_lone decls.data_schema decls.services entry is.services
      (second_so (is_data_path decls.data_schema entry) (is_some (list_with decls.services entry)) h)).0

  body_below : (entry : List PathStep) (body : List Put) → is_body decls.data_schema entry body ≡ true
      → list_all (λ put. is_prefix entry put.path) body ≡ true
  body_below entry body h =
      list_all_weaker (is_body_item decls.data_schema entry) (λ put. is_prefix entry put.path)
      (λ put item. first_so (is_prefix entry put.path) _ (second_so (is_put decls.data_schema put) _ item)) body
      (second_so _ (list_all (is_body_item decls.data_schema entry) body) (first_so _ _ h))

  -- entering another service, and leaving it

  enter_other : (other : List ℕ) (body : List Put) (m : Config) → is_service decls other ≡ true → has_body decls other body ≡ true
      → is_same_text other id ≡ false → get (enter_service (path_of other) body m) path ≡ get m path
  enter_other other body m h k differ = on (path_of other) refl h k
    where
      on : (o : Option (List PathStep)) → path_of other ≡ o → option_map_or (is_service_path decls) o false ≡ true
          → option_map_or (λ entry. is_body decls.data_schema entry body) o false ≡ true → get (enter_service o body m) path ≡ get m path
      on None found e b = refl
      on (Some entry) found e b =
          body_elsewhere entry path (service_lone entry e) lone (other_entry other entry differ found) body (put_item m entry Entry) (body_below entry body b)
          ∙ entry_elsewhere entry path (service_lone entry e) lone (other_entry other entry differ found) m

  leave_other : (other : List ℕ) (m : Config) → is_service decls other ≡ true → is_same_text other id ≡ false
      → get (leave_service (path_of other) m) path ≡ get m path
  leave_other other m h differ = on (path_of other) refl h
    where
      on : (o : Option (List PathStep)) → path_of other ≡ o → option_map_or (is_service_path decls) o false ≡ true
          → get (leave_service o m) path ≡ get m path
      on None found e = refl
      on (Some entry) found e = leave_elsewhere entry path (service_lone entry e) lone (other_entry other entry differ found) m

  -- entering the service itself, and leaving it

  enter_own : (body : List Put) (m : Config) → is_there (enter_service (path_of id) body m) ≡ true
  enter_own body m =
      ap (λ o. is_there (enter_service o body m)) own
      ∙ puts_keep body (put_item m path Entry) path (ap is_some (get-put_item-here m path Entry))

  leave_own : (m : Config) → is_there (leave_service (path_of id) m) ≡ false
  leave_own m =
      ap (λ o. is_there (leave_service o m)) own
      ∙ ap is_some (get-drop_item m path path ∙ ap (λ t. cond t None (get m path)) removed)
    where
      removed : is_removed_with path path ≡ true
      removed = ap (λ t. cond t (is_prefix path path) (eq_by_cmp path_cmp path path)) (lone_keyed path lone) ∙ below_itself path

  -- what an action makes of the entry

  entered : (other : List ℕ) (body : List Put) (m n : Config) → is_service decls other ≡ true → has_body decls other body ≡ true
      → (is_same_text other id ≡ false → get n path ≡ get m path)
      → is_there (enter_service (path_of other) body n) ≡ (is_same_text other id || is_there m)
  entered other body m n h k same = on (is_same_text other id) refl
    where
      on : (t : Bool) → is_same_text other id ≡ t → is_there (enter_service (path_of other) body n) ≡ (t || is_there m)
      on true e = ap (λ (x : List ℕ). is_there (enter_service (path_of x) body n)) ((bytes_decides other id).0 e) ∙ enter_own body n
      on false e = ap is_some (enter_other other body n h k e ∙ same e)

  left : (other : List ℕ) (m : Config) → (is_lawful_name other || is_service decls other) ≡ true
      → is_there (leave_service (path_of other) m) ≡ (not (is_same_text other id) && is_there m)
  left other m h = on (is_same_text other id) refl
    where
      by : is_same_text other id ≡ false → (t : Bool) → is_lawful_name other ≡ t → (t || is_service decls other) ≡ true
          → get (leave_service (path_of other) m) path ≡ get m path
      by e true named k = ap (λ o. get (leave_service o m) path) (name_no_path other named)
      by e false named k = leave_other other m k e

      on : (t : Bool) → is_same_text other id ≡ t → is_there (leave_service (path_of other) m) ≡ (not t && is_there m)
      on true e = ap (λ (x : List ℕ). is_there (leave_service (path_of x) m)) ((bytes_decides other id).0 e) ∙ leave_own m
      on false e = ap is_some (by e (is_lawful_name other) refl h)

  step_stands : (m : Config) (action : Action) → is_action decls action ≡ true → is_there (data_step m action) ≡ stands_step id (is_there m) action
  step_stands m (Create other body) h =
      entered other body m m (first_so (is_service decls other) (has_body decls other body) h) (second_so (is_service decls other) (has_body decls other body) h) (λ e. refl)
  step_stands m (Modify other body) h =
      entered other body m (leave_service (path_of other) m) (first_so (is_service decls other) (has_body decls other body) h)
      (second_so (is_service decls other) (has_body decls other body) h)
      (λ e. leave_other other m (first_so (is_service decls other) (has_body decls other body) h) e)
  step_stands m (Delete other) h = left other m h
  step_stands m (Set put) h =
      ap is_some (put_elsewhere m put.path put.item path
      (unserved_apart decls.services path put.path listed
      (not_true (is_served decls.services put.path) (second_so (is_data_item decls.data_schema put) (not (is_served decls.services put.path)) h))))
  step_stands m (Unset other) h =
      ap is_some (drop_elsewhere m other path
      (unserved_apart decls.services path other listed
      (not_true (is_served decls.services other) (second_so (is_data_path decls.data_schema other) (not (is_served decls.services other)) h))))
  step_stands m (Redeploy other) h = refl
  step_stands m (Literal other writes) h = refl
  step_stands m (BasePut put) h = refl
  step_stands m (BaseRemove device other) h = refl

  all_stand : (actions : List Action) (m : Config) → All (λ a. is_action decls a ≡ true) actions
      → is_there (data_after actions m) ≡ fold (stands_step id) (is_there m) actions
  all_stand [] m h = refl
  all_stand (action ∷ actions) m h =
      let lawful : Action → Type 0 = λ a. is_action decls a ≡ true in
      all_stand actions (data_step m action) (All-tail lawful action actions h)
      ∙ ap (λ b. fold (stands_step id) b actions) (step_stands m action (All-head lawful action actions h))

  -- where no action is at fault the two come to the same

  lived : (live : List Service) (other : List ℕ) → existence_of live (Redeploy other) ≡ None → lives live other ≡ true
  lived live other h = on (lives live other) h
    where
      on : (t : Bool) → (if t then None else Some (Missing other)) ≡ None → t ≡ true
      on true e = refl
      on false e = let not_so : Some (Missing other) ≡ None = e in absurd cc

  one_agrees : (live : List Service) (a : Action) → is_action decls a ≡ true → existence_of live a ≡ None
      → stands_step id (is_some (find (has_id id) live)) a ≡ lives_step id (is_some (find (has_id id) live)) a
  one_agrees live (Create other body) h e = refl
  one_agrees live (Modify other body) h e = refl
  one_agrees live (Delete other) h e = refl
  one_agrees live (Redeploy other) h e = on (is_same_text other id) refl
    where
      on : (t : Bool) → is_same_text other id ≡ t → is_some (find (has_id id) live) ≡ (t || is_some (find (has_id id) live))
      on true same =
          sym (any_find (has_id id) live) ∙ ap (lives live) (sym ((bytes_decides other id).0 same)) ∙ lived live other e
      on false same = refl
  one_agrees live (Literal other writes) h e = on (is_same_text other id) refl
    where
      named : is_lawful_name other ≡ true
      named = first_so (is_lawful_name other) _ (first_so _ _ h)

      on : (t : Bool) → is_same_text other id ≡ t → is_some (find (has_id id) live) ≡ (t || is_some (find (has_id id) live))
      on true same =
          let not_so : None ≡ Some path = sym (name_no_path other named) ∙ ap path_of ((bytes_decides other id).0 same) ∙ own in absurd cc
      on false same = refl
  one_agrees live (Set put) h e = refl
  one_agrees live (Unset other) h e = refl
  one_agrees live (BasePut put) h e = refl
  one_agrees live (BaseRemove device other) h e = refl

  all_agree : (live : List Service) (actions : List Action) → All (λ a. is_action decls a ≡ true) actions → services_once actions ≡ true
      → existence live actions ≡ None
      → fold (stands_step id) (is_some (find (has_id id) live)) actions ≡ fold (lives_step id) (is_some (find (has_id id) live)) actions
  all_agree live [] h once e = refl
  all_agree live (a ∷ actions) h once e =
      let lawful : Action → Type 0 = λ x. is_action decls x ≡ true in
      let fault = or_none (existence_of live a) (existence live actions) e in
      ap (λ c. fold (stands_step id) c actions) (one_agrees live a (All-head lawful a actions h) fault.0)
      ∙ on (service_of a) refl (is_of id a) refl
      (all_agree live actions (All-tail lawful a actions h)
      (second_so (option_map_or (λ x. not (is_service_among actions x)) (service_of a) true) (services_once actions) once) fault.1)
    where
      b : Bool
      b = is_some (find (has_id id) live)

      -- one that names the service is the only one
      rest_unnamed : (o : Option (List ℕ)) → service_of a ≡ o → option_map_or (λ x. is_same_text id x) o false ≡ true → is_service_among actions id ≡ false
      rest_unnamed None is same = absurd (true_not_false (sym same))
      rest_unnamed (Some other) is same = named_once a actions id once (is ∙ ap Some (sym ((bytes_decides id other).0 same)))

      on : (o : Option (List ℕ)) → service_of a ≡ o → (t : Bool) → is_of id a ≡ t
          → fold (stands_step id) b actions ≡ fold (lives_step id) b actions
          → fold (stands_step id) (lives_step id b a) actions ≡ fold (lives_step id) (lives_step id b a) actions
      on o is true named rest =
          let none = rest_unnamed o is (sym (ap (λ x. option_map_or (λ y. is_same_text id y) x false) is) ∙ named) in
          all_unnamed id (stands_step id) (stands_unnamed id) actions (lives_step id b a) none
          ∙ sym (all_unnamed id (lives_step id) (lives_unnamed id) actions (lives_step id b a) none)
      on o is false named rest =
          subst (λ c. fold (stands_step id) c actions ≡ fold (lives_step id) c actions) (sym (lives_unnamed id b a named)) rest

  -- a call keeps that the service lives where its entry stands

  call_keeps : (state : Datastore) (call : Call) → is_call decls call ≡ true → refusal decls state call ≡ None
      → lives state.live id ≡ is_there state.data → lives (after decls state call).live id ≡ is_there (after decls state call).data
  call_keeps state call lawful h before =
      let config = data_after call.actions state.data in
      let s = serving_on decls config in
      let whole = expanded_whole decls state call h in
      let actions = AllPass-from_list_all (is_action decls) call.actions (call-actions decls call lawful) in
      let alive = is_some (find (has_id id) state.live) in
      any_find (has_id id) (after decls state call).live
      ∙ ap (λ r. is_some (find (has_id id) (live_after decls.names (expanded_to r) state.live))) whole.1
      ∙ all_live decls.names id s call.actions whole.0 state.live whole.1
      ∙ sym (all_agree state.live call.actions actions (call-once decls call lawful) (or_none (existence state.live call.actions) _ h).0)
      ∙ ap (λ b. fold (stands_step id) b call.actions) (sym (any_find (has_id id) state.live) ∙ before)
      ∙ sym (all_stand call.actions state.data actions)

  calls_keep : (state : Datastore) (calls : List Call) → All (λ call. IsTrue (is_call decls call)) calls → IsUnrefused decls state calls
      → lives state.live id ≡ is_there state.data → lives (fold_from decls state calls).live id ≡ is_there (fold_from decls state calls).data
  calls_keep state [] lawful h before = before
  calls_keep state (call ∷ calls) lawful h before =
      let all : Call → Type 0 = λ c. IsTrue (is_call decls c) in
      calls_keep (after decls state call) calls (All-tail all call calls lawful) h.1
      (call_keeps state call (All-head all call calls lawful) h.0 before)

  -- the opening has none

  puts_bare : (puts : List Put) (m : Config) → list_all (λ put. not (is_served decls.services put.path)) puts ≡ true → get m path ≡ None
      → get (put_all puts m) path ≡ None
  puts_bare [] m h none = none
  puts_bare (put ∷ puts) m h none =
      let served : Put → Bool = λ p. not (is_served decls.services p.path) in
      puts_bare puts (put_item m put.path put.item) (second_so (served put) (list_all served puts) h)
      (put_elsewhere m put.path put.item path
      (unserved_apart decls.services path put.path listed (not_true (is_served decls.services put.path) (first_so (served put) (list_all served puts) h)))
      ∙ none)

  -- the entry of a device is no other one, and nothing stands on its way
  device_apart : (name : List ℕ) → path ≢ device_entry name
  device_apart name same =
      let kept : is_kept (device_entry name) ≡ true = ap (λ t. t && true) (is_text_itself (codes "orc:device")) in
      true_not_false (sym kept ∙ ap is_kept (sym same) ∙ (listed_lone decls.data_schema decls.services path is.services listed).1)

  no_way : (other : List PathStep) (name : List ℕ) → IsWay other (device_entry name) → ⊥
  no_way [] name way = true_not_false (sym way.keyed)
  no_way (step ∷ other) name way = let less : length (step ∷ other) < 1 = way.shorter in omega (arith, less)

  devices_bare : (names : List (List ℕ)) (m : Config) → get m path ≡ None → get (enter_devices names m) path ≡ None
  devices_bare [] m none = none
  devices_bare (name ∷ names) m none =
      devices_bare names (put_item m (device_entry name) Entry)
      (get-put_item-elsewhere m (device_entry name) Entry path (device_apart name) (no_way path name) ∙ none)

  pub opening_bare : get (opening_data decls.names decls.data) path ≡ None
  opening_bare = devices_bare decls.names (put_all decls.data empty) (puts_bare decls.data empty is.served (get-empty path_cmp path))

pub lives_where_it_stands : ServiceLivesWhereItStands
lives_where_it_stands decls history id path is legal own listed =
    calls_keep decls is id path own listed (opening decls) history legal.lawful legal.unrefused
    (sym (ap is_some (opening_bare decls is id path own listed)))
