-- What actions make of the services that they name: one that none names stays, and of one that is named is left what
-- its action makes.
use Rattle.std.proofs.Common.{◌≡◌, ℕ, Bool, true, false, cond, not, ◌||◌, List, [], ◌∷◌, ◌++◌, ◌⊎◌, inl, inr, All, IsTrue, None, Some, is_some, refl, sym, ap, subst, ◌∙◌, append_assoc}
use Rattle.std.specs.Prelude.{if◌then◌else◌, option_map}
use Rattle.std.specs.declared.option.Option.{Option}
use Rattle.std.specs.declared.result.Result.{Result}
use Rattle.std.specs.declared.result.Result.TheVariants.{Ok, Err}
use Rattle.std.specs.Option.{option_and_then, option_map_or, option_or}
use Rattle.std.specs.List.{filter, find, Contains}
use Rattle.std.specs.Cmp.{first_so, second_so}
use Rattle.std.specs.Cmp.Lexicographic.{bytes_decides}
use Rattle.std.proofs.lemmas.List.Elements.{All-nil, All-cons, All-head, All-tail, All-weaker, All-contains, Contains-push}
use Rattle.std.proofs.lemmas.List.Folds.{find-append}
use Rattle.std.proofs.lemmas.List.Sums.{AllPass-from_list_all}
use Rattle.orc_path.specs.Steps.{PathStep}
use Rattle.orc_path.specs.Configurations.{Config}
use Rattle.orc_path.specs.Reading.{path_of}
use Rattle.orc_call.specs.declared.answer.Answer.{Answer}
use Rattle.orc_call.specs.declared.call.Action.{Action}
use Rattle.orc_call.specs.declared.call.Action.TheVariants.{Create, Modify, Redeploy, Literal, Delete, Set, Unset, BasePut, BaseRemove}
use Rattle.orc_call.specs.declared.call.Call.{Call}
use Rattle.orc_call.specs.declared.call.DevicePut.{DevicePut}
use Rattle.orc_template.specs.Devices.{DeviceTable}
use Rattle.orc_template.specs.Expansions.{Expanding, Failed}
use Rattle.orc_template.specs.Said.{template_json}
use Rattle.orc_services.specs.Services.{Instance, Serving, expansion_at, expansion_of, instance_at, instance_of, list_with}
use Rattle.orc_services.specs.Expanded.{as_literal, expanded_actions, expanded_action, writes_of}
use Rattle.orc_services.specs.declared.list.ServiceList.{ServiceList}
use Rattle.orc_datastore.specs.States.{Datastore, expansion, has_id, opening}
use Rattle.orc_decls.specs.Devices.{is_same_text}
use Rattle.orc_datastore.specs.Actions.{data_after, is_named_by, live_after, live_step, names, new_services}
use Rattle.orc_decls.specs.Calls.{is_service_among, service_of, services_once, has_body, is_action, is_call, is_service, is_service_path}
use Rattle.orc_datastore.specs.Next.{after, clash, existence, expanded_call, expanded_to, invalid, refusal, serving_on, unexpanded}
use Rattle.orc_decls.specs.Declarations.{AreDecls}
use Rattle.orc_datastore.specs.Histories.{fold_from}
use Rattle.orc_datastore.specs.Legal.{IsLegal, state_of}
use Rattle.orc_laws.specs.Making.{HoldsExpansion, IsLeftBy, service_named}
use Rattle.orc_laws.specs.Services.{IsLastMade, LivingIsLastMade, ServiceHoldsItsExpansion, UnnamedServiceStays}
use Rattle.orc_datastore.specs.Laws.{LiteralIsExpansion}
use Rattle.orc_laws.specs.Histories.{NamesOther}
use Rattle.orc_decls.specs.declared.declarations.Decls.{Decls}
use Rattle.orc_datastore.specs.declared.service.Service.{Service}
use Rattle.orc_datastore.proofs.Agreement.{first_in, later_in, or_none}
use Rattle.orc_datastore.proofs.Expanded.{all_named, other_unnamed, parted}
use Rattle.orc_decls.proofs.Fits.{call-actions, call-once}
use Rattle.orc_datastore.proofs.Legality.{legal_front, unrefused_last, fold_from-append}
use Rattle.orc_decls.proofs.Lists.{filter_passes, not_true, or_first, or_second, true_not_false}
use Rattle.orc_datastore.proofs.Named.{is_text_itself, made_others}

pub same_ok : {X E : Type 0} (x y : X) → ◌≡◌ {A = Result X E} (Ok x) (Ok y) → x ≡ y
same_ok x y h = cc

pub no_ok : {X E : Type 0} (e : E) (y : X) → ◌≡◌ {A = Result X E} (Err e) (Ok y) → ⊥
no_ok e y h = cc

same_some : (x y : List ℕ) → Some x ≡ Some y → x ≡ y
same_some x y h = cc

-- what is found

find_none : {X : Type 0} (p : X → Bool) (xs : List X) → All (λ x. p x ≡ false) xs → find p xs ≡ None
find_none p [] h = refl
find_none p (x ∷ xs) h =
    ap (λ t. if t then Some x else find p xs) (All-head (λ y. p y ≡ false) x xs h)
    ∙ find_none p xs (All-tail (λ y. p y ≡ false) x xs h)

find_kept : {X : Type 0} (p q : X → Bool) (xs : List X) → ((x : X) → p x ≡ true → q x ≡ true) → find p (filter q xs) ≡ find p xs
find_kept p q [] h = refl
find_kept p q (x ∷ xs) h = on (q x) refl (p x) refl (find_kept p q xs h)
  where
    on : (s : Bool) → q x ≡ s → (t : Bool) → p x ≡ t → find p (filter q xs) ≡ find p xs
        → find p (cond s (x ∷ filter q xs) (filter q xs)) ≡ (if t then Some x else find p xs)
    on true is true e rest = ap (λ b. if b then Some x else find p (filter q xs)) e
    on true is false e rest = ap (λ b. if b then Some x else find p (filter q xs)) e ∙ rest
    on false is true e rest = absurd (true_not_false (sym (h x e) ∙ is))
    on false is false e rest = rest

or_nothing : {X : Type 0} (o : Option X) → option_or o None ≡ o
or_nothing None = refl
or_nothing (Some x) = refl

-- a service that an action doesn't name stays
pub step_stays : (devices : List (List ℕ)) (live : List Service) (a : Action) (id : List ℕ) → names a id ≡ false
    → find (has_id id) (live_step devices live a) ≡ find (has_id id) live
step_stays devices live a id h =
    find-append (has_id id) (filter left live) (new_services devices a)
    ∙ ap (λ o. option_or (find (has_id id) (filter left live)) o) (find_none (has_id id) (new_services devices a) (made_others devices a id h))
    ∙ or_nothing (find (has_id id) (filter left live)) ∙ find_kept (has_id id) left live kept
  where
    left : Service → Bool
    left s = not (names a s.id)

    kept : (s : Service) → has_id id s ≡ true → left s ≡ true
    kept s e = ap (λ (x : List ℕ). not (names a x)) ((bytes_decides s.id id).0 e) ∙ ap not h

pub unnamed_stays : (devices : List (List ℕ)) (acts : List Action) (live : List Service) (id : List ℕ) → is_named_by acts id ≡ false
    → find (has_id id) (live_after devices acts live) ≡ find (has_id id) live
unnamed_stays devices [] live id h = refl
unnamed_stays devices (a ∷ acts) live id h =
    unnamed_stays devices acts (live_step devices live a) id (or_second (names a id) (is_named_by acts id) h)
    ∙ step_stays devices live a id (or_first (names a id) (is_named_by acts id) h)

-- of one that is named, none is left of those before
gone : (a : Action) (live : List Service) (id : List ℕ) → ((s : Service) → names a s.id ≡ has_id id s)
    → find (has_id id) (filter (λ s. not (names a s.id)) live) ≡ None
gone a live id same =
    find_none (has_id id) (filter left live)
    (All-weaker (λ s. left s ≡ true) (λ s. has_id id s ≡ false) (λ s e. sym (same s) ∙ not_true (names a s.id) e) (filter left live) (filter_passes left live))
  where
    left : Service → Bool
    left s = not (names a s.id)

pub step_makes : (devices : List (List ℕ)) (live : List Service) (id : List ℕ) (writes : List DevicePut)
    → find (has_id id) (live_step devices live (Literal id writes)) ≡ Some (record { id = id; parts = expansion devices writes })
step_makes devices live id writes =
    let made : Service = record { id = id; parts = expansion devices writes } in
    find-append (has_id id) (filter (λ s. not (names (Literal id writes) s.id)) live) (made ∷ [])
    ∙ ap (λ o. option_or o (find (has_id id) (made ∷ []))) (gone (Literal id writes) live id (λ s. refl))
    ∙ ap (λ t. if t then Some made else None) (is_text_itself id)

pub step_takes : (devices : List (List ℕ)) (live : List Service) (id : List ℕ) → find (has_id id) (live_step devices live (Delete id)) ≡ None
step_takes devices live id =
    find-append (has_id id) (filter (λ s. not (names (Delete id) s.id)) live) []
    ∙ ap (λ o. option_or o None) (gone (Delete id) live id (λ s. refl))

-- what the actions of a call that isn't refused come to
pub expanded_whole : (decls : Decls) (s : Datastore) (call : Call) → refusal decls s call ≡ None
    → (acts : List Action) × (expanded_call decls s call ≡ Ok acts)
expanded_whole decls s call h = on (expanded_call decls s call) refl
  where
    none : unexpanded (expanded_call decls s call) ≡ None
    none =
        let acts = expanded_call decls s call in
        let first = or_none (existence s.live call.actions) _ h in
        let second = or_none (invalid decls.data_schema (data_after call.actions s.data))
        (option_or (unexpanded acts) (clash decls.names s.live (expanded_to acts))) first.1 in
        (or_none (unexpanded acts) (clash decls.names s.live (expanded_to acts)) second.1).0

    on : (r : Result (List Action) Answer) → expanded_call decls s call ≡ r → (acts : List Action) × (expanded_call decls s call ≡ Ok acts)
    on (Ok acts) is = (acts, is)
    on (Err answer) is = let not_so : Some answer ≡ None = sym (ap unexpanded is) ∙ none in absurd cc

-- a later action doesn't name the service of the first
pub named_once : (action : Action) (actions : List Action) (id : List ℕ) → services_once (action ∷ actions) ≡ true → service_of action ≡ Some id
    → is_service_among actions id ≡ false
named_once action actions id once named =
    not_true (is_service_among actions id)
    (sym (ap (λ o. option_map_or (λ x. not (is_service_among actions x)) o true) named)
    ∙ first_so (option_map_or (λ x. not (is_service_among actions x)) (service_of action) true) (services_once actions) once)

module _ (law : LiteralIsExpansion) (decls : Decls) (is : AreDecls decls) (config : Config) where
  abbrev s : Serving
  s = serving_on decls config

  -- a service of a list has a template
  instance_there : (id : List ℕ) → is_service decls id ≡ true → (it : Instance) × (instance_of decls.services id ≡ Some it)
  instance_there id h = on (path_of id) h
    where
      at : (path : List PathStep) (l : Option ServiceList) → is_some l ≡ true
          → (it : Instance) × (option_map (λ (x : ServiceList). record { path = path; template = template_json x.template }) l ≡ Some it)
      at path None e = absurd (true_not_false (sym e))
      at path (Some l) e = (record { path = path; template = template_json l.template }, refl)

      on : (o : Option (List PathStep)) → option_map_or (is_service_path decls) o false ≡ true
          → (it : Instance) × (option_and_then (instance_at decls.services) o ≡ Some it)
      on None e = absurd (true_not_false (sym e))
      on (Some path) e = at path (list_with decls.services path) (second_so _ (is_some (list_with decls.services path)) e)

  expanded_at : (live : List Service) (id : List ℕ) (it : Instance) (a : Action) → instance_of decls.services id ≡ Some it
      → (due : Result Expanding Failed) → expansion_at s it ≡ due → (as_literal decls.table.names id (Some due)).outcome ≡ Ok a
      → HoldsExpansion decls config id (find (has_id id) (live_step decls.names live a))
  expanded_at live id it a named (Ok e) due h =
      let writes = writes_of decls.table.names e.written in
      record {
        it = it;
        template = named;
        e = e;
        expanded = due;
        holds =
            ap (λ (x : Action). find (has_id id) (live_step decls.names live x)) (sym (same_ok (Literal id writes) a h))
            ∙ step_makes decls.names live id writes
            ∙ ap (λ (parts : List Config). Some (record { id = id; parts = parts }))
            (ap (λ (t : DeviceTable). expansion decls.names (writes_of t.names e.written)) is.table ∙ law decls config it e is due);
      }
  expanded_at live id it a named (Err failed) due h = absurd (no_ok _ a h)

  expanded_so : (live : List Service) (own id : List ℕ) (a : Action) → is_service decls own ≡ true → own ≡ id
      → (as_literal decls.table.names own (expansion_of s own)).outcome ≡ Ok a
      → HoldsExpansion decls config own (find (has_id id) (live_step decls.names live a))
  expanded_so live own id a service same h =
      let there = instance_there own service in
      subst (λ (x : List ℕ). HoldsExpansion decls config own (find (has_id x) (live_step decls.names live a))) same
      (expanded_at live own there.0 a there.1 (expansion_at s there.0) refl
      (sym (ap (λ o. (as_literal decls.table.names own (option_map (expansion_at s) o)).outcome) there.1) ∙ h))

  one_left : (live : List Service) (action a : Action) (id : List ℕ) → is_action decls action ≡ true → service_of action ≡ Some id
      → (expanded_action s action).outcome ≡ Ok a → IsLeftBy decls config action (find (has_id id) (live_step decls.names live a))
  one_left live (Create own body) a id h named e =
      expanded_so live own id a (first_so (is_service decls own) (has_body decls own body) h) (same_some own id named) e
  one_left live (Modify own body) a id h named e =
      expanded_so live own id a (first_so (is_service decls own) (has_body decls own body) h) (same_some own id named) e
  one_left live (Redeploy own) a id h named e = expanded_so live own id a h (same_some own id named) e
  one_left live (Literal own writes) a id h named e =
      ap (λ (x : Action). find (has_id id) (live_step decls.names live x)) (sym (same_ok (Literal own writes) a e))
      ∙ ap (λ (x : List ℕ). find (has_id x) (live_step decls.names live (Literal own writes))) (sym (same_some own id named))
      ∙ step_makes decls.names live own writes
  one_left live (Delete own) a id h named e =
      ap (λ (x : Action). find (has_id id) (live_step decls.names live x)) (sym (same_ok (Delete own) a e))
      ∙ ap (λ (x : List ℕ). find (has_id x) (live_step decls.names live (Delete own))) (sym (same_some own id named))
      ∙ step_takes decls.names live own
  one_left live (Set put) a id h named e = tt
  one_left live (Unset path) a id h named e = tt
  one_left live (BasePut put) a id h named e = tt
  one_left live (BaseRemove device path) a id h named e = tt

  -- what is left after all actions
  abbrev LeftIn : List Action → List Service → Action → Type 0
  LeftIn acts live action =
      (id : List ℕ) → service_of action ≡ Some id → IsLeftBy decls config action (find (has_id id) (live_after decls.names acts live))

  pub all_left : (live : List Service) (actions acts : List Action) → All (λ a. is_action decls a ≡ true) actions → services_once actions ≡ true
      → (expanded_actions s actions).outcome ≡ Ok acts → All (LeftIn acts live) actions
  all_left live [] acts h once e = All-nil (LeftIn acts live)
  all_left live (action ∷ actions) acts h once e =
      let p = parted (expanded_action s action).outcome (expanded_action s action).reads (expanded_actions s actions) acts e in
      let lawful : Action → Type 0 = λ a. is_action decls a ≡ true in
      subst (λ (l : List Action). All (LeftIn l live) (action ∷ actions)) (sym p.whole)
      (All-cons (LeftIn (p.one ∷ p.rest) live) action actions
      (λ id named. subst (IsLeftBy decls config action)
      (sym (unnamed_stays decls.names p.rest (live_step decls.names live p.one) id
      (all_named s actions p.rest p.later_is id ∙ named_once action actions id once named)))
      (one_left live action p.one id (All-head lawful action actions h) named p.first_is))
      (all_left (live_step decls.names live p.one) actions p.rest (All-tail lawful action actions h)
      (second_so (option_map_or (λ x. not (is_service_among actions x)) (service_of action) true) (services_once actions) once) p.later_is))

-- laws

pub services_stay : UnnamedServiceStays
services_stay decls state [] id h = refl
services_stay decls state (call ∷ calls) id h =
    services_stay decls (after decls state call) calls id (All-tail (NamesOther id) call calls h)
    ∙ unnamed_stays decls.names (expanded_to (expanded_call decls state call)) state.live id
    (other_unnamed (serving_on decls (data_after call.actions state.data)) call.actions id (All-head (NamesOther id) call calls h))

pub service_holds : LiteralIsExpansion → ServiceHoldsItsExpansion
service_holds law decls state call later action id is lawful unrefused among named other =
    let whole = expanded_whole decls state call unrefused in
    let actions = AllPass-from_list_all (is_action decls) call.actions (call-actions decls call lawful) in
    let config = data_after call.actions state.data in
    let left = all_left law decls is config state.live call.actions whole.0 actions (call-once decls call lawful) whole.1 in
    subst (IsLeftBy decls config action) (sym (services_stay decls (after decls state call) later id other))
    (subst (λ r. IsLeftBy decls config action (find (has_id id) (live_after decls.names (expanded_to r) state.live))) (sym whole.1)
    (All-contains (LeftIn law decls is config whole.0 state.live) call.actions action left among id named))

-- the last call that names a service

record LastNaming (id : List ℕ) (history : List Call) : Type 0 where
  before : List Call
  call : Call
  later : List Call
  whole : history ≡ before ++ call ∷ later
  naming : is_service_among call.actions id ≡ true
  other : All (NamesOther id) later

last_naming : (id : List ℕ) (history : List Call) → All (NamesOther id) history ⊎ LastNaming id history
last_naming id [] = inl (All-nil (NamesOther id))
last_naming id (call ∷ calls) = on (last_naming id calls)
  where
    by : All (NamesOther id) calls → (t : Bool) → is_service_among call.actions id ≡ t → All (NamesOther id) (call ∷ calls) ⊎ LastNaming id (call ∷ calls)
    by others true is = inr (record { before = []; call = call; later = calls; whole = refl; naming = is; other = others })
    by others false is = inl (All-cons (NamesOther id) call calls is others)

    on : All (NamesOther id) calls ⊎ LastNaming id calls → All (NamesOther id) (call ∷ calls) ⊎ LastNaming id (call ∷ calls)
    on (inl others) = by others (is_service_among call.actions id) refl
    on (inr last) = inr (record {
      before = call ∷ last.before;
      call = last.call;
      later = last.later;
      whole = ap (λ (l : List Call). call ∷ l) last.whole;
      naming = last.naming;
      other = last.other;
    })

naming_action : (actions : List Action) (id : List ℕ) → is_service_among actions id ≡ true
    → (action : Action) × Contains actions action × (service_of action ≡ Some id)
naming_action [] id h = absurd (true_not_false (sym h))
naming_action (action ∷ actions) id h = on (service_of action) refl h (naming_action actions id)
  where
    rest_so : ((action' : Action) × Contains actions action' × (service_of action' ≡ Some id))
        → (action' : Action) × Contains (action ∷ actions) action' × (service_of action' ≡ Some id)
    rest_so found = (found.0, later_in action found.0 actions found.1, found.2)

    on : (o : Option (List ℕ)) → service_of action ≡ o → (option_map_or (λ own. is_same_text id own) o false || is_service_among actions id) ≡ true
        → (is_service_among actions id ≡ true → (action' : Action) × Contains actions action' × (service_of action' ≡ Some id))
        → (action' : Action) × Contains (action ∷ actions) action' × (service_of action' ≡ Some id)
    on None is e rest = rest_so (rest e)
    on (Some own) is e rest = by (is_same_text id own) refl e
      where
        by : (t : Bool) → is_same_text id own ≡ t → (t || is_service_among actions id) ≡ true
            → (action' : Action) × Contains (action ∷ actions) action' × (service_of action' ≡ Some id)
        by true same k = (action, first_in action actions, is ∙ ap Some (sym ((bytes_decides id own).0 same)))
        by false same k = rest_so (rest k)

pub last_made : LiteralIsExpansion → LivingIsLastMade
last_made law decls history id service is legal found = on (last_naming id history)
  where
    on : All (NamesOther id) history ⊎ LastNaming id history → IsLastMade decls history id service
    on (inl others) =
        let not_so : None ≡ Some service = sym (services_stay decls (opening decls) history id others) ∙ found in absurd cc
    on (inr last) =
        let front = legal_front decls (last.before ++ last.call ∷ []) last.later
        (subst (IsLegal decls) (last.whole ∙ sym (append_assoc last.before (last.call ∷ []) last.later)) legal) in
        let lawful : Call → Type 0 = λ c. IsTrue (is_call decls c) in
        let one = naming_action last.call.actions id last.naming in
        let at = state_of decls last.before in
        let behind : service_named (fold_from decls at (last.call ∷ last.later)) id ≡ Some service =
        ap (λ (z : Datastore). service_named z id) (sym (ap (fold_from decls (opening decls)) last.whole ∙ fold_from-append decls (opening decls) last.before (last.call ∷ last.later)))
        ∙ found in
        record {
          before = last.before;
          call = last.call;
          later = last.later;
          whole = last.whole;
          action = one.0;
          among = one.1;
          names = one.2;
          other = last.other;
          left =
              subst (IsLeftBy decls (after decls at last.call).data one.0) behind
              (service_holds law decls at last.call last.later one.0 id is
              (All-contains lawful (last.before ++ last.call ∷ []) last.call front.lawful (Contains-push last.before last.call))
              (unrefused_last decls (opening decls) last.before last.call front.unrefused) one.1 one.2 last.other);
        }
