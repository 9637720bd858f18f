-- What a plan holds, what a call leaves that it doesn't hold, and how plans that fit stand after one another.
use Rattle.std.proofs.Common.{◌≡◌, ◌≢◌, ◌⊎◌, inl, inr, ℕ, zero, suc, ◌+◌, ◌<◌, ◌≤◌, ◌==◌, Bool, true, false, cond, not, ◌&&◌, ◌||◌, List, [], ◌∷◌, ◌++◌, length, map, All, None, Some, refl, sym, ap, ◌∙◌, subst, arith, append-nil}
use Rattle.std.specs.declared.option.Option.{Option}
use Rattle.std.specs.declared.result.Result.{Result}
use Rattle.std.specs.declared.result.Result.TheVariants.{Ok, Err}
use Rattle.std.specs.Option.{option_map_or, option_or, option_to_list}
use Rattle.std.specs.List.{filter, fold, list_all, list_any, range_with_len, Contains}
use Rattle.std.specs.FinMap.{empty, get, len, len-empty}
use Rattle.std.specs.Cmp.{first_so, second_so, tied_itself}
use Rattle.std.specs.Cmp.Lexicographic.{bytes_decides, nat_list_cmp_total}
use Rattle.std.specs.Ordering.{is_eq}
use Rattle.std.proofs.Math.Path.{fun_ext}
use Rattle.std.proofs.lemmas.Bool.{cases_lt, eq-eqb, false≢true}
use Rattle.std.proofs.lemmas.List.Elements.{All-contains, All-nil, All-cons, All-head, All-tail, Contains-append_left, filter-append}
use Rattle.std.proofs.lemmas.List.Sums.{AllPass-from_list_all}
use Rattle.orc_path.specs.Steps.{PathStep}
use Rattle.orc_path.specs.Order.{path_cmp}
use Rattle.orc_path.specs.declared.item.Item.{Item}
use Rattle.orc_path.specs.declared.item.Write.TheVariants as write
use Rattle.orc_path.specs.Configurations.{Config, overlay}
use Rattle.orc_call.specs.declared.answer.Answer.{Answer}
use Rattle.orc_call.specs.declared.answer.Answer.TheVariants.{Exists, Missing}
use Rattle.orc_call.specs.declared.call.Action.{Action}
use Rattle.orc_call.specs.declared.call.Action.TheVariants.{Create, Modify, Redeploy, Literal, Delete}
use Rattle.orc_call.specs.declared.call.Call.{Call}
use Rattle.orc_expr.specs.Touches.{Covers, write_touches, write_touches_any}
use Rattle.orc_expr.specs.declared.read.Read.{Read}
use Rattle.orc_expr.specs.declared.read.Read.TheVariants as read
use Rattle.orc_queue.specs.Fitting.{CoversNone, FitTogether, share_no_device}
use Rattle.orc_queue.specs.declared.held.Held.{Held}
use Rattle.orc_template.specs.declared.expansion.Expansion.{Expansion}
use Rattle.orc_services.specs.Expanded.{ExpandedTo, expanded_action, expanded_actions}
use Rattle.orc_services.specs.Laws.{ExpandedStands}
use Rattle.orc_services.specs.Services.{Serving}
use Rattle.orc_datastore.specs.States.{Datastore, config_of, has_id, lives, part, tree_due}
use Rattle.orc_decls.specs.Devices.{is_same_text, name_of}
use Rattle.orc_datastore.specs.Actions.{base_step, bases_after, data_after, is_named_by, live_after, live_step, names, new_services}
use Rattle.orc_decls.specs.Calls.{is_service_among, service_of}
use Rattle.orc_datastore.specs.Next.{after, clash, existence, existence_of, expanded_call, expanded_to, invalid, serving_on, unexpanded}
use Rattle.orc_decls.specs.Declarations.{AreDecls}
use Rattle.orc_datastore.specs.Histories.{fold_from}
use Rattle.orc_plans.specs.Plans.{ChangesAreHeld, EachAlong, FitsBeside, HeldStay, LeavesReads, PlanRefusesFirst, PlanStands, PlannedStands, PlannedTreeIsStable, StandsOn, UnheldStay, UnreadPlanStands}
use Rattle.orc_datastore.specs.Laws.{LiteralIsExpansion}
use Rattle.orc_datastore.specs.Plans.{IsInsideOne, call_expansions, call_held, call_reads, call_targets, plan_refusal, planned, services_named, plan_unless}
use Rattle.orc_datastore.specs.Touched.{is_held_by, is_touched_among, is_touched_by, is_written_by, touched_among, touched_devices}
use Rattle.orc_decls.specs.declared.declarations.Decls.{Decls}
use Rattle.orc_datastore.specs.declared.plan.Plan.{Plan}
use Rattle.orc_datastore.specs.declared.service.Service.{Service}
use Rattle.orc_datastore.proofs.Agreement.{first_in, in_cases, later_in, none_in_nil, or_none}
use Rattle.orc_datastore.proofs.Bases.{bases-count}
use Rattle.orc_datastore.proofs.Expanded.{err_no_ok, ok_same, one_serves, other_unnamed, parted}
use Rattle.orc_decls.proofs.Lists.{filter-filter, filter_from, or_first, or_second, or_true}
use Rattle.orc_datastore.proofs.Named.{made_others}
use Rattle.orc_datastore.proofs.Planning.{changes_are_targets}
use Rattle.orc_plans.proofs.Unread.{comes_unread, unread_apart}
use Rattle.orc_datastore.proofs.Residents.{not_so, text_swap}
use Rattle.orc_datastore.proofs.Sighting.{expansions_are}
use Rattle.orc_datastore.proofs.Blank.{blank_part, holds_nothing}
use Rattle.orc_plans.proofs.Untouched.{base_untouched, laid, laid-blank, untouched_stay}

-- what refuses a call

or_again : (a b c d : Option Answer) → option_or a (option_or b (option_or c d)) ≡ option_or (option_or a (option_or b c)) d
or_again (Some x) b c d = refl
or_again None (Some x) c d = refl
or_again None None c d = refl

pub plan_refuses_first : PlanRefusesFirst
plan_refuses_first decls state call =
    or_again (existence state.live call.actions) (invalid decls.data_schema (data_after call.actions state.data))
    (unexpanded (expanded_call decls state call)) (clash decls.names state.live (expanded_to (expanded_call decls state call)))

-- what a plan is

planned_is : (o : Option Answer) (due plan : Plan) → plan_unless o due ≡ Ok plan → (o ≡ None) × (due ≡ plan)
planned_is None due plan h = (refl, ok_same due plan h)
planned_is (Some answer) due plan h = absurd (err_no_ok answer plan h)

-- it stands where it is made
is_planned : (decls : Decls) (state : Datastore) (front : ℕ) (call : Call) (plan : Plan) → planned decls state front call ≡ Ok plan → StandsOn decls state call plan
is_planned decls state front call plan h =
    let due : Plan = record { front = front; held = call_held decls state call; expansions = call_expansions decls state call; next = data_after call.actions state.data } in
    let is = planned_is (plan_refusal decls state call) due plan h in
    let broken = invalid decls.data_schema (data_after call.actions state.data) in
    let last = unexpanded (expanded_call decls state call) in
    let first = or_none (existence state.live call.actions) (option_or broken last) is.0 in
    let second = or_none broken last first.1 in
    record {
      exist = first.0;
      expanded = second.1;
      held = ap (λ (p : Plan). p.held) is.1;
      expansions = ap (λ (p : Plan). p.expansions) is.1;
    }

pub expanded_ok : (r : Result (List Action) Answer) → unexpanded r ≡ None → r ≡ Ok (expanded_to r)
expanded_ok (Ok acts) h = refl
expanded_ok (Err answer) h = cc

-- the devices that it holds

among_numbers : (p : ℕ → Bool) (k n d : ℕ) → p d ≡ true → k ≤ d → d < k + n → Contains (filter p (range_with_len k n)) d
among_numbers p k zero d passes from upto = absurd (omega (arith, from, upto))
among_numbers p k (suc n) d passes from upto = on (cases_lt k d) (among_numbers p (k + 1) n d passes)
  where
    first : k ≡ d → Contains (cond (p k) (k ∷ filter p (range_with_len (k + 1) n)) (filter p (range_with_len (k + 1) n))) d
    first same =
        subst (λ t. Contains (cond t (k ∷ filter p (range_with_len (k + 1) n)) (filter p (range_with_len (k + 1) n))) d) (sym (ap p same ∙ passes))
        (subst (λ x. Contains (k ∷ filter p (range_with_len (k + 1) n)) x) same (first_in k (filter p (range_with_len (k + 1) n))))

    later : (t : Bool) → Contains (filter p (range_with_len (k + 1) n)) d → Contains (cond t (k ∷ filter p (range_with_len (k + 1) n)) (filter p (range_with_len (k + 1) n))) d
    later true c = later_in k d (filter p (range_with_len (k + 1) n)) c
    later false c = c

    on : (k < d) ⊎ (d ≤ k) → (k + 1 ≤ d → d < k + 1 + n → Contains (filter p (range_with_len (k + 1) n)) d) → Contains (cond (p k) (k ∷ filter p (range_with_len (k + 1) n)) (filter p (range_with_len (k + 1) n))) d
    on (inl less) rest = later (p k) (rest (omega (arith, less)) (omega (arith, upto)))
    on (inr least) rest = first (omega (arith, from, least))

pub held_device : (decls : Decls) (state : Datastore) (call : Call) (held : Held) (d : ℕ) → call_held decls state call ≡ held → d < length decls.names
    → is_touched_among decls.names state (expanded_to (expanded_call decls state call)) d ≡ true → Contains held.devices d
held_device decls state call held d is within h =
    subst (λ (x : Held). Contains x.devices d) is
    (among_numbers (is_touched_among decls.names state (expanded_to (expanded_call decls state call))) 0 (length decls.names) d h (omega arith) (omega (arith, within)))

untouched_so : (decls : Decls) (state : Datastore) (call : Call) (held : Held) (d : ℕ) → call_held decls state call ≡ held → d < length decls.names
    → (Contains held.devices d → ⊥) → is_touched_among decls.names state (expanded_to (expanded_call decls state call)) d ≡ false
untouched_so decls state call held d is within off =
    not_so (is_touched_among decls.names state (expanded_to (expanded_call decls state call)) d) (λ h.
    off (held_device decls state call held d is within h))

pub unheld_stay : UnheldStay
unheld_stay decls state front call plan d h within off =
    let is = is_planned decls state front call plan h in
    let untouched = untouched_so decls state call plan.held d is.held within off in
    (untouched_stay decls state call d untouched, base_untouched decls state (expanded_to (expanded_call decls state call)) d untouched)

-- the services that it holds

named_in : (actions : List Action) (id : List ℕ) → is_service_among actions id ≡ true → Contains (services_named actions) id
named_in [] id h = absurd (false≢true h)
named_in (action ∷ actions) id h = on (service_of action) h (named_in actions id)
  where
    here : (own : List ℕ) (t : Bool) → is_same_text id own ≡ t → (t || is_service_among actions id) ≡ true
        → (is_service_among actions id ≡ true → Contains (services_named actions) id) → Contains (own ∷ services_named actions) id
    here own true is k rest =
        subst (λ (x : List ℕ). Contains (own ∷ services_named actions) x) (sym ((bytes_decides id own).0 is)) (first_in own (services_named actions))
    here own false is k rest = later_in own id (services_named actions) (rest k)

    on : (o : Option (List ℕ)) → (option_map_or (λ own. is_same_text id own) o false || is_service_among actions id) ≡ true
        → (is_service_among actions id ≡ true → Contains (services_named actions) id)
        → Contains (option_to_list o ++ services_named actions) id
    on None k rest = rest k
    on (Some own) k rest = here own (is_same_text id own) refl k rest

pub changes_are_held : ChangesAreHeld
changes_are_held decls state front call plan lawful h =
    let is = is_planned decls state front call plan h in (
      λ path differs.
          subst (λ (x : Held). IsInsideOne x.targets path) is.held (changes_are_targets decls call.actions state.data path lawful differs),
      λ id named. subst (λ (x : Held). Contains x.services id) is.held (named_in call.actions id named),
    )

-- calls that share no service

among_named : (actions : List Action) (id : List ℕ) → list_any (λ it. is_same_text it id) (services_named actions) ≡ is_service_among actions id
among_named [] id = refl
among_named (action ∷ actions) id = on (service_of action) (among_named actions id)
  where
    on : (o : Option (List ℕ)) → list_any (λ it. is_same_text it id) (services_named actions) ≡ is_service_among actions id
        → list_any (λ it. is_same_text it id) (option_to_list o ++ services_named actions)
        ≡ (option_map_or (λ own. is_same_text id own) o false || is_service_among actions id)
    on None rest = rest
    on (Some own) rest = ap (λ t. t || list_any (λ it. is_same_text it id) (services_named actions)) (text_swap own id) ∙ ap (λ t. is_same_text id own || t) rest

-- none of these actions names a service that the others name
abbrev AreApart : List Action → List Action → Type 0
AreApart others [] = Unit {0}
AreApart others (action ∷ actions) = (option_map_or (is_service_among others) (service_of action) false ≡ false) × AreApart others actions

not_none : (b : Bool) → not b ≡ true → b ≡ false
not_none true h = cc
not_none false h = refl

apart : (others actions : List Action)
    → list_all (λ id. not (list_any (λ it. is_same_text it id) (services_named others))) (services_named actions) ≡ true → AreApart others actions
apart others [] h = tt
apart others (action ∷ actions) h = on (service_of action) h (apart others actions)
  where
    on : (o : Option (List ℕ))
        → list_all (λ id. not (list_any (λ it. is_same_text it id) (services_named others))) (option_to_list o ++ services_named actions) ≡ true
        → (list_all (λ id. not (list_any (λ it. is_same_text it id) (services_named others))) (services_named actions) ≡ true → AreApart others actions)
        → (option_map_or (is_service_among others) o false ≡ false) × AreApart others actions
    on None k rest = (refl, rest k)
    on (Some own) k rest = (
      sym (among_named others own)
          ∙ not_none (list_any (λ it. is_same_text it own) (services_named others))
          (first_so (not (list_any (λ it. is_same_text it own) (services_named others)))
          (list_all (λ id. not (list_any (λ it. is_same_text it id) (services_named others))) (services_named actions)) k),
      rest (second_so (not (list_any (λ it. is_same_text it own) (services_named others)))
          (list_all (λ id. not (list_any (λ it. is_same_text it id) (services_named others))) (services_named actions)) k),
    )

-- nor do what they come to
made_apart : (s : Serving) (others actions made : List Action) → (expanded_actions s actions).outcome ≡ Ok made → AreApart others actions → AreApart others made
made_apart s others [] made h a = subst (AreApart others) (ok_same [] made h) tt
made_apart s others (action ∷ actions) made h a =
    let p = parted (expanded_action s action).outcome (expanded_action s action).reads (expanded_actions s actions) made h in
    subst (AreApart others) (sym p.whole)
    (ap (λ o. option_map_or (is_service_among others) o false) (one_serves s action p.one p.first_is) ∙ a.0, made_apart s others actions p.rest p.later_is a.1)

-- what is so of the living services of a name is so after actions that don't name it

module _ (devices : List (List ℕ)) (q : Service → Bool) (id : List ℕ) where
  abbrev mine : Service → Bool
  mine s = has_id id s && q s

  kept_mine : (action : Action) (live : List Service) → names action id ≡ false
      → list_any mine (filter (λ s. not (names action s.id)) live) ≡ list_any mine live
  kept_mine action [] h = refl
  kept_mine action (x ∷ xs) h = on (kept_mine action xs h) (names action x.id) refl (has_id id x) refl
    where
      on : list_any mine (filter (λ (s : Service). not (names action s.id)) xs) ≡ list_any mine xs
          → (t : Bool) → names action x.id ≡ t → (u : Bool) → has_id id x ≡ u
          → list_any mine (cond (not t) (x ∷ filter (λ (s : Service). not (names action s.id)) xs) (filter (λ (s : Service). not (names action s.id)) xs)) ≡ ((has_id id x && q x) || list_any mine xs)
      on rest false is u own = ap (λ t. mine x || t) rest
      on rest true is true own = absurd (false≢true (sym h ∙ ap (names action) (sym ((bytes_decides x.id id).0 own)) ∙ is))
      on rest true is false own = rest ∙ sym (ap (λ t. (t && q x) || list_any mine xs) own)

  none_mine : (xs : List Service) → All (λ s. is_same_text s.id id ≡ false) xs → list_any mine xs ≡ false
  none_mine [] h = refl
  none_mine (x ∷ xs) h =
      ap (λ t. (t && q x) || list_any mine xs) (All-head (λ (s : Service). is_same_text s.id id ≡ false) x xs h)
      ∙ none_mine xs (All-tail (λ (s : Service). is_same_text s.id id ≡ false) x xs h)

  any_both : (xs ys : List Service) → list_any mine ys ≡ false → list_any mine (xs ++ ys) ≡ list_any mine xs
  any_both [] ys h = h
  any_both (x ∷ xs) ys h = ap (λ t. mine x || t) (any_both xs ys h)

  pub mine_behind : (actions : List Action) (live : List Service) → is_named_by actions id ≡ false
      → list_any mine (live_after devices actions live) ≡ list_any mine live
  mine_behind [] live h = refl
  mine_behind (action ∷ actions) live h =
      let unnamed = or_first (names action id) (is_named_by actions id) h in
      mine_behind actions (live_step devices live action) (or_second (names action id) (is_named_by actions id) h)
      ∙ any_both (filter (λ s. not (names action s.id)) live) (new_services devices action)
      (none_mine (new_services devices action) (made_others devices action id unnamed))
      ∙ kept_mine action live unnamed

any_so : (id : List ℕ) (live : List Service) → list_any (λ s. has_id id s && true) live ≡ lives live id
any_so id [] = refl
any_so id (x ∷ xs) = ap (λ t. t || list_any (λ (s : Service). has_id id s && true) xs) (on (has_id id x)) ∙ ap (λ t. has_id id x || t) (any_so id xs)
  where
    on : (t : Bool) → (t && true) ≡ t
    on true = refl
    on false = refl

-- a call after another one that fits

module _ (decls : Decls) (state : Datastore) (others acts : List Action)
    (named : (id : List ℕ) → is_service_among others id ≡ false → is_named_by acts id ≡ false) where
  abbrev behind : List Service
  behind = live_after decls.names acts state.live

  lives_same : (id : List ℕ) → is_service_among others id ≡ false → lives behind id ≡ lives state.live id
  lives_same id off =
      sym (any_so id behind) ∙ mine_behind decls.names (λ s. true) id acts state.live (named id off) ∙ any_so id state.live

  fault_same : (action : Action) → option_map_or (is_service_among others) (service_of action) false ≡ false
      → existence_of behind action ≡ existence_of state.live action
  fault_same (Create id body) off = ap (λ t. cond t (Some (Exists id)) None) (lives_same id off)
  fault_same (Modify id body) off = ap (λ t. cond t None (Some (Missing id))) (lives_same id off)
  fault_same (Redeploy id) off = ap (λ t. cond t None (Some (Missing id))) (lives_same id off)
  fault_same (Literal id writes) off = ap (λ t. cond t (Some (Exists id)) None) (lives_same id off)
  fault_same (Delete id) off = ap (λ t. cond t None (Some (Missing id))) (lives_same id off)
  fault_same other off = refl

  faults_same : (actions : List Action) → AreApart others actions → existence behind actions ≡ existence state.live actions
  faults_same [] a = refl
  faults_same (action ∷ actions) a =
      ap (λ o. option_or o (existence behind actions)) (fault_same action a.0)
      ∙ ap (option_or (existence_of state.live action)) (faults_same actions a.1)

  module _ (new : Datastore) (is : new.live ≡ behind) where
    held_same : (id : List ℕ) (d : ℕ) → is_service_among others id ≡ false → list_any (is_held_by id d) new.live ≡ list_any (is_held_by id d) state.live
    held_same id d off =
        ap (list_any (is_held_by id d)) is ∙ mine_behind decls.names (λ s. not (len (part s d) == 0)) id acts state.live (named id off)

    touched_one : (d : ℕ) (action : Action) → option_map_or (is_service_among others) (service_of action) false ≡ false
        → is_touched_by decls.names new d action ≡ is_touched_by decls.names state d action
    touched_one d (Literal id writes) off = ap (λ t. is_written_by writes (name_of decls.names d) || t) (held_same id d off)
    touched_one d (Delete id) off = held_same id d off
    touched_one d other off = refl

    touched_all : (d : ℕ) (actions : List Action) → AreApart others actions
        → is_touched_among decls.names new actions d ≡ is_touched_among decls.names state actions d
    touched_all d [] a = refl
    touched_all d (action ∷ actions) a =
        ap (λ t. t || is_touched_among decls.names new actions d) (touched_one d action a.0)
        ∙ ap (λ t. is_touched_by decls.names state d action || t) (touched_all d actions a.1)

    devices_same : (actions : List Action) → AreApart others actions → touched_among decls.names new actions ≡ touched_among decls.names state actions
    devices_same actions a =
        ap (λ (f : ℕ → Bool). filter f (range_with_len 0 (length decls.names))) (fun_ext (λ d. touched_all d actions a))

-- what a call holds on a state on which its actions aren't at fault and can be expanded
pub record HoldsOn (decls : Decls) (state : Datastore) (call : Call) (held : Held) : Type 0 where
  pub exist : existence state.live call.actions ≡ None
  pub expanded : unexpanded (expanded_call decls state call) ≡ None
  pub is : call_held decls state call ≡ held

-- another call changes nothing that the expansions of this one read, and names none of its services
pub record LeavesCall (decls : Decls) (state : Datastore) (call other : Call) : Type 0 where
  pub unread : (path : List PathStep) → get (data_after other.actions state.data) path ≢ get state.data path
      → write_touches_any (call_reads decls state call) (write.At path) ≡ false
  pub apart : AreApart other.actions call.actions

-- what a call holds after one that leaves it

module _ (stands : ExpandedStands) (decls : Decls) (state : Datastore) (call other : Call) (held : Held)
    (own : HoldsOn decls state call held) (leaves : LeavesCall decls state call other) where
  abbrev after_other : Datastore
  after_other = after decls state other

  abbrev made : List Action
  made = expanded_to (expanded_call decls state call)

  abbrev other_made : List Action
  other_made = expanded_to (expanded_call decls state other)

  abbrev config : Config
  config = data_after call.actions state.data

  comes : expanded_actions (serving_on decls (data_after call.actions after_other.data)) call.actions ≡ expanded_actions (serving_on decls config) call.actions
  comes = comes_unread stands decls state call other leaves.unread

  pub same_expanded : expanded_call decls after_other call ≡ expanded_call decls state call
  same_expanded = ap (λ (x : ExpandedTo (List Action)). x.outcome) comes

  other_named : (id : List ℕ) → is_service_among other.actions id ≡ false → is_named_by other_made id ≡ false
  other_named = other_unnamed (serving_on decls (data_after other.actions state.data)) other.actions

  apart_made : AreApart other.actions made
  apart_made =
      made_apart (serving_on decls config) other.actions call.actions made (expanded_ok (expanded_call decls state call) own.expanded) leaves.apart

  same_existence : existence after_other.live call.actions ≡ None
  same_existence = faults_same decls state other.actions other_made other_named call.actions leaves.apart ∙ own.exist

  pub same_touched : (d : ℕ) → is_touched_among decls.names after_other made d ≡ is_touched_among decls.names state made d
  same_touched d = touched_all decls state other.actions other_made other_named after_other refl d made apart_made

  same_devices : touched_devices decls after_other call ≡ touched_devices decls state call
  same_devices =
      ap (λ r. touched_among decls.names after_other (expanded_to r)) same_expanded
      ∙ devices_same decls state other.actions other_made other_named after_other refl made apart_made

  abbrev holds : List ℕ → List Read → Held
  holds devices reads = record {
    devices = devices;
    services = services_named call.actions;
    reads = record { reads = reads ++ map read.Service (services_named call.actions) };
    targets = call_targets call.actions;
  }

  same_held : call_held decls after_other call ≡ held
  same_held =
      ap (λ (devices : List ℕ). holds devices (call_reads decls after_other call)) same_devices
      ∙ ap (λ (x : ExpandedTo (List Action)). holds (touched_devices decls state call) x.reads) comes ∙ own.is

  pub holds_on : HoldsOn decls after_other call held
  holds_on = record { exist = same_existence; expanded = ap unexpanded same_expanded ∙ own.expanded; is = same_held }

-- and after many

module _ (stands : ExpandedStands) (decls : Decls) (call : Call) (held : Held) (IsSo : Datastore → Call → Type 0)
    (leaves : (state : Datastore) (other : Call) → HoldsOn decls state call held → IsSo state other → LeavesCall decls state call other) where
  pub holds_along : (state : Datastore) (others : List Call) → HoldsOn decls state call held → EachAlong IsSo decls state others
      → HoldsOn decls (fold_from decls state others) call held
  holds_along state [] own h = own
  holds_along state (other ∷ others) own h =
      holds_along (after decls state other) others (holds_on stands decls state call other held own (leaves state other own h.0)) h.1

  pub expanded_along : (state : Datastore) (others : List Call) → HoldsOn decls state call held → EachAlong IsSo decls state others
      → expanded_call decls (fold_from decls state others) call ≡ expanded_call decls state call
  expanded_along state [] own h = refl
  expanded_along state (other ∷ others) own h =
      expanded_along (after decls state other) others (holds_on stands decls state call other held own (leaves state other own h.0)) h.1
      ∙ same_expanded stands decls state call other held own (leaves state other own h.0)

-- calls that fit, and calls of which no write touches a read, leave it

pub leaves_fit : (decls : Decls) (call : Call) (held : Held) (state : Datastore) (other : Call)
    → HoldsOn decls state call held → FitsBeside decls held state other → LeavesCall decls state call other
leaves_fit decls call held state other own h =
    let fit : FitTogether (call_held decls state call) (call_held decls state other) =
    subst (λ (x : Held). FitTogether x (call_held decls state other)) (sym own.is) h.1 in
    record {
      unread = unread_apart decls state call other h.0 (λ target reading within among covers.
          All-contains (λ r. Covers target r → ⊥) (call_reads decls state call ++ map read.Service (services_named call.actions)) reading
          (All-contains (CoversNone (call_reads decls state call ++ map read.Service (services_named call.actions))) (call_targets other.actions) target fit.keeps_reads within)
          (Contains-append_left (call_reads decls state call) (map read.Service (services_named call.actions)) reading among) covers);
      apart = apart other.actions call.actions fit.services;
    }

any_front : {X : Type 0} (p : X → Bool) (xs ys : List X) → list_any p (xs ++ ys) ≡ false → list_any p xs ≡ false
any_front p [] ys h = refl
any_front p (x ∷ xs) ys h = ap (λ t. t || list_any p xs) (or_first (p x) (list_any p (xs ++ ys)) h) ∙ any_front p xs ys (or_second (p x) (list_any p (xs ++ ys)) h)

any_back : {X : Type 0} (p : X → Bool) (xs ys : List X) → list_any p (xs ++ ys) ≡ false → list_any p ys ≡ false
any_back p [] ys h = h
any_back p (x ∷ xs) ys h = any_back p xs ys (or_second (p x) (list_any p (xs ++ ys)) h)

touches_itself : (id : List ℕ) → write_touches (write.Service id) (read.Service id) ≡ true
touches_itself id = ap is_eq (tied_itself nat_list_cmp_total id)

-- no action names a service of which there is a read that isn't touched
apart_unread : (others actions : List Action)
    → ((id : List ℕ) → is_service_among others id ≡ true → write_touches_any (map read.Service (services_named actions)) (write.Service id) ≡ false)
    → AreApart others actions
apart_unread others [] h = tt
apart_unread others (action ∷ actions) h = on (service_of action) h (apart_unread others actions)
  where
    unnamed : (own : List ℕ) (rest : List Read) (t : Bool) → is_service_among others own ≡ t
        → (t ≡ true → write_touches_any (read.Service own ∷ rest) (write.Service own) ≡ false) → t ≡ false
    unnamed own rest false is k = refl
    unnamed own rest true is k =
        absurd (false≢true (sym (or_first (write_touches (write.Service own) (read.Service own)) (write_touches_any rest (write.Service own)) (k refl)) ∙ touches_itself own))

    on : (o : Option (List ℕ))
        → ((id : List ℕ) → is_service_among others id ≡ true → write_touches_any (map read.Service (option_to_list o ++ services_named actions)) (write.Service id) ≡ false)
        → (((id : List ℕ) → is_service_among others id ≡ true → write_touches_any (map read.Service (services_named actions)) (write.Service id) ≡ false) → AreApart others actions)
        → (option_map_or (is_service_among others) o false ≡ false) × AreApart others actions
    on None k rest = (refl, rest k)
    on (Some own) k rest = (
      unnamed own (map read.Service (services_named actions)) (is_service_among others own) refl (k own),
      rest (λ id named. or_second (write_touches (write.Service id) (read.Service own))
          (write_touches_any (map read.Service (services_named actions)) (write.Service id)) (k id named)),
    )

leaves_reads : (decls : Decls) (call : Call) (held : Held) (state : Datastore) (other : Call)
    → HoldsOn decls state call held → LeavesReads held.reads.reads state other → LeavesCall decls state call other
leaves_reads decls call held state other own h =
    let all : LeavesReads (call_reads decls state call ++ map read.Service (services_named call.actions)) state other =
    subst (λ (x : Held). LeavesReads x.reads.reads state other) (sym own.is) h in
    record {
      unread = λ path differs.
          any_front (write_touches (write.At path)) (call_reads decls state call) (map read.Service (services_named call.actions)) (all (write.At path) differs);
      apart = apart_unread other.actions call.actions (λ id named.
          any_back (write_touches (write.Service id)) (call_reads decls state call) (map read.Service (services_named call.actions)) (all (write.Service id) named));
    }

-- what a plan says

pub holds_of : (decls : Decls) (state : Datastore) (call : Call) (plan : Plan) → StandsOn decls state call plan → HoldsOn decls state call plan.held
holds_of decls state call plan own = record { exist = own.exist; expanded = own.expanded; is = own.held }

-- expansions are what the actions come to
same_expansions : LiteralIsExpansion → (decls : Decls) (state behind : Datastore) (call : Call) → AreDecls decls
    → unexpanded (expanded_call decls state call) ≡ None → expanded_call decls behind call ≡ expanded_call decls state call
    → call_expansions decls behind call ≡ call_expansions decls state call
same_expansions law decls state behind call are expanded same =
    let made = expanded_to (expanded_call decls state call) in
    let is : expanded_call decls state call ≡ Ok made = expanded_ok (expanded_call decls state call) expanded in
    expansions_are law decls are (data_after call.actions behind.data) call.actions made (same ∙ is)
    ∙ sym (expansions_are law decls are (data_after call.actions state.data) call.actions made is)

stands_again : LiteralIsExpansion → (decls : Decls) (state behind : Datastore) (call : Call) (plan : Plan) → AreDecls decls
    → StandsOn decls state call plan → HoldsOn decls behind call plan.held → expanded_call decls behind call ≡ expanded_call decls state call
    → StandsOn decls behind call plan
stands_again law decls state behind call plan are own again same = record {
  exist = again.exist;
  expanded = again.expanded;
  held = again.is;
  expansions = same_expansions law decls state behind call are own.expanded same ∙ own.expansions;
}

pub unread_plan_stands : ExpandedStands → LiteralIsExpansion → UnreadPlanStands
unread_plan_stands stands law decls state call plan others are own h =
    let IsSo : Datastore → Call → Type 0 = LeavesReads plan.held.reads.reads in
    let first = holds_of decls state call plan own in
    let leaves = leaves_reads decls call plan.held in
    let same = expanded_along stands decls call plan.held IsSo leaves state others first h in
    (stands_again law decls state (fold_from decls state others) call plan are own (holds_along stands decls call plan.held IsSo leaves state others first h) same, same)

pub plan_stands : ExpandedStands → LiteralIsExpansion → PlanStands
plan_stands stands law decls state call plan others are own h =
    let IsSo : Datastore → Call → Type 0 = FitsBeside decls plan.held in
    let first = holds_of decls state call plan own in
    let leaves = leaves_fit decls call plan.held in
    let same = expanded_along stands decls call plan.held IsSo leaves state others first h in
    (stands_again law decls state (fold_from decls state others) call plan are own (holds_along stands decls call plan.held IsSo leaves state others first h) same, same)

-- where it stands and the data is valid, it is the plan
stands_planned : (decls : Decls) (state : Datastore) (front : ℕ) (call : Call) (plan : Plan) → StandsOn decls state call plan
    → invalid decls.data_schema (data_after call.actions state.data) ≡ None
    → planned decls state front call ≡ Ok (record { front = front; held = plan.held; expansions = plan.expansions; next = data_after call.actions state.data })
stands_planned decls state front call plan own valid =
    let made_plan : Held → List (List ℕ × Expansion) → Plan = λ held es. record { front = front; held = held; expansions = es; next = data_after call.actions state.data } in
    let due = made_plan (call_held decls state call) (call_expansions decls state call) in
    ap (λ o. plan_unless (option_or o (option_or (invalid decls.data_schema (data_after call.actions state.data)) (unexpanded (expanded_call decls state call)))) due) own.exist
    ∙ ap (λ o. plan_unless (option_or o (unexpanded (expanded_call decls state call))) due) valid
    ∙ ap (λ o. plan_unless o due) own.expanded
    ∙ ap (λ (held : Held). plan_unless None (made_plan held (call_expansions decls state call))) own.held
    ∙ ap (λ (es : List (List ℕ × Expansion)). plan_unless None (made_plan plan.held es)) own.expansions

pub planned_stands : PlannedStands
planned_stands decls state front call plan = (is_planned decls state front call plan, stands_planned decls state front call plan)

-- the tree of a device depends on the services that have items there

module _ (devices : List (List ℕ)) (d : ℕ) where
  abbrev pub busy : Service → Bool
  busy s = not (len (part s d) == 0)

  pub not_busy : (s : Service) → busy s ≡ false → part s d ≡ empty
  not_busy s h = holds_nothing (part s d) (on (len (part s d) == 0) h)
    where
      on : (t : Bool) → not t ≡ false → t ≡ true
      on true e = refl
      on false e = cc

  laid_busy : (live : List Service) (base : Config) → laid d (filter busy live) base ≡ laid d live base
  laid_busy [] base = refl
  laid_busy (x ∷ xs) base = on (busy x) refl (laid_busy xs)
    where
      on : (t : Bool) → busy x ≡ t → ((under : Config) → laid d (filter busy xs) under ≡ laid d xs under) → laid d (cond t (x ∷ filter busy xs) (filter busy xs)) base ≡ laid d (x ∷ xs) base
      on true is rest = rest (overlay (part x d) base)
      on false is rest = rest base ∙ sym (laid-blank d x xs base (not_busy x is))

  step_busy : (action : Action) (live : List Service)
      → filter busy (live_step devices live action) ≡ filter (λ s. not (names action s.id)) (filter busy live) ++ filter busy (new_services devices action)
  step_busy action live =
      filter-append busy (filter (λ s. not (names action s.id)) live) (new_services devices action)
      ∙ ap (λ (l : List Service). l ++ filter busy (new_services devices action)) (filter-filter busy (λ s. not (names action s.id)) live)

  pub same_busy : (actions : List Action) (live less : List Service) → filter busy live ≡ filter busy less
      → filter busy (live_after devices actions live) ≡ filter busy (live_after devices actions less)
  same_busy [] live less h = h
  same_busy (action ∷ actions) live less h =
      same_busy actions (live_step devices live action) (live_step devices less action)
      (step_busy action live
      ∙ ap (λ (l : List Service). filter (λ s. not (names action s.id)) l ++ filter busy (new_services devices action)) h
      ∙ sym (step_busy action less))

  -- actions that don't touch the device leave them

  blank_idle : (s : Service) → part s d ≡ empty → filter busy (s ∷ []) ≡ []
  blank_idle s h =
      ap (λ (c : Config). cond (not (len c == 0)) (s ∷ []) []) h ∙ ap (λ n. cond (not (n == 0)) (s ∷ []) []) (len-empty path_cmp Item)

  unnamed_stay : (action : Action) (xs : List Service) → All (λ s. names action s.id ≡ false) xs → filter (λ s. not (names action s.id)) xs ≡ xs
  unnamed_stay action [] h = refl
  unnamed_stay action (x ∷ xs) h =
      ap (λ t. cond (not t) (x ∷ filter (λ (s : Service). not (names action s.id)) xs) (filter (λ (s : Service). not (names action s.id)) xs)) (All-head (λ (s : Service). names action s.id ≡ false) x xs h)
      ∙ ap (λ l. x ∷ l) (unnamed_stay action xs (All-tail (λ (s : Service). names action s.id ≡ false) x xs h))

  free_of : (id : List ℕ) (live : List Service) → list_any (is_held_by id d) live ≡ false → All (λ s. has_id id s ≡ false) (filter busy live)
  free_of id [] h = All-nil (λ (s : Service). has_id id s ≡ false)
  free_of id (x ∷ xs) h = on (busy x) refl (free_of id xs (or_second (is_held_by id d x) (list_any (is_held_by id d) xs) h))
    where
      alone : (u : Bool) → busy x ≡ true → (u && busy x) ≡ false → u ≡ false
      alone true is e = sym is ∙ e
      alone false is e = refl

      on : (t : Bool) → busy x ≡ t → All (λ (s : Service). has_id id s ≡ false) (filter busy xs) → All (λ (s : Service). has_id id s ≡ false) (cond t (x ∷ filter busy xs) (filter busy xs))
      on true is rest =
          All-cons (λ (s : Service). has_id id s ≡ false) x (filter busy xs)
          (alone (has_id id x) is (or_first (is_held_by id d x) (list_any (is_held_by id d) xs) h)) rest
      on false is rest = rest

  none_named : (action : Action) → ((id : List ℕ) → names action id ≡ false) → (xs : List Service) → All (λ s. names action s.id ≡ false) xs
  none_named action h [] = All-nil (λ (s : Service). names action s.id ≡ false)
  none_named action h (x ∷ xs) = All-cons (λ (s : Service). names action s.id ≡ false) x xs (h x.id) (none_named action h xs)

  module _ (state : Datastore) where
    -- none of those that have items there is named, and what is made has none
    quiet : (action : Action) → is_touched_by devices state d action ≡ false
        → All (λ s. names action s.id ≡ false) (filter busy state.live) × (filter busy (new_services devices action) ≡ [])
    quiet (Literal id writes) off = (
      free_of id state.live (or_second (is_written_by writes (name_of devices d)) (list_any (is_held_by id d) state.live) off),
      blank_idle _ (blank_part devices writes d (or_first (is_written_by writes (name_of devices d)) (list_any (is_held_by id d) state.live) off)),
    )
    quiet (Delete id) off = (free_of id state.live off, refl)
    quiet other off = (none_named other (λ id. refl) (filter busy state.live), refl)

    pub busy_behind : (actions : List Action) (live : List Service) → list_any (is_touched_by devices state d) actions ≡ false
        → filter busy live ≡ filter busy state.live → filter busy (live_after devices actions live) ≡ filter busy state.live
    busy_behind [] live off h = h
    busy_behind (action ∷ actions) live off h =
        let now = quiet action (or_first (is_touched_by devices state d action) (list_any (is_touched_by devices state d) actions) off) in
        busy_behind actions (live_step devices live action) (or_second (is_touched_by devices state d action) (list_any (is_touched_by devices state d) actions) off)
        (step_busy action live
        ∙ ap (λ (l : List Service). filter (λ s. not (names action s.id)) l ++ filter busy (new_services devices action)) h
        ∙ ap (λ (l : List Service). l ++ filter busy (new_services devices action)) (unnamed_stay action (filter busy state.live) now.0)
        ∙ ap (λ (l : List Service). filter busy state.live ++ l) now.1 ∙ append-nil (filter busy state.live))

-- the base of a device after actions depends on its base before

bases_same : (devices : List (List ℕ)) (acts : List Action) (bases less : List Config) (d : ℕ) → length bases ≡ length less → config_of bases d ≡ config_of less d
    → config_of (bases_after devices acts bases) d ≡ config_of (bases_after devices acts less) d
bases_same devices acts [] [] d count h = refl
bases_same devices acts [] (y ∷ less) d count h = absurd (omega (arith, count))
bases_same devices acts (x ∷ bases) [] d count h = absurd (omega (arith, count))
bases_same [] acts (x ∷ bases) (y ∷ less) d count h = h
bases_same (name ∷ devices) acts (x ∷ bases) (y ∷ less) zero count h = ap (λ (b : Config). fold (base_step name) b acts) h
bases_same (name ∷ devices) acts (x ∷ bases) (y ∷ less) (suc d) count h = bases_same devices acts bases less d (omega (arith, count)) h

any_of : (xs : List ℕ) (d : ℕ) → Contains xs d → list_any (λ it. it == d) xs ≡ true
any_of [] d c = absurd (omega (arith, c.1))
any_of (x ∷ xs) d c = on (in_cases x d xs c) (any_of xs d)
  where
    on : (x ≡ d) ⊎ Contains xs d → (Contains xs d → list_any (λ it. it == d) xs ≡ true) → ((x == d) || list_any (λ it. it == d) xs) ≡ true
    on (inl same) rest = ap (λ t. t || list_any (λ it. it == d) xs) (eq-eqb x d same)
    on (inr later) rest = or_true (x == d) (list_any (λ it. it == d) xs) (rest later)

not_both : (one other : List ℕ) (d : ℕ) → share_no_device one other ≡ true → Contains one d → Contains other d → ⊥
not_both one other d h in_one in_other =
    let apart_so : not (list_any (λ it. it == d) other) ≡ true =
    All-contains (λ device. not (list_any (λ it. it == device) other) ≡ true) one d
    (AllPass-from_list_all (λ device. not (list_any (λ it. it == device) other)) one h) in_one in
    false≢true (sym (ap not (any_of other d in_other)) ∙ apart_so)

-- what another call that shares no device with what is held leaves of a device that is held
pub free_device : (decls : Decls) (held : Held) (state : Datastore) (other : Call) (d : ℕ) → FitsBeside decls held state other
    → d < length decls.names → Contains held.devices d
    → is_touched_among decls.names state (expanded_to (expanded_call decls state other)) d ≡ false
free_device decls held state other d h within in_held =
    untouched_so decls state other (call_held decls state other) d refl within
    (λ c. not_both held.devices (call_held decls state other).devices d h.1.devices in_held c)

tree_same : ExpandedStands → (decls : Decls) (state : Datastore) (call other : Call) (held : Held) (d : ℕ) → HoldsOn decls state call held
    → FitsBeside decls held state other → d < length decls.names → Contains held.devices d
    → tree_due (after decls (after decls state other) call) d ≡ tree_due (after decls state call) d
tree_same stands decls state call other held d holding h within in_held =
    let own = expanded_to (expanded_call decls state call) in
    let others = expanded_to (expanded_call decls state other) in
    let off = free_device decls held state other d h within in_held in
    let live = live_after decls.names others state.live in
    let bases = bases_after decls.names others state.bases in
    let base = config_of (bases_after decls.names own state.bases) d in
    ap (λ r. laid d (live_after decls.names (expanded_to r) live) (config_of (bases_after decls.names (expanded_to r) bases) d))
    (same_expanded stands decls state call other held holding (leaves_fit decls call held state other holding h))
    ∙ ap (laid d (live_after decls.names own live)) (bases_same decls.names own bases state.bases d (bases-count decls.names others state.bases) (base_untouched decls state others d off))
    ∙ sym (laid_busy decls.names d (live_after decls.names own live) base)
    ∙ ap (λ (l : List Service). laid d l base)
    (same_busy decls.names d own live state.live (busy_behind decls.names d state others state.live off refl))
    ∙ laid_busy decls.names d (live_after decls.names own state.live) base

tree_along : ExpandedStands → (decls : Decls) (call : Call) (held : Held) (d : ℕ) → d < length decls.names → Contains held.devices d
    → (state : Datastore) (others : List Call) → HoldsOn decls state call held → EachAlong (FitsBeside decls held) decls state others
    → tree_due (after decls (fold_from decls state others) call) d ≡ tree_due (after decls state call) d
tree_along stands decls call held d within in_held state [] own h = refl
tree_along stands decls call held d within in_held state (other ∷ others) own h =
    tree_along stands decls call held d within in_held (after decls state other) others
    (holds_on stands decls state call other held own (leaves_fit decls call held state other own h.0)) h.1
    ∙ tree_same stands decls state call other held d own h.0 within in_held

-- what is held is a number of a device
range_in : (k n d : ℕ) → Contains (range_with_len k n) d → d < k + n
range_in k zero d c = absurd (none_in_nil d c)
range_in k (suc n) d c = on (in_cases k d (range_with_len (k + 1) n) c) (range_in (k + 1) n d)
  where
    on : (k ≡ d) ⊎ Contains (range_with_len (k + 1) n) d → (Contains (range_with_len (k + 1) n) d → d < k + 1 + n) → d < k + suc n
    on (inl same) rest = omega (arith, same)
    on (inr later) rest = omega (arith, rest later)

within_names : (decls : Decls) (state : Datastore) (call : Call) (held : Held) (d : ℕ) → call_held decls state call ≡ held → Contains held.devices d
    → d < length decls.names
within_names decls state call held d is c =
    omega (
      arith,
      range_in 0 (length decls.names) d
          (filter_from (is_touched_among decls.names state (expanded_to (expanded_call decls state call))) (range_with_len 0 (length decls.names)) d
          (subst (λ (x : Held). Contains x.devices d) (sym is) c)),
    )

stay_along : ExpandedStands → (decls : Decls) (call : Call) (held : Held) (d : ℕ) → d < length decls.names → Contains held.devices d
    → (state : Datastore) (others : List Call) → HoldsOn decls state call held → EachAlong (FitsBeside decls held) decls state others
    → (tree_due (fold_from decls state others) d ≡ tree_due state d)
    × (config_of (fold_from decls state others).bases d ≡ config_of state.bases d)
stay_along stands decls call held d within in_held state [] own h = (refl, refl)
stay_along stands decls call held d within in_held state (other ∷ others) own h =
    let off = free_device decls held state other d h.0 within in_held in
    let rest = stay_along stands decls call held d within in_held (after decls state other) others
    (holds_on stands decls state call other held own (leaves_fit decls call held state other own h.0)) h.1 in
    (rest.0 ∙ untouched_stay decls state other d off, rest.1 ∙ base_untouched decls state (expanded_to (expanded_call decls state other)) d off)

pub held_stay : ExpandedStands → HeldStay
held_stay stands decls state call plan others d own h in_held =
    stay_along stands decls call plan.held d (within_names decls state call plan.held d own.held in_held) in_held state others
    (holds_of decls state call plan own) h

pub planned_tree_is_stable : ExpandedStands → PlannedTreeIsStable
planned_tree_is_stable stands decls state call plan others d own h in_held =
    tree_along stands decls call plan.held d (within_names decls state call plan.held d own.held in_held) in_held state others
    (holds_of decls state call plan own) h
