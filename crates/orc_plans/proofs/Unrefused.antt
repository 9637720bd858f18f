-- A call that isn't refused isn't refused after others that fit.
use Rattle.std.proofs.Common.{◌≡◌, ◌⊎◌, inl, inr, ℕ, suc, ◌+◌, ◌<◌, Bool, true, false, not, ◌||◌, List, [], ◌∷◌, ◌++◌, length, All, IsTrue, None, Some, MatchOption, refl, sym, ap, subst, ◌∙◌, arith}
use Rattle.std.specs.declared.option.Option.{Option}
use Rattle.std.specs.Prelude.{option_map}
use Rattle.std.specs.Option.{option_or}
use Rattle.std.specs.List.{filter, Contains}
use Rattle.std.specs.FinMap.{empty, get, get-empty}
use Rattle.std.proofs.lemmas.Bool.{false≢true}
use Rattle.std.proofs.lemmas.List.Elements.{All-contains, All-contains_itself, All-head, All-tail, All-append, All-filter, All-weaker}
use Rattle.orc_path.specs.Steps.{PathStep}
use Rattle.orc_path.specs.Order.{path_cmp}
use Rattle.orc_path.specs.declared.item.Item.{Item}
use Rattle.orc_call.specs.declared.answer.Answer.{Answer}
use Rattle.orc_call.specs.declared.answer.Answer.TheVariants.{Clash}
use Rattle.orc_call.specs.declared.call.Action.{Action}
use Rattle.orc_call.specs.declared.call.Call.{Call}
use Rattle.orc_queue.specs.declared.held.Held.{Held}
use Rattle.orc_services.specs.Laws.{ExpandedStands}
use Rattle.orc_decls.specs.Calls.{is_call}
use Rattle.orc_datastore.specs.Legal.{IsDue, IsSame, state_of}
use Rattle.orc_datastore.specs.States.{Datastore, opening, part}
use Rattle.orc_datastore.specs.Actions.{data_after, is_named_by, live_after, live_step, names, new_services, touched}
use Rattle.orc_datastore.specs.Clashes.{clash_from, unequal_of, unequal_on, IsClash}
use Rattle.orc_datastore.specs.Histories.{fold_from}
use Rattle.orc_datastore.specs.Next.{after, clash, existence, expanded_call, expanded_to, invalid, refusal, unexpanded}
use Rattle.orc_datastore.specs.Plans.{call_held}
use Rattle.orc_datastore.specs.Touched.{is_touched_among}
use Rattle.orc_plans.specs.Plans.{EachAlong, FitsBeside, LegalStands, UnclashedStands, UnrefusedStands}
use Rattle.orc_plans.specs.Clashing.{IsLeastClash}
use Rattle.orc_decls.specs.declared.declarations.Decls.{Decls}
use Rattle.orc_datastore.specs.declared.service.Service.{Service}
use Rattle.orc_datastore.proofs.Agreement.{first_in, in_filter, later_in, on_none, or_none}
use Rattle.orc_plans.proofs.Agreeing.{in_flat_map}
use Rattle.orc_datastore.proofs.LeastClash.{At, any_of, least_at}
use Rattle.orc_datastore.proofs.Legality.{fold_from-append, legal_last, legal_more}
use Rattle.orc_plans.proofs.FirstClash.{clash_least, flat_map_cases}
use Rattle.orc_decls.proofs.Lists.{filter_from, passes}
use Rattle.orc_plans.proofs.Standing.{HoldsOn, LeavesCall, busy, busy_behind, free_device, held_device, holds_along, holds_of, holds_on, leaves_fit, not_busy, same_busy, same_expanded, same_touched}
use Rattle.orc_plans.proofs.Untouched.{IsQuiet, all_quiet}

some_none : {A : Type 0} {a : A} → Some a ≡ None → ⊥
some_none q = cc

-- where nothing is unequal on any device there is no clash
none_from : (live services : List Service) (k : ℕ) (devices : List (List ℕ))
    → ((d : ℕ) → d < length devices → unequal_on live services (k + d) ≡ None) → clash_from live services k devices ≡ None
none_from live services k [] h = refl
none_from live services k (name ∷ devices) h =
    let here : unequal_on live services k ≡ None = subst (λ (n : ℕ). unequal_on live services n ≡ None) (omega arith) (h 0 (omega arith)) in
    ap (λ (o : Option At). option_or (option_map (λ (at : At). Clash k at.0 at.1) o) (clash_from live services (suc k) devices)) here
    ∙ none_from live services (suc k) devices (λ d lt. subst (λ (n : ℕ). unequal_on live services n ≡ None) (omega arith) (h (suc d) (omega (arith, lt))))

-- what has an item on a device holds something there
holds_item : (devices : List (List ℕ)) (d : ℕ) (s : Service) (path : List PathStep) (item : Item) → part s d ≡ empty → get (part s d) path ≡ Some item → ⊥
holds_item devices d s path item blank h = some_none (sym h ∙ ap (λ m. get m path) blank ∙ get-empty path_cmp path)

is_busy : (devices : List (List ℕ)) (d : ℕ) (s : Service) (path : List PathStep) (item : Item) → get (part s d) path ≡ Some item → busy devices d s ≡ true
is_busy devices d s path item h = on (busy devices d s) refl
  where
    on : (t : Bool) → busy devices d s ≡ t → t ≡ true
    on true is = refl
    on false is = absurd (holds_item devices d s path item (not_busy devices d s is) h)

-- On a device either the same services hold something before actions, or none that these name does after them: then
-- there is a clash there after them only where there was one.
module _ (devices : List (List ℕ)) (acts : List Action) (before less : List Service) where
  abbrev lives_now : List Service
  lives_now = live_after devices acts before

  abbrev lives_then : List Service
  lives_then = live_after devices acts less

  abbrev pub IsQuietOn : ℕ → Type 0
  IsQuietOn d = All (λ s. is_named_by acts s.id ≡ true → part s d ≡ empty) lives_now

  abbrev pub IsAlikeOn : ℕ → Type 0
  IsAlikeOn d = (filter (busy devices d) before ≡ filter (busy devices d) less) ⊎ IsQuietOn d

  -- one of the services that are named has a clash there
  abbrev HasClash : List Service → ℕ → List PathStep → Service → Service → Type 0
  HasClash live d path s r = Contains (touched acts live) s × IsClash live d path s r

  moved : (d : ℕ) → filter (busy devices d) before ≡ filter (busy devices d) less → (s : Service) → busy devices d s ≡ true → Contains lives_now s → Contains lives_then s
  moved d same s has c =
      filter_from (busy devices d) lives_then s
      (subst (λ (l : List Service). Contains l s) (same_busy devices d acts before less same) (in_filter (busy devices d) lives_now s c has))

  clash_alike : (d : ℕ) → IsAlikeOn d → (path : List PathStep) (s r : Service) → HasClash lives_now d path s r → HasClash lives_then d path s r
  clash_alike d (inl same) path s r h =
      let c = h.1 in
      let by = flat_map_cases (λ (action : Action). filter (λ (x : Service). names action x.id) lives_now) acts s h.0 in
      let named : names by.0 s.id ≡ true = passes (λ (x : Service). names by.0 x.id) lives_now s by.2 in
      let living : Contains lives_now s = filter_from (λ (x : Service). names by.0 x.id) lives_now s by.2 in
      let living' : Contains lives_then s = moved d same s (is_busy devices d s path c.item c.written) living in (
        in_flat_map (λ (action : Action). filter (λ (x : Service). names action x.id) lives_then) acts by.0 s by.1
            (in_filter (λ (x : Service). names by.0 x.id) lives_then s living' named),
        record {
          living = moved d same r (is_busy devices d r path c.other c.holds) c.living;
          another = c.another;
          item = c.item;
          written = c.written;
          other = c.other;
          holds = c.holds;
          unequal = c.unequal;
        },
      )
  clash_alike d (inr quiet) path s r h =
      let by = flat_map_cases (λ (action : Action). filter (λ (x : Service). names action x.id) lives_now) acts s h.0 in
      let named : is_named_by acts s.id ≡ true =
      any_of (λ (action : Action). names action s.id) acts by.0 by.1 (passes (λ (x : Service). names by.0 x.id) lives_now s by.2) in
      let living : Contains lives_now s = filter_from (λ (x : Service). names by.0 x.id) lives_now s by.2 in
      absurd (holds_item devices d s path h.1.item
      (All-contains (λ (x : Service). is_named_by acts x.id ≡ true → part x d ≡ empty) lives_now s quiet living named) h.1.written)

  pub clash_kept : ((d : ℕ) → d < length devices → IsAlikeOn d) → clash devices less acts ≡ None → clash devices before acts ≡ None
  clash_kept alike free = none_from lives_now (touched acts lives_now) 0 devices none_on
    where
      none_before : (d : ℕ) (path : List PathStep) (s r : Service) → Contains (touched acts lives_then) s → IsClash lives_then d path s r → ⊥
      none_before =
          subst (λ (o : Option Answer). MatchOption o
          ((device : ℕ) (path : List PathStep) (service rival : Service) → Contains (touched acts lives_then) service → IsClash lives_then device path service rival → ⊥)
          (λ answer. (device : ℕ) × (path : List PathStep) × (id : List ℕ) × (answer ≡ Clash device path id) × IsLeastClash (touched acts lives_then) lives_then device path id))
          free (clash_least devices less acts)

      none_of : (d : ℕ) → d < length devices → (s : Service) → Contains (touched acts lives_now) s → unequal_of lives_now d s ≡ None
      none_of d within s c = on (unequal_of lives_now d s) refl
        where
          on : (o : Option At) → unequal_of lives_now d s ≡ o → unequal_of lives_now d s ≡ None
          on None is = is
          on (Some at) is =
              let least = least_at lives_now d s at is in
              let was = clash_alike d (alike d within) at.0 s least.rival (c, least.clash) in
              absurd (none_before d at.0 s least.rival was.0 was.1)

      none_on : (d : ℕ) → d < length devices → unequal_on lives_now (touched acts lives_now) (0 + d) ≡ None
      none_on d within =
          subst (λ (n : ℕ). unequal_on lives_now (touched acts lives_now) n ≡ None) (omega arith)
          (on_none lives_now (touched acts lives_now) d
          (All-weaker (Contains (touched acts lives_now)) (λ (s : Service). unequal_of lives_now d s ≡ None) (none_of d within) (touched acts lives_now) (All-contains_itself (touched acts lives_now))))

-- what actions that don't touch a device make holds nothing there

one_named : (acts : List Action) (id : List ℕ) → is_named_by acts id ≡ true → (action : Action) × Contains acts action × (names action id ≡ true)
one_named acts id h = among acts h
  where
    among : (xs : List Action) → is_named_by xs id ≡ true → (action : Action) × Contains xs action × (names action id ≡ true)
    among [] e = absurd (false≢true e)
    among (x ∷ xs) e = on (names x id) refl e (among xs)
      where
        on : (t : Bool) → names x id ≡ t → (t || is_named_by xs id) ≡ true
            → (is_named_by xs id ≡ true → (action : Action) × Contains xs action × (names action id ≡ true))
            → (action : Action) × Contains (x ∷ xs) action × (names action id ≡ true)
        on true is k rest = (x, first_in x xs, is)
        on false is k rest = let found = rest k in (found.0, later_in x found.0 xs found.1, found.2)

module _ (devices : List (List ℕ)) (d : ℕ) (all : List Action) where
  abbrev IsBlankIfNamed : Service → Type 0
  IsBlankIfNamed s = is_named_by all s.id ≡ true → part s d ≡ empty

  blank_behind : (acts : List Action) → All (λ action. All (λ s. part s d ≡ empty) (new_services devices action)) acts
      → (live : List Service) → All IsBlankIfNamed live → All IsBlankIfNamed (live_after devices acts live)
  blank_behind [] made live h = h
  blank_behind (action ∷ acts) made live h =
      blank_behind acts (All-tail (λ (a : Action). All (λ (s : Service). part s d ≡ empty) (new_services devices a)) action acts made) (live_step devices live action)
      (All-append IsBlankIfNamed (filter (λ (s : Service). not (names action s.id)) live) (new_services devices action)
      (All-filter (λ (s : Service). not (names action s.id)) IsBlankIfNamed live h)
      (All-weaker (λ (s : Service). part s d ≡ empty) IsBlankIfNamed (λ s blank named. blank) (new_services devices action)
      (All-head (λ (a : Action). All (λ (s : Service). part s d ≡ empty) (new_services devices a)) action acts made)))

  blank_before : (live : List Service) → All (IsQuiet d devices live) all → All IsBlankIfNamed live
  blank_before live h =
      All-weaker (Contains live) IsBlankIfNamed
      (λ s c named.
      let by = one_named all s.id named in
      All-contains (λ (x : Service). names by.0 x.id ≡ true → part x d ≡ empty) live s
      (All-contains (IsQuiet d devices live) all by.0 h by.1).0 c by.2)
      live (All-contains_itself live)

  quiet_on : (live : List Service) → All (IsQuiet d devices live) all → All IsBlankIfNamed (live_after devices all live)
  quiet_on live h =
      blank_behind all
      (All-weaker (IsQuiet d devices live) (λ (a : Action). All (λ (s : Service). part s d ≡ empty) (new_services devices a)) (λ a quiet. quiet.1) all h)
      live (blank_before live h)

-- after one that fits, and after many

module _ (stands : ExpandedStands) (decls : Decls) (call : Call) (held : Held) where
  abbrev pub IsFree : Datastore → Type 0
  IsFree state = clash decls.names state.live (expanded_to (expanded_call decls state call)) ≡ None

  pub still_free : (state : Datastore) (other : Call) → HoldsOn decls state call held → FitsBeside decls held state other → IsFree state
      → IsFree (after decls state other)
  still_free state other own h free =
      ap (λ r. clash decls.names behind.live (expanded_to r)) (same_expanded stands decls state call other held own leaves)
      ∙ clash_kept decls.names made behind.live state.live alike free
    where
      behind : Datastore
      behind = after decls state other

      made : List Action
      made = expanded_to (expanded_call decls state call)

      others : List Action
      others = expanded_to (expanded_call decls state other)

      leaves : LeavesCall decls state call other
      leaves = leaves_fit decls call held state other own h

      alike : (d : ℕ) → d < length decls.names → IsAlikeOn decls.names made behind.live state.live d
      alike d within = on (is_touched_among decls.names state made d) refl
        where
          on : (t : Bool) → is_touched_among decls.names state made d ≡ t → IsAlikeOn decls.names made behind.live state.live d
          on true is =
              inl (busy_behind decls.names d state others state.live
              (free_device decls held state other d h within (held_device decls state call held d own.is within is)) refl)
          on false is =
              inr (quiet_on decls.names d made behind.live
              (all_quiet decls behind d made (same_touched stands decls state call other held own leaves d ∙ is)))

  free_along : (state : Datastore) (others : List Call) → HoldsOn decls state call held → EachAlong (FitsBeside decls held) decls state others → IsFree state
      → IsFree (fold_from decls state others)
  free_along state [] own h free = free
  free_along state (other ∷ others) own h free =
      free_along (after decls state other) others
      (holds_on stands decls state call other held own (leaves_fit decls call held state other own h.0)) h.1
      (still_free state other own h.0 free)

-- what isn't refused
pub nothing_refuses : (decls : Decls) (state : Datastore) (call : Call) → existence state.live call.actions ≡ None
    → invalid decls.data_schema (data_after call.actions state.data) ≡ None → unexpanded (expanded_call decls state call) ≡ None
    → clash decls.names state.live (expanded_to (expanded_call decls state call)) ≡ None → refusal decls state call ≡ None
nothing_refuses decls state call exist valid expanded free =
    ap (λ o. option_or o (option_or (invalid decls.data_schema (data_after call.actions state.data))
    (option_or (unexpanded (expanded_call decls state call)) (clash decls.names state.live (expanded_to (expanded_call decls state call)))))) exist
    ∙ ap (λ o. option_or o (option_or (unexpanded (expanded_call decls state call)) (clash decls.names state.live (expanded_to (expanded_call decls state call))))) valid
    ∙ ap (λ o. option_or o (clash decls.names state.live (expanded_to (expanded_call decls state call)))) expanded
    ∙ free

pub unrefused_stands : ExpandedStands → UnrefusedStands
unrefused_stands stands decls state call others unrefused h valid =
    let first = or_none (existence state.live call.actions)
    (option_or (invalid decls.data_schema (data_after call.actions state.data))
    (option_or (unexpanded (expanded_call decls state call)) (clash decls.names state.live (expanded_to (expanded_call decls state call))))) unrefused in
    let second = or_none (invalid decls.data_schema (data_after call.actions state.data))
    (option_or (unexpanded (expanded_call decls state call)) (clash decls.names state.live (expanded_to (expanded_call decls state call)))) first.1 in
    let third = or_none (unexpanded (expanded_call decls state call)) (clash decls.names state.live (expanded_to (expanded_call decls state call))) second.1 in
    let held = call_held decls state call in
    let own : HoldsOn decls state call held = record { exist = first.0; expanded = third.0; is = refl } in
    let behind = fold_from decls state others in
    let again = holds_along stands decls call held (FitsBeside decls held) (leaves_fit decls call held) state others own h in
    let free = free_along stands decls call held state others own h third.1 in
    nothing_refuses decls behind call again.exist valid again.expanded free

pub unclashed_stands : ExpandedStands → UnclashedStands
unclashed_stands stands decls state call plan others own h free =
    free_along stands decls call plan.held state others (holds_of decls state call plan own) h free

pub legal_stands : ExpandedStands → LegalStands
legal_stands stands decls history others call own legal new h valid =
    legal_more decls (history ++ others) call legal last.0
    (record {
      new = All-append (λ entry. IsSame entry call → ⊥) history others last.1.new new;
      unrefused = ap (λ (s : Datastore). refusal decls s call) joined
          ∙ unrefused_stands stands decls state call others last.1.unrefused h
          (ap (λ (s : Datastore). invalid decls.data_schema (data_after call.actions s.data)) (sym joined) ∙ valid);
    })
  where
    state : Datastore
    state = state_of decls history

    last : IsTrue (is_call decls call) × IsDue decls history call
    last = legal_last decls history call own

    joined : state_of decls (history ++ others) ≡ fold_from decls state others
    joined = fold_from-append decls (opening decls) history others
