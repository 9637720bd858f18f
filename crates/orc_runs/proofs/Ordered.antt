-- Of each caller the entries that a run adds are some of its calls, in the order in which they were submitted.
use Rattle.std.proofs.Common.{[], ◌≡◌, ◌≢◌, ◌⊎◌, inl, inr, ⊎_elim, ℕ, ◌+◌, Bool, true, false, cond, nat_eq, Option, Some, None, List, ◌∷◌, ◌++◌, length, map, refl, sym, ap, subst, ◌∙◌, append-nil, append_assoc, eq-eqb, zero, suc, filter}
use Rattle.std.specs.Prelude.{slice_get}
use Rattle.std.specs.Cmp.Lexicographic.{bytes_decides}
use Rattle.std.proofs.lemmas.Bool.{false≢true}
use Rattle.std.proofs.lemmas.Option.{same_Some}
use Rattle.std.proofs.lemmas.List.Elements.{filter-append}
use Rattle.orc_journal.specs.declared.outcome.Appended.{Appended}
use Rattle.orc_journal.specs.declared.outcome.Appended.TheVariants as appended
use Rattle.orc_call.specs.declared.call.Call.{Call}
use Rattle.orc_decls.specs.Declarations.{AreDecls}
use Rattle.orc_decls.specs.Devices.{is_same_text}
use Rattle.orc_journal.specs.Committed.{as_calls, commits, history_of}
use Rattle.orc_journal.specs.Laws.{KeepsOrder}
use Rattle.orc_journal.specs.declared.entry.Entry.{Entry}
use Rattle.orc_journal.specs.declared.entry.Entry.TheVariants as entry
use Rattle.orc_plans.specs.Plans.{LegalStands, PlanStands}
use Rattle.orc_call.specs.declared.answer.Answer.TheVariants as answer
use Rattle.orc_call.specs.declared.answer.Why.{Why}
use Rattle.std.specs.Option.{option_map_or}
use Rattle.orc_rules.specs.Admissions.{transaction_begun, intent_entry, started, without}
use Rattle.orc_rules.specs.Duties.{duty_told}
use Rattle.orc_rules.specs.Events.{Comes, DoesUnderHub, DoesAnyway, Steps, Turn, mender_freed}
use Rattle.orc_rules.specs.Hubs.{Hub, answered, hub_reported, hub_told}
use Rattle.orc_rules.specs.Journals.{AppendsRow, Journal, StaysClosed, entries_read, history_read}
use Rattle.orc_rules.specs.Kept.{HistoryKept, HubKept}
use Rattle.orc_rules.specs.Transactions.{in_phase, is_other, is_preparing, retired}
use Rattle.orc_rules.specs.Verdicts.{are_heard}
use Rattle.orc_rules.specs.Worlds.{Setting, World, new_hub}
use Rattle.orc_rules.specs.declared.duty.Duty.{Duty}
use Rattle.orc_rules.specs.declared.event.Event.{Event}
use Rattle.orc_rules.specs.declared.transaction.Phase.{Phase}
use Rattle.orc_rules.specs.declared.transaction.Phase.TheVariants as phase
use Rattle.orc_rules.specs.declared.transaction.Transaction.{Transaction}
use Rattle.orc_rules.specs.declared.transaction.Waiting.{Waiting}
use Rattle.orc_rules.proofs.Leaving.{place_in, places_apart, stayed}
use Rattle.orc_rules.proofs.Entering.{All-at, drop_nil, without_suc}
use Rattle.orc_rules.proofs.Fronts.{history_of-append}
use Rattle.orc_rules.proofs.Legally.{push_cases}
use Rattle.orc_rules.proofs.Reporting.{first_so}
use Rattle.orc_rules.proofs.Retiring.{not_told, of_map, still_in}
use Rattle.orc_rules.proofs.Tracking.{map_front, nil_front, read_by}
use Rattle.orc_rules.proofs.Turning.{steps_keep, uncut_read}
use Rattle.orc_runs.specs.Headline.{IsSubsequenceOf, calls_of, queued, queued_by}
use Rattle.orc_runs.specs.Runs.{Run, turns_of}
use Rattle.orc_runs.specs.Scripts.{set_by}
use Rattle.orc_script.specs.declared.step.ScriptStep.{ScriptStep}
use Rattle.orc_script.specs.declared.step.ScriptStep.TheVariants as step
use Rattle.orc_runs.proofs.Forward.{run_forward}
use Rattle.orc_runs.proofs.Lasting.{set_kept}
use Rattle.orc_runs.proofs.Unmoved.{read_done}

-- subsequences

-- of more
sub_more : (some calls more : List Call) → IsSubsequenceOf some calls → IsSubsequenceOf some (calls ++ more)
sub_more some calls [] h = subst (IsSubsequenceOf some) (sym (append-nil calls)) h
sub_more some calls (c ∷ more) h =
    subst (IsSubsequenceOf some) (append_assoc calls (c ∷ []) more) (sub_more some (calls ++ c ∷ []) more (IsSubsequenceOf.skip some calls c h))

-- of callers

of_caller : (caller : List ℕ) (xs ys : List Call) → calls_of caller (xs ++ ys) ≡ calls_of caller xs ++ calls_of caller ys
of_caller caller xs ys = filter-append (λ call. is_same_text call.caller caller) xs ys

own_call : (call : Call) → calls_of call.caller (call ∷ []) ≡ call ∷ []
own_call call = ap (λ (b : Bool). cond b (call ∷ []) []) ((bytes_decides call.caller call.caller).1 refl)

other_call : (caller : List ℕ) (call : Call) → is_same_text call.caller caller ≡ false → calls_of caller (call ∷ []) ≡ []
other_call caller call is = ap (λ (b : Bool). cond b (call ∷ []) []) is

apart_text : (a b : List ℕ) → (a ≡ b → ⊥) → is_same_text a b ≡ false
apart_text a b apart = on (is_same_text a b) refl
  where
    on : (c : Bool) → is_same_text a b ≡ c → is_same_text a b ≡ false
    on true is = absurd (apart ((bytes_decides a b).0 is))
    on false is = is

queued_push : {D : Type 0} (ts : List (Turn D)) (turn : Turn D) → queued (ts ++ turn ∷ []) ≡ queued ts ++ queued_by turn.seen
queued_push [] turn = append-nil (queued_by turn.seen)
queued_push (x ∷ ts) turn = ap (λ (l : List Call). queued_by x.seen ++ l) (queued_push ts turn) ∙ sym (append_assoc (queued_by x.seen) (queued ts) (queued_by turn.seen))

-- a call that waits, or is under way without its decision
pub data IsOpen (hub : Hub) (call : Call) : Type 0 where
  open_waiting : (place : ℕ) (one : Waiting) → slice_get hub.waiting place ≡ Some one → one.call ≡ call → IsOpen hub call
  open_preparing : (place : ℕ) (it : Transaction) → slice_get hub.active place ≡ Some it → is_preparing it.phase ≡ true → it.call ≡ call → IsOpen hub call

-- two in preparing at other places have other callers
abbrev pub CallersApart : Hub → Type 0
CallersApart hub = (i j : ℕ) (x y : Transaction) → slice_get hub.active i ≡ Some x → slice_get hub.active j ≡ Some y
    → is_preparing x.phase ≡ true → is_preparing y.phase ≡ true → x.call.caller ≡ y.call.caller → i ≡ j

-- What the run added so far is, of each caller, a subsequence of what it submitted so far, and stays so with a call of it
-- that is open.
pub record Ordered {D : Type 0} (first : List Call) (ts : List (Turn D)) (now : World D) : Type 0 where
  pub added : List Call
  pub grows : history_read now.journal ≡ first ++ added
  pub front : (caller : List ℕ) → IsSubsequenceOf (calls_of caller added) (calls_of caller (queued ts))
  pub opens : (hub : Hub) → now.hub ≡ Some hub → (call : Call) → IsOpen hub call
      → IsSubsequenceOf (calls_of call.caller added ++ call ∷ []) (calls_of call.caller (queued ts))
  pub callers : (hub : Hub) → now.hub ≡ Some hub → CallersApart hub

-- What a row, or a prefix of it, makes of the history: nothing, or the call of a transaction that was open.
pub data RowGrows (hub : Hub) (old new : List Call) : Type 0 where
  stays_so : new ≡ old → RowGrows hub old new
  adds : (place : ℕ) (it : Transaction) → slice_get hub.active place ≡ Some it → is_preparing it.phase ≡ true → new ≡ old ++ it.call ∷ [] → RowGrows hub old new

pub settled_same : (es : List Entry) (ts : List ℕ) → history_of (es ++ map entry.Settled ts) ≡ history_of es
settled_same es [] = ap history_of (append-nil es)
settled_same es (t ∷ ts) =
    ap history_of (sym (append_assoc es (entry.Settled t ∷ []) (map entry.Settled ts))) ∙ settled_same (es ++ entry.Settled t ∷ []) ts
    ∙ history_of-append es (entry.Settled t) ∙ append-nil (history_of es)

pub one_entry : (e : Entry) (front rest : List Entry) → e ∷ [] ≡ front ++ rest → (front ≡ []) ⊎ (front ≡ e ∷ [])
one_entry e [] rest is = inl refl
one_entry e (x ∷ front) rest is =
    let first : e ≡ x = cc in
    let tail : [] ≡ front ++ rest = cc in
    inr (ap (λ (y : Entry). y ∷ front) (sym first) ∙ ap (λ (l : List Entry). e ∷ l) (nil_front front rest tail))

-- an entry that commits nothing
quiet_one : {D : Type 0} (world : World D) (hub : Hub) (e : Entry) → commits (entries_read world.journal) e ≡ [] → (front : List Entry) → (front ≡ []) ⊎ (front ≡ e ∷ [])
    → RowGrows hub (history_of (entries_read world.journal)) (history_of (entries_read world.journal ++ front))
quiet_one world hub e none front which = RowGrows.stays_so (⊎_elim
    (λ empty. ap (λ (l : List Entry). history_of (entries_read world.journal ++ l)) empty ∙ ap history_of (append-nil (entries_read world.journal)))
    (λ all. ap (λ (l : List Entry). history_of (entries_read world.journal ++ l)) all ∙ history_of-append (entries_read world.journal) e
    ∙ ap (λ (l : List Call). history_of (entries_read world.journal) ++ l) none ∙ append-nil (history_of (entries_read world.journal))) which)

module _ {D : Type 0} (here : Setting D) where
  row_grows : (world : World D) (hub : Hub) (meant : Event) (row : List Entry) (next : World D)
      → HubKept here.decls (entries_read world.journal) (history_of (entries_read world.journal)) hub.active hub.waiting hub.given
      → DoesUnderHub here world hub meant row next → (front rest : List Entry) → row ≡ front ++ rest
      → RowGrows hub (history_of (entries_read world.journal)) (history_of (entries_read world.journal ++ front))
  row_grows world hub meant row next known (DoesUnderHub.admits place it sets there first idle passes fresh) front rest is =
      quiet_one world hub _ refl front (one_entry _ front rest is)
  row_grows world hub meant row next known (DoesUnderHub.aborts place it said there least due why) front rest is = quiet_one world hub _ refl front (one_entry _ front rest is)
  row_grows world hub meant row next known (DoesUnderHub.settles place it there least settling) front rest is = quiet_one world hub _ refl front (one_entry _ front rest is)
  row_grows world hub meant row next known (DoesUnderHub.mended numbers met busy heard unsettled) front rest is =
      let some = map_front entry.Settled numbers front rest is in
      RowGrows.stays_so (ap (λ (l : List Entry). history_of (entries_read world.journal ++ l)) some.1 ∙ settled_same (entries_read world.journal) some.0)
  row_grows world hub meant row next known (DoesUnderHub.commits place it there least due prepared valid) front rest is =
      let preparing = first_so (is_preparing it.phase) (are_heard hub.duties it.t it.plan.held.devices) due in
      ⊎_elim
      (λ none. RowGrows.stays_so (ap (λ (l : List Entry). history_of (entries_read world.journal ++ l)) none ∙ ap history_of (append-nil (entries_read world.journal))))
      (λ all. RowGrows.adds place it there preparing
      (ap (λ (l : List Entry). history_of (entries_read world.journal ++ l)) all ∙ history_of-append (entries_read world.journal) (entry.Decide it.t)
      ∙ ap (λ (o : Option Call). history_of (entries_read world.journal) ++ as_calls o) (known.intents place it there preparing).call))
      (one_entry (entry.Decide it.t) front rest is)
  row_grows world hub meant row next known does front rest is =
      RowGrows.stays_so (ap (λ (l : List Entry). history_of (entries_read world.journal ++ l)) (nil_front front rest is) ∙ ap history_of (append-nil (entries_read world.journal)))

-- where a list lacks an element, others were there
without_in : {X : Type 0} (place : ℕ) (xs : List X) (i : ℕ) (x : X) → slice_get (without place xs) i ≡ Some x → (j : ℕ) × (slice_get xs j ≡ Some x)
without_in {X = X} zero [] i x h = absurd cc
without_in zero (y ∷ xs) i x h = (suc i, h)
without_in {X = X} (suc place) [] i x h = absurd (let none : ◌≡◌ {A = Option X} None (Some x) = sym (ap (λ (l : List X). slice_get l i) (drop_nil (suc place + 1))) ∙ h in cc)
without_in {X = X} (suc place) (y ∷ xs) zero x h = (zero, sym (ap (λ (l : List X). slice_get l zero) (without_suc place y xs)) ∙ h)
without_in {X = X} (suc place) (y ∷ xs) (suc i) x h =
    let later = without_in place xs i x (sym (ap (λ (l : List X). slice_get l (suc i)) (without_suc place y xs)) ∙ h) in (suc later.0, later.1)

-- who is open after a decision was so before, and of another number
pub record WasOpen (active : List Transaction) (t place : ℕ) (it : Transaction) : Type 0 where
  pub there : slice_get active place ≡ Some it
  pub apart : nat_eq it.t t ≡ false

told_open : (duties : List Duty) (t : ℕ) (to : Phase) → is_preparing to ≡ false → (active : List Transaction) (place : ℕ) (it : Transaction)
    → slice_get (map (retired duties) (map (in_phase t to) active)) place ≡ Some it → is_preparing it.phase ≡ true → WasOpen active t place it
told_open duties t to other active place it there h =
    let one = of_map (retired duties) (map (in_phase t to) active) place it there in
    let two = of_map (in_phase t to) active place one.0 one.1 in
    let kept : it ≡ one.0 = one.2 ∙ still_in duties one.0 (subst (λ (a : Transaction). is_preparing a.phase ≡ true) one.2 h) in
    let was = not_told t to two.0 other (subst (λ (a : Transaction). is_preparing a.phase ≡ true) (kept ∙ two.2) h) in
    let same : it ≡ two.0 = kept ∙ two.2 ∙ was.0 in
    record {
      there = two.1 ∙ ap (λ (x : Transaction). Some x) (sym same);
      apart = ap (λ (a : Transaction). nat_eq a.t t) same ∙ was.1;
    }

retired_open : (duties : List Duty) (active : List Transaction) (place : ℕ) (it : Transaction) → slice_get (map (retired duties) active) place ≡ Some it → is_preparing it.phase ≡ true
    → slice_get active place ≡ Some it
retired_open duties active place it there h =
    let one = of_map (retired duties) active place it there in
    let kept : it ≡ one.0 = one.2 ∙ still_in duties one.0 (subst (λ (a : Transaction). is_preparing a.phase ≡ true) one.2 h) in
    one.1 ∙ ap (λ (x : Transaction). Some x) (sym kept)

module _ {D : Type 0} (here : Setting D) (first : List Call) (ts : List (Turn D)) (turn : Turn D) (o : Ordered first ts turn.before) where
  -- what was a subsequence is one of what is submitted since
  lift : (caller : List ℕ) (some : List Call) → IsSubsequenceOf some (calls_of caller (queued ts)) → IsSubsequenceOf some (calls_of caller (queued (ts ++ turn ∷ [])))
  lift caller some h =
      subst (IsSubsequenceOf some) (sym (ap (calls_of caller) (queued_push ts turn) ∙ of_caller caller (queued ts) (queued_by turn.seen)))
      (sub_more some (calls_of caller (queued ts)) (calls_of caller (queued_by turn.seen)) h)

  -- nothing is committed, and who is open was so
  quiet_turn : history_read turn.behind.journal ≡ history_read turn.before.journal
      → ((hub' : Hub) → turn.behind.hub ≡ Some hub' → (call : Call) → IsOpen hub' call → (hub : Hub) × (turn.before.hub ≡ Some hub) × IsOpen hub call)
      → ((hub' : Hub) → turn.behind.hub ≡ Some hub' → CallersApart hub') → Ordered first (ts ++ turn ∷ []) turn.behind
  quiet_turn same were apart = record {
    added = o.added;
    grows = same ∙ o.grows;
    front = λ caller. lift caller (calls_of caller o.added) (o.front caller);
    opens = λ hub' up call open_now.
        let was = were hub' up call open_now in
        lift call.caller (calls_of call.caller o.added ++ call ∷ []) (o.opens was.0 was.1 call was.2);
    callers = apart;
  }

  -- a call that was open is added
  module _ (hub : Hub) (up : turn.before.hub ≡ Some hub) (place : ℕ) (it : Transaction) (there : slice_get hub.active place ≡ Some it) (preparing : is_preparing it.phase ≡ true)
      (grown : history_read turn.behind.journal ≡ history_read turn.before.journal ++ it.call ∷ []) where
    abbrev added' : List Call
    added' = o.added ++ it.call ∷ []

    grows' : history_read turn.behind.journal ≡ first ++ (o.added ++ it.call ∷ [])
    grows' = grown ∙ ap (λ (l : List Call). l ++ it.call ∷ []) o.grows ∙ append_assoc first o.added (it.call ∷ [])

    with_other : (caller : List ℕ) → is_same_text it.call.caller caller ≡ false → calls_of caller (o.added ++ it.call ∷ []) ≡ calls_of caller o.added
    with_other caller apart =
        of_caller caller o.added (it.call ∷ []) ∙ ap (λ (l : List Call). calls_of caller o.added ++ l) (other_call caller it.call apart) ∙ append-nil (calls_of caller o.added)

    front' : (caller : List ℕ) → IsSubsequenceOf (calls_of caller (o.added ++ it.call ∷ [])) (calls_of caller (queued ts))
    front' caller = on (is_same_text it.call.caller caller) refl
      where
        on : (b : Bool) → is_same_text it.call.caller caller ≡ b → IsSubsequenceOf (calls_of caller (o.added ++ it.call ∷ [])) (calls_of caller (queued ts))
        on true is =
            subst (λ (c : List ℕ). IsSubsequenceOf (calls_of c (o.added ++ it.call ∷ [])) (calls_of c (queued ts))) ((bytes_decides it.call.caller caller).0 is)
            (subst (λ (l : List Call). IsSubsequenceOf l (calls_of it.call.caller (queued ts)))
            (sym (of_caller it.call.caller o.added (it.call ∷ []) ∙ ap (λ (l : List Call). calls_of it.call.caller o.added ++ l) (own_call it.call)))
            (o.opens hub up it.call (IsOpen.open_preparing place it there preparing refl)))
        on false is = subst (λ (l : List Call). IsSubsequenceOf l (calls_of caller (queued ts))) (sym (with_other caller is)) (o.front caller)

    -- a call was added, and isn't open any more
    added_turn : ((hub' : Hub) → turn.behind.hub ≡ Some hub' → (call : Call) → IsOpen hub' call → IsOpen hub call × (it.call.caller ≡ call.caller → ⊥))
        → ((hub' : Hub) → turn.behind.hub ≡ Some hub' → CallersApart hub') → Ordered first (ts ++ turn ∷ []) turn.behind
    added_turn were apart = record {
      added = o.added ++ it.call ∷ [];
      grows = grows';
      front = λ caller. lift caller (calls_of caller (o.added ++ it.call ∷ [])) (front' caller);
      opens = λ hub' up' call open_now.
          let was = were hub' up' call open_now in
          lift call.caller (calls_of call.caller (o.added ++ it.call ∷ []) ++ call ∷ [])
          (subst (λ (l : List Call). IsSubsequenceOf (l ++ call ∷ []) (calls_of call.caller (queued ts)))
          (sym (with_other call.caller (apart_text it.call.caller call.caller was.1))) (o.opens hub up call was.0));
      callers = apart;
    }

  -- a row was appended, or a prefix of it, and no hub is up
  down_turn : (hub : Hub) → turn.before.hub ≡ Some hub → turn.behind.hub ≡ None → RowGrows hub (history_read turn.before.journal) (history_read turn.behind.journal)
      → Ordered first (ts ++ turn ∷ []) turn.behind
  down_turn hub up down (RowGrows.stays_so is) =
      quiet_turn is (λ hub' e. absurd (let none : ◌≡◌ {A = Option Hub} None (Some hub') = sym down ∙ e in cc)) (λ hub' e. absurd (let none : ◌≡◌ {A = Option Hub} None (Some hub') = sym down ∙ e in cc))
  down_turn hub up down (RowGrows.adds place it there preparing is) =
      added_turn hub up place it there preparing is
      (λ hub' e. absurd (let none : ◌≡◌ {A = Option Hub} None (Some hub') = sym down ∙ e in cc)) (λ hub' e. absurd (let none : ◌≡◌ {A = Option Hub} None (Some hub') = sym down ∙ e in cc))

  -- a call comes to wait
  queued_turn : (hub hub' : Hub) (it : Waiting) → turn.before.hub ≡ Some hub → turn.behind.hub ≡ Some hub' → history_read turn.behind.journal ≡ history_read turn.before.journal
      → queued_by turn.seen ≡ it.call ∷ [] → hub'.waiting ≡ hub.waiting ++ it ∷ [] → hub'.active ≡ hub.active → Ordered first (ts ++ turn ∷ []) turn.behind
  queued_turn hub hub' it up up' same seen waits active = record {
    added = o.added;
    grows = same ∙ o.grows;
    front = λ caller. lift caller (calls_of caller o.added) (o.front caller);
    opens = λ h e call open_now. by_open call (subst (λ (x : Hub). IsOpen x call) (same_Some h hub' (sym e ∙ up')) open_now);
    callers = λ h e. subst CallersApart (same_Some hub' h (sym up' ∙ e)) (subst (λ (xs : List Transaction). CallersApart (record hub' { active = xs })) (sym active) (o.callers hub up));
  }
    where
      -- what it submits is at the end
      taken : IsSubsequenceOf (calls_of it.call.caller o.added ++ it.call ∷ []) (calls_of it.call.caller (queued (ts ++ turn ∷ [])))
      taken =
          subst (IsSubsequenceOf (calls_of it.call.caller o.added ++ it.call ∷ []))
          (sym (ap (calls_of it.call.caller) (queued_push ts turn ∙ ap (λ (l : List Call). queued ts ++ l) seen) ∙ of_caller it.call.caller (queued ts) (it.call ∷ [])
          ∙ ap (λ (l : List Call). calls_of it.call.caller (queued ts) ++ l) (own_call it.call)))
          (IsSubsequenceOf.take (calls_of it.call.caller o.added) (calls_of it.call.caller (queued ts)) it.call (o.front it.call.caller))

      by_open : (call : Call) → IsOpen hub' call → IsSubsequenceOf (calls_of call.caller o.added ++ call ∷ []) (calls_of call.caller (queued (ts ++ turn ∷ [])))
      by_open call (IsOpen.open_waiting place one there is) = ⊎_elim
          (λ old. lift call.caller (calls_of call.caller o.added ++ call ∷ []) (o.opens hub up call (IsOpen.open_waiting place one old is)))
          (λ new. subst (λ (c : Call). IsSubsequenceOf (calls_of c.caller o.added ++ c ∷ []) (calls_of c.caller (queued (ts ++ turn ∷ [])))) (ap (λ (w : Waiting). w.call) new.1 ∙ is) taken)
          (push_cases hub.waiting it place one (sym (ap (λ (xs : List Waiting). slice_get xs place) waits) ∙ there))
      by_open call (IsOpen.open_preparing place x there h is) =
          lift call.caller (calls_of call.caller o.added ++ call ∷ [])
          (o.opens hub up call (IsOpen.open_preparing place x (sym (ap (λ (xs : List Transaction). slice_get xs place) active) ∙ there) h is))

same_open : (hub hub' : Hub) → hub'.waiting ≡ hub.waiting → hub'.active ≡ hub.active → (call : Call) → IsOpen hub' call → IsOpen hub call
same_open hub hub' waits active call (IsOpen.open_waiting place one there is) = IsOpen.open_waiting place one (sym (ap (λ (xs : List Waiting). slice_get xs place) waits) ∙ there) is
same_open hub hub' waits active call (IsOpen.open_preparing place it there h is) =
    IsOpen.open_preparing place it (sym (ap (λ (xs : List Transaction). slice_get xs place) active) ∙ there) h is

same_callers : (hub hub' : Hub) → hub'.active ≡ hub.active → CallersApart hub → CallersApart hub'
same_callers hub hub' active apart i j x y there there' =
    apart i j x y (sym (ap (λ (xs : List Transaction). slice_get xs i) active) ∙ there) (sym (ap (λ (xs : List Transaction). slice_get xs j) active) ∙ there')

module _ {D : Type 0} (here : Setting D) (first : List Call) (ts : List (Turn D)) where
  -- the same hub, or one that differs in other things
  module _ (old new : World D) (meant : Event) (seen : Option Event) (o : Ordered first ts old) (same : history_read new.journal ≡ history_read old.journal) where
    abbrev After : Type 0
    After = Ordered first (ts ++ record { before = old; meant = meant; seen = seen; behind = new } ∷ []) new

    same_hub : new.hub ≡ old.hub → After
    same_hub is = quiet_turn here first ts (record { before = old; meant = meant; seen = seen; behind = new }) o same
        (λ hub' e call open_now. (hub', sym is ∙ e, open_now)) (λ hub' e. o.callers hub' (sym is ∙ e))

    no_hub : new.hub ≡ None → After
    no_hub is = quiet_turn here first ts (record { before = old; meant = meant; seen = seen; behind = new }) o same
        (λ hub' e. absurd (let none : ◌≡◌ {A = Option Hub} None (Some hub') = sym is ∙ e in cc)) (λ hub' e. absurd (let none : ◌≡◌ {A = Option Hub} None (Some hub') = sym is ∙ e in cc))

    -- whoever is open under the one was so under the other
    less_open : (hub hub' : Hub) → old.hub ≡ Some hub → new.hub ≡ Some hub' → ((call : Call) → IsOpen hub' call → IsOpen hub call) → CallersApart hub' → After
    less_open hub hub' up up' were apart = quiet_turn here first ts (record { before = old; meant = meant; seen = seen; behind = new }) o same
        (λ h e call open_now. (hub, up, were call (subst (λ (x : Hub). IsOpen x call) (same_Some h hub' (sym e ∙ up')) open_now)))
        (λ h e. subst CallersApart (same_Some hub' h (sym up' ∙ e)) apart)

    alike : (hub hub' : Hub) → old.hub ≡ Some hub → new.hub ≡ Some hub' → hub'.waiting ≡ hub.waiting → hub'.active ≡ hub.active → After
    alike hub hub' up up' waits active = less_open hub hub' up up' (same_open hub hub' waits active) (same_callers hub hub' active (o.callers hub up))

  -- what is done
  does_ordered : (old : World D) (hub : Hub) (meant : Event) (row : List Entry) (next new : World D) → Ordered first ts old → old.hub ≡ Some hub
      → HubKept here.decls (entries_read old.journal) (history_of (entries_read old.journal)) hub.active hub.waiting hub.given → DoesUnderHub here old hub meant row next
      → history_read new.journal ≡ history_of (entries_read old.journal ++ row) → new.hub ≡ next.hub
      → Ordered first (ts ++ record { before = old; meant = meant; seen = Some meant; behind = new } ∷ []) new
  does_ordered old hub meant row next new o up known (DoesUnderHub.begins caller) grown is = same_hub old new meant (Some meant) o (grown ∙ ap history_of (append-nil (entries_read old.journal))) is
  does_ordered old hub meant row next new o up known (DoesUnderHub.answers call front said asked snap why keeps) grown is =
      alike old new meant (Some meant) o (grown ∙ ap history_of (append-nil (entries_read old.journal))) hub _ up is refl refl
  does_ordered old hub meant row next new o up known (DoesUnderHub.queues it front snap same lawful closed apart new_one within made number slot) grown is =
      queued_turn here first ts (record { before = old; meant = meant; seen = Some meant; behind = new }) o hub _ it up is (grown ∙ ap history_of (append-nil (entries_read old.journal))) refl refl refl
  does_ordered old hub meant row next new o up known (DoesUnderHub.turns_away place it said there first_one idle why) grown is =
      less_open old new meant (Some meant) o (grown ∙ ap history_of (append-nil (entries_read old.journal))) hub _ up is
      (λ call open_now. away call open_now) (same_callers hub (answered it.asker said (record hub { waiting = without place hub.waiting })) refl (o.callers hub up))
    where
      away : (call : Call) → IsOpen (answered it.asker said (record hub { waiting = without place hub.waiting })) call → IsOpen hub call
      away call (IsOpen.open_waiting i one at same) = let was = without_in place hub.waiting i one at in IsOpen.open_waiting was.0 one was.1 same
      away call (IsOpen.open_preparing i x at h same) = IsOpen.open_preparing i x at h same
  does_ordered old hub meant row next new o up known (DoesUnderHub.admits place it sets there first_one idle passes fresh) grown is =
      less_open old new meant (Some meant) o (grown ∙ history_of-append (entries_read old.journal) (intent_entry it) ∙ append-nil (history_of (entries_read old.journal))) hub _ up is
      (λ call open_now. admitted call open_now) apart
    where
      admitted : (call : Call) → IsOpen (record hub { waiting = without place hub.waiting; active = hub.active ++ transaction_begun (length (history_read old.journal)) it ∷ []; duties = started it.t sets hub.duties }) call
          → IsOpen hub call
      admitted call (IsOpen.open_waiting i one at same) = let was = without_in place hub.waiting i one at in IsOpen.open_waiting was.0 one was.1 same
      admitted call (IsOpen.open_preparing i x at h same) = ⊎_elim
          (λ was. IsOpen.open_preparing i x was h same)
          (λ last. IsOpen.open_waiting place it there (ap (λ (a : Transaction). a.call) last.1 ∙ same))
          (push_cases hub.active (transaction_begun (length (history_read old.journal)) it) i x at)

      waiting_apart : (i : ℕ) (x : Transaction) → slice_get hub.active i ≡ Some x → is_preparing x.phase ≡ true → x.call.caller ≡ it.call.caller → ⊥
      waiting_apart i x at h same = All-at (λ one. x.call.caller ≢ one.call.caller) hub.waiting place it (known.waits_apart i x at h) there same

      apart : (i j : ℕ) (x y : Transaction) → slice_get (hub.active ++ transaction_begun (length (history_read old.journal)) it ∷ []) i ≡ Some x
          → slice_get (hub.active ++ transaction_begun (length (history_read old.journal)) it ∷ []) j ≡ Some y
          → is_preparing x.phase ≡ true → is_preparing y.phase ≡ true → x.call.caller ≡ y.call.caller → i ≡ j
      apart i j x y at at' h h' same = ⊎_elim
          (λ was. ⊎_elim
          (λ was'. o.callers hub up i j x y was was' h h' same)
          (λ last'. absurd (waiting_apart i x was h (same ∙ ap (λ (a : Transaction). a.call.caller) (sym last'.1))))
          (push_cases hub.active (transaction_begun (length (history_read old.journal)) it) j y at'))
          (λ last. ⊎_elim
          (λ was'. absurd (waiting_apart j y was' h' (sym same ∙ ap (λ (a : Transaction). a.call.caller) (sym last.1))))
          (λ last'. last.0 ∙ sym last'.0)
          (push_cases hub.active (transaction_begun (length (history_read old.journal)) it) j y at'))
          (push_cases hub.active (transaction_begun (length (history_read old.journal)) it) i x at)
  does_ordered old hub meant row next new o up known (DoesUnderHub.performs device op happened due unheard possible way) grown is =
      same_hub old new meant (Some meant) o (grown ∙ ap history_of (append-nil (entries_read old.journal))) is
  does_ordered old hub meant row next new o up known (DoesUnderHub.leaves_unsent device changes due unheard) grown is =
      same_hub old new meant (Some meant) o (grown ∙ ap history_of (append-nil (entries_read old.journal))) is
  does_ordered old hub meant row next new o up known (DoesUnderHub.reports device op reply unheard) grown is =
      less_open old new meant (Some meant) o (grown ∙ ap history_of (append-nil (entries_read old.journal))) hub (hub_reported device reply (old.links device).faults hub) up is
      (λ call open_now. told_before call open_now)
      (λ i j x y at at' h h' same. o.callers hub up i j x y (retired_open _ hub.active i x at h) (retired_open _ hub.active j y at' h') h h' same)
    where
      told_before : (call : Call) → IsOpen (hub_reported device reply (old.links device).faults hub) call → IsOpen hub call
      told_before call (IsOpen.open_waiting i one at same) = IsOpen.open_waiting i one at same
      told_before call (IsOpen.open_preparing i x at h same) = IsOpen.open_preparing i x (retired_open _ hub.active i x at h) h same
  does_ordered old hub meant row next new o up known (DoesUnderHub.commits place it there least due prepared valid) grown is =
      added_turn here first ts (record { before = old; meant = meant; seen = Some meant; behind = new }) o hub up place it there preparing
      (grown ∙ history_of-append (entries_read old.journal) (entry.Decide it.t) ∙ ap (λ (c : Option Call). history_of (entries_read old.journal) ++ as_calls c) (known.intents place it there preparing).call)
      (λ h e call open_now. were call (subst (λ (x : Hub). IsOpen x call) (same_Some h _ (sym e ∙ is)) open_now))
      (λ h e. subst CallersApart (same_Some _ h (sym is ∙ e)) apart)
    where
      preparing : is_preparing it.phase ≡ true
      preparing = first_so (is_preparing it.phase) (are_heard hub.duties it.t it.plan.held.devices) due

      were : (call : Call) → IsOpen (answered it.asker (answer.Committed (length (history_read old.journal) + 1)) (hub_told it.t phase.Decided true hub)) call
          → IsOpen hub call × (it.call.caller ≡ call.caller → ⊥)
      were call (IsOpen.open_waiting i one at same) = (
        IsOpen.open_waiting i one at same,
        λ e. All-at (λ (w : Waiting). it.call.caller ≢ w.call.caller) hub.waiting i one (known.waits_apart place it there preparing) at (e ∙ ap (λ (c : Call). c.caller) (sym same)),
      )
      were call (IsOpen.open_preparing i x at h same) =
          let was = told_open (map (duty_told it.t true) hub.duties) it.t phase.Decided refl hub.active i x at h in (
            IsOpen.open_preparing i x was.there h same,
            λ e.
                let here_too : place ≡ i = o.callers hub up place i it x there was.there preparing h (e ∙ ap (λ (c : Call). c.caller) (sym same)) in
                let one : it ≡ x = same_Some it x (sym there ∙ ap (slice_get hub.active) here_too ∙ was.there) in
                false≢true (sym was.apart ∙ eq-eqb x.t it.t (ap (λ (a : Transaction). a.t) (sym one))),
          )

      apart : CallersApart (answered it.asker (answer.Committed (length (history_read old.journal) + 1)) (hub_told it.t phase.Decided true hub))
      apart i j x y at at' h h' same = o.callers hub up i j x y
          (told_open (map (duty_told it.t true) hub.duties) it.t phase.Decided refl hub.active i x at h).there
          (told_open (map (duty_told it.t true) hub.duties) it.t phase.Decided refl hub.active j y at' h').there h h' same
  does_ordered old hub meant row next new o up known (DoesUnderHub.aborts place it said there least due why) grown is =
      less_open old new meant (Some meant) o (grown ∙ history_of-append (entries_read old.journal) (entry.Abort it.t) ∙ append-nil (history_of (entries_read old.journal))) hub
      (answered it.asker said (hub_told it.t phase.Aborted false hub)) up is (λ call open_now. were call open_now)
      (λ i j x y at at' h h' same. o.callers hub up i j x y (gone i x at h) (gone j y at' h') h h' same)
    where
      gone : (i : ℕ) (x : Transaction) → slice_get (map (retired (map (duty_told it.t false) hub.duties)) (map (in_phase it.t phase.Aborted) hub.active)) i ≡ Some x → is_preparing x.phase ≡ true
          → slice_get hub.active i ≡ Some x
      gone i x at h = (told_open (map (duty_told it.t false) hub.duties) it.t phase.Aborted refl hub.active i x at h).there

      were : (call : Call) → IsOpen (answered it.asker said (hub_told it.t phase.Aborted false hub)) call → IsOpen hub call
      were call (IsOpen.open_waiting i one at same) = IsOpen.open_waiting i one at same
      were call (IsOpen.open_preparing i x at h same) = IsOpen.open_preparing i x (gone i x at h) h same
  does_ordered old hub meant row next new o up known (DoesUnderHub.settles place it there least settling) grown is =
      less_open old new meant (Some meant) o (grown ∙ history_of-append (entries_read old.journal) (entry.Settled it.t) ∙ append-nil (history_of (entries_read old.journal))) hub
      (record hub { active = filter (is_other it.t) hub.active }) up is (λ call open_now. were call open_now)
      (λ i j x y at at' h h' same. places_apart (is_other it.t) hub.active i j
      (o.callers hub up (place_in (is_other it.t) hub.active i) (place_in (is_other it.t) hub.active j) x y
      (stayed (is_other it.t) hub.active i x at).there (stayed (is_other it.t) hub.active j y at').there h h' same))
    where
      were : (call : Call) → IsOpen (record hub { active = filter (is_other it.t) hub.active }) call → IsOpen hub call
      were call (IsOpen.open_waiting i one at same) = IsOpen.open_waiting i one at same
      were call (IsOpen.open_preparing i x at h same) =
          IsOpen.open_preparing (place_in (is_other it.t) hub.active i) x (stayed (is_other it.t) hub.active i x at).there h same
  does_ordered old hub meant row next new o up known DoesUnderHub.stops grown is =
      no_hub old new meant (Some meant) o (grown ∙ ap history_of (append-nil (entries_read old.journal))) is
  does_ordered old hub meant row next new o up known (DoesUnderHub.mends numbers idle unsettled) grown is =
      alike old new meant (Some meant) o (grown ∙ ap history_of (append-nil (entries_read old.journal))) hub _ up is refl refl
  does_ordered old hub meant row next new o up known (DoesUnderHub.mended numbers met busy heard unsettled) grown is =
      less_open old new meant (Some meant) o (grown ∙ settled_same (entries_read old.journal) numbers) hub (record hub { active = []; mends = None; duties = map mender_freed hub.duties }) up is
      (λ call open_now. were call open_now) (λ i j x y at. absurd cc)
    where
      were : (call : Call) → IsOpen (record hub { active = []; mends = None; duties = map mender_freed hub.duties }) call → IsOpen hub call
      were call (IsOpen.open_waiting i one at same) = IsOpen.open_waiting i one at same
      were call (IsOpen.open_preparing i x at h same) = absurd cc
  does_ordered old hub meant row next new o up known (DoesUnderHub.finds_no_memory met busy heard) grown is =
      alike old new meant (Some meant) o (grown ∙ ap history_of (append-nil (entries_read old.journal))) hub _ up is refl refl
  does_ordered old hub meant row next new o up known (DoesUnderHub.fails_to_mend met failed heard) grown is =
      alike old new meant (Some meant) o (grown ∙ ap history_of (append-nil (entries_read old.journal))) hub _ up is refl refl

  hub_known : (old : World D) (hub : Hub) → HistoryKept here old → old.hub ≡ Some hub
      → HubKept here.decls (entries_read old.journal) (history_of (entries_read old.journal)) hub.active hub.waiting hub.given
  hub_known old hub kept up =
      let own = kept.hub hub up in
      subst (λ (l : List Entry). HubKept here.decls l (history_of l) hub.active hub.waiting hub.given) (sym (uncut_read old.journal own.0)) own.1

  -- an append that wasn't done
  cut_ordered : (old new : World D) (hub : Hub) (meant : Event) (seen : Option Event) (row : List Entry) (next : World D) (out : Appended) → HistoryKept here old → Ordered first ts old
      → old.hub ≡ Some hub → DoesUnderHub here old hub meant row next → AppendsRow here.disk here.decls.text here.limit old.journal row out new.journal → new.hub ≡ None
      → Ordered first (ts ++ record { before = old; meant = meant; seen = seen; behind = new } ∷ []) new
  cut_ordered old new hub meant seen row next out kept o up does appends down =
      let r = read_by here old.journal new.journal row out appends in
      down_turn here first ts (record { before = old; meant = meant; seen = seen; behind = new }) o hub up down
      (subst (λ (h : List Call). RowGrows hub (history_read old.journal) h) (sym (ap history_of r.read))
      (row_grows here old hub meant row next (hub_known old hub kept up) does r.front r.rest r.parts))

  steps_ordered : (old new : World D) (meant : Event) (seen : Option Event) → HistoryKept here old → Ordered first ts old → Steps here old meant seen new
      → Ordered first (ts ++ record { before = old; meant = meant; seen = seen; behind = new } ∷ []) new
  steps_ordered old new meant seen kept o (Steps.done hub row next _ up does appends is) =
      does_ordered old hub meant row next new o up (hub_known old hub kept up) does (ap history_of (read_done here old.journal new.journal row appends))
      (ap (λ (w : World D). w.hub) is)
  steps_ordered old new meant seen kept o (Steps.cut hub row next _ up does appends is) =
      cut_ordered old new hub meant seen row next appended.Stopped kept o up does appends (ap (λ (w : World D). w.hub) is)
  steps_ordered old new meant seen kept o (Steps.failed hub row next _ up does appends is) =
      cut_ordered old new hub meant seen row next appended.Failed kept o up does appends (ap (λ (w : World D). w.hub) is)
  steps_ordered old new meant seen kept o (Steps.full hub row next len _ up does appends is) =
      cut_ordered old new hub meant seen row next (appended.Full len) kept o up does appends (ap (λ (w : World D). w.hub) is)
  steps_ordered old new meant seen kept o (Steps.anyway _ (DoesAnyway.ticks seconds)) = same_hub old new meant seen o refl refl
  steps_ordered old new meant seen kept o (Steps.anyway _ (DoesAnyway.restarts device)) = same_hub old new meant seen o refl refl
  steps_ordered old new meant seen kept o (Steps.anyway _ (DoesAnyway.answers_down call front down)) = same_hub old new meant seen o refl refl
  steps_ordered old new meant seen kept o (Steps.unopened _ down recover stays is) =
      no_hub old new meant seen o (ap history_of (sym (read_same old.journal new.journal stays))) (ap (λ (w : World D). w.hub) is ∙ down)
    where
      read_same : (a b : Journal D) → StaysClosed here.disk here.decls.text here.limit a b → entries_read a ≡ entries_read b
      read_same a b s =
          ap (λ (c : Bool). cond c (a.synced ++ a.cut) a.synced) (sym s.cut.1)
          ∙ ap (λ (l : List Entry). cond b.cut_is_read (a.synced ++ l) a.synced) (sym s.cut.0)
          ∙ ap (λ (l : List Entry). cond b.cut_is_read (l ++ b.cut) l) (sym s.synced)
  steps_ordered old new meant seen kept o (Steps.recovers _ down recover reopens is) =
      quiet_turn here first ts (record { before = old; meant = meant; seen = seen; behind = new }) o (ap history_of (uncut_read new.journal reopens.cut ∙ reopens.synced kept.journal.read_back))
      (λ hub' e call open_now. absurd (nobody (subst (λ (h : Hub). IsOpen h call) (sym (same_Some _ hub' (sym (ap (λ (w : World D). w.hub) is) ∙ e))) open_now)))
      (λ hub' e. subst CallersApart (same_Some _ hub' (sym (ap (λ (w : World D). w.hub) is) ∙ e)) (λ i j x y at. absurd cc))
    where
      nobody : {duties : List Duty} {stale : List (Option Why)} {call : Call} → IsOpen (new_hub duties stale) call → ⊥
      nobody (IsOpen.open_waiting i one at same) = absurd cc
      nobody (IsOpen.open_preparing i x at h same) = absurd cc

-- over a whole run
module _ {D : Type 0} (here : Setting D) (are : AreDecls here.decls) (plans : PlanStands) (legally : LegalStands) (order : KeepsOrder)
    (script : List ScriptStep) (first last : World D) (run : Run here script first last) (kept : HistoryKept here first) where
  abbrev Both : List (Turn D) → World D → Type 0
  Both ts world = HistoryKept here world × Ordered (history_read first.journal) ts world

  both_turn : (ts : List (Turn D)) (turn : Turn D) → Both ts turn.before → Comes here turn → Both (ts ++ turn ∷ []) turn.behind
  both_turn ts turn own comes = (
    steps_keep here are plans legally order turn.before turn.behind turn.meant turn.seen own.0 comes,
    steps_ordered here (history_read first.journal) ts turn.before turn.behind turn.meant turn.seen own.0 own.1 comes,
  )

  set_ordered : (ts : List (Turn D)) (at : ScriptStep) (world : World D) → Ordered (history_read first.journal) ts world → Ordered (history_read first.journal) ts (set_by at world)
  set_ordered ts (step.StopAt count bytes) world own = on world.hub where
    on : (hub : Option Hub) → Ordered (history_read first.journal) ts (option_map_or (λ h. record world { journal = record world.journal { armed = count; bytes = bytes } }) hub world)
    on None = own
    on (Some hub) = record { added = own.added; grows = own.grows; front = own.front; opens = own.opens; callers = own.callers }
  set_ordered ts (step.Fault device op at) world own = record { added = own.added; grows = own.grows; front = own.front; opens = own.opens; callers = own.callers }
  set_ordered ts other world own = own

  -- As the run begins no call is open.
  pub in_callers_order : ((hub : Hub) → first.hub ≡ Some hub → (hub.waiting ≡ []) × (hub.active ≡ [])) → (caller : List ℕ) (added : List Call)
      → history_read last.journal ≡ history_read first.journal ++ added → IsSubsequenceOf (calls_of caller added) (calls_of caller (queued (turns_of run)))
  in_callers_order idle caller added is =
      let o = (run_forward here Both both_turn both_set script first last run (kept, at_first)).1 in
      subst (λ (l : List Call). IsSubsequenceOf (calls_of caller l) (calls_of caller (queued (turns_of run)))) (append_same (history_read first.journal) o.added added (sym o.grows ∙ is)) (o.front caller)
    where
      append_same : (xs ys zs : List Call) → xs ++ ys ≡ xs ++ zs → ys ≡ zs
      append_same [] ys zs e = e
      append_same (x ∷ xs) ys zs e = append_same xs ys zs (let rest : xs ++ ys ≡ xs ++ zs = cc in rest)

      both_set : (ts : List (Turn D)) (at : ScriptStep) (world : World D) → Both ts world → Both ts (set_by at world)
      both_set ts at world own = (set_kept here at world own.0, set_ordered ts at world own.1)

      nobody : (hub : Hub) → (hub.waiting ≡ []) × (hub.active ≡ []) → (call : Call) → IsOpen hub call → ⊥
      nobody hub none call (IsOpen.open_waiting i one at same) = let no_one : ◌≡◌ {A = Option Waiting} None (Some one) = sym (ap (λ (xs : List Waiting). slice_get xs i) none.0) ∙ at in cc
      nobody hub none call (IsOpen.open_preparing i x at h same) = let no_one : ◌≡◌ {A = Option Transaction} None (Some x) = sym (ap (λ (xs : List Transaction). slice_get xs i) none.1) ∙ at in cc

      at_first : Ordered (history_read first.journal) [] first
      at_first = record {
        added = [];
        grows = sym (append-nil (history_read first.journal));
        front = λ caller'. IsSubsequenceOf.none;
        opens = λ hub up call open_now. absurd (nobody hub (idle hub up) call open_now);
        callers = λ hub up i j x y at at' h h' same.
            absurd (let no_one : ◌≡◌ {A = Option Transaction} None (Some x) = sym (ap (λ (xs : List Transaction). slice_get xs i) (idle hub up).1) ∙ at in cc);
      }
