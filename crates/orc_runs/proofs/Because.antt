-- Each answer has its cause.
use Rattle.std.proofs.Common.{append-nil, [], ◌≡◌, inl, inr, ℕ, ◌+◌, ◌==◌, Bool, true, false, cond, not, nat_eq, Option, Some, None, Err, List, ◌∷◌, ◌++◌, Contains, length, refl, sym, ap, subst, ◌∙◌, zero, suc, eq-eqb, ne_eqb}
use Rattle.std.specs.Prelude.{slice_get, take}
use Rattle.std.specs.List.{find, list_any}
use Rattle.std.specs.Option.{option_map, option_map_or}
use Rattle.std.proofs.lemmas.Bool.{false≢true}
use Rattle.std.proofs.lemmas.Option.{get_or_from_slice_get, same_Some, slice_get_within}
use Rattle.orc_call.specs.declared.answer.Answer.{Answer}
use Rattle.orc_call.specs.declared.answer.Answer.TheVariants as answer
use Rattle.orc_call.specs.declared.answer.Why.{Why}
use Rattle.orc_call.specs.declared.call.Call.{Call}
use Rattle.orc_datastore.specs.Legal.{state_of}
use Rattle.orc_decls.specs.Declarations.{AreDecls}
use Rattle.orc_journal.specs.Committed.{history_of}
use Rattle.orc_journal.specs.declared.entry.Entry.{Entry}
use Rattle.orc_plans.specs.Plans.{PlanStands}
use Rattle.orc_rules.specs.Acceptance.{RepliesKept}
use Rattle.orc_rules.specs.Admissions.{IsTurnedAway}
use Rattle.orc_rules.specs.Events.{DoesAnyway, DoesUnderHub, IsGivenUpFor, Steps, Turn}
use Rattle.orc_rules.specs.Hubs.{Hub}
use Rattle.orc_rules.specs.Invariant.{IsLawful}
use Rattle.orc_rules.specs.Journals.{entries_read, history_read}
use Rattle.orc_rules.specs.Kept.{AreWaitingApart, FitAt, HistoryKept, StandsAt, ValidAt}
use Rattle.orc_rules.specs.Network.{Planning}
use Rattle.orc_rules.specs.Standing.{IsWaiting}
use Rattle.orc_state.specs.Checks.{Checks}
use Rattle.orc_rules.specs.Transactions.{is_preparing}
use Rattle.orc_rules.specs.UnderHub.{Attends, DevicesKept, IsOfHub}
use Rattle.orc_rules.specs.Verdicts.{are_heard}
use Rattle.orc_rules.specs.Worlds.{AnswersSubmission, IsNumberedEntry, Setting, World, over}
use Rattle.orc_rules.specs.declared.event.Event.{Event}
use Rattle.orc_rules.specs.declared.event.Event.TheVariants as event
use Rattle.orc_rules.specs.declared.transaction.Transaction.{Transaction}
use Rattle.orc_rules.specs.declared.transaction.Waiting.{Waiting}
use Rattle.orc_rules.proofs.Entering.{All-at, Differ}
use Rattle.orc_rules.proofs.Refusing.{check_sought, invalid_unsought, is_plain, planned_unsought}
use Rattle.orc_rules.proofs.Slots.{both_true}
use Rattle.orc_rules.proofs.Tracking.{known_at}
use Rattle.orc_runs.specs.Headline.{AnsweredBecause, HasFault, HoldsDevice, IsAnswered, IsRefusedAs, IsStaleBecause, WaitsWith, since_admitted}
use Rattle.orc_runs.specs.Scripts.{call_on_way, call_under}
use Rattle.orc_rules.proofs.Images.{read_front}
use Rattle.orc_runs.proofs.Acknowledged.{call_is, entered, entry_more}
use Rattle.orc_runs.proofs.Fields.{front_history}
use Rattle.orc_runs.proofs.Unmoved.{failing_said, read_done}
use Rattle.orc_runs.proofs.Declined.{tells_refused}
use Rattle.orc_runs.proofs.Faulted.{GivenUpBy, given_up_by, lost_by, stale_at}
use Rattle.orc_runs.proofs.Faulting.{FaultsKnown}

-- what is looked at of a call gives plain answers alone

abbrev is_unplain : Answer → Bool
is_unplain x = not (is_plain x)

plain_not : (x : Answer) → is_plain x ≡ true → is_unplain x ≡ false
plain_not x h = ap not h

not_unplain : (x : Answer) → (is_unplain x ≡ true → ⊥) → is_plain x ≡ true
not_unplain x h = on (is_plain x) refl
  where
    on : (b : Bool) → is_plain x ≡ b → is_plain x ≡ true
    on true e = e
    on false e = absurd (h (ap not e))

-- the waiting call of a number
pub waits_found : (xs : List Waiting) (place : ℕ) (it : Waiting) → AreWaitingApart xs → slice_get xs place ≡ Some it → find (λ x. x.t == it.t) xs ≡ Some it
waits_found [] place it apart there = absurd cc
waits_found (x ∷ xs) zero it apart there =
    let same : x ≡ it = same_Some x it there in
    ap (λ (b : Bool). cond b (Some x) (find (λ y. y.t == it.t) xs)) (eq-eqb x.t it.t (ap (λ (w : Waiting). w.t) same)) ∙ ap (λ (w : Waiting). Some w) same
waits_found (x ∷ xs) (suc place) it apart there =
    ap (λ (b : Bool). cond b (Some x) (find (λ y. y.t == it.t) xs)) (ne_eqb x.t it.t (All-at (Differ x) xs place it apart.0 there).0) ∙ waits_found xs place it apart.1 there

among_at : {X : Type 0} (xs : List X) (place : ℕ) (x : X) → slice_get xs place ≡ Some x → Contains xs x
among_at xs place x there = (place, slice_get_within xs place x there, get_or_from_slice_get xs place x x there)

module _ {D : Type 0} (here : Setting D) (first : World D) (earlier : List (Turn D)) (turn : Turn D) where
  -- what is known of faults before it
  abbrev Known : World D → Type 0
  Known world = FaultsKnown (IsStaleBecause first earlier) (λ t. HasFault (since_admitted t earlier)) world

  abbrev old : World D
  old = turn.before

  abbrev new : World D
  new = turn.behind

  -- an answer to a call
  abbrev Because : Call → Answer → Type 0
  Because call given = AnsweredBecause here first earlier turn call given

  -- a plain answer
  plain_because : (call : Call) (given : Answer) → is_plain given ≡ true → IsRefusedAs here.decls old turn.seen call given → Because call given
  plain_because call (answer.Exists id) h is = is
  plain_because call (answer.Missing id) h is = is
  plain_because call (answer.Invalid path rule) h is = is
  plain_because call (answer.Expand id block rule) h is = is
  plain_because call (answer.Clash device path id) h is = is
  plain_because call (answer.Committed number) h is = absurd (false≢true h)
  plain_because call (answer.Conflict number written) h is = absurd (false≢true h)
  plain_because call (answer.OutOfSync device cause) h is = absurd (false≢true h)
  plain_because call (answer.Refused device said) h is = absurd (false≢true h)
  plain_because call (answer.LinkFault device number) h is = absurd (false≢true h)
  plain_because call (answer.Reused number) h is = absurd (false≢true h)
  plain_because call answer.Down h is = absurd (false≢true h)
  plain_because call answer.JournalFault h is = absurd (false≢true h)
  plain_because call answer.Memory h is = absurd (false≢true h)
  plain_because call (answer.Busy number) h is = absurd (false≢true h)

  module _ (are : AreDecls here.decls) (plans : PlanStands) (kinds : (device : ℕ) → IsOfHub (here.kinds device)) (lawful : (device : ℕ) → IsLawful (here.kinds device) (over here.decls device))
      (planning : Planning (over here.decls) (StandsAt here.decls) (FitAt here.decls) (ValidAt here.decls)) where
    module _ (hub : Hub) (up : old.hub ≡ Some hub) (kept : HistoryKept here old) (own : DevicesKept here.decls old) (replies : RepliesKept here old) (known : Known old) where
      abbrev under : Attends here.decls own.shadow (entries_read old.journal) hub old.links
      under = own.under hub up

      -- the answer is given as the call is submitted
      at_once : (call : Call) (front : ℕ) (said : Answer) → turn.seen ≡ Some (event.Submit call front (Some said)) → old.snapshots call.caller ≡ Some front
          → AnswersSubmission here.decls hub (history_read old.journal) call front said → history_read new.journal ≡ history_read old.journal → Because call said
      at_once call front said seen snap (AnswersSubmission.busy number open_now) same = (hub, up, open_now)
      at_once call front said seen snap (AnswersSubmission.again number closed found) same = subst (λ (h : List Call). IsNumberedEntry h number call) (sym same) found
      at_once call front said seen snap (AnswersSubmission.reused number entry closed found alike differs) same = (entry, found, alike, differs)
      at_once call front said seen snap (AnswersSubmission.refuses _ closed new_one made) same =
          plain_because call said
          (not_unplain said (λ h. planned_unsought is_unplain plain_not here.decls (state_of here.decls (take front (history_read old.journal))) front call said made h))
          (subst (λ (e : Option Event). IsRefusedAs here.decls old e call said) (sym seen) (snap, made))
      at_once call front said seen snap AnswersSubmission.wanting same = tt

      cause_so : (device : ℕ) (cause : Why) → slice_get hub.stale device ≡ Some (Some cause) → IsStaleBecause first earlier device cause
      cause_so device cause there = (known.under hub up).stale_so device cause there

      -- a call that waits does so with the plan of its snapshot
      waits_with : (place : ℕ) (it : Waiting) → slice_get hub.waiting place ≡ Some it → WaitsWith here.decls old it.t it.call it.plan
      waits_with place it there =
          let is = All-at (IsWaiting here.decls (history_of (entries_read old.journal))) hub.waiting place it (known_at here are plans kinds lawful planning old hub kept up).0.waits there in
          record {
            hub = hub;
            up = up;
            it = it;
            waits = among_at hub.waiting place it there;
            number = refl;
            is = (refl, refl);
            within = is.planned.front;
            planned = is.planned.planned;
          }

      turned : (place : ℕ) (it : Waiting) (said : Answer) → turn.seen ≡ Some (event.Admit it.t (Some said)) → slice_get hub.waiting place ≡ Some it → IsTurnedAway here.decls (history_read old.journal) hub it said
          → Because it.call said
      unfolding waits_with
      turned place it said seen there (inl memory) = subst (Because it.call) (sym memory) tt
      turned place it said seen there (inr (inl checked)) = on (is_plain said) refl
        where
          on : (b : Bool) → is_plain said ≡ b → Because it.call said
          on true e = plain_because it.call said e (subst (λ (x : Option Event). IsRefusedAs here.decls old x it.call said) (sym seen) (it.plan, waits_with place it there, checked))
          on false e =
              let c = check_sought is_unplain plain_not here.decls (history_read old.journal) it.call it.plan (Err said) said checked refl (ap not e) in
              subst (Because it.call) (sym c.is) (
                it.t,
                it.plan,
                waits_with place it there,
                subst (λ (a : Answer). Checks here.decls (history_read old.journal) it.call it.plan (Err a)) c.is checked,
                c.n,
                refl,
                c.conflict,
              )
      turned place it said seen there (inr (inr stale)) =
          let s = stale_at it.plan.held.devices hub.stale said stale.2 in
          subst (Because it.call) (sym s.said_is) (
            it.t,
            it.plan,
            waits_with place it there,
            (stale.0, stale.1),
            stale.2 ∙ ap (λ (a : Answer). Some a) s.said_is,
            s.there,
            cause_so s.device s.cause s.there,
          )

      given_up : (place : ℕ) (it : Transaction) (said : Answer) → turn.seen ≡ Some (event.Decide it.t said) → slice_get hub.active place ≡ Some it → is_preparing it.phase ≡ true → IsGivenUpFor here old hub it said
          → Because it.call said
      given_up place it said seen there preparing (inl memory) = subst (Because it.call) (sym memory) tt
      given_up place it said seen there preparing (inr (inr broken)) =
          plain_because it.call said (not_unplain said (λ h. invalid_unsought is_unplain plain_not _ _ said broken.1 h))
          (subst (λ (x : Option Event). IsRefusedAs here.decls old x it.call said) (sym seen) broken.1)
      given_up place it said seen there preparing (inr (inl found)) = by (given_up_by hub.duties it.t it.plan.held.devices said found)
        where
          holds : (d : ℕ) → list_any (nat_eq d) it.plan.held.devices ≡ true → HoldsDevice old it.t it.call d
          holds d named = record {
            hub = hub;
            up = up;
            it = it;
            active = among_at hub.active place it there;
            number = refl;
            called = refl;
            held = named;
          }

          by : GivenUpBy hub.duties it.t it.plan.held.devices said → Because it.call said
          by (GivenUpBy.by_memory memory) = subst (Because it.call) (sym memory) tt
          by (GivenUpBy.by_refusal d t named is outcome_is) =
              let refuses = tells_refused here old hub up own replies place it there preparing d t named outcome_is in
              subst (Because it.call) (sym is) ((it.t, holds d named), refuses.0, refuses.1)
          by (GivenUpBy.by_loss d count named is outcome_is) =
              subst (Because it.call) (sym is) (
                it.t,
                holds d named,
                lost_by here (IsStaleBecause first earlier) (λ t. HasFault (since_admitted t earlier)) old hub up own known place it there preparing d count outcome_is,
              )

      waiting_call : (place : ℕ) (it : Waiting) → slice_get hub.waiting place ≡ Some it → call_under old it.t ≡ Some it.call
      waiting_call place it there =
          ap (λ (h : Option Hub). option_map_or (λ x. call_on_way x it.t) h None) up
          ∙ ap (λ (w : Option Waiting). option_map_or (λ x. Some x.call) w (option_map (λ x. x.call) (find (λ x. x.t == it.t) hub.active)))
          (waits_found hub.waiting place it (kept.hub hub up).1.waiting_apart there)

      does_because : (meant : Event) (row : List Entry) (next : World D) → DoesUnderHub here old hub meant row next → turn.seen ≡ Some meant → (call : Call) (given : Answer)
          → IsAnswered turn (Some meant) call given → (row ≡ [] → history_read new.journal ≡ history_read old.journal) → ((number : ℕ) → given ≡ answer.Committed number → Because call given) → Because call given
      does_because meant row next (DoesUnderHub.answers submitted front said asked snap why keeps) seen call given says same committed =
          subst (λ (a : Answer). Because call a) (same_Some said given says.1) (subst (λ (c : Call). Because c said) says.0 (at_once submitted front said seen snap why (same refl)))
      does_because meant row next (DoesUnderHub.queues it front snap alike lawful_call closed apart fresh within made number' slot) seen call given says same committed =
          absurd (let none : ◌≡◌ {A = Option Answer} None (Some given) = says.1 in cc)
      does_because meant row next (DoesUnderHub.turns_away place it said there first idle why) seen call given says same committed =
          let called : it.call ≡ call = same_Some it.call call (sym (waiting_call place it there) ∙ says.0) in
          subst (λ (a : Answer). Because call a) (same_Some said given says.1) (subst (λ (c : Call). Because c said) called (turned place it said seen there why))
      does_because meant row next (DoesUnderHub.admits place it sets there first idle passes fresh) seen call given says same committed =
          absurd (let none : ◌≡◌ {A = Option Answer} None (Some given) = says.1 in cc)
      does_because meant row next (DoesUnderHub.commits place it there least due prepared valid) seen call given says same committed =
          committed (length (history_read old.journal) + 1) (sym says.1)
      does_because meant row next (DoesUnderHub.aborts place it said there least due why) seen call given says same committed =
          let preparing = (both_true (is_preparing it.phase) (are_heard hub.duties it.t it.plan.held.devices) due).0 in
          let of_hub = known_at here are plans kinds lawful planning old hub kept up in
          let open_in = of_hub.0.intents place it there preparing in
          let found = call_is here are plans kinds lawful planning old hub place it up there of_hub.0 open_in.undecided.0 (λ place' other there' same_t. under.numbers place' place other it there' there same_t) in
          let called : it.call ≡ call = same_Some it.call call (sym found ∙ says.0) in
          subst (λ (a : Answer). Because call a) says.1 (subst (λ (c : Call). Because c said) called (given_up place it said seen there preparing why))
      does_because meant row next does seen call given says same committed = absurd says

    -- a call that is committed is an entry of what is read
    committed_because : (call : Call) (number : ℕ) → IsNumberedEntry (history_of new.journal.synced) number call → Because call (answer.Committed number)
    committed_because call number is =
        let longer = front_history new.journal.synced (entries_read new.journal) (read_front here.disk here.decls.text here.limit new.journal) in
        subst (λ (h : List Call). IsNumberedEntry h number call) (sym longer.1) (entry_more (history_of new.journal.synced) longer.0 number call is)

    -- a call that is answered whether a hub is up or not is answered Down
    anyway_because : (meant : Event) (next : World D) → DoesAnyway old meant next → (call : Call) (given : Answer) → IsAnswered turn (Some meant) call given → Because call given
    anyway_because meant next (DoesAnyway.ticks seconds) call given says = absurd says
    anyway_because meant next (DoesAnyway.restarts x) call given says = absurd says
    anyway_because meant next (DoesAnyway.answers_down submitted front down) call given says = subst (Because call) (same_Some answer.Down given says.1) down

    steps_because : (meant : Event) (seen : Option Event) → Steps here old meant seen new → turn.seen ≡ seen → HistoryKept here old → DevicesKept here.decls old → RepliesKept here old
        → Known old → (call : Call) (given : Answer) → IsAnswered turn seen call given
        → ((number : ℕ) → given ≡ answer.Committed number → Because call given) → Because call given
    steps_because meant seen (Steps.done hub row next _ up does appends is) at kept own replies known call given says committed =
        does_because hub up kept own replies known meant row next does at call given says
        (λ none. ap history_of (read_done here old.journal new.journal row appends ∙ ap (λ (l : List Entry). entries_read old.journal ++ l) none ∙ append-nil (entries_read old.journal))) committed
    steps_because meant seen (Steps.cut hub row next _ up does appends is) at kept own replies known call given says committed = absurd says
    steps_because meant seen (Steps.failed hub row next _ up does appends is) at kept own replies known call given says committed =
        subst (Because call) (sym (failing_said here meant turn call given says)) appends.ends.1
    steps_because meant seen (Steps.full hub row next len _ up does appends is) at kept own replies known call given says committed = absurd says
    steps_because meant seen (Steps.anyway _ does) at kept own replies known call given says committed = anyway_because meant new does call given says
    steps_because meant seen (Steps.unopened _ down recover stays is) at kept own replies known call given says committed = absurd says
    steps_because meant seen (Steps.recovers _ down recover reopens is) at kept own replies known call given says committed =
        absurd (subst (λ (m : Event). IsAnswered turn (Some m) call given) recover says)

    -- of a turn that came
    pub turn_because : Steps here turn.before turn.meant turn.seen turn.behind → HistoryKept here turn.before → DevicesKept here.decls turn.before → RepliesKept here turn.before
        → Known turn.before → (call : Call) (given : Answer) → IsAnswered turn turn.seen call given → Because call given
    turn_because comes kept own replies known call given says =
        steps_because turn.meant turn.seen comes refl kept own replies known call given says
        (λ number is. subst (Because call) (sym is)
        (committed_because call number
        (entered here are plans kinds lawful planning turn.before turn.behind turn.meant turn.seen kept own comes call number (subst (IsAnswered turn turn.seen call) is says))))
