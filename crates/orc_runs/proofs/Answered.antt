-- Each call that was queued is on its way, or was answered since.
use Rattle.std.proofs.Common.{[], ◌≡◌, ◌≢◌, ◌⊎◌, inl, inr, ◌+◌, ◌==◌, ℕ, zero, suc, Bool, true, false, cond, ◌&&◌, Option, Some, None, List, ◌∷◌, ◌++◌, length, map, nat_eq, not, eq-eqb, append_assoc, refl, sym, ap, subst, ◌∙◌}
use Rattle.std.specs.Prelude.{filter, slice_get}
use Rattle.std.specs.List.{find, flat_map}
use Rattle.std.specs.Option.{option_map, option_map_or}
use Rattle.std.proofs.lemmas.Bool.{false≢true}
use Rattle.std.proofs.lemmas.List.Elements.{Contains-append_left, Contains-push}
use Rattle.std.proofs.lemmas.Option.{same_Some, slice_get-map}
use Rattle.orc_call.specs.declared.answer.Answer.{Answer}
use Rattle.orc_call.specs.declared.answer.Answer.TheVariants as answer
use Rattle.orc_call.specs.declared.answer.RecFault.{RecFault}
use Rattle.orc_call.specs.declared.call.Call.{Call}
use Rattle.orc_decls.specs.Declarations.{AreDecls}
use Rattle.orc_journal.specs.Committed.{history_of}
use Rattle.orc_journal.specs.Laws.{KeepsOrder}
use Rattle.orc_journal.specs.declared.entry.Entry.{Entry}
use Rattle.orc_plans.specs.Plans.{LegalStands, PlanStands}
use Rattle.orc_rules.specs.Admissions.{started, transaction_begun, without}
use Rattle.orc_rules.specs.Duties.{duty_told, duty_took}
use Rattle.orc_rules.specs.Events.{Comes, DoesAnyway, DoesUnderHub, Steps, Turn, mender_freed, seen_failing}
use Rattle.orc_rules.specs.Hubs.{Hub, hub_reported, with_changed}
use Rattle.orc_rules.specs.Invariant.{IsLawful}
use Rattle.orc_rules.specs.Journals.{entries_read, history_read}
use Rattle.orc_rules.specs.Kept.{FitAt, HistoryKept, HubKept, StandsAt, ValidAt}
use Rattle.orc_rules.specs.Network.{Planning}
use Rattle.orc_rules.specs.Transactions.{are_over, in_phase, is_other, is_preparing, is_settling, is_told, retired, transaction_ended}
use Rattle.orc_rules.specs.UnderHub.{AreMending, Attends, DevicesKept, IsOfHub, MendingKept}
use Rattle.orc_rules.specs.Verdicts.{are_heard}
use Rattle.orc_rules.specs.Worlds.{Setting, World, over}
use Rattle.orc_rules.specs.declared.duty.Duty.{Duty}
use Rattle.orc_rules.specs.declared.event.Event.{Event}
use Rattle.orc_rules.specs.declared.event.Event.TheVariants as event
use Rattle.orc_rules.specs.declared.transaction.Phase.{Phase}
use Rattle.orc_rules.specs.declared.transaction.Phase.TheVariants as phase
use Rattle.orc_rules.specs.declared.transaction.Transaction.{Transaction}
use Rattle.orc_rules.specs.declared.transaction.Waiting.{Waiting}
use Rattle.orc_rules.proofs.Entering.{without_suc}
use Rattle.orc_rules.proofs.Leaving.{finds_place}
use Rattle.orc_rules.proofs.Recording.{either}
use Rattle.orc_rules.proofs.Slots.{both_true}
use Rattle.orc_rules.proofs.Telling.{flip}
use Rattle.orc_rules.proofs.Tracking.{known_at, steps_devices}
use Rattle.orc_rules.proofs.Turning.{steps_keep}
use Rattle.orc_runs.specs.Headline.{HasAnswerIn, IsAnsweredLater, StayUp}
use Rattle.orc_runs.specs.Runs.{AreDone, LineDone}
use Rattle.orc_runs.specs.Scripts.{call_on_way, call_under, set_by}
use Rattle.orc_script.specs.declared.step.ScriptStep.{ScriptStep}
use Rattle.orc_script.specs.declared.step.ScriptStep.TheVariants as step
use Rattle.orc_runs.proofs.Acknowledged.{call_is}
use Rattle.orc_runs.proofs.Because.{waits_found}
use Rattle.orc_runs.proofs.Faulted.{SplitPush, nil_none, split_push}
use Rattle.orc_runs.proofs.Forward.{lines_forward}
use Rattle.orc_runs.proofs.InStep.{set_devices}
use Rattle.orc_runs.proofs.Lasting.{set_kept}
use Rattle.orc_runs.proofs.Ordered.{IsOpen}

-- what lists keep

-- an element stays, where another is taken out
stays_in : {X : Type 0} (place at : ℕ) (xs : List X) (x : X) → slice_get xs at ≡ Some x → (place ≡ at → ⊥) → (k : ℕ) × (slice_get (without place xs) k ≡ Some x)
stays_in place at [] x there apart = absurd cc
stays_in zero zero (y ∷ xs) x there apart = absurd (apart refl)
stays_in zero (suc at) (y ∷ xs) x there apart = (at, there)
stays_in {X = X} (suc place) zero (y ∷ xs) x there apart = (zero, ap (λ (l : List X). slice_get l zero) (without_suc place y xs) ∙ there)
stays_in {X = X} (suc place) (suc at) (y ∷ xs) x there apart =
    let later = stays_in place at xs x there (λ e. apart (ap (λ (n : ℕ). suc n) e)) in
    (suc later.0, ap (λ (l : List X). slice_get l (suc later.0)) (without_suc place y xs) ∙ later.1)

in_front : {X : Type 0} (xs ys : List X) (at : ℕ) (x : X) → slice_get xs at ≡ Some x → slice_get (xs ++ ys) at ≡ Some x
in_front [] ys at x there = absurd cc
in_front (y ∷ xs) ys zero x there = there
in_front (y ∷ xs) ys (suc at) x there = in_front xs ys at x there

at_end : {X : Type 0} (xs : List X) (x : X) → slice_get (xs ++ x ∷ []) (length xs) ≡ Some x
at_end [] x = refl
at_end (y ∷ xs) x = at_end xs x

cancelled : {X : Type 0} (xs ys zs : List X) → xs ++ ys ≡ xs ++ zs → ys ≡ zs
cancelled [] ys zs e = e
cancelled (x ∷ xs) ys zs e = cancelled xs ys zs cc

-- one in preparing stays as it is where others are decided, or have ended
retired_stays : (duties : List Duty) (it : Transaction) → is_preparing it.phase ≡ true → retired duties it ≡ it
retired_stays duties it h = on it.phase refl h
  where
    on : (p : Phase) → it.phase ≡ p → is_preparing p ≡ true → retired duties it ≡ it
    on phase.Preparing e h' = ap (λ (p : Phase). cond (is_told p && are_over duties it.t it.plan.held.devices) (transaction_ended duties it) it) e
    on p e h' = absurd (false≢true h')

untold_stays : (t : ℕ) (to : Phase) (it : Transaction) → nat_eq it.t t ≡ false → in_phase t to it ≡ it
untold_stays t to it e = ap (λ (b : Bool). cond b (record it { phase = to }) it) e

-- over devices and the history
module _ {D : Type 0} (here : Setting D) (are : AreDecls here.decls) (plans : PlanStands) (legally : LegalStands) (order : KeepsOrder)
    (kinds : (device : ℕ) → IsOfHub (here.kinds device)) (lawful : (device : ℕ) → IsLawful (here.kinds device) (over here.decls device))
    (planning : Planning (over here.decls) (StandsAt here.decls) (FitAt here.decls) (ValidAt here.decls)) where
  -- the call is answered by what is seen in this world
  abbrev IsToldBy : World D → Option Event → Call → Type 0
  IsToldBy world seen call = (said : Answer) × ((turn : Turn D) → turn.before ≡ world → IsAnsweredLater turn seen call said)

  -- the call waits, or is under way without its decision
  abbrev pub IsOnItsWay : World D → Call → Type 0
  IsOnItsWay world call = (hub : Hub) × (world.hub ≡ Some hub) × IsOpen hub call

  module _ (old : World D) (hub : Hub) (up : old.hub ≡ Some hub) (kept : HistoryKept here old) (own : DevicesKept here.decls old) (call : Call) where
    abbrev Next : Event → World D → Type 0
    Next meant next = IsToldBy old (Some meant) call ⊎ (next.hub ≢ None → IsOnItsWay next call)

    under : Attends here.decls own.shadow (entries_read old.journal) hub old.links
    under = own.under hub up

    known : HubKept here.decls (entries_read old.journal) (history_of (entries_read old.journal)) hub.active hub.waiting hub.given
    known = (known_at here are plans kinds lawful planning old hub kept up).0

    same_way : (one other : Hub) → other.waiting ≡ one.waiting → other.active ≡ one.active → IsOpen one call → IsOpen other call
    same_way one' other waits active (IsOpen.open_waiting place one there is) = IsOpen.open_waiting place one (ap (λ (l : List Waiting). slice_get l place) waits ∙ there) is
    same_way one' other waits active (IsOpen.open_preparing place it there prepares is) = IsOpen.open_preparing place it (ap (λ (l : List Transaction). slice_get l place) active ∙ there) prepares is

    waits_under : (place : ℕ) (it : Waiting) → slice_get hub.waiting place ≡ Some it → call_under old it.t ≡ Some it.call
    waits_under place it there =
        ap (λ (h : Option Hub). option_map_or (λ x. call_on_way x it.t) h None) up
        ∙ ap (λ (w : Option Waiting). option_map_or (λ x. Some x.call) w (option_map (λ x. x.call) (find (λ x. x.t == it.t) hub.active)))
        (waits_found hub.waiting place it known.waiting_apart there)

    prepares_under : (place : ℕ) (it : Transaction) → slice_get hub.active place ≡ Some it → is_preparing it.phase ≡ true → call_under old it.t ≡ Some it.call
    prepares_under place it there preparing =
        call_is here are plans kinds lawful planning old hub place it up there known (known.intents place it there preparing).undecided.0
        (λ place' other there' same. under.numbers place' place other it there' there same)

    -- a decision answers its call, and others stay on their way
    decided_way : (place : ℕ) (it : Transaction) (said : Answer) (to : Phase) (duties : List Duty) (next : Hub) → slice_get hub.active place ≡ Some it → is_preparing it.phase ≡ true
        → next.waiting ≡ hub.waiting → next.active ≡ map (retired duties) (map (in_phase it.t to) hub.active) → IsOpen hub call
        → IsToldBy old (Some (event.Decide it.t said)) call ⊎ IsOpen next call
    decided_way place it said to duties next there preparing waits active (IsOpen.open_waiting at one there' is) =
        inr (IsOpen.open_waiting at one (ap (λ (l : List Waiting). slice_get l at) waits ∙ there') is)
    decided_way place it said to duties next there preparing waits active (IsOpen.open_preparing at one there' prepares is) = elim (either it.t one.t) [
      | inl same ↦
          let place_is : place ≡ at = under.numbers place at it one there there' same in
          let one_is : it ≡ one = same_Some it one (sym there ∙ ap (slice_get hub.active) place_is ∙ there') in
          inl (said, λ turn before. (ap (λ (w : World D). call_under w it.t) before ∙ prepares_under place it there preparing ∙ ap (λ (c : Call). Some c) (ap (λ (x : Transaction). x.call) one_is ∙ is), refl))
      | inr apart ↦ inr (IsOpen.open_preparing at one (stays apart) prepares is)
    ]
      where
        stays : nat_eq it.t one.t ≡ false → slice_get next.active at ≡ Some one
        stays apart =
            ap (λ (l : List Transaction). slice_get l at) active ∙ slice_get-map (retired duties) (map (in_phase it.t to) hub.active) at
            ∙ ap (option_map (retired duties)) (slice_get-map (in_phase it.t to) hub.active at ∙ ap (option_map (in_phase it.t to)) there'
            ∙ ap (λ (x : Transaction). Some x) (untold_stays it.t to one (flip it.t one.t false apart)))
            ∙ ap (λ (x : Transaction). Some x) (retired_stays duties one prepares)

    goes_on : (meant : Event) (next : World D) (other : Hub) → next.hub ≡ Some other → IsOpen other call → Next meant next
    goes_on meant next other is open_now = inr (λ some. (other, is, open_now))

    told_or : (meant : Event) (next : World D) (other : Hub) → next.hub ≡ Some other → IsToldBy old (Some meant) call ⊎ IsOpen other call → Next meant next
    told_or meant next other is (inl told) = inl told
    told_or meant next other is (inr open_now) = inr (λ some. (other, is, open_now))

    same_or : {A : Type 0} (one other : Hub) → other.waiting ≡ one.waiting → other.active ≡ one.active → A ⊎ IsOpen one call → A ⊎ IsOpen other call
    same_or one' other waits active (inl told) = inl told
    same_or one' other waits active (inr open_now) = inr (same_way one' other waits active open_now)

    does_way : (meant : Event) (row : List Entry) (next : World D) → DoesUnderHub here old hub meant row next → IsOpen hub call → Next meant next
    does_way meant row next (DoesUnderHub.begins caller) open_now = goes_on meant next hub up open_now
    does_way meant row next (DoesUnderHub.answers other front said asked snap why keeps) open_now = goes_on meant next _ refl (same_way hub _ refl refl open_now)
    does_way meant row next (DoesUnderHub.queues it front snap same lawful' closed apart new within made number slot) open_now =
        goes_on meant next _ refl (same_way (record hub { waiting = hub.waiting ++ it ∷ [] }) _ refl refl (more open_now))
      where
        more : IsOpen hub call → IsOpen (record hub { waiting = hub.waiting ++ it ∷ [] }) call
        more (IsOpen.open_waiting place one there is) = IsOpen.open_waiting place one (in_front hub.waiting (it ∷ []) place one there) is
        more (IsOpen.open_preparing place one there prepares is) = IsOpen.open_preparing place one there prepares is
    does_way meant row next (DoesUnderHub.turns_away place it said there first idle why) open_now =
        told_or meant next _ refl (same_or (record hub { waiting = without place hub.waiting }) _ refl refl (by open_now))
      where
        by : IsOpen hub call → IsToldBy old (Some (event.Admit it.t (Some said))) call ⊎ IsOpen (record hub { waiting = without place hub.waiting }) call
        by (IsOpen.open_waiting at one there' is) = elim (either place at) [
          | inl same ↦
              let one_is : it ≡ one = same_Some it one (sym there ∙ ap (slice_get hub.waiting) same ∙ there') in
              inl (said, λ turn before. (ap (λ (w : World D). call_under w it.t) before ∙ waits_under place it there ∙ ap (λ (c : Call). Some c) (ap (λ (x : Waiting). x.call) one_is ∙ is), refl))
          | inr apart ↦
              let stays = stays_in place at hub.waiting one there' (λ e. false≢true (sym apart ∙ eq-eqb place at e)) in
              inr (IsOpen.open_waiting stays.0 one stays.1 is)
        ]
        by (IsOpen.open_preparing at one there' prepares is) = inr (IsOpen.open_preparing at one there' prepares is)
    does_way meant row next (DoesUnderHub.admits place it sets there first idle passes fresh) open_now = goes_on meant next _ refl (by open_now)
      where
        begun : Transaction
        begun = transaction_begun (length (history_read old.journal)) it

        by : IsOpen hub call → IsOpen (record hub { waiting = without place hub.waiting; active = hub.active ++ begun ∷ []; duties = started it.t sets hub.duties }) call
        by (IsOpen.open_waiting at one there' is) = elim (either place at) [
          | inl same ↦
              let one_is : it ≡ one = same_Some it one (sym there ∙ ap (slice_get hub.waiting) same ∙ there') in
              IsOpen.open_preparing (length hub.active) begun (at_end hub.active begun) refl (ap (λ (x : Waiting). x.call) one_is ∙ is)
          | inr apart ↦
              let stays = stays_in place at hub.waiting one there' (λ e. false≢true (sym apart ∙ eq-eqb place at e)) in
              IsOpen.open_waiting stays.0 one stays.1 is
        ]
        by (IsOpen.open_preparing at one there' prepares is) = IsOpen.open_preparing at one (in_front hub.active (begun ∷ []) at one there') prepares is
    does_way meant row next (DoesUnderHub.performs device op happened due unheard possible way) open_now = goes_on meant next hub up open_now
    does_way meant row next (DoesUnderHub.leaves_unsent device changes due unheard) open_now = goes_on meant next hub up open_now
    does_way meant row next (DoesUnderHub.reports device op reply unheard) open_now = goes_on meant next _ refl (by open_now)
      where
        by : IsOpen hub call → IsOpen (hub_reported device reply (old.links device).faults hub) call
        by (IsOpen.open_waiting place one there is) = IsOpen.open_waiting place one there is
        by (IsOpen.open_preparing place one there prepares is) = IsOpen.open_preparing place one
            (slice_get-map (retired (with_changed (λ duty. duty_took duty reply (old.links device).faults) device hub.duties)) hub.active place
            ∙ ap (option_map (retired (with_changed (λ duty. duty_took duty reply (old.links device).faults) device hub.duties))) there
            ∙ ap (λ (x : Transaction). Some x) (retired_stays _ one prepares)) prepares is
    does_way meant row next (DoesUnderHub.commits place it there least due prepared valid) open_now =
        told_or meant next _ refl (decided_way place it (answer.Committed (length (history_read old.journal) + 1)) phase.Decided (map (duty_told it.t true) hub.duties) _ there
        (both_true (is_preparing it.phase) (are_heard hub.duties it.t it.plan.held.devices) due).0 refl refl open_now)
    does_way meant row next (DoesUnderHub.aborts place it said there least due why) open_now =
        told_or meant next _ refl (decided_way place it said phase.Aborted (map (duty_told it.t false) hub.duties) _ there
        (both_true (is_preparing it.phase) (are_heard hub.duties it.t it.plan.held.devices) due).0 refl refl open_now)
    does_way meant row next (DoesUnderHub.settles place it there least settling) open_now = goes_on meant next _ refl (by open_now)
      where
        no_both : (p : Phase) → is_settling p ≡ true → is_preparing p ≡ true → ⊥
        no_both phase.Preparing h g = false≢true h
        no_both p h g = false≢true g

        by : IsOpen hub call → IsOpen (record hub { active = filter (is_other it.t) hub.active }) call
        by (IsOpen.open_waiting at one there' is) = IsOpen.open_waiting at one there' is
        by (IsOpen.open_preparing at one there' prepares is) = elim (either one.t it.t) [
          | inl same ↦
              let place_is : at ≡ place = under.numbers at place one it there' there same in
              let one_is : it ≡ one = same_Some it one (sym there ∙ ap (slice_get hub.active) (sym place_is) ∙ there') in
              absurd (no_both it.phase settling (ap (λ (x : Transaction). is_preparing x.phase) one_is ∙ prepares))
          | inr apart ↦
              let stays = finds_place (is_other it.t) hub.active at one there' (ap not apart) in
              IsOpen.open_preparing stays.0 one stays.1 prepares is
        ]
    does_way meant row next DoesUnderHub.stops open_now = inr (λ some. absurd (some refl))
    does_way meant row next (DoesUnderHub.mends numbers idle unsettled) open_now = goes_on meant next _ refl (same_way hub _ refl refl open_now)
    does_way meant row next (DoesUnderHub.mended numbers met busy heard unsettled) open_now = goes_on meant next _ refl (by open_now)
      where
        mending : AreMending here.decls (entries_read old.journal) hub.active hub.duties hub.stale None
        mending = subst (λ (m : Option (Option RecFault)). MendingKept here.decls (entries_read old.journal) hub.active hub.duties hub.stale m) met under.mending

        by : IsOpen hub call → IsOpen (record hub { active = []; mends = None; duties = map mender_freed hub.duties }) call
        by (IsOpen.open_waiting at one there' is) = IsOpen.open_waiting at one there' is
        by (IsOpen.open_preparing at one there' prepares is) = absurd (false≢true (sym (ap is_preparing (mending.left at one there')) ∙ prepares))
    does_way meant row next (DoesUnderHub.finds_no_memory met busy heard) open_now = goes_on meant next _ refl (same_way hub _ refl refl open_now)
    does_way meant row next (DoesUnderHub.fails_to_mend met failed heard) open_now = goes_on meant next _ refl (same_way hub _ refl refl open_now)

    steps_way : (new : World D) (meant : Event) (seen : Option Event) → Steps here old meant seen new → IsOpen hub call → new.hub ≢ None → IsToldBy old seen call ⊎ IsOnItsWay new call
    steps_way new meant seen (Steps.done hub' row next _ up' does appends is) open_now some =
        let same : hub' ≡ hub = same_Some hub' hub (sym up' ∙ up) in
        by (does_way meant row next (subst (λ (h : Hub). DoesUnderHub here old h meant row next) same does) open_now)
      where
        by : Next meant next → IsToldBy old (Some meant) call ⊎ IsOnItsWay new call
        by (inl told) = inl told
        by (inr way) = let on = way (λ e. some (ap (λ (w : World D). w.hub) is ∙ e)) in inr (on.0, ap (λ (w : World D). w.hub) is ∙ on.1, on.2)
    steps_way new meant seen (Steps.cut hub' row next _ up' does appends is) open_now some = absurd (some (ap (λ (w : World D). w.hub) is))
    steps_way new meant seen (Steps.failed hub' row next _ up' does appends is) open_now some = absurd (some (ap (λ (w : World D). w.hub) is))
    steps_way new meant seen (Steps.full hub' row next len _ up' does appends is) open_now some = absurd (some (ap (λ (w : World D). w.hub) is))
    steps_way new meant seen (Steps.anyway _ (DoesAnyway.ticks seconds)) open_now some = inr (hub, up, open_now)
    steps_way new meant seen (Steps.anyway _ (DoesAnyway.restarts device)) open_now some = inr (hub, up, open_now)
    steps_way new meant seen (Steps.anyway _ (DoesAnyway.answers_down other front down)) open_now some = inr (hub, up, open_now)
    steps_way new meant seen (Steps.unopened _ down recover stays is) open_now some = absurd (let no : ◌≡◌ {A = Option Hub} None (Some hub) = sym down ∙ up in cc)
    steps_way new meant seen (Steps.recovers _ down recover reopens is) open_now some = absurd (let no : ◌≡◌ {A = Option Hub} None (Some hub) = sym down ∙ up in cc)

  -- a call that is queued is on its way
  does_queue : (old : World D) (hub : Hub) (meant : Event) (row : List Entry) (next : World D) → DoesUnderHub here old hub meant row next → (call : Call) (front : ℕ)
      → meant ≡ event.Submit call front None → IsOnItsWay next call
  does_queue old hub meant row next (DoesUnderHub.queues it front snap same lawful' closed apart new within made number slot) call front' e =
      (_, refl, IsOpen.open_waiting (length hub.waiting) it (at_end hub.waiting it) (call_same e))
    where
      call_same : event.Submit it.call front None ≡ event.Submit call front' None → it.call ≡ call
      call_same e' = cc
  does_queue old hub meant row next does call front e = absurd cc

  failing_queues : (meant : Event) (call : Call) (front : ℕ) → seen_failing meant ≡ Some (event.Submit call front None) → ⊥
  failing_queues (event.Admit t given) call front e = cc
  failing_queues (event.Decide t given) call front e = cc
  failing_queues (event.Reconcile result) call front e = cc
  failing_queues other call front e = cc

  steps_queue : (old new : World D) (meant : Event) (seen : Option Event) → Steps here old meant seen new → (call : Call) (front : ℕ) → seen ≡ Some (event.Submit call front None) → IsOnItsWay new call
  steps_queue old new meant seen (Steps.done hub row next _ up does appends is) call front e =
      let on = does_queue old hub meant row next does call front (same_Some meant (event.Submit call front None) e) in
      (on.0, ap (λ (w : World D). w.hub) is ∙ on.1, on.2)
  steps_queue old new meant seen (Steps.cut hub row next _ up does appends is) call front e = absurd cc
  steps_queue old new meant seen (Steps.failed hub row next _ up does appends is) call front e = absurd (failing_queues meant call front e)
  steps_queue old new meant seen (Steps.full hub row next len _ up does appends is) call front e = absurd cc
  steps_queue old new meant seen (Steps.anyway _ (DoesAnyway.ticks seconds)) call front e = absurd cc
  steps_queue old new meant seen (Steps.anyway _ (DoesAnyway.restarts device)) call front e = absurd cc
  steps_queue old new meant seen (Steps.anyway _ (DoesAnyway.answers_down other front' down)) call front e = absurd cc
  steps_queue old new meant seen (Steps.unopened _ down recover stays is) call front e = absurd cc
  steps_queue old new meant seen (Steps.recovers _ down recover reopens is) call front e =
      absurd (let no : event.Recover ≡ event.Submit call front None = sym recover ∙ same_Some meant (event.Submit call front None) e in cc)

  -- over whole runs

  abbrev pub AllServed : List (Turn D) → World D → Type 0
  AllServed turns world = (earlier later : List (Turn D)) (turn : Turn D) (call : Call) (front : ℕ) → turns ≡ earlier ++ turn ∷ later
      → turn.seen ≡ Some (event.Submit call front None) → StayUp later → HasAnswerIn later call ⊎ IsOnItsWay world call

  pub record ServedSoFar (turns : List (Turn D)) (world : World D) : Type 0 where
    pub history : HistoryKept here world
    pub devices : DevicesKept here.decls world
    pub told : AllServed turns world

  more_answered : (turns more : List (Turn D)) (call : Call) → HasAnswerIn turns call → HasAnswerIn (turns ++ more) call
  more_answered turns more call (turn, said, among, says) = (turn, said, Contains-append_left turns more turn among, says)

  turn_served : (turns : List (Turn D)) (turn : Turn D) → ServedSoFar turns turn.before → Comes here turn → ServedSoFar (turns ++ turn ∷ []) turn.behind
  turn_served turns turn own comes = record {
    history = steps_keep here are plans legally order turn.before turn.behind turn.meant turn.seen own.history comes;
    devices = steps_devices here are plans kinds lawful planning turn.before turn.behind turn.meant turn.seen own.history own.devices comes;
    told = λ earlier later other call front parts seen up. by earlier later other call front parts seen up (split_push turns turn earlier other later parts);
  }
    where
      went : (call : Call) → IsOnItsWay turn.before call → turn.behind.hub ≢ None → IsToldBy turn.before turn.seen call ⊎ IsOnItsWay turn.behind call
      went call (hub, up, open_now) some = steps_way turn.before hub up own.history own.devices call turn.behind turn.meant turn.seen comes open_now some

      told_now : (call : Call) (before : List (Turn D)) → IsToldBy turn.before turn.seen call ⊎ IsOnItsWay turn.behind call → HasAnswerIn (before ++ turn ∷ []) call ⊎ IsOnItsWay turn.behind call
      told_now call before (inl told) = inl (turn, told.0, Contains-push before turn, told.1 turn refl)
      told_now call before (inr way) = inr way

      goes : (call : Call) (before : List (Turn D)) → turn.behind.hub ≢ None → HasAnswerIn before call ⊎ IsOnItsWay turn.before call → HasAnswerIn (before ++ turn ∷ []) call ⊎ IsOnItsWay turn.behind call
      goes call before some (inl answered) = inl (more_answered before (turn ∷ []) call answered)
      goes call before some (inr way) = told_now call before (went call way some)

      by : (earlier later : List (Turn D)) (other : Turn D) (call : Call) (front : ℕ) → turns ++ turn ∷ [] ≡ earlier ++ other ∷ later
          → other.seen ≡ Some (event.Submit call front None) → StayUp later → SplitPush turns turn earlier other → HasAnswerIn later call ⊎ IsOnItsWay turn.behind call
      by earlier later other call front parts seen up (SplitPush.at_last first same) =
          inr (steps_queue turn.before turn.behind turn.meant turn.seen comes call front (ap (λ (t : Turn D). t.seen) (sym same) ∙ seen))
      by earlier later other call front parts seen up (SplitPush.before_last later' before) =
          let whole : later' ++ turn ∷ [] ≡ later =
          cancelled (earlier ++ other ∷ []) (later' ++ turn ∷ []) later
          (append_assoc earlier (other ∷ []) (later' ++ turn ∷ []) ∙ sym (append_assoc earlier (other ∷ later') (turn ∷ [])) ∙ ap (λ (l : List (Turn D)). l ++ turn ∷ []) (sym before)
          ∙ parts ∙ sym (append_assoc earlier (other ∷ []) later)) in
          let up' : StayUp (later' ++ turn ∷ []) = subst StayUp (sym whole) up in
          subst (λ (l : List (Turn D)). HasAnswerIn l call ⊎ IsOnItsWay turn.behind call) whole
          (goes call later' (up' turn (Contains-push later' turn))
          (own.told earlier later' other call front before seen (λ t among. up' t (Contains-append_left later' (turn ∷ []) t among))))

  set_served : (turns : List (Turn D)) (at : ScriptStep) (world : World D) → ServedSoFar turns world → ServedSoFar turns (set_by at world)
  set_served turns at world own = record {
    history = set_kept here at world own.history;
    devices = set_devices here at world own.devices;
    told = λ earlier later turn call front parts seen up. stays at call (own.told earlier later turn call front parts seen up);
  }
    where
      set_way : (s : ScriptStep) (call : Call) → IsOnItsWay world call → IsOnItsWay (set_by s world) call
      set_way (step.StopAt count bytes) call (hub, up, open_now) =
          (hub, ap (λ (o : Option Hub). (option_map_or (λ h. record world { journal = record world.journal { armed = count; bytes = bytes } }) o world).hub) up ∙ up, open_now)
      set_way (step.Fault device op when) call way = way
      set_way other call way = way

      stays : {A : Type 0} (s : ScriptStep) (call : Call) → A ⊎ IsOnItsWay world call → A ⊎ IsOnItsWay (set_by s world) call
      stays s call (inl answered) = inl answered
      stays s call (inr way) = inr (set_way s call way)

  -- after some first lines of a run
  pub lines_served : (first last : World D) (lines : List (LineDone D)) → HistoryKept here first → DevicesKept here.decls first → AreDone here first lines last
      → AllServed (flat_map (λ line. line.turns) lines) last
  lines_served first last lines history devices done =
      (lines_forward here ServedSoFar turn_served set_served first last lines []
      (record { history = history; devices = devices; told = λ earlier later turn call front parts. absurd (nil_none earlier turn later parts) }) done).told

-- the first of some lines are done, where all are
front_done : {D : Type 0} (here : Setting D) (first last : World D) (front : List (LineDone D)) (line : LineDone D) (rest : List (LineDone D)) → AreDone here first (front ++ line ∷ rest) last
    → AreDone here first (front ++ line ∷ []) line.behind
front_done here first last [] line rest done = (done.0, done.1, refl)
front_done here first last (one ∷ front) line rest done = (done.0, done.1, front_done here one.behind last front line rest done.2)

pub served_by : {D : Type 0} (here : Setting D) (are : AreDecls here.decls) (plans : PlanStands) (legally : LegalStands) (order : KeepsOrder)
    (kinds : (device : ℕ) → IsOfHub (here.kinds device)) (lawful : (device : ℕ) → IsLawful (here.kinds device) (over here.decls device))
    (planning : Planning (over here.decls) (StandsAt here.decls) (FitAt here.decls) (ValidAt here.decls))
    (first last : World D) (lines front rest : List (LineDone D)) (line : LineDone D) → HistoryKept here first → DevicesKept here.decls first → AreDone here first lines last
    → lines ≡ front ++ line ∷ rest → ((hub : Hub) → line.behind.hub ≡ Some hub → (call : Call) → IsOpen hub call → ⊥)
    → (earlier later : List (Turn D)) (turn : Turn D) (call : Call) (at : ℕ) → flat_map (λ it. it.turns) (front ++ line ∷ []) ≡ earlier ++ turn ∷ later
    → turn.seen ≡ Some (event.Submit call at None) → StayUp later → HasAnswerIn later call
served_by {D = D} here are plans legally order kinds lawful planning first last lines front rest line history devices done parts none earlier later turn call at whole seen up =
    by (lines_served here are plans legally order kinds lawful planning first line.behind (front ++ line ∷ []) history devices
    (front_done here first last front line rest (subst (λ (l : List (LineDone D)). AreDone here first l last) parts done)) earlier later turn call at whole seen up)
  where
    by : HasAnswerIn later call ⊎ IsOnItsWay here are plans legally order kinds lawful planning line.behind call → HasAnswerIn later call
    by (inl answered) = answered
    by (inr way) = absurd (none way.0 way.1 call way.2)
