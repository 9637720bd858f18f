-- What each turn makes of the history: nothing, or one call more.
use Rattle.std.proofs.Common.{[], ◌≡◌, ◌⊎◌, inl, inr, ⊎_elim, ℕ, Option, Some, List, ◌∷◌, ◌++◌, refl, sym, ap, ◌∙◌, append-nil}
use Rattle.orc_journal.specs.declared.outcome.Appended.{Appended}
use Rattle.orc_call.specs.declared.call.Call.{Call}
use Rattle.orc_decls.specs.Declarations.{AreDecls}
use Rattle.orc_journal.specs.Committed.{as_calls, commits, history_of}
use Rattle.orc_journal.specs.declared.entry.Entry.{Entry}
use Rattle.orc_journal.specs.declared.entry.Entry.TheVariants as entry
use Rattle.orc_plans.specs.Plans.{PlanStands}
use Rattle.orc_rules.specs.Events.{DoesAnyway, DoesUnderHub, Steps, Turn}
use Rattle.orc_rules.specs.Hubs.{Hub}
use Rattle.orc_rules.specs.Invariant.{IsLawful}
use Rattle.orc_rules.specs.Journals.{AppendsRow, entries_read, history_read}
use Rattle.orc_rules.specs.Kept.{FitAt, HistoryKept, StandsAt, ValidAt}
use Rattle.orc_rules.specs.Network.{Planning}
use Rattle.orc_rules.specs.Transactions.{is_preparing}
use Rattle.orc_rules.specs.UnderHub.{DevicesKept, IsOfHub}
use Rattle.orc_rules.specs.Verdicts.{are_heard}
use Rattle.orc_rules.specs.Worlds.{Setting, World, over}
use Rattle.orc_rules.specs.declared.event.Event.{Event}
use Rattle.orc_rules.proofs.Fronts.{history_of-append}
use Rattle.orc_rules.proofs.Reporting.{first_so}
use Rattle.orc_rules.proofs.Tracking.{known_at, map_front, nil_front, read_by, stays_read}
use Rattle.orc_rules.proofs.Turning.{uncut_read}
use Rattle.orc_runs.specs.Headline.{GrowsTo}
use Rattle.orc_runs.proofs.Acknowledged.{call_is}
use Rattle.orc_runs.proofs.Ordered.{one_entry, settled_same}

-- an entry that commits nothing
quiet : (es : List Entry) (e : Entry) → commits es e ≡ [] → (front : List Entry) → (front ≡ []) ⊎ (front ≡ e ∷ []) → history_of (es ++ front) ≡ history_of es
quiet es e none front which = ⊎_elim
    (λ empty. ap (λ (l : List Entry). history_of (es ++ l)) empty ∙ ap history_of (append-nil es))
    (λ all. ap (λ (l : List Entry). history_of (es ++ l)) all ∙ history_of-append es e ∙ ap (λ (l : List Call). history_of es ++ l) none ∙ append-nil (history_of es)) which

module _ {D : Type 0} (here : Setting D) (are : AreDecls here.decls) (plans : PlanStands) (kinds : (device : ℕ) → IsOfHub (here.kinds device))
    (lawful : (device : ℕ) → IsLawful (here.kinds device) (over here.decls device)) (planning : Planning (over here.decls) (StandsAt here.decls) (FitAt here.decls) (ValidAt here.decls)) where
  row_grows : (old : World D) (hub : Hub) → old.hub ≡ Some hub → HistoryKept here old → DevicesKept here.decls old → (meant : Event) (row : List Entry) (next : World D)
      → DoesUnderHub here old hub meant row next → (front rest : List Entry) → row ≡ front ++ rest → GrowsTo old meant (history_of (entries_read old.journal ++ front))
  row_grows old hub up kept own meant row next (DoesUnderHub.admits place it sets there first idle passes fresh) front rest is =
      inl (quiet (entries_read old.journal) _ refl front (one_entry _ front rest is))
  row_grows old hub up kept own meant row next (DoesUnderHub.aborts place it said there least due why) front rest is = inl (quiet (entries_read old.journal) _ refl front (one_entry _ front rest is))
  row_grows old hub up kept own meant row next (DoesUnderHub.settles place it there least settling) front rest is = inl (quiet (entries_read old.journal) _ refl front (one_entry _ front rest is))
  row_grows old hub up kept own meant row next (DoesUnderHub.mended numbers met busy heard unsettled) front rest is =
      let some = map_front entry.Settled numbers front rest is in
      inl (ap (λ (l : List Entry). history_of (entries_read old.journal ++ l)) some.1 ∙ settled_same (entries_read old.journal) some.0)
  row_grows old hub up kept own meant row next (DoesUnderHub.commits place it there least due prepared valid) front rest is =
      let preparing = first_so (is_preparing it.phase) (are_heard hub.duties it.t it.plan.held.devices) due in
      let known = known_at here are plans kinds lawful planning old hub kept up in
      let open_in = known.0.intents place it there preparing in
      ⊎_elim
      (λ none. inl (ap (λ (l : List Entry). history_of (entries_read old.journal ++ l)) none ∙ ap history_of (append-nil (entries_read old.journal))))
      (λ all. inr (
        it.t,
        it.call,
        refl,
        call_is here are plans kinds lawful planning old hub place it up there known.0 open_in.undecided.0
            (λ place' other there' same. (own.under hub up).numbers place' place other it there' there same),
        ap (λ (l : List Entry). history_of (entries_read old.journal ++ l)) all ∙ history_of-append (entries_read old.journal) (entry.Decide it.t)
            ∙ ap (λ (o : Option Call). history_of (entries_read old.journal) ++ as_calls o) open_in.call,
      ))
      (one_entry (entry.Decide it.t) front rest is)
  row_grows old hub up kept own meant row next does front rest is =
      inl (ap (λ (l : List Entry). history_of (entries_read old.journal ++ l)) (nil_front front rest is) ∙ ap history_of (append-nil (entries_read old.journal)))

  -- the history that a read gives
  module _ (old new : World D) (kept : HistoryKept here old) (own : DevicesKept here.decls old) where
    as_read : (meant : Event) (history : List Call) → history_read new.journal ≡ history → GrowsTo old meant history → GrowsTo old meant (history_read new.journal)
    as_read meant history same (inl stays) = inl (same ∙ stays)
    as_read meant history same (inr adds) = inr (adds.0, adds.1, adds.2, adds.3, same ∙ adds.4)

    appended_grows : (hub : Hub) (meant : Event) (row : List Entry) (next : World D) (out : Appended) → old.hub ≡ Some hub → DoesUnderHub here old hub meant row next
        → AppendsRow here.disk here.decls.text here.limit old.journal row out new.journal → GrowsTo old meant (history_read new.journal)
    appended_grows hub meant row next out up does appends =
        let r = read_by here old.journal new.journal row out appends in
        as_read meant (history_of (entries_read old.journal ++ r.front)) (ap history_of r.read) (row_grows old hub up kept own meant row next does r.front r.rest r.parts)

  anyway_same : (old new : World D) (meant : Event) → DoesAnyway old meant new → history_read new.journal ≡ history_read old.journal
  anyway_same old new meant (DoesAnyway.ticks seconds) = refl
  anyway_same old new meant (DoesAnyway.restarts device) = refl
  anyway_same old new meant (DoesAnyway.answers_down call front down) = refl

  steps_grow : (old new : World D) (meant : Event) (seen : Option Event) → HistoryKept here old → DevicesKept here.decls old → Steps here old meant seen new → GrowsTo old meant (history_read new.journal)
  steps_grow old new meant seen kept own (Steps.done hub row next _ up does appends is) = appended_grows old new kept own hub meant row next _ up does appends
  steps_grow old new meant seen kept own (Steps.cut hub row next _ up does appends is) = appended_grows old new kept own hub meant row next _ up does appends
  steps_grow old new meant seen kept own (Steps.failed hub row next _ up does appends is) = appended_grows old new kept own hub meant row next _ up does appends
  steps_grow old new meant seen kept own (Steps.full hub row next len _ up does appends is) = appended_grows old new kept own hub meant row next _ up does appends
  steps_grow old new meant seen kept own (Steps.anyway _ does) = inl (anyway_same old new meant does)
  steps_grow old new meant seen kept own (Steps.unopened _ down recover stays is) = inl (ap history_of (sym (stays_read here old.journal new.journal stays)))
  steps_grow old new meant seen kept own (Steps.recovers _ down recover reopens is) = inl (ap history_of (uncut_read new.journal reopens.cut ∙ reopens.synced kept.journal.read_back))

  -- of a turn that came
  pub turn_grows : (turn : Turn D) → HistoryKept here turn.before → DevicesKept here.decls turn.before → Steps here turn.before turn.meant turn.seen turn.behind
      → GrowsTo turn.before turn.meant (history_read turn.behind.journal)
  turn_grows turn kept own comes = steps_grow turn.before turn.behind turn.meant turn.seen kept own comes
