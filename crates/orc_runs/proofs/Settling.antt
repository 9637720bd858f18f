-- A reconciliation that answers Ok leaves no Intent unsettled.
use Rattle.std.proofs.Common.{◌≡◌, ◌⊎◌, inl, inr, ℕ, zero, suc, Option, Some, None, List, [], ◌∷◌, ◌++◌, Contains, map, refl, sym, ap, ◌∙◌, append-nil, append_assoc, Ok}
use Rattle.std.specs.Prelude.{slice_get}
use Rattle.std.proofs.lemmas.Option.{same_Some}
use Rattle.orc_call.specs.declared.call.Call.{Call}
use Rattle.orc_journal.specs.declared.entry.Entry.{Entry}
use Rattle.orc_journal.specs.declared.entry.Entry.TheVariants as entry
use Rattle.orc_rules.specs.Events.{DoesAnyway, DoesUnderHub, Steps, Turn, seen_failing}
use Rattle.orc_rules.specs.Hubs.{Hub}
use Rattle.orc_rules.specs.Journals.{entries_read}
use Rattle.orc_rules.specs.Network.{Noted}
use Rattle.orc_rules.specs.Told.{Told, told_by, told_with}
use Rattle.orc_rules.specs.Worlds.{Setting, World}
use Rattle.orc_rules.specs.declared.event.Event.{Event}
use Rattle.orc_rules.specs.declared.event.Event.TheVariants as event
use Rattle.orc_rules.proofs.Recording.{either, given_at, given_other}
use Rattle.orc_rules.proofs.Telling.{told_push}
use Rattle.orc_runs.proofs.Lasting.{there_in}
use Rattle.orc_runs.proofs.Unmoved.{read_done}

-- no Intent of this transaction is unsettled
abbrev IsSettled : List Entry → ℕ → Type 0
IsSettled entries t = (told_by entries).intents t ≡ None

settled_one : (entries : List Entry) (x t : ℕ) → (x ≡ t) ⊎ IsSettled entries t → IsSettled (entries ++ entry.Settled x ∷ []) t
settled_one entries x t h = ap (λ (told : Told). told.intents t) (told_push entries (entry.Settled x)) ∙ by h
  where
    here_now : (y : ℕ) → x ≡ y → (told_with entries (told_by entries) (entry.Settled x)).intents y ≡ None
    here_now y same = ap (λ (z : ℕ). (told_with entries (told_by entries) (entry.Settled x)).intents z) (sym same) ∙ given_at (told_by entries).intents x None

    by : (x ≡ t) ⊎ IsSettled entries t → (told_with entries (told_by entries) (entry.Settled x)).intents t ≡ None
    by (inl same) = here_now t same
    by (inr before) = elim (either x t) [
      | inl same ↦ here_now t same
      | inr other ↦ given_other (told_by entries).intents x None t other ∙ before
    ]

-- after each of these is settled, what was one of them, or was settled before, is
settled_all : (entries : List Entry) (numbers : List ℕ) (t : ℕ) → ((place : ℕ) × (slice_get numbers place ≡ Some t)) ⊎ IsSettled entries t → IsSettled (entries ++ map entry.Settled numbers) t
settled_all entries [] t (inl h) = absurd (let no : ◌≡◌ {A = Option ℕ} None (Some t) = h.1 in cc)
settled_all entries [] t (inr h) = ap (λ (l : List Entry). (told_by l).intents t) (append-nil entries) ∙ h
settled_all entries (x ∷ numbers) t h =
    ap (λ (l : List Entry). (told_by l).intents t) (sym (append_assoc entries (entry.Settled x ∷ []) (map entry.Settled numbers)))
    ∙ settled_all (entries ++ entry.Settled x ∷ []) numbers t (by h)
  where
    at : (place : ℕ) → slice_get (x ∷ numbers) place ≡ Some t → ((place' : ℕ) × (slice_get numbers place' ≡ Some t)) ⊎ IsSettled (entries ++ entry.Settled x ∷ []) t
    at zero e = inr (settled_one entries x t (inl (same_Some x t e)))
    at (suc place) e = inl (place, e)

    by : ((place : ℕ) × (slice_get (x ∷ numbers) place ≡ Some t)) ⊎ IsSettled entries t → ((place : ℕ) × (slice_get numbers place ≡ Some t)) ⊎ IsSettled (entries ++ entry.Settled x ∷ []) t
    by (inl h') = at h'.0 h'.1
    by (inr before) = inr (settled_one entries x t (inr before))

module _ {D : Type 0} (here : Setting D) where
  does_settle : (old : World D) (hub : Hub) (meant : Event) (row : List Entry) (next : World D) → DoesUnderHub here old hub meant row next → meant ≡ event.Reconcile (Some (Ok tt))
      → (t : ℕ) → IsSettled (entries_read old.journal ++ row) t
  does_settle old hub meant row next (DoesUnderHub.mended numbers met busy heard unsettled) e t = settled_all (entries_read old.journal) numbers t (by ((told_by (entries_read old.journal)).intents t) refl)
    where
      by : (o : Option (Noted Call)) → (told_by (entries_read old.journal)).intents t ≡ o → ((place : ℕ) × (slice_get numbers place ≡ Some t)) ⊎ IsSettled (entries_read old.journal) t
      by None is = inr is
      by (Some noted) is =
          let among : Contains numbers t = (unsettled.all t).1 (λ none. let no : ◌≡◌ {A = Option (Noted Call)} None (Some noted) = sym none ∙ is in cc) in
          inl (among.0, there_in numbers t among)
  does_settle old hub meant row next does e t = absurd cc

  failing_not : (meant : Event) → seen_failing meant ≡ Some (event.Reconcile (Some (Ok tt))) → ⊥
  failing_not (event.Admit t given) e = cc
  failing_not (event.Decide t given) e = cc
  failing_not (event.Reconcile result) e = cc
  failing_not other e = cc

  steps_settle : (old new : World D) (meant : Event) (seen : Option Event) → Steps here old meant seen new → seen ≡ Some (event.Reconcile (Some (Ok tt))) → (t : ℕ) → IsSettled (entries_read new.journal) t
  steps_settle old new meant seen (Steps.done hub row next _ up does appends is) e t =
      ap (λ (l : List Entry). (told_by l).intents t) (read_done here old.journal new.journal row appends) ∙ does_settle old hub meant row next does (same_Some meant (event.Reconcile (Some (Ok tt))) e) t
  steps_settle old new meant seen (Steps.cut hub row next _ up does appends is) e t = absurd cc
  steps_settle old new meant seen (Steps.failed hub row next _ up does appends is) e t = absurd (failing_not meant e)
  steps_settle old new meant seen (Steps.full hub row next len _ up does appends is) e t = absurd cc
  steps_settle old new meant seen (Steps.anyway _ (DoesAnyway.ticks seconds)) e t = absurd cc
  steps_settle old new meant seen (Steps.anyway _ (DoesAnyway.restarts x)) e t = absurd cc
  steps_settle old new meant seen (Steps.anyway _ (DoesAnyway.answers_down call front down)) e t = absurd cc
  steps_settle old new meant seen (Steps.unopened _ down recover same is) e t = absurd cc
  steps_settle old new meant seen (Steps.recovers _ down recover reopens is) e t =
      absurd (let both : event.Recover ≡ event.Reconcile (Some (Ok tt)) = sym recover ∙ same_Some meant (event.Reconcile (Some (Ok tt))) e in cc)

  -- of a turn that came
  pub turn_settles : (turn : Turn D) → Steps here turn.before turn.meant turn.seen turn.behind → turn.seen ≡ Some (event.Reconcile (Some (Ok tt)))
      → (t : ℕ) → (told_by (entries_read turn.behind.journal)).intents t ≡ None
  turn_settles turn comes = steps_settle turn.before turn.behind turn.meant turn.seen comes
