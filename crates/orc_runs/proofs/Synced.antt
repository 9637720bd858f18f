-- What is pending on a device is of a call whose Intent is synced, and has no Settled among what is.
use Rattle.std.proofs.Common.{[], ◌≡◌, ◌≢◌, Contains, inl, inr, ℕ, Bool, true, false, cond, Option, Some, None, List, ◌∷◌, ◌++◌, map, nat_eq, refl, sym, ap, subst, ◌∙◌, append-nil}
use Rattle.orc_journal.specs.declared.outcome.Appended.{Appended}
use Rattle.orc_journal.specs.declared.outcome.Appended.TheVariants as appended
use Rattle.orc_call.specs.declared.call.Call.{Call}
use Rattle.orc_decls.specs.Declarations.{AreDecls}
use Rattle.orc_device.specs.Nodes.{NodeState, restarted}
use Rattle.orc_journal.specs.Laws.{KeepsOrder}
use Rattle.orc_journal.specs.declared.entry.Entry.{Entry}
use Rattle.orc_journal.specs.declared.entry.Entry.TheVariants as entry
use Rattle.orc_plans.specs.Plans.{LegalStands, PlanStands}
use Rattle.orc_rules.specs.Events.{DoesAnyway, DoesUnderHub, Steps, Turn}
use Rattle.orc_rules.specs.Facts.{pending_id}
use Rattle.orc_rules.specs.Hubs.{Hub}
use Rattle.orc_rules.specs.Invariant.{IsLawful}
use Rattle.orc_rules.specs.Journals.{AppendsRow, CutsFirst, Journal, entries_read}
use Rattle.orc_rules.specs.Kept.{FitAt, HistoryKept, StandsAt, ValidAt, network}
use Rattle.orc_rules.specs.Network.{Noted, Planning}
use Rattle.orc_rules.specs.Told.{Told, told_by, told_with}
use Rattle.orc_rules.specs.UnderHub.{DevicesKept, IsOfHub}
use Rattle.orc_rules.specs.Worlds.{Setting, World, over}
use Rattle.orc_rules.specs.declared.event.Event.{Event}
use Rattle.orc_rules.proofs.Others.{dropped_turns, restarted_turns, ticked_turns}
use Rattle.orc_rules.proofs.Promises.{pends_known}
use Rattle.orc_rules.proofs.Recording.{either, given_at, given_other}
use Rattle.orc_rules.proofs.Telling.{told_push}
use Rattle.orc_rules.proofs.Tracking.{steps_devices}
use Rattle.orc_rules.proofs.Turning.{uncut_read}
use Rattle.orc_script.specs.declared.step.ScriptStep.{ScriptStep}
use Rattle.orc_script.specs.declared.step.ScriptStep.TheVariants as step
use Rattle.std.specs.Option.{option_map_or}
use Rattle.orc_runs.specs.Scripts.{set_by}
use Rattle.orc_runs.specs.Runs.{Run, turns_of}
use Rattle.orc_runs.proofs.InStep.{set_devices}
use Rattle.orc_runs.proofs.Lasting.{IsKept, each_in, run_survives}

-- these entries have an Intent of this number without its Settled
abbrev pub HasOpenIntent : List Entry → ℕ → Type 0
HasOpenIntent entries t = (noted : Noted Call) × ((told_by entries).intents t ≡ Some noted)

-- what stands before an element of a row of one
alone : (one first : Entry) (done later : List Entry) → one ∷ [] ≡ done ++ first ∷ later → done ≡ []
alone one first [] later is = refl
alone one first (x ∷ done) later is = absurd (none done (let rest : ◌≡◌ {A = List Entry} [] (done ++ first ∷ later) = cc in rest))
  where
    none : (xs : List Entry) → [] ≡ xs ++ first ∷ later → ⊥
    none [] e = cc
    none (y ∷ xs) e = cc

nothing_of : (first : Entry) (done later : List Entry) → [] ≡ done ++ first ∷ later → done ≡ []
nothing_of first [] later is = refl
nothing_of first (x ∷ done) later is = absurd cc

no_intent : (numbers : List ℕ) (t : ℕ) (call : Call) (devices : List ℕ) (done later : List Entry) → map entry.Settled numbers ≡ done ++ entry.Intent t call devices ∷ later → ⊥
no_intent [] t call devices [] later is = cc
no_intent [] t call devices (x ∷ done) later is = cc
no_intent (n ∷ numbers) t call devices [] later is = cc
no_intent (n ∷ numbers) t call devices (x ∷ done) later is =
    no_intent numbers t call devices done later (let rest : map entry.Settled numbers ≡ done ++ entry.Intent t call devices ∷ later = cc in rest)

-- with an entry more that is no Intent, what is open was so before
open_before : (entries : List Entry) (e : Entry) (t : ℕ) → ((u : ℕ) (call : Call) (devices : List ℕ) → e ≡ entry.Intent u call devices → HasOpenIntent entries t) → HasOpenIntent (entries ++ e ∷ []) t
    → HasOpenIntent entries t
open_before entries e t intent (noted, is) = by e refl (sym (ap (λ (told : Told). told.intents t) (told_push entries e)) ∙ is)
  where
    by : (x : Entry) → e ≡ x → (told_with entries (told_by entries) x).intents t ≡ Some noted → HasOpenIntent entries t
    by (entry.Intent u call devices) same h = intent u call devices same
    by (entry.Decide u) same h = (noted, h)
    by (entry.Abort u) same h = (noted, h)
    by (entry.Settled u) same h = on (nat_eq u t) h
      where
        on : (b : Bool) → cond b None ((told_by entries).intents t) ≡ Some noted → HasOpenIntent entries t
        on true h' = absurd (let no : ◌≡◌ {A = Option (Noted Call)} None (Some noted) = h' in cc)
        on false h' = (noted, h')

module _ {D : Type 0} (here : Setting D) (are : AreDecls here.decls) (plans : PlanStands) (legally : LegalStands) (order : KeepsOrder)
    (kinds : (device : ℕ) → IsOfHub (here.kinds device)) (lawful : (device : ℕ) → IsLawful (here.kinds device) (over here.decls device))
    (planning : Planning (over here.decls) (StandsAt here.decls) (FitAt here.decls) (ValidAt here.decls)) where
  abbrev pub PendsSynced : World D → Type 0
  PendsSynced world = (device t : ℕ) → pending_id (world.nodes device).pending ≡ Some t → HasOpenIntent world.journal.synced t

  -- it is known to what is read
  read_open : (world : World D) → DevicesKept here.decls world → (device t : ℕ) → pending_id (world.nodes device).pending ≡ Some t → HasOpenIntent (entries_read world.journal) t
  read_open world own device t pend =
      let known = pends_known (over here.decls) (StandsAt here.decls) (FitAt here.decls) (ValidAt here.decls) (network here.decls own.shadow world) own.kept device t pend in
      (known.0, known.1)

  uncut_open : (world : World D) → DevicesKept here.decls world → world.journal.cut ≡ [] → PendsSynced world
  uncut_open world own uncut device t pend = subst (λ (l : List Entry). HasOpenIntent l t) (uncut_read world.journal uncut) (read_open world own device t pend)

  -- an Intent that was cut is the first of its row
  intent_first : (world : World D) (hub : Hub) (meant : Event) (row : List Entry) (next : World D) → DoesUnderHub here world hub meant row next → (done later : List Entry)
      (u : ℕ) (call : Call) (devices : List ℕ) → row ≡ done ++ entry.Intent u call devices ∷ later → done ≡ []
  intent_first world hub meant row next (DoesUnderHub.admits place it sets there first idle passes fresh) done later u call devices is = alone _ _ done later is
  intent_first world hub meant row next (DoesUnderHub.commits place it there least due prepared valid) done later u call devices is = alone _ _ done later is
  intent_first world hub meant row next (DoesUnderHub.aborts place it said there least due why) done later u call devices is = alone _ _ done later is
  intent_first world hub meant row next (DoesUnderHub.settles place it there least settling) done later u call devices is = alone _ _ done later is
  intent_first world hub meant row next (DoesUnderHub.mended numbers met busy heard unsettled) done later u call devices is = absurd (no_intent numbers u call devices done later is)
  intent_first world hub meant row next does done later u call devices is = nothing_of _ done later is

  -- where an append was cut
  cut_open : (old : World D) (hub : Hub) (meant : Event) (row : List Entry) (next : World D) → DoesUnderHub here old hub meant row next → (out : Appended) (new : Journal D)
      → (a : AppendsRow here.disk here.decls.text here.limit old.journal row out new) → CutsFirst a.rest new → (t : ℕ) → HasOpenIntent old.journal.synced t → HasOpenIntent (entries_read new) t
      → HasOpenIntent new.synced t
  cut_open old hub meant row next does out new a cuts t before read = on new.cut_is_read refl
    where
      parts : row ≡ a.done ++ cuts.0 ∷ cuts.1
      parts = a.parts ∙ ap (λ (l : List Entry). a.done ++ l) cuts.2

      as_before : (u : ℕ) (call : Call) (devices : List ℕ) → cuts.0 ≡ entry.Intent u call devices → HasOpenIntent new.synced t
      as_before u call devices same =
          let none = intent_first old hub meant row next does a.done cuts.1 u call devices (parts ∙ ap (λ (e : Entry). a.done ++ e ∷ cuts.1) same) in
          subst (λ (l : List Entry). HasOpenIntent l t) (sym (a.synced ∙ ap (λ (l : List Entry). old.journal.synced ++ l) none ∙ append-nil old.journal.synced)) before

      on : (b : Bool) → new.cut_is_read ≡ b → HasOpenIntent new.synced t
      on true is = open_before new.synced cuts.0 t as_before
          (subst (λ (l : List Entry). HasOpenIntent l t) (ap (λ (b : Bool). cond b (new.synced ++ new.cut) new.synced) is ∙ ap (λ (l : List Entry). new.synced ++ l) cuts.3) read)
      on false is = subst (λ (l : List Entry). HasOpenIntent l t) (ap (λ (b : Bool). cond b (new.synced ++ new.cut) new.synced) is) read

  steps_synced : (old new : World D) (meant : Event) (seen : Option Event) → HistoryKept here old → DevicesKept here.decls old → PendsSynced old → Steps here old meant seen new → PendsSynced new
  steps_synced old new meant seen kept own synced (Steps.done hub row next _ up does appends is) device t pend =
      uncut_open new (steps_devices here are plans kinds lawful planning old new meant seen kept own (Steps.done hub row next new up does appends is)) appends.ends.1 device t pend
  steps_synced old new meant seen kept own synced (Steps.cut hub row next _ up does appends is) device t pend =
      cut_open old hub meant row next does appended.Stopped new.journal appends appends.ends.0 t
      (synced device t ((dropped_turns (old.nodes device) 0).id t (sym (ap (λ (w : World D). pending_id (w.nodes device).pending) is) ∙ pend)))
      (read_open new (steps_devices here are plans kinds lawful planning old new meant seen kept own (Steps.cut hub row next new up does appends is)) device t pend)
  steps_synced old new meant seen kept own synced (Steps.failed hub row next _ up does appends is) device t pend =
      cut_open old hub meant row next does appended.Failed new.journal appends appends.ends.0 t
      (synced device t (sym (ap (λ (w : World D). pending_id (w.nodes device).pending) is) ∙ pend))
      (read_open new (steps_devices here are plans kinds lawful planning old new meant seen kept own (Steps.failed hub row next new up does appends is)) device t pend)
  steps_synced old new meant seen kept own synced (Steps.full hub row next len _ up does appends is) device t pend =
      uncut_open new (steps_devices here are plans kinds lawful planning old new meant seen kept own (Steps.full hub row next len new up does appends is)) appends.ends.0 device t pend
  steps_synced old new meant seen kept own synced (Steps.anyway _ (DoesAnyway.ticks seconds)) device t pend = synced device t ((ticked_turns (old.nodes device) 0 seconds).id t pend)
  steps_synced old new meant seen kept own synced (Steps.anyway _ (DoesAnyway.restarts x)) device t pend = elim (either x device) [
    | inl same ↦ synced device t (subst (λ (d : ℕ). pending_id (old.nodes d).pending ≡ Some t) same ((restarted_turns (old.nodes x) 0).id t
        (sym (ap (λ (n : NodeState). pending_id n.pending) (given_at old.nodes x (restarted (old.nodes x)))) ∙ subst (λ (d : ℕ). pending_id (new.nodes d).pending ≡ Some t) (sym same) pend)))
    | inr other ↦ synced device t (sym (ap (λ (n : NodeState). pending_id n.pending) (given_other old.nodes x (restarted (old.nodes x)) device other)) ∙ pend)
  ]
  steps_synced old new meant seen kept own synced (Steps.anyway _ (DoesAnyway.answers_down call front down)) device t pend = synced device t pend
  steps_synced old new meant seen kept own synced (Steps.unopened _ down recover stays is) device t pend =
      subst (λ (l : List Entry). HasOpenIntent l t) (sym stays.synced) (synced device t (sym (ap (λ (w : World D). pending_id (w.nodes device).pending) is) ∙ pend))
  steps_synced old new meant seen kept own synced (Steps.recovers _ down recover reopens is) device t pend =
      uncut_open new (steps_devices here are plans kinds lawful planning old new meant seen kept own (Steps.recovers new down recover reopens is)) reopens.cut device t pend

  -- beside what is kept of devices
  abbrev pub AndSynced : World D → Type 0
  AndSynced world = DevicesKept here.decls world × PendsSynced world

  pub both_steps : (old new : World D) (meant : Event) (seen : Option Event) → HistoryKept here old → AndSynced old → Steps here old meant seen new → AndSynced new
  both_steps old new meant seen kept own steps = (
    steps_devices here are plans kinds lawful planning old new meant seen kept own.0 steps,
    steps_synced old new meant seen kept own.0 own.1 steps,
  )

  set_synced : (at : ScriptStep) (world : World D) → PendsSynced world → PendsSynced (set_by at world)
  set_synced (step.StopAt count bytes) world synced = on world.hub
    where
      on : (hub : Option Hub) → PendsSynced (option_map_or (λ h. record world { journal = record world.journal { armed = count; bytes = bytes } }) hub world)
      on None = synced
      on (Some hub) = synced
  set_synced (step.Fault device op at) world synced = synced
  set_synced other world synced = synced

  pub both_set : (at : ScriptStep) (world : World D) → AndSynced world → AndSynced (set_by at world)
  both_set at world own = (set_devices here at world own.0, set_synced at world own.1)

  pub synced_in : (only_now : (d : D) (c : List ℕ) → here.disk.left_since d (here.disk.moment d) c → here.disk.may_leave d c)
      (script : List ScriptStep) (first last : World D) (run : Run here script first last) → HistoryKept here first → DevicesKept here.decls first → ((device : ℕ) → (first.nodes device).pending ≡ None)
      → (turn : Turn D) → Contains (turns_of run) turn → PendsSynced turn.behind
  synced_in only_now script first last run kept own rests turn among =
      (each_in (IsKept here only_now are plans legally order AndSynced both_steps both_set last) (turns_of run) turn
      (run_survives here only_now are plans legally order AndSynced both_steps both_set script first last run
      (kept, (own, λ device t pend. absurd (let no : ◌≡◌ {A = Option ℕ} None (Some t) = sym (ap pending_id (rests device)) ∙ pend in cc)))).each among).behind.1.1

  -- there is one
  pub is_synced : (world : World D) → PendsSynced world → (device t : ℕ) → pending_id (world.nodes device).pending ≡ Some t → (told_by world.journal.synced).intents t ≢ None
  is_synced world synced device t pend none =
      let has = synced device t pend in let no : ◌≡◌ {A = Option (Noted Call)} None (Some has.0) = sym none ∙ has.1 in cc
