-- What devices accept over whole runs, and how reconciliations end.
use Rattle.std.proofs.Common.{◌≡◌, ℕ, Bool, true, false, Option, Some, None, Err, List, Contains, refl, sym, ap, subst, ◌∙◌}
use Rattle.std.specs.Option.{option_map, option_map_or, option_or}
use Rattle.std.proofs.lemmas.Bool.{false≢true}
use Rattle.std.proofs.lemmas.Option.{same_Some}
use Rattle.orc_call.specs.declared.answer.RecFault.{RecFault}
use Rattle.orc_call.specs.declared.answer.RecFault.TheVariants as fault
use Rattle.orc_call.specs.declared.answer.Tag.{Tag}
use Rattle.orc_decls.specs.Declarations.{AreDecls}
use Rattle.orc_io.specs.Counts.{Rose}
use Rattle.orc_journal.specs.Laws.{KeepsOrder}
use Rattle.orc_journal.specs.declared.entry.Entry.{Entry}
use Rattle.orc_plans.specs.Plans.{LegalStands, PlanStands}
use Rattle.orc_recover.specs.Menders.{mender_end}
use Rattle.orc_recover.specs.declared.ends.Mend.{Mend}
use Rattle.orc_recover.specs.declared.ends.Mend.TheVariants as mend
use Rattle.orc_rules.specs.Acceptance.{AcceptsFronts, FrontsKept, IsNotRefused, RepliesKept}
use Rattle.orc_rules.specs.Duties.{duty_end}
use Rattle.orc_rules.specs.Events.{DoesAnyway, DoesUnderHub, Steps, Turn, seen_failing}
use Rattle.orc_rules.specs.Hubs.{Hub, duty_on, hub_reported, mend_fault}
use Rattle.orc_rules.specs.Invariant.{IsFitting, IsLawful}
use Rattle.orc_rules.specs.Journals.{history_read}
use Rattle.orc_rules.specs.Kept.{FitAt, HistoryKept, StandsAt, ValidAt}
use Rattle.orc_rules.specs.Network.{Planning}
use Rattle.orc_rules.specs.UnderHub.{DevicesKept, IsOfHub}
use Rattle.orc_rules.specs.Worlds.{Setting, World, over}
use Rattle.orc_rules.specs.declared.event.Event.{Event}
use Rattle.orc_rules.specs.declared.event.Event.TheVariants as event
use Rattle.orc_rules.proofs.Fronted.{steps_fronts, steps_unrefused}
use Rattle.orc_rules.proofs.Replied.{steps_reply}
use Rattle.orc_rules.proofs.Tracking.{steps_devices}
use Rattle.orc_runs.specs.Runs.{Run, turns_of}
use Rattle.orc_runs.specs.Scripts.{set_by}
use Rattle.orc_script.specs.declared.step.ScriptStep.{ScriptStep}
use Rattle.orc_script.specs.declared.step.ScriptStep.TheVariants as step
use Rattle.orc_runs.proofs.Faulted.{listed_same, set_replies}
use Rattle.orc_runs.proofs.InStep.{set_devices}
use Rattle.orc_runs.proofs.Lasting.{IsKept, Survives, each_in, run_survives}

-- a failure that a device or its link is the cause of, or running out of memory
abbrev pub is_of_device : RecFault → Bool
is_of_device (fault.LinkFault device number) = true
is_of_device (fault.Refused device tag) = true
is_of_device fault.Memory = true
is_of_device fault.DiskFault = false
is_of_device (fault.Full len) = false

-- a reconciliation has met no other
abbrev pub MeetsDevices : {D : Type 0} → World D → Type 0
MeetsDevices world = (hub : Hub) → world.hub ≡ Some hub → (met : RecFault) → hub.mends ≡ Some (Some met) → is_of_device met ≡ true

mended_of_device : (device : ℕ) (o : Option Mend) (met : RecFault) → mend_fault device o ≡ Some met → is_of_device met ≡ true
mended_of_device device None met h = absurd cc
mended_of_device device (Some mend.Done) met h = absurd cc
mended_of_device device (Some (mend.LinkFault count)) met h = ap is_of_device (sym (same_Some (fault.LinkFault device count) met h))
mended_of_device device (Some (mend.Refused tag)) met h = ap is_of_device (sym (same_Some (fault.Refused device tag) met h))
mended_of_device device (Some mend.Memory) met h = ap is_of_device (sym (same_Some fault.Memory met h))

module _ {D : Type 0} (here : Setting D) where
  does_meet : (world : World D) (hub : Hub) (up : world.hub ≡ Some hub) → MeetsDevices world → (meant : Event) (row : List Entry) (next : World D) → DoesUnderHub here world hub meant row next → MeetsDevices next
  does_meet world hub up own meant row next (DoesUnderHub.begins caller) = own
  does_meet world hub up own meant row next (DoesUnderHub.performs device one happened due unheard possible way) = own
  does_meet world hub up own meant row next (DoesUnderHub.leaves_unsent device changes due unheard) = own
  does_meet world hub up own meant row next (DoesUnderHub.reports device kind reply unheard) = λ hub' e met h.
      by hub.mends refl met (ap (λ (x : Hub). x.mends) (same_Some (hub_reported device reply (world.links device).faults hub) hub' e) ∙ h)
    where
      ended : Option RecFault
      ended = mend_fault device (duty_end (duty_on hub.duties device) reply (world.links device).faults)

      or_both : (before : Option RecFault) (met : RecFault) → hub.mends ≡ Some before → option_or before ended ≡ Some met → is_of_device met ≡ true
      or_both (Some first) met e h = own hub up met (e ∙ ap (λ x. Some x) h)
      or_both None met e h = mended_of_device device (duty_end (duty_on hub.duties device) reply (world.links device).faults) met h

      by : (m : Option (Option RecFault)) → hub.mends ≡ m → (met : RecFault) → option_map (λ before. option_or before ended) m ≡ Some (Some met) → is_of_device met ≡ true
      by None e met h = absurd cc
      by (Some before) e met h = or_both before met e (same_Some (option_or before ended) (Some met) h)
  does_meet world hub up own meant row next DoesUnderHub.stops = λ hub' e. absurd (let none : ◌≡◌ {A = Option Hub} None (Some hub') = e in cc)
  does_meet world hub up own meant row next (DoesUnderHub.mends numbers idle unsettled) = λ hub' e met h.
      absurd (let no : ◌≡◌ {A = Option (Option RecFault)} (Some None) (Some (Some met)) = ap (λ (x : Hub). x.mends) (same_Some _ hub' e) ∙ h in cc)
  does_meet world hub up own meant row next (DoesUnderHub.mended numbers met busy heard unsettled) = λ hub' e m h.
      absurd (let no : ◌≡◌ {A = Option (Option RecFault)} None (Some (Some m)) = ap (λ (x : Hub). x.mends) (same_Some _ hub' e) ∙ h in cc)
  does_meet world hub up own meant row next (DoesUnderHub.finds_no_memory met busy heard) = λ hub' e m h.
      absurd (let no : ◌≡◌ {A = Option (Option RecFault)} None (Some (Some m)) = ap (λ (x : Hub). x.mends) (same_Some _ hub' e) ∙ h in cc)
  does_meet world hub up own meant row next (DoesUnderHub.fails_to_mend met failed heard) = λ hub' e m h.
      absurd (let no : ◌≡◌ {A = Option (Option RecFault)} None (Some (Some m)) = ap (λ (x : Hub). x.mends) (same_Some _ hub' e) ∙ h in cc)
  does_meet world hub up own meant row next does = λ hub' e met h. own hub up met (ap (λ (x : Hub). x.mends) (same_Some _ hub' e) ∙ h)

  down_meets : (world : World D) → world.hub ≡ None → MeetsDevices world
  down_meets world down hub up = absurd (let none : ◌≡◌ {A = Option Hub} None (Some hub) = sym down ∙ up in cc)

  steps_meet : (old new : World D) (meant : Event) (seen : Option Event) → MeetsDevices old → Steps here old meant seen new → MeetsDevices new
  steps_meet old new meant seen own (Steps.done hub row next _ up does appends is) = λ hub' e. does_meet old hub up own meant row next does hub' (sym (ap (λ (w : World D). w.hub) is) ∙ e)
  steps_meet old new meant seen own (Steps.cut hub row next _ up does appends is) = down_meets new (ap (λ (w : World D). w.hub) is)
  steps_meet old new meant seen own (Steps.failed hub row next _ up does appends is) = down_meets new (ap (λ (w : World D). w.hub) is)
  steps_meet old new meant seen own (Steps.full hub row next len _ up does appends is) = down_meets new (ap (λ (w : World D). w.hub) is)
  steps_meet old new meant seen own (Steps.anyway _ (DoesAnyway.ticks seconds)) = own
  steps_meet old new meant seen own (Steps.anyway _ (DoesAnyway.restarts x)) = own
  steps_meet old new meant seen own (Steps.anyway _ (DoesAnyway.answers_down submitted front down)) = own
  steps_meet old new meant seen own (Steps.unopened _ down recover stays is) = down_meets new (ap (λ (w : World D). w.hub) is ∙ down)
  steps_meet old new meant seen own (Steps.recovers _ down recover reopens is) = λ hub' e met h.
      absurd (let no : ◌≡◌ {A = Option (Option RecFault)} None (Some (Some met)) = ap (λ (x : Hub). x.mends) (same_Some _ hub' (sym (ap (λ (w : World D). w.hub) is) ∙ e)) ∙ h in cc)

  set_meets : (at : ScriptStep) (world : World D) → MeetsDevices world → MeetsDevices (set_by at world)
  set_meets (step.StopAt count bytes) world own = on world.hub
    where
      on : (hub : Option Hub) → MeetsDevices (option_map_or (λ h. record world { journal = record world.journal { armed = count; bytes = bytes } }) hub world)
      on None = own
      on (Some hub) = own
  set_meets (step.Fault device op at) world own = own
  set_meets other world own = own

  -- how a reconciliation that fails is seen to end: by what it met, or since the disk failed
  abbrev pub EndsBy : World D → World D → RecFault → Type 0
  EndsBy old new fault.DiskFault = Rose (here.disk.faults old.journal.disk) (here.disk.faults new.journal.disk)
  EndsBy old new (fault.Full len) = ⊥
  EndsBy old new met = Unit {0}

  of_device : (old new : World D) (met : RecFault) → is_of_device met ≡ true → EndsBy old new met
  of_device old new (fault.LinkFault device number) h = tt
  of_device old new (fault.Refused device tag) h = tt
  of_device old new fault.Memory h = tt
  of_device old new fault.DiskFault h = absurd (false≢true h)
  of_device old new (fault.Full len) h = absurd (false≢true h)

  does_end : (world new : World D) (hub : Hub) (up : world.hub ≡ Some hub) → MeetsDevices world → (meant : Event) (row : List Entry) (next : World D) → DoesUnderHub here world hub meant row next
      → (met : RecFault) → meant ≡ event.Reconcile (Some (Err met)) → EndsBy world new met
  does_end world new hub up own meant row next (DoesUnderHub.fails_to_mend first failed heard) met is =
      let same : first ≡ met = met_is is in
      of_device world new met (own hub up met (failed ∙ ap (λ (f : RecFault). Some (Some f)) same))
    where
      met_is : event.Reconcile (Some (Err first)) ≡ event.Reconcile (Some (Err met)) → first ≡ met
      met_is e = cc
  does_end world new hub up own meant row next (DoesUnderHub.finds_no_memory met busy heard) m is = subst (EndsBy world new) (met_is m is) tt
    where
      met_is : (m : RecFault) → event.Reconcile (Some (Err fault.Memory)) ≡ event.Reconcile (Some (Err m)) → fault.Memory ≡ m
      met_is m e = cc
  does_end world new hub up own meant row next does met is = absurd cc

  failing_ends : (meant : Event) (met : RecFault) → seen_failing meant ≡ Some (event.Reconcile (Some (Err met))) → met ≡ fault.DiskFault
  failing_ends (event.Admit t given) met h = absurd cc
  failing_ends (event.Decide t given) met h = absurd cc
  failing_ends (event.Reconcile result) met h = ends h
    where
      ends : ◌≡◌ {A = Option Event} (Some (event.Reconcile (Some (Err fault.DiskFault)))) (Some (event.Reconcile (Some (Err met)))) → met ≡ fault.DiskFault
      ends e = cc
  failing_ends other met h = absurd cc

  pub steps_end : (old new : World D) (meant : Event) (seen : Option Event) → MeetsDevices old → Steps here old meant seen new → (met : RecFault) → seen ≡ Some (event.Reconcile (Some (Err met))) → EndsBy old new met
  steps_end old new meant seen own (Steps.done hub row next _ up does appends is) met h = does_end old new hub up own meant row next does met (same_Some meant (event.Reconcile (Some (Err met))) h)
  steps_end old new meant seen own (Steps.cut hub row next _ up does appends is) met h = absurd cc
  steps_end old new meant seen own (Steps.failed hub row next _ up does appends is) met h = subst (EndsBy old new) (sym (failing_ends meant met h)) appends.ends.1
  steps_end old new meant seen own (Steps.full hub row next len _ up does appends is) met h = absurd cc
  steps_end old new meant seen own (Steps.anyway _ (DoesAnyway.ticks seconds)) met h = absurd cc
  steps_end old new meant seen own (Steps.anyway _ (DoesAnyway.restarts x)) met h = absurd cc
  steps_end old new meant seen own (Steps.anyway _ (DoesAnyway.answers_down submitted front down)) met h = absurd cc
  steps_end old new meant seen own (Steps.unopened _ down recover stays is) met h = absurd cc
  steps_end old new meant seen own (Steps.recovers _ down recover reopens is) met h =
      absurd (let both : event.Recover ≡ event.Reconcile (Some (Err met)) = sym recover ∙ same_Some meant (event.Reconcile (Some (Err met))) h in cc)

  set_fronts : (at : ScriptStep) (world : World D) → FrontsKept here world → FrontsKept here (set_by at world)
  set_fronts (step.StopAt count bytes) world own = on world.hub
    where
      on : (hub : Option Hub) → FrontsKept here (option_map_or (λ h. record world { journal = record world.journal { armed = count; bytes = bytes } }) hub world)
      on None = own
      on (Some hub) = record { fronts = own.fronts; under = own.under }
  set_fronts (step.Fault device op at) world own = record {
    fronts = own.fronts;
    under = λ hub up. let u = own.under hub up in record {
      met = u.met;
      unheard = λ x one mender h is other tag e.
          let same = listed_same world.links device op at x in
          u.unheard x one mender (sym same.unheard ∙ h) is other tag (ap (λ (f : ℕ). mend_fault x (mender_end mender one.1 f)) (sym same.faults) ∙ e);
    };
  }
  set_fronts other world own = own

module _ {D : Type 0} (here : Setting D)
    (only_now : (d : D) (c : List ℕ) → here.disk.left_since d (here.disk.moment d) c → here.disk.may_leave d c)
    (are : AreDecls here.decls) (plans : PlanStands) (legally : LegalStands) (order : KeepsOrder)
    (kinds : (device : ℕ) → IsOfHub (here.kinds device)) (lawful : (device : ℕ) → IsLawful (here.kinds device) (over here.decls device))
    (planning : Planning (over here.decls) (StandsAt here.decls) (FitAt here.decls) (ValidAt here.decls))
    (fit : (device : ℕ) → IsFitting (here.kinds device) (over here.decls device)) where
  abbrev AcceptedWorld : World D → Type 0
  AcceptedWorld world = DevicesKept here.decls world × RepliesKept here world × FrontsKept here world

  accepted_steps : (old new : World D) (meant : Event) (seen : Option Event) → HistoryKept here old → AcceptedWorld old → Steps here old meant seen new → AcceptedWorld new
  accepted_steps old new meant seen kept own steps = (
    steps_devices here are plans kinds lawful planning old new meant seen kept own.0 steps,
    steps_reply here are plans kinds lawful planning fit old new meant seen kept own.0 own.1 steps,
    steps_fronts here are plans kinds lawful planning fit old new meant seen kept own.0 own.1 own.2 steps,
  )

  accepted_set : (at : ScriptStep) (world : World D) → AcceptedWorld world → AcceptedWorld (set_by at world)
  accepted_set at world own = (set_devices here at world own.0, set_replies here at world own.1, set_fronts here at world own.2)

  module _ (script : List ScriptStep) (first last : World D) (run : Run here script first last) (kept : HistoryKept here first) (devices : DevicesKept here.decls first) (replies : RepliesKept here first)
      (under : (hub : Hub) → first.hub ≡ Some hub → IsNotRefused hub.mends hub.duties first.links) (accepts : AcceptsFronts here.decls here.kinds (history_read first.journal)) where
    all_accepted : Survives here only_now are plans legally order AcceptedWorld accepted_steps accepted_set first.journal (turns_of run) last
    all_accepted = run_survives here only_now are plans legally order AcceptedWorld accepted_steps accepted_set script first last run
        (kept, (devices, replies, record { fronts = accepts; under = under }))

    -- what a run leaves is accepted as well
    pub still_accepted : AcceptsFronts here.decls here.kinds (history_read last.journal)
    still_accepted = all_accepted.kept.1.2.fronts

    -- no reconciliation of a run is refused
    pub unrefused : (turn : Turn D) → Contains (turns_of run) turn → (device : ℕ) (tag : Tag) → turn.seen ≡ Some (event.Reconcile (Some (Err (fault.Refused device tag)))) → ⊥
    unrefused turn among device tag e =
        let is = each_in (IsKept here only_now are plans legally order AcceptedWorld accepted_steps accepted_set last) (turns_of run) turn all_accepted.each among in
        steps_unrefused here are plans kinds lawful planning fit turn.before turn.behind turn.meant turn.seen is.before.1.2 is.comes device tag e

  -- how reconciliations end
  module _ (script : List ScriptStep) (first last : World D) (run : Run here script first last) (kept : HistoryKept here first) (meets : MeetsDevices first) where
    pub ends_by : (turn : Turn D) → Contains (turns_of run) turn → (met : RecFault) → turn.seen ≡ Some (event.Reconcile (Some (Err met))) → EndsBy here turn.before turn.behind met
    ends_by turn among met e =
        let all = run_survives here only_now are plans legally order MeetsDevices (λ old new meant seen kept' own steps. steps_meet here old new meant seen own steps) (set_meets here) script first last run (kept, meets) in
        let is = each_in (IsKept here only_now are plans legally order MeetsDevices (λ old new meant seen kept' own steps. steps_meet here old new meant seen own steps) (set_meets here) last) (turns_of run) turn all.each among in
        steps_end here turn.before turn.behind turn.meant turn.seen is.before.1 is.comes met e
