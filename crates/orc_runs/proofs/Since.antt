-- A reconciliation meets the fault of a link only where one came since it began.
use Rattle.std.proofs.Common.{[], ◌≡◌, ⊎_elim, ℕ, Bool, true, false, cond, nat_eq, Option, Some, None, Err, List, ◌∷◌, ◌++◌, refl, sym, ap, subst, ◌∙◌, eqb-true}
use Rattle.std.specs.Option.{option_map, option_map_or, option_or}
use Rattle.std.proofs.lemmas.Bool.{false≢true}
use Rattle.std.proofs.lemmas.List.Elements.{Contains-append_left, Contains-push}
use Rattle.std.proofs.lemmas.Option.{same_Some}
use Rattle.orc_call.specs.declared.answer.RecFault.{RecFault}
use Rattle.orc_call.specs.declared.answer.RecFault.TheVariants as fault
use Rattle.orc_decls.specs.Declarations.{AreDecls}
use Rattle.orc_device.specs.Links.{way_reply}
use Rattle.orc_device.specs.Listings.{kind_of_op}
use Rattle.orc_device.specs.Operations.{mark_of}
use Rattle.orc_device.specs.declared.kind.OpKind.{OpKind}
use Rattle.orc_device.specs.declared.kind.OpKind.TheVariants as kind
use Rattle.orc_device.specs.declared.reply.Mark.TheVariants as mark
use Rattle.orc_device.specs.declared.reply.Reply.{Reply}
use Rattle.orc_device.specs.declared.reply.Reply.TheVariants as reply
use Rattle.orc_journal.specs.Laws.{KeepsOrder}
use Rattle.orc_journal.specs.declared.entry.Entry.{Entry}
use Rattle.orc_plans.specs.Plans.{LegalStands, PlanStands}
use Rattle.orc_rules.specs.Cells.{updated_at}
use Rattle.orc_rules.specs.Duties.{duty_end}
use Rattle.orc_rules.specs.Events.{Comes, DoesAnyway, DoesUnderHub, Steps, Turn, performed, seen_failing, unsent}
use Rattle.orc_rules.specs.Hubs.{Hub, duty_on, hub_reported, mend_fault}
use Rattle.orc_rules.specs.Invariant.{IsLawful}
use Rattle.orc_rules.specs.Journals.{entries_read}
use Rattle.orc_rules.specs.Kept.{FitAt, HistoryKept, StandsAt, ValidAt}
use Rattle.orc_rules.specs.Network.{Planning}
use Rattle.orc_rules.specs.UnderHub.{Attends, DevicesKept, IsOfHub, MendingKept, is_under_way}
use Rattle.orc_rules.specs.Worlds.{Link, Setting, World, over}
use Rattle.orc_rules.specs.declared.event.Event.{Event}
use Rattle.orc_rules.specs.declared.event.Event.TheVariants as event
use Rattle.orc_rules.proofs.Moves.{all_left}
use Rattle.orc_rules.proofs.Reconciling.{all_heard}
use Rattle.orc_rules.proofs.Recording.{given_at, given_other}
use Rattle.orc_rules.proofs.Tracking.{steps_devices}
use Rattle.orc_rules.proofs.Turning.{steps_keep}
use Rattle.orc_runs.specs.Headline.{HasFault, begins_again, since_begun}
use Rattle.orc_runs.specs.Runs.{Run, turns_of}
use Rattle.orc_runs.specs.Scripts.{set_by}
use Rattle.orc_script.specs.declared.step.ScriptStep.{ScriptStep}
use Rattle.orc_script.specs.declared.step.ScriptStep.TheVariants as step
use Rattle.orc_runs.proofs.Faulted.{SplitPush, fold_push, listed_same, nil_none, split_push}
use Rattle.orc_runs.proofs.Faulting.{UnheardFaults, duty_fault, met_fault, or_some}
use Rattle.orc_runs.proofs.Forward.{run_forward}
use Rattle.orc_runs.proofs.InStep.{set_devices}
use Rattle.orc_runs.proofs.Lasting.{set_kept}

-- the turns since the beginning, with one more
since_push : {D : Type 0} (ts : List (Turn D)) (turn : Turn D) → since_begun (ts ++ turn ∷ []) ≡ cond (begins_again turn.seen) [] (since_begun ts ++ turn ∷ [])
since_push ts turn = fold_push (λ so_far t. cond (begins_again t.seen) [] (so_far ++ t ∷ [])) [] ts turn

-- what a reconciliation that is under way knows of faults, where this says which came since it began
pub record MendsKnown {D : Type 0} (Came : ℕ → ℕ → Type 0) (world : World D) (hub : Hub) (met : Option RecFault) : Type 0 where
  pub unheard : UnheardFaults Came world.links
  pub met_so : (device count : ℕ) → met ≡ Some (fault.LinkFault device count) → Came device count

abbrev pub MendingKnown : {D : Type 0} → (ℕ → ℕ → Type 0) → World D → Type 0
MendingKnown Came world = (hub : Hub) → world.hub ≡ Some hub → (met : Option RecFault) → hub.mends ≡ Some met → MendsKnown Came world hub met

more_mends : {D : Type 0} (F G : ℕ → ℕ → Type 0) (world : World D) → ((device count : ℕ) → F device count → G device count) → MendingKnown F world → MendingKnown G world
more_mends F G world more own hub up met is = let o = own hub up met is in record {
  unheard = λ device op h. more device (world.links device).faults (o.unheard device op h);
  met_so = λ device count h. more device count (o.met_so device count h);
}

module _ {D : Type 0} (here : Setting D) (Came : ℕ → ℕ → Type 0) (world : World D) (hub : Hub) (up : world.hub ≡ Some hub) (devices : DevicesKept here.decls world) (own : MendingKnown Came world) where
  abbrev under : Attends here.decls devices.shadow (entries_read world.journal) hub world.links
  under = devices.under hub up

  -- the hub afterwards has the same reconciliation, and the links are as they were
  alike : (next : World D) (hub' : Hub) → next.hub ≡ Some hub' → hub'.mends ≡ hub.mends → next.links ≡ world.links → MendingKnown Came next
  alike next hub' is same links other e met m =
      let o = own hub up met (sym same ∙ ap (λ (h : Hub). h.mends) (same_Some hub' other (sym is ∙ e)) ∙ m) in
      record { unheard = subst (UnheardFaults Came) (sym links) o.unheard; met_so = o.met_so }

  -- the hub afterwards has no reconciliation
  ended : (next : World D) (hub' : Hub) → next.hub ≡ Some hub' → hub'.mends ≡ None → MendingKnown Came next
  ended next hub' is none other e met m =
      absurd (let no : ◌≡◌ {A = Option (Option RecFault)} None (Some met) = sym none ∙ ap (λ (h : Hub). h.mends) (same_Some hub' other (sym is ∙ e)) ∙ m in cc)

  -- a report
  module _ (device : ℕ) (op : OpKind) (r : Reply) (heard : (world.links device).unheard ≡ Some (op, r)) where
    abbrev f : ℕ
    f = (world.links device).faults

    links_then : UnheardFaults Came world.links → UnheardFaults Came (updated_at world.links device (record (world.links device) { unheard = None }))
    links_then old x op' h = on (nat_eq device x) refl
      where
        mine : Link
        mine = record (world.links device) { unheard = None }

        on : (b : Bool) → nat_eq device x ≡ b → Came x (updated_at world.links device mine x).faults
        on true e = absurd (let none : ◌≡◌ {A = Option (OpKind × Reply)} None (Some (op', reply.Fault)) = sym (ap (λ (b : Bool). (cond b mine (world.links x)).unheard) e) ∙ h in cc)
        on false e =
            let same : (cond (nat_eq device x) mine (world.links x)) ≡ world.links x = ap (λ (b : Bool). cond b mine (world.links x)) e in
            subst (λ (l : Link). Came x l.faults) (sym same) (old x op' (ap (λ (l : Link). l.unheard) (sym same) ∙ h))

    abbrev met_now : Option RecFault → Option RecFault
    met_now before = option_or before (mend_fault device (duty_end (duty_on hub.duties device) r f))

    by : (m : Option (Option RecFault)) → hub.mends ≡ m → (met : Option RecFault) → option_map met_now m ≡ Some met
        → UnheardFaults Came (updated_at world.links device (record (world.links device) { unheard = None })) × ((x count : ℕ) → met ≡ Some (fault.LinkFault x count) → Came x count)
    by None e met h = absurd cc
    by (Some before) e met h =
        let o = own hub up before e in (
          links_then o.unheard,
          λ x count is. ⊎_elim
              (λ old. o.met_so x count old)
              (λ new.
              let m = met_fault device x (duty_end (duty_on hub.duties device) r f) count new in
              let so = duty_fault (duty_on hub.duties device) r f count m.1 in
              subst (λ (y : ℕ). Came y count) m.0
              (subst (Came device) (sym so.1) (o.unheard device op (heard ∙ ap (λ (z : Reply). Some (op, z)) so.0))))
              (or_some before (mend_fault device (duty_end (duty_on hub.duties device) r f)) (fault.LinkFault x count)
              (same_Some (met_now before) met h ∙ is)),
        )

  pub does_know : (meant : Event) (row : List Entry) (next : World D) → DoesUnderHub here world hub meant row next
      → ((device : ℕ) (kind : OpKind) (count : ℕ) → meant ≡ event.Perform device kind mark.Fault count → Came device count) → MendingKnown Came next
  does_know meant row next (DoesUnderHub.begins caller) now = alike next hub up refl refl
  does_know meant row next (DoesUnderHub.answers call front said asked snap why keeps) now = alike next _ refl refl refl
  does_know meant row next (DoesUnderHub.queues it front snap like lawful closed apart fresh within made number slot) now = alike next _ refl refl refl
  does_know meant row next (DoesUnderHub.turns_away place it said there first idle why) now = alike next _ refl refl refl
  does_know meant row next (DoesUnderHub.admits place it sets there first idle passes fresh) now = alike next _ refl refl refl
  does_know meant row next (DoesUnderHub.performs device op happened due unheard possible way) now = λ other e met m.
      let o = own hub up met (ap (λ (h : Hub). h.mends) (same_Some hub other (sym up ∙ e)) ∙ m) in
      record { unheard = links o.unheard; met_so = o.met_so }
    where
      came_now : (op' : OpKind) → ((performed here world device op happened).links device).unheard ≡ Some (op', reply.Fault) → Came device ((performed here world device op happened).links device).faults
      came_now op' h =
          let is : Some (kind_of_op op, way_reply (world.nodes device) op happened) ≡ Some (op', reply.Fault) = sym (ap (λ (l : Link). l.unheard) (given_at world.links device _)) ∙ h in
          let replied : way_reply (world.nodes device) op happened ≡ reply.Fault =
          ap (λ (p : OpKind × Reply). p.1) (same_Some (kind_of_op op, way_reply (world.nodes device) op happened) (op', reply.Fault) is) in
          now device (kind_of_op op) ((performed here world device op happened).links device).faults
          (ap (λ (x : Reply). event.Perform device (kind_of_op op) (mark_of x) ((performed here world device op happened).links device).faults) replied)

      links : UnheardFaults Came world.links → UnheardFaults Came (performed here world device op happened).links
      links old x op' h = on (nat_eq device x) refl
        where
          on : (b : Bool) → nat_eq device x ≡ b → Came x ((performed here world device op happened).links x).faults
          on true e =
              let same : device ≡ x = eqb-true device x e in
              subst (λ (y : ℕ). Came y ((performed here world device op happened).links y).faults) same
              (came_now op' (subst (λ (y : ℕ). ((performed here world device op happened).links y).unheard ≡ Some (op', reply.Fault)) (sym same) h))
          on false e =
              let same : (performed here world device op happened).links x ≡ world.links x = given_other world.links device _ x e in
              subst (λ (l : Link). Came x l.faults) (sym same) (old x op' (ap (λ (l : Link). l.unheard) (sym same) ∙ h))
  does_know meant row next (DoesUnderHub.leaves_unsent device changes due unheard) now = λ other e met m.
      let o = own hub up met (ap (λ (h : Hub). h.mends) (same_Some hub other (sym up ∙ e)) ∙ m) in
      record { unheard = links o.unheard; met_so = o.met_so }
    where
      came_now : (op' : OpKind) → ((unsent here world device changes).links device).unheard ≡ Some (op', reply.Fault) → ⊥
      came_now op' h =
          let is : ◌≡◌ {A = Option (OpKind × Reply)} (Some (kind.Edit, reply.Memory)) (Some (op', reply.Fault)) =
          sym (ap (λ (l : Link). l.unheard) (given_at world.links device _)) ∙ h in
          let replied : reply.Memory ≡ reply.Fault = ap (λ (p : OpKind × Reply). p.1) (same_Some (kind.Edit, reply.Memory) (op', reply.Fault) is) in cc

      links : UnheardFaults Came world.links → UnheardFaults Came (unsent here world device changes).links
      links old x op' h = on (nat_eq device x) refl
        where
          on : (b : Bool) → nat_eq device x ≡ b → Came x ((unsent here world device changes).links x).faults
          on true e =
              let same : device ≡ x = eqb-true device x e in
              absurd (came_now op' (subst (λ (y : ℕ). ((unsent here world device changes).links y).unheard ≡ Some (op', reply.Fault)) (sym same) h))
          on false e =
              let same : (unsent here world device changes).links x ≡ world.links x = given_other world.links device _ x e in
              subst (λ (l : Link). Came x l.faults) (sym same) (old x op' (ap (λ (l : Link). l.unheard) (sym same) ∙ h))
  does_know meant row next (DoesUnderHub.reports device op r heard) now = λ other e met m.
      let o = by device op r heard hub.mends refl met (ap (λ (h : Hub). h.mends) (same_Some (hub_reported device r (world.links device).faults hub) other e) ∙ m) in
      record { unheard = o.0; met_so = o.1 }
  does_know meant row next (DoesUnderHub.commits place it there least due prepared valid) now = alike next _ refl refl refl
  does_know meant row next (DoesUnderHub.aborts place it said there least due why) now = alike next _ refl refl refl
  does_know meant row next (DoesUnderHub.settles place it there least settling) now = alike next _ refl refl refl
  does_know meant row next DoesUnderHub.stops now = λ other e. absurd (let none : ◌≡◌ {A = Option Hub} None (Some other) = e in cc)
  does_know meant row next (DoesUnderHub.mends numbers idle unsettled) now = λ other e met m. record {
    unheard = λ device op h. absurd (let none : ◌≡◌ {A = Option (OpKind × Reply)} None (Some (op, reply.Fault)) = sym (quiet device) ∙ h in cc);
    met_so = λ device count is. absurd (let no : ◌≡◌ {A = Option (Option RecFault)} (Some None) (Some (Some (fault.LinkFault device count))) =
        ap (λ (h : Hub). h.mends) (same_Some _ other e) ∙ m ∙ ap (λ x. Some x) is in cc);
  }
    where
      quiet : (device : ℕ) → (world.links device).unheard ≡ None
      quiet device = all_heard here.decls devices.shadow (entries_read world.journal) hub.active hub.duties hub.stale hub.mends world.links under (λ place it there. ap is_under_way (all_left hub.active idle.1 place it there))
          (subst (λ (n : Option (Option RecFault)). MendingKept here.decls (entries_read world.journal) hub.active hub.duties hub.stale n) idle.2 under.mending) device
  does_know meant row next (DoesUnderHub.mended numbers met busy heard unsettled) now = ended next _ refl refl
  does_know meant row next (DoesUnderHub.finds_no_memory met busy heard) now = ended next _ refl refl
  does_know meant row next (DoesUnderHub.fails_to_mend met failed heard) now = ended next _ refl refl

-- over whole runs
module _ {D : Type 0} (here : Setting D) (are : AreDecls here.decls) (plans : PlanStands) (legally : LegalStands) (order : KeepsOrder)
    (kinds : (device : ℕ) → IsOfHub (here.kinds device)) (lawful : (device : ℕ) → IsLawful (here.kinds device) (over here.decls device))
    (planning : Planning (over here.decls) (StandsAt here.decls) (FitAt here.decls) (ValidAt here.decls)) where
  -- what was met so far came since the beginning of its reconciliation
  abbrev pub AllSince : List (Turn D) → Type 0
  AllSince ts = (earlier later : List (Turn D)) (turn : Turn D) (device number : ℕ) → ts ≡ earlier ++ turn ∷ later
      → turn.seen ≡ Some (event.Reconcile (Some (Err (fault.LinkFault device number)))) → HasFault (since_begun earlier) device number

  pub record MetSoFar (ts : List (Turn D)) (world : World D) : Type 0 where
    pub history : HistoryKept here world
    pub devices : DevicesKept here.decls world
    pub known : MendingKnown (HasFault (since_begun ts)) world
    pub told : AllSince ts

  -- nothing is known where no reconciliation is under way
  none_mends : (F : ℕ → ℕ → Type 0) (world : World D) → ((hub : Hub) → world.hub ≡ Some hub → hub.mends ≡ None) → MendingKnown F world
  none_mends F world none hub up met m = absurd (let no : ◌≡◌ {A = Option (Option RecFault)} None (Some met) = sym (none hub up) ∙ m in cc)

  down_mends : (F : ℕ → ℕ → Type 0) (world : World D) → world.hub ≡ None → MendingKnown F world
  down_mends F world down hub up = absurd (let none : ◌≡◌ {A = Option Hub} None (Some hub) = sym down ∙ up in cc)

  -- one begins only where none is under way
  begins_idle : (world : World D) (hub : Hub) (meant : Event) (row : List Entry) (next : World D) → DoesUnderHub here world hub meant row next → begins_again (Some meant) ≡ true → hub.mends ≡ None
  begins_idle world hub meant row next (DoesUnderHub.mends numbers idle unsettled) h = idle.2
  begins_idle world hub meant row next does h = absurd (false≢true h)

  module _ (ts : List (Turn D)) (turn : Turn D) where
    since_more : begins_again turn.seen ≡ false → since_begun (ts ++ turn ∷ []) ≡ since_begun ts ++ turn ∷ []
    since_more none = since_push ts turn ∙ ap (λ (b : Bool). cond b [] (since_begun ts ++ turn ∷ [])) none

    lifted : begins_again turn.seen ≡ false → (device number : ℕ) → HasFault (since_begun ts) device number → HasFault (since_begun (ts ++ turn ∷ [])) device number
    lifted none device number h = subst (λ (l : List (Turn D)). HasFault l device number) (sym (since_more none)) (h.0, h.1, Contains-append_left (since_begun ts) (turn ∷ []) h.0 h.2, h.3)

    here_now : begins_again turn.seen ≡ false → (device number : ℕ) (kind : OpKind) → turn.seen ≡ Some (event.Perform device kind mark.Fault number) → HasFault (since_begun (ts ++ turn ∷ [])) device number
    here_now none device number kind e = subst (λ (l : List (Turn D)). HasFault l device number) (sym (since_more none)) (turn, kind, Contains-push (since_begun ts) turn, e)

  steps_mend : (ts : List (Turn D)) (old new : World D) (meant : Event) (seen : Option Event) → DevicesKept here.decls old → MendingKnown (HasFault (since_begun ts)) old → Steps here old meant seen new
      → MendingKnown (HasFault (since_begun (ts ++ record { before = old; meant = meant; seen = seen; behind = new } ∷ []))) new
  steps_mend ts old new meant seen devices own (Steps.done hub row next _ up does appends is) =
      subst (λ (w : World D). MendingKnown (HasFault (since_begun (ts ++ turn ∷ []))) w) (sym is) (λ h e met m. let k = known h e met m in record { unheard = k.unheard; met_so = k.met_so })
    where
      turn : Turn D
      turn = record { before = old; meant = meant; seen = Some meant; behind = new }

      before : (b : Bool) → begins_again (Some meant) ≡ b → MendingKnown (HasFault (since_begun (ts ++ turn ∷ []))) old
      before true e = none_mends (HasFault (since_begun (ts ++ turn ∷ []))) old
          (λ h up'. ap (λ (x : Hub). x.mends) (sym (same_Some hub h (sym up ∙ up'))) ∙ begins_idle old hub meant row next does e)
      before false e = more_mends (HasFault (since_begun ts)) (HasFault (since_begun (ts ++ turn ∷ []))) old (lifted ts turn e) own

      now : (device : ℕ) (kind : OpKind) (count : ℕ) → meant ≡ event.Perform device kind mark.Fault count → HasFault (since_begun (ts ++ turn ∷ [])) device count
      now device kind count e = here_now ts turn (ap (λ (m : Event). begins_again (Some m)) e) device count kind (ap (λ (m : Event). Some m) e)

      known : MendingKnown (HasFault (since_begun (ts ++ turn ∷ []))) next
      known = does_know here (HasFault (since_begun (ts ++ turn ∷ []))) old hub up devices (before (begins_again (Some meant)) refl) meant row next does now
  steps_mend ts old new meant seen devices own (Steps.cut hub row next _ up does appends is) = down_mends (HasFault _) new (ap (λ (w : World D). w.hub) is)
  steps_mend ts old new meant seen devices own (Steps.failed hub row next _ up does appends is) = down_mends (HasFault _) new (ap (λ (w : World D). w.hub) is)
  steps_mend ts old new meant seen devices own (Steps.full hub row next len _ up does appends is) = down_mends (HasFault _) new (ap (λ (w : World D). w.hub) is)
  steps_mend ts old new meant seen devices own (Steps.anyway _ (DoesAnyway.ticks seconds)) =
      λ h e met m. let k = more_mends (HasFault (since_begun ts)) (HasFault (since_begun (ts ++ record { before = old; meant = meant; seen = seen; behind = new } ∷ []))) old (lifted ts _ refl) own h e met m in
      record { unheard = k.unheard; met_so = k.met_so }
  steps_mend ts old new meant seen devices own (Steps.anyway _ (DoesAnyway.restarts x)) =
      λ h e met m. let k = more_mends (HasFault (since_begun ts)) (HasFault (since_begun (ts ++ record { before = old; meant = meant; seen = seen; behind = new } ∷ []))) old (lifted ts _ refl) own h e met m in
      record { unheard = k.unheard; met_so = k.met_so }
  steps_mend ts old new meant seen devices own (Steps.anyway _ (DoesAnyway.answers_down submitted front down)) = down_mends (HasFault _) new down
  steps_mend ts old new meant seen devices own (Steps.unopened _ down recover stays is) = down_mends (HasFault _) new (ap (λ (w : World D). w.hub) is ∙ down)
  steps_mend ts old new meant seen devices own (Steps.recovers _ down recover reopens is) =
      none_mends (HasFault _) new (λ hub up. ap (λ (x : Hub). x.mends) (sym (same_Some _ hub (sym (ap (λ (w : World D). w.hub) is) ∙ up))))

  does_tell_met : (F : ℕ → ℕ → Type 0) (world : World D) (hub : Hub) → world.hub ≡ Some hub → MendingKnown F world → (meant : Event) (row : List Entry) (next : World D) → DoesUnderHub here world hub meant row next
      → (device number : ℕ) → meant ≡ event.Reconcile (Some (Err (fault.LinkFault device number))) → F device number
  does_tell_met F world hub up own meant row next (DoesUnderHub.fails_to_mend met failed heard) device number is = (own hub up (Some met) failed).met_so device number (ap (λ (m : RecFault). Some m) (met_is is))
    where
      met_is : event.Reconcile (Some (Err met)) ≡ event.Reconcile (Some (Err (fault.LinkFault device number))) → met ≡ fault.LinkFault device number
      met_is e = cc
  does_tell_met F world hub up own meant row next does device number is = absurd cc

  failing_tells_met : (meant : Event) (device number : ℕ) → seen_failing meant ≡ Some (event.Reconcile (Some (Err (fault.LinkFault device number)))) → ⊥
  failing_tells_met (event.Admit t said) device number h = cc
  failing_tells_met (event.Decide t said) device number h = cc
  failing_tells_met (event.Reconcile result) device number h = cc
  failing_tells_met other device number h = cc

  steps_tell_met : (F : ℕ → ℕ → Type 0) (old new : World D) (meant : Event) (seen : Option Event) → MendingKnown F old → Steps here old meant seen new → (device number : ℕ)
      → seen ≡ Some (event.Reconcile (Some (Err (fault.LinkFault device number)))) → F device number
  steps_tell_met F old new meant seen own (Steps.done hub row next _ up does appends is) device number h =
      does_tell_met F old hub up own meant row next does device number (same_Some meant (event.Reconcile (Some (Err (fault.LinkFault device number)))) h)
  steps_tell_met F old new meant seen own (Steps.cut hub row next _ up does appends is) device number h = absurd cc
  steps_tell_met F old new meant seen own (Steps.failed hub row next _ up does appends is) device number h = absurd (failing_tells_met meant device number h)
  steps_tell_met F old new meant seen own (Steps.full hub row next len _ up does appends is) device number h = absurd cc
  steps_tell_met F old new meant seen own (Steps.anyway _ (DoesAnyway.ticks seconds)) device number h = absurd cc
  steps_tell_met F old new meant seen own (Steps.anyway _ (DoesAnyway.restarts x)) device number h = absurd cc
  steps_tell_met F old new meant seen own (Steps.anyway _ (DoesAnyway.answers_down submitted front down)) device number h = absurd cc
  steps_tell_met F old new meant seen own (Steps.unopened _ down recover stays is) device number h = absurd cc
  steps_tell_met F old new meant seen own (Steps.recovers _ down recover reopens is) device number h =
      absurd (let both : event.Recover ≡ event.Reconcile (Some (Err (fault.LinkFault device number))) =
      sym recover ∙ same_Some meant (event.Reconcile (Some (Err (fault.LinkFault device number)))) h in cc)

  turn_met : (ts : List (Turn D)) (turn : Turn D) → MetSoFar ts turn.before → Comes here turn → MetSoFar (ts ++ turn ∷ []) turn.behind
  turn_met ts turn own comes = record {
    history = steps_keep here are plans legally order turn.before turn.behind turn.meant turn.seen own.history comes;
    devices = steps_devices here are plans kinds lawful planning turn.before turn.behind turn.meant turn.seen own.history own.devices comes;
    known = steps_mend ts turn.before turn.behind turn.meant turn.seen own.devices own.known comes;
    told = λ earlier later other device number parts e. by earlier later other device number e (split_push ts turn earlier other later parts);
  }
    where
      by : (earlier later : List (Turn D)) (other : Turn D) (device number : ℕ) → other.seen ≡ Some (event.Reconcile (Some (Err (fault.LinkFault device number)))) → SplitPush ts turn earlier other
          → HasFault (since_begun earlier) device number
      by earlier later other device number e (SplitPush.before_last later' parts) = own.told earlier later' other device number parts e
      by earlier later other device number e (SplitPush.at_last front same) =
          subst (λ (l : List (Turn D)). HasFault (since_begun l) device number) (sym front)
          (steps_tell_met (HasFault (since_begun ts)) turn.before turn.behind turn.meant turn.seen own.known comes device number (ap (λ (t : Turn D). t.seen) (sym same) ∙ e))

  set_met : (ts : List (Turn D)) (at : ScriptStep) (world : World D) → MetSoFar ts world → MetSoFar ts (set_by at world)
  set_met ts at world own = record {
    history = set_kept here at world own.history;
    devices = set_devices here at world own.devices;
    known = relinked at own.known;
    told = own.told;
  }
    where
      relinked : (s : ScriptStep) → MendingKnown (HasFault (since_begun ts)) world → MendingKnown (HasFault (since_begun ts)) (set_by s world)
      relinked (step.StopAt count bytes) known = on world.hub
        where
          on : (hub : Option Hub) → MendingKnown (HasFault (since_begun ts)) (option_map_or (λ h. record world { journal = record world.journal { armed = count; bytes = bytes } }) hub world)
          on None = known
          on (Some hub) = λ h e met m. let k = known h e met m in record { unheard = k.unheard; met_so = k.met_so }
      relinked (step.Fault device op at') known = λ h e met m. let k = known h e met m in record {
        unheard = λ x op' is. let same = listed_same world.links device op at' x in subst (HasFault (since_begun ts) x) (sym same.faults) (k.unheard x op' (sym same.unheard ∙ is));
        met_so = k.met_so;
      }
      relinked other known = known

  pub met_since : (script : List ScriptStep) (first last : World D) (run : Run here script first last) → HistoryKept here first → DevicesKept here.decls first
      → ((hub : Hub) → first.hub ≡ Some hub → hub.mends ≡ None) → AllSince (turns_of run)
  met_since script first last run history devices rested =
      (run_forward here MetSoFar turn_met set_met script first last run
      (record { history = history; devices = devices; known = none_mends (HasFault (since_begun [])) first rested; told = λ earlier later turn device number parts. absurd (nil_none earlier turn later parts) })).told
