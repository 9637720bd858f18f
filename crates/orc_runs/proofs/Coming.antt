-- What a device would come back to is due after as many first calls of the history as it has come to.
use Rattle.std.proofs.Common.{[], ◌≡◌, ◌⊎◌, inl, inr, ⊎_elim, ℕ, ◌≤◌, Bool, true, false, cond, Option, Some, None, List, ◌∷◌, ◌++◌, length, nat_eq, eqb-true, refl, sym, ap, subst, ◌∙◌, arith, append-nil}
use Rattle.std.proofs.Math.Path.{fun_ext}
use Rattle.std.specs.Prelude.{nat_lt, take}
use Rattle.std.specs.Option.{option_map_or}
use Rattle.orc_journal.specs.declared.outcome.Appended.TheVariants as appended
use Rattle.orc_call.specs.declared.call.Call.{Call}
use Rattle.orc_decls.specs.Declarations.{AreDecls}
use Rattle.orc_device.specs.Links.{Possible, Way, Way as way, took_effect, way_node}
use Rattle.orc_device.specs.Nodes.{NodeState, restarted}
use Rattle.orc_device.specs.declared.op.Op.{Op}
use Rattle.orc_device.specs.declared.op.Op.TheVariants as op
use Rattle.orc_journal.specs.Laws.{KeepsOrder}
use Rattle.orc_journal.specs.declared.entry.Entry.{Entry}
use Rattle.orc_plans.specs.Plans.{LegalStands, PlanStands}
use Rattle.orc_rules.specs.Cells.{place_or}
use Rattle.orc_rules.specs.Coming.{came_by, came_by_due, came_to}
use Rattle.orc_rules.specs.Events.{Comes, DoesAnyway, DoesUnderHub, Steps, Turn, way_due}
use Rattle.orc_rules.specs.Facts.{pending_id}
use Rattle.orc_rules.specs.Hubs.{Hub, due_on}
use Rattle.orc_rules.specs.Invariant.{IsLawful}
use Rattle.orc_rules.specs.Journals.{entries_read, history_read}
use Rattle.orc_rules.specs.Kept.{FitAt, HistoryKept, StandsAt, ValidAt}
use Rattle.orc_rules.specs.Network.{Planning}
use Rattle.orc_rules.specs.Told.{Told, told_by}
use Rattle.orc_rules.specs.UnderHub.{DevicesKept, IsOfHub}
use Rattle.orc_rules.specs.Worlds.{Setting, World, over}
use Rattle.orc_rules.specs.declared.event.Event.{Event}
use Rattle.orc_rules.proofs.Devices.{told_history}
use Rattle.orc_rules.proofs.Legality.{read_so}
use Rattle.orc_rules.proofs.Moves.{effect_so}
use Rattle.orc_rules.proofs.Moving.{due_is}
use Rattle.orc_rules.proofs.Others.{dropped_turns, restarted_turns, ticked_turns}
use Rattle.orc_rules.proofs.Pending.{PendsSince, confirm_pends, pends_since, place_more, took_allowed}
use Rattle.orc_rules.proofs.Recording.{either, given_at, given_other}
use Rattle.orc_rules.proofs.Tracking.{done_read, failing_came, read_by, stays_read, steps_come, steps_devices}
use Rattle.orc_rules.proofs.Turning.{steps_keep, uncut_read}
use Rattle.orc_runs.specs.Headline.{IsBackAt, at_of}
use Rattle.orc_runs.specs.Runs.{Run, turns_of}
use Rattle.orc_runs.specs.Scripts.{set_by}
use Rattle.orc_script.specs.declared.step.ScriptStep.{ScriptStep}
use Rattle.orc_script.specs.declared.step.ScriptStep.TheVariants as step
use Rattle.orc_runs.proofs.Faulted.{SplitPush, fold_push, nil_none, split_push}
use Rattle.orc_runs.proofs.Forward.{run_forward}
use Rattle.orc_runs.proofs.InStep.{front_is_due, set_devices, set_shadow}
use Rattle.orc_runs.proofs.Lasting.{set_kept}
use Rattle.orc_runs.proofs.Resolved.{resolves}

module _ {D : Type 0} (here : Setting D) (are : AreDecls here.decls) (plans : PlanStands) (legally : LegalStands) (order : KeepsOrder)
    (kinds : (device : ℕ) → IsOfHub (here.kinds device)) (lawful : (device : ℕ) → IsLawful (here.kinds device) (over here.decls device))
    (planning : Planning (over here.decls) (StandsAt here.decls) (FitAt here.decls) (ValidAt here.decls)) where
  -- no device has come further than the entry of the transaction that is pending on it
  abbrev IsAhead : (ℕ → ℕ) → World D → Type 0
  IsAhead at world = (device t n : ℕ) → pending_id (world.nodes device).pending ≡ Some t → (told_by (entries_read world.journal)).place t ≡ Some n → at device ≤ n

  -- What is pending on a device after an event was so before it, and the device came nowhere; or its transaction wasn't
  -- decided, and nothing more is read.
  data Pends (old new : World D) (seen : Option Event) (x at t : ℕ) : Type 0 where
    before : pending_id (old.nodes x).pending ≡ Some t → came_by here old x at seen ≡ at → Pends old new seen x at t
    now : (told_by (entries_read old.journal)).place t ≡ None → entries_read old.journal ≡ entries_read new.journal → Pends old new seen x at t

  module _ (old : World D) (hub : Hub) (up : old.hub ≡ Some hub) (own : DevicesKept here.decls old) where
    -- how far a device comes by the operation that is due there
    came_here : (device : ℕ) (one : Op) (happened : Way) → due_on hub device ≡ Some one
        → Possible (here.kinds device) (old.nodes device) (old.links device).session one happened
        → (happened ≡ way_due here old device one) ⊎ (happened ≡ way.NoMemory) → (at : ℕ)
        → option_map_or (λ (h : Hub). came_by_due here old device at (due_on h device)) old.hub at
        ≡ cond (took_effect happened) (came_to (told_by (entries_read old.journal)) at one) at
    came_here device one happened due possible way' at =
        ap (λ (o : Option Hub). option_map_or (λ (h : Hub). came_by_due here old device at (due_on h device)) o at) up
        ∙ ap (λ (o : Option Op). came_by_due here old device at o) due
        ∙ sym (effect_so here are plans kinds lawful planning device old one happened (told_by (entries_read old.journal)) at possible way')

    -- no operation brings a device back
    rises_by : (device : ℕ) (one : Op) (happened : Way) → Possible (here.kinds device) (old.nodes device) (old.links device).session one happened → (at : ℕ)
        → at ≤ length (told_by (entries_read old.journal)).history
        → ((t n : ℕ) → pending_id (old.nodes device).pending ≡ Some t → (told_by (entries_read old.journal)).place t ≡ Some n → at ≤ n)
        → at ≤ cond (took_effect happened) (came_to (told_by (entries_read old.journal)) at one) at
    rises_by device one happened possible at within ahead = on (took_effect happened) refl
      where
        told : Told
        told = told_by (entries_read old.journal)

        to_place : (t : ℕ) → pending_id (old.nodes device).pending ≡ Some t → at ≤ came_to told at (op.Confirm t)
        to_place t pends = by (told.place t) refl
          where
            by : (o : Option ℕ) → told.place t ≡ o → at ≤ came_to told at (op.Confirm t)
            by None e = subst (λ (o : Option ℕ). at ≤ place_or o at) (sym e) (omega arith)
            by (Some n) e = subst (λ (o : Option ℕ). at ≤ place_or o at) (sym e) (ahead t n pends e)

        by_op : (o : Op) → Possible (here.kinds device) (old.nodes device) (old.links device).session o happened → took_effect happened ≡ true → at ≤ came_to told at o
        by_op (op.Confirm t) p e = to_place t (confirm_pends (here.kinds device) (old.nodes device) (old.links device).session t
            (took_allowed (here.kinds device) (old.nodes device) (old.links device).session (op.Confirm t) happened p e))
        by_op op.Commit p e = within
        by_op o p e = omega arith

        on : (b : Bool) → took_effect happened ≡ b → at ≤ cond b (came_to told at one) at
        on true e = by_op one possible e
        on false e = omega arith

    cond_both : (b : Bool) (m at : ℕ) → m ≡ at → cond b m at ≡ at
    cond_both true m at same = same
    cond_both false m at same = refl

    does_rise : (at : ℕ → ℕ) → ((device : ℕ) → at device ≤ length (told_by (entries_read old.journal)).history) → IsAhead at old
        → (meant : Event) (row : List Entry) (next : World D) → DoesUnderHub here old hub meant row next → (x : ℕ) → at x ≤ came_by here old x (at x) (Some meant)
    does_rise at within ahead meant row next (DoesUnderHub.performs device one happened due unheard possible way') x = on (nat_eq device x) refl
      where
        on : (b : Bool) → nat_eq device x ≡ b → at x ≤ cond b (option_map_or (λ (h : Hub). came_by_due here old x (at x) (due_on h x)) old.hub (at x)) (at x)
        on true e =
            subst (λ (d : ℕ). at d ≤ option_map_or (λ (h : Hub). came_by_due here old d (at d) (due_on h d)) old.hub (at d)) (eqb-true device x e)
            (subst (λ (n : ℕ). at device ≤ n) (sym (came_here device one happened due possible way' (at device)))
            (rises_by device one happened possible (at device) (within device) (ahead device)))
        on false e = omega arith
    does_rise at within ahead meant row next does x = omega arith

    -- what is pending after an event under the hub
    abbrev PendsIn : Event → List Entry → ℕ → ℕ → ℕ → Type 0
    PendsIn meant row x at t = ((pending_id (old.nodes x).pending ≡ Some t) × (came_by here old x at (Some meant) ≡ at))
        ⊎ (((told_by (entries_read old.journal)).place t ≡ None) × (row ≡ []))

    does_pend : (meant : Event) (row : List Entry) (next : World D) → DoesUnderHub here old hub meant row next → (x at t : ℕ) → pending_id (next.nodes x).pending ≡ Some t → PendsIn meant row x at t
    does_pend meant row next (DoesUnderHub.performs device one happened due unheard possible way') x at t pend = elim (either device x) [
      | inl same ↦ at_device same
      | inr other ↦ inl (
        sym (ap (λ (n : NodeState). pending_id n.pending) (given_other old.nodes device now_node x other)) ∙ pend,
        ap (λ (b : Bool). cond b (option_map_or (λ (h : Hub). came_by_due here old x at (due_on h x)) old.hub at) at) other,
      )
    ]
      where
        now_node : NodeState
        now_node = way_node (here.kinds device) (old.nodes device) (old.links device).session one happened

        here_now : pending_id now_node.pending ≡ Some t → PendsIn meant row device at t
        here_now is = by (pends_since (here.kinds device) (old.nodes device) (old.links device).session one happened t possible is)
          where
            by : PendsSince (old.nodes device) one happened t → PendsIn meant row device at t
            by (PendsSince.before pends stays) =
                inl (pends, cond_both (nat_eq device device) _ at (came_here device one happened due possible way' at ∙ stays (told_by (entries_read old.journal)) at))
            by (PendsSince.now seconds is') =
                inr ((resolves here kinds lawful planning old hub up own device one happened (due_is hub device one due) unheard possible).prepares t seconds is', refl)

        at_device : device ≡ x → PendsIn meant row x at t
        at_device same =
            subst (λ (d : ℕ). PendsIn meant row d at t) same
            (here_now (sym (ap (λ (n : NodeState). pending_id n.pending) (given_at old.nodes device now_node)) ∙ subst (λ (d : ℕ). pending_id (next.nodes d).pending ≡ Some t) (sym same) pend))
    does_pend meant row next (DoesUnderHub.leaves_unsent device changes due unheard) x at t pend = elim (either device x) [
      | inl same ↦ inl (
        subst (λ (d : ℕ). pending_id (old.nodes d).pending ≡ Some t) same
            (sym (ap (λ (n : NodeState). pending_id n.pending) (given_at old.nodes device (old.nodes device))) ∙ subst (λ (d : ℕ). pending_id (next.nodes d).pending ≡ Some t) (sym same) pend),
        refl,
      )
      | inr other ↦ inl (sym (ap (λ (n : NodeState). pending_id n.pending) (given_other old.nodes device (old.nodes device) x other)) ∙ pend, refl)
    ]
    does_pend meant row next DoesUnderHub.stops x at t pend = inl ((dropped_turns (old.nodes x) 0).id t pend, refl)
    does_pend meant row next does x at t pend = inl (pend, refl)

  steps_pend : (old new : World D) (kept : HistoryKept here old) (own : DevicesKept here.decls old) (meant : Event) (seen : Option Event) → Steps here old meant seen new → (x at t : ℕ) → pending_id (new.nodes x).pending ≡ Some t → Pends old new seen x at t
  steps_pend old new kept own meant seen (Steps.done hub row next _ up does appends is) x at t pend =
      by (does_pend old hub up own meant row next does x at t (sym (ap (λ (w : World D). pending_id (w.nodes x).pending) is) ∙ pend))
    where
      by : PendsIn old hub up own meant row x at t → Pends old new seen x at t
      by (inl stays) = Pends.before stays.0 stays.1
      by (inr prepared) = Pends.now prepared.0
          (sym (append-nil (entries_read old.journal)) ∙ ap (λ (l : List Entry). entries_read old.journal ++ l) (sym prepared.1) ∙ done_read here are plans kinds lawful planning old.journal new.journal row appends)
  steps_pend old new kept own meant seen (Steps.cut hub row next _ up does appends is) x at t pend =
      Pends.before ((dropped_turns (old.nodes x) 0).id t (sym (ap (λ (w : World D). pending_id (w.nodes x).pending) is) ∙ pend)) refl
  steps_pend old new kept own meant seen (Steps.failed hub row next _ up does appends is) x at t pend =
      Pends.before (sym (ap (λ (w : World D). pending_id (w.nodes x).pending) is) ∙ pend) (sym (failing_came here are plans kinds lawful planning old x at meant))
  steps_pend old new kept own meant seen (Steps.full hub row next len _ up does appends is) x at t pend = Pends.before (sym (ap (λ (w : World D). pending_id (w.nodes x).pending) is) ∙ pend) refl
  steps_pend old new kept own meant seen (Steps.anyway _ (DoesAnyway.ticks seconds)) x at t pend = Pends.before ((ticked_turns (old.nodes x) 0 seconds).id t pend) refl
  steps_pend old new kept own meant seen (Steps.anyway _ (DoesAnyway.restarts device)) x at t pend = elim (either device x) [
    | inl same ↦ Pends.before (subst (λ (d : ℕ). pending_id (old.nodes d).pending ≡ Some t) same ((restarted_turns (old.nodes device) 0).id t
        (sym (ap (λ (n : NodeState). pending_id n.pending) (given_at old.nodes device (restarted (old.nodes device)))) ∙ subst (λ (d : ℕ). pending_id (new.nodes d).pending ≡ Some t) (sym same) pend))) refl
    | inr other ↦ Pends.before (sym (ap (λ (n : NodeState). pending_id n.pending) (given_other old.nodes device (restarted (old.nodes device)) x other)) ∙ pend) refl
  ]
  steps_pend old new kept own meant seen (Steps.anyway _ (DoesAnyway.answers_down call front down)) x at t pend = Pends.before pend refl
  steps_pend old new kept own meant seen (Steps.unopened _ down recover stays is) x at t pend = Pends.before (sym (ap (λ (w : World D). pending_id (w.nodes x).pending) is) ∙ pend) refl
  steps_pend old new kept own meant seen (Steps.recovers _ down recover reopens is) x at t pend =
      Pends.before (sym (ap (λ (w : World D). pending_id (w.nodes x).pending) is) ∙ pend) (ap (λ (m : Event). came_by here old x at (Some m)) recover)

  -- what is read only grows
  anyway_read : (old new : World D) (meant : Event) → DoesAnyway old meant new → entries_read new.journal ≡ entries_read old.journal
  anyway_read old new meant (DoesAnyway.ticks seconds) = refl
  anyway_read old new meant (DoesAnyway.restarts device) = refl
  anyway_read old new meant (DoesAnyway.answers_down call front down) = refl

  no_more : (old new : World D) → entries_read new.journal ≡ entries_read old.journal → (front : List Entry) × (entries_read new.journal ≡ entries_read old.journal ++ front)
  no_more old new same = ([], same ∙ sym (append-nil (entries_read old.journal)))

  steps_read : (old new : World D) (kept : HistoryKept here old) (meant : Event) (seen : Option Event) → Steps here old meant seen new → (front : List Entry) × (entries_read new.journal ≡ entries_read old.journal ++ front)
  steps_read old new kept meant seen (Steps.done hub row next _ up does appends is) = let r = read_by here old.journal new.journal row appended.Done appends in (r.front, r.read)
  steps_read old new kept meant seen (Steps.cut hub row next _ up does appends is) = let r = read_by here old.journal new.journal row appended.Stopped appends in (r.front, r.read)
  steps_read old new kept meant seen (Steps.failed hub row next _ up does appends is) = let r = read_by here old.journal new.journal row appended.Failed appends in (r.front, r.read)
  steps_read old new kept meant seen (Steps.full hub row next len _ up does appends is) = let r = read_by here old.journal new.journal row (appended.Full len) appends in (r.front, r.read)
  steps_read old new kept meant seen (Steps.anyway _ does) = no_more old new (anyway_read old new meant does)
  steps_read old new kept meant seen (Steps.unopened _ down recover stays is) = no_more old new (sym (stays_read here old.journal new.journal stays))
  steps_read old new kept meant seen (Steps.recovers _ down recover reopens is) = no_more old new (uncut_read new.journal reopens.cut ∙ reopens.synced kept.journal.read_back)

  steps_ahead : (old new : World D) (kept : HistoryKept here old) (own : DevicesKept here.decls old) (at : ℕ → ℕ) → ((device : ℕ) → at device ≤ length (told_by (entries_read old.journal)).history) → IsAhead at old
      → (meant : Event) (seen : Option Event) → Steps here old meant seen new → IsAhead (λ x. came_by here old x (at x) seen) new
  steps_ahead old new kept own at within ahead meant seen steps x t n pend placed = by (steps_pend old new kept own meant seen steps x (at x) t pend)
    where
      by : Pends old new seen x (at x) t → came_by here old x (at x) seen ≤ n
      by (Pends.before pends stays) =
          let more = steps_read old new kept meant seen steps in
          subst (λ (m : ℕ). m ≤ n) (sym stays) (⊎_elim
          (λ there. ahead x t n pends there)
          (λ later. let far = within x in omega (arith, far, later))
          (place_more (entries_read old.journal) more.0 t n (sym (ap (λ (l : List Entry). (told_by l).place t) more.1) ∙ placed)))
      by (Pends.now none same) = absurd (let no : ◌≡◌ {A = Option ℕ} None (Some n) = sym none ∙ ap (λ (l : List Entry). (told_by l).place t) same ∙ placed in cc)

  steps_rise : (old new : World D) (own : DevicesKept here.decls old) (at : ℕ → ℕ) → ((device : ℕ) → at device ≤ length (told_by (entries_read old.journal)).history) → IsAhead at old
      → (meant : Event) (seen : Option Event) → Steps here old meant seen new → (x : ℕ) → at x ≤ came_by here old x (at x) seen
  steps_rise old new own at within ahead meant seen (Steps.done hub row next _ up does appends is) x = does_rise old hub up own at within ahead meant row next does x
  steps_rise old new own at within ahead meant seen (Steps.cut hub row next _ up does appends is) x = omega arith
  steps_rise old new own at within ahead meant seen (Steps.failed hub row next _ up does appends is) x = let same = failing_came here are plans kinds lawful planning old x (at x) meant in omega (arith, same)
  steps_rise old new own at within ahead meant seen (Steps.full hub row next len _ up does appends is) x = omega arith
  steps_rise old new own at within ahead meant seen (Steps.anyway _ (DoesAnyway.ticks seconds)) x = omega arith
  steps_rise old new own at within ahead meant seen (Steps.anyway _ (DoesAnyway.restarts device)) x = omega arith
  steps_rise old new own at within ahead meant seen (Steps.anyway _ (DoesAnyway.answers_down call front down)) x = omega arith
  steps_rise old new own at within ahead meant seen (Steps.unopened _ down recover stays is) x = omega arith
  steps_rise old new own at within ahead meant seen (Steps.recovers _ down recover reopens is) x =
      subst (λ (m : Event). at x ≤ came_by here old x (at x) (Some m)) (sym recover) (omega arith)

  -- over whole runs

  abbrev pub AllCame : List (Turn D) → Type 0
  AllCame turns = (earlier later : List (Turn D)) (turn : Turn D) (device : ℕ) → turns ≡ earlier ++ turn ∷ later
      → (nat_lt device (length here.decls.names) ≡ true → IsBackAt here.decls turn.behind device (at_of here (earlier ++ turn ∷ []) device))
      × (at_of here earlier device ≤ at_of here (earlier ++ turn ∷ []) device)

  pub record CameSoFar (turns : List (Turn D)) (world : World D) : Type 0 where
    pub history : HistoryKept here world
    pub devices : DevicesKept here.decls world
    pub same : (device : ℕ) → (devices.shadow device).at ≡ at_of here turns device
    pub ahead : IsAhead (at_of here turns) world
    pub told : AllCame turns

  at_push : (turns : List (Turn D)) (turn : Turn D) (device : ℕ) → at_of here (turns ++ turn ∷ []) device ≡ came_by here turn.before device (at_of here turns device) turn.seen
  at_push turns turn device = fold_push (λ at t. came_by here t.before device at t.seen) 0 turns turn

  -- a device would come back to what is due after as many calls as it has come to
  back_at : (world : World D) (history : HistoryKept here world) (devices : DevicesKept here.decls world) (device count : ℕ) → (devices.shadow device).at ≡ count
      → nat_lt device (length here.decls.names) ≡ true → IsBackAt here.decls world device count
  back_at world history devices device count same within =
      let is = devices.kept.each device in
      let read = told_history (entries_read world.journal) in
      subst (λ (n : ℕ). IsBackAt here.decls world device n) same (
        subst (λ (h : List Call). (devices.shadow device).at ≤ length h) read is.at,
        is.kept_at ∙ ap (λ (h : List Call). over here.decls device (take (devices.shadow device).at h)) read
            ∙ front_is_due here.decls (history_read world.journal) (devices.shadow device).at device (read_so here world.journal history.journal).1 within,
      )

  turn_came : (turns : List (Turn D)) (turn : Turn D) → CameSoFar turns turn.before → Comes here turn → CameSoFar (turns ++ turn ∷ []) turn.behind
  turn_came turns turn own comes = record {
    history = history;
    devices = devices;
    same = same;
    ahead = subst (λ (at : ℕ → ℕ). IsAhead at turn.behind) (fun_ext (λ x. sym (at_push turns turn x)))
        (steps_ahead turn.before turn.behind own.history own.devices (at_of here turns) within own.ahead turn.meant turn.seen comes);
    told = λ earlier later other device parts. by earlier later other device (split_push turns turn earlier other later parts);
  }
    where
      history : HistoryKept here turn.behind
      history = steps_keep here are plans legally order turn.before turn.behind turn.meant turn.seen own.history comes

      devices : DevicesKept here.decls turn.behind
      devices = steps_devices here are plans kinds lawful planning turn.before turn.behind turn.meant turn.seen own.history own.devices comes

      same : (device : ℕ) → (devices.shadow device).at ≡ at_of here (turns ++ turn ∷ []) device
      same device =
          steps_come here are plans kinds lawful planning turn.before turn.behind turn.meant turn.seen own.history own.devices comes device
          ∙ ap (λ (n : ℕ). came_by here turn.before device n turn.seen) (own.same device) ∙ sym (at_push turns turn device)

      within : (device : ℕ) → at_of here turns device ≤ length (told_by (entries_read turn.before.journal)).history
      within device = subst (λ (n : ℕ). n ≤ length (told_by (entries_read turn.before.journal)).history) (own.same device) (own.devices.kept.each device).at

      rises : (device : ℕ) → at_of here turns device ≤ at_of here (turns ++ turn ∷ []) device
      rises device = subst (λ (n : ℕ). at_of here turns device ≤ n) (sym (at_push turns turn device))
          (steps_rise turn.before turn.behind own.devices (at_of here turns) within own.ahead turn.meant turn.seen comes device)

      AllOf : List (Turn D) → Turn D → ℕ → Type 0
      AllOf earlier other device =
          (nat_lt device (length here.decls.names) ≡ true → IsBackAt here.decls other.behind device (at_of here (earlier ++ other ∷ []) device))
          × (at_of here earlier device ≤ at_of here (earlier ++ other ∷ []) device)

      by : (earlier later : List (Turn D)) (other : Turn D) (device : ℕ) → SplitPush turns turn earlier other → AllOf earlier other device
      by earlier later other device (SplitPush.before_last later' parts) = own.told earlier later' other device parts
      by earlier later other device (SplitPush.at_last front is) =
          subst (λ (l : List (Turn D)). AllOf l other device) (sym front)
          (subst (λ (t : Turn D). AllOf turns t device) (sym is)
          ((λ declared. back_at turn.behind history devices device (at_of here (turns ++ turn ∷ []) device) (same device) declared), rises device))

  set_came : (turns : List (Turn D)) (at : ScriptStep) (world : World D) → CameSoFar turns world → CameSoFar turns (set_by at world)
  set_came turns at world own = record {
    history = set_kept here at world own.history;
    devices = set_devices here at world own.devices;
    same = λ device. set_shadow here at world own.devices device ∙ own.same device;
    ahead = set_ahead at own.ahead;
    told = own.told;
  }
    where
      set_ahead : (s : ScriptStep) → IsAhead (at_of here turns) world → IsAhead (at_of here turns) (set_by s world)
      set_ahead (step.StopAt count bytes) ahead = on world.hub
        where
          on : (hub : Option Hub) → IsAhead (at_of here turns) (option_map_or (λ h. record world { journal = record world.journal { armed = count; bytes = bytes } }) hub world)
          on None = ahead
          on (Some hub) = ahead
      set_ahead (step.Fault device op at') ahead = ahead
      set_ahead other ahead = ahead

  pub all_came : (script : List ScriptStep) (first last : World D) (run : Run here script first last) → HistoryKept here first → (own : DevicesKept here.decls first)
      → ((device : ℕ) → (own.shadow device).at ≡ 0) → ((device : ℕ) → (first.nodes device).pending ≡ None) → AllCame (turns_of run)
  all_came script first last run history own none rests =
      (run_forward here CameSoFar turn_came set_came script first last run (record {
        history = history;
        devices = own;
        same = none;
        ahead = λ device t n pend placed. absurd (let no : ◌≡◌ {A = Option ℕ} None (Some t) = sym (ap pending_id (rests device)) ∙ pend in cc);
        told = λ earlier later turn device parts. absurd (nil_none earlier turn later parts);
      })).told
