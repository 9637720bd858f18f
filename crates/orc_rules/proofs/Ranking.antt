-- Each event of a round leaves fewer turns, and those that are left are no more than 24 for each device of a transaction and
-- 4 for it.
use Rattle.std.proofs.Common.{◌≡◌, inl, inr, ℕ, ◌+◌, ◌*◌, ◌<◌, ◌≤◌, Bool, true, false, cond, nat_eq, ltb-true, arith, List, [], ◌∷◌, Option, Some, None, map, length, refl, sym, ap, subst, ◌∙◌, zero, suc, eqb-true, eq-eqb}
use Rattle.std.specs.Prelude.{slice_get}
use Rattle.std.proofs.lemmas.Bool.{false≢true}
use Rattle.std.proofs.lemmas.Option.{same_Some}
use Rattle.orc_device.specs.Links.{way_reply, way_session}
use Rattle.orc_device.specs.Listings.{kind_of_op, without_first}
use Rattle.orc_device.specs.declared.kind.OpKind.{OpKind}
use Rattle.orc_device.specs.declared.op.Op.{Op}
use Rattle.orc_device.specs.declared.reply.Reply.{Reply}
use Rattle.orc_journal.specs.declared.entry.Entry.{Entry}
use Rattle.orc_recover.specs.Menders.{differences, is_mending, mend_order}
use Rattle.orc_recover.specs.declared.stage.MendStage.{MendStage}
use Rattle.orc_recover.specs.declared.stage.MendStage.TheVariants as mend_stage
use Rattle.orc_tree.specs.declared.change.ChangeSet.{ChangeSet}
use Rattle.orc_worker.specs.Workers.{is_due, order_at}
use Rattle.orc_worker.specs.declared.stage.Stage.{Stage}
use Rattle.orc_worker.specs.declared.stage.Stage.TheVariants as stage
use Rattle.orc_device.specs.Links.{Way as way}
use Rattle.orc_device.specs.declared.op.Op.TheVariants as op
use Rattle.orc_device.specs.declared.kind.OpKind.TheVariants as kind
use Rattle.orc_device.specs.declared.reply.Reply.TheVariants as reply
use Rattle.orc_rules.specs.Admissions.{started, transaction_begun}
use Rattle.orc_rules.specs.Cells.{updated_at}
use Rattle.orc_rules.specs.Duties.{duty_order, duty_told, duty_took, is_busy}
use Rattle.orc_rules.specs.Events.{DoesAnyway, DoesUnderHub, Steps, link_behind}
use Rattle.orc_rules.specs.Hubs.{Hub, duty_on, with_changed}
use Rattle.orc_rules.specs.Journals.{entries_read, history_read}
use Rattle.orc_rules.specs.Kept.{heard as then_heard}
use Rattle.orc_rules.specs.Transactions.{in_phase, is_other, is_preparing, is_settling, retired}
use Rattle.orc_rules.specs.Turns.{decisions_left, hearings_left, is_of_round, operations_left, sum_of, total, turns_left, turns_of_waiting, turns_on}
use Rattle.orc_rules.specs.UnderHub.{Attends, DevicesKept}
use Rattle.orc_rules.specs.Verdicts.{are_heard}
use Rattle.orc_rules.specs.Worlds.{Link, Setting, World}
use Rattle.orc_rules.specs.declared.duty.Duty.{Duty}
use Rattle.orc_rules.specs.declared.duty.Duty.TheVariants as duty
use Rattle.orc_rules.specs.declared.event.Event.{Event}
use Rattle.orc_rules.specs.declared.transaction.Phase.{Phase}
use Rattle.orc_rules.specs.declared.transaction.Phase.TheVariants as phase
use Rattle.orc_rules.specs.declared.transaction.Transaction.{Transaction}
use Rattle.orc_rules.proofs.Leaving.{phase_leaves, sum_stays}
use Rattle.orc_rules.proofs.Lessening.{retired_decisions, started_left, started_length, sum_map, sum_most, sum_push, sum_without, told_left, took_less, total_less, total_most}
use Rattle.orc_rules.proofs.Moving.{due_is, order_is}
use Rattle.orc_rules.proofs.Recording.{either, given_at, given_other}
use Rattle.orc_rules.proofs.Slots.{both_true, changed_length, slot_within, told_at, told_busy, took_here, took_there}

-- who has an operation due is busy
order_busy : (on : Duty) (op : Op) → duty_order on ≡ Some op → is_busy on ≡ true
order_busy duty.Free op e = cc
order_busy (duty.Works worker) op e = work_busy worker.stage e
  where
    work_busy : (st : Stage) → order_at worker.t worker.set st ≡ Some op → is_due st ≡ true
    work_busy stage.Prepared e' = cc
    work_busy stage.Lost e' = cc
    work_busy stage.Over e' = cc
    work_busy st e' = refl
order_busy (duty.Mends mender) op e = mend_busy mender.stage e
  where
    mend_busy : (st : MendStage) → mend_order differences mender.left mender.due st ≡ Some op → is_mending st ≡ true
    mend_busy mend_stage.Over e' = cc
    mend_busy st e' = refl

busy_not_free : (on : Duty) → is_busy on ≡ true → on ≡ duty.Free → ⊥
busy_not_free on h e = false≢true (sym (ap is_busy e) ∙ h)

abbrev Turns : List Duty → (ℕ → Link) → ℕ → ℕ
Turns duties links n = total (λ d. turns_on (duty_on duties d) (links d)) n

abbrev Decisions : List Transaction → ℕ
Decisions active = sum_of (λ it. decisions_left it.phase) active

module _ (duties : List Duty) (links : ℕ → Link) (due : (device : ℕ) (one : OpKind × Reply) → (links device).unheard ≡ Some one → is_busy (duty_on duties device) ≡ true) where
  -- an operation is performed
  pub performed_turns : (device : ℕ) (kind : OpKind) (r : Reply) (link : Link) → link.unheard ≡ Some (kind, r) → (links device).unheard ≡ None → is_busy (duty_on duties device) ≡ true
      → Turns duties (updated_at links device link) (length duties) < Turns duties links (length duties)
  performed_turns device kind r link said unheard busy =
      total_less (λ d. turns_on (duty_on duties d) (updated_at links device link d)) (λ d. turns_on (duty_on duties d) (links d)) each (length duties) device
      (ltb-true device (length duties) (slot_within duties device (duty_on duties device) refl (busy_not_free (duty_on duties device) busy))) here
    where
      before : turns_on (duty_on duties device) (links device) ≡ 2 * operations_left (duty_on duties device) + 0
      before = ap (λ (u : Option (OpKind × Reply)). 2 * operations_left (then_heard u (links device).faults (duty_on duties device)) + hearings_left u) unheard

      behind : turns_on (duty_on duties device) (updated_at links device link device) ≡ 2 * operations_left (duty_took (duty_on duties device) r link.faults) + 1
      behind =
          ap (turns_on (duty_on duties device)) (given_at links device link)
          ∙ ap (λ (u : Option (OpKind × Reply)). 2 * operations_left (then_heard u link.faults (duty_on duties device)) + hearings_left u) said

      here : turns_on (duty_on duties device) (updated_at links device link device) < turns_on (duty_on duties device) (links device)
      here =
          let less : operations_left (duty_took (duty_on duties device) r link.faults) < operations_left (duty_on duties device) = took_less (duty_on duties device) r link.faults busy in
          subst (λ (n : ℕ). n < turns_on (duty_on duties device) (links device)) (sym behind)
          (subst (λ (n : ℕ). 2 * operations_left (duty_took (duty_on duties device) r link.faults) + 1 < n) (sym before) (omega (arith, less)))

      each : (d : ℕ) → turns_on (duty_on duties d) (updated_at links device link d) ≤ turns_on (duty_on duties d) (links d)
      each d = elim (either device d) [
        | inl s ↦ subst (λ (y : ℕ). turns_on (duty_on duties y) (updated_at links device link y) ≤ turns_on (duty_on duties y) (links y)) s (below here)
        | inr ne ↦ same_most (ap (turns_on (duty_on duties d)) (given_other links device link d ne))
      ]
        where
          below : {a b : ℕ} → a < b → a ≤ b
          below h = omega (arith, h)

          same_most : {a b : ℕ} → a ≡ b → a ≤ b
          same_most h = omega (arith, h)

  -- one is reported
  pub reported_turns : (device : ℕ) (kind : OpKind) (r : Reply) → (links device).unheard ≡ Some (kind, r)
      → Turns (with_changed (λ duty. duty_took duty r (links device).faults) device duties) (updated_at links device (record (links device) { unheard = None })) (length duties)
      < Turns duties links (length duties)
  reported_turns device kind r unheard =
      total_less (λ d. turns_on (duty_on duties' d) (updated_at links device link' d)) (λ d. turns_on (duty_on duties d) (links d)) each (length duties) device
      (ltb-true device (length duties) (slot_within duties device (duty_on duties device) refl (busy_not_free (duty_on duties device) (due device (kind, r) unheard)))) here
    where
      link' : Link
      link' = record (links device) { unheard = None }

      duties' : List Duty
      duties' = with_changed (λ duty. duty_took duty r (links device).faults) device duties

      before : turns_on (duty_on duties device) (links device) ≡ 2 * operations_left (duty_took (duty_on duties device) r (links device).faults) + 1
      before = ap (λ (u : Option (OpKind × Reply)). 2 * operations_left (then_heard u (links device).faults (duty_on duties device)) + hearings_left u) unheard

      behind : turns_on (duty_on duties' device) (updated_at links device link' device) ≡ 2 * operations_left (duty_took (duty_on duties device) r (links device).faults) + 0
      behind =
          ap (turns_on (duty_on duties' device)) (given_at links device link')
          ∙ ap (λ (d : Duty). 2 * operations_left d + 0) (took_here r (links device).faults device duties)

      here : turns_on (duty_on duties' device) (updated_at links device link' device) < turns_on (duty_on duties device) (links device)
      here = omega (arith, before, behind)

      each : (d : ℕ) → turns_on (duty_on duties' d) (updated_at links device link' d) ≤ turns_on (duty_on duties d) (links d)
      each d = elim (either device d) [
        | inl s ↦ subst (λ (y : ℕ). turns_on (duty_on duties' y) (updated_at links device link' y) ≤ turns_on (duty_on duties y) (links y)) s (below here)
        | inr ne ↦ same_most (ap (turns_on (duty_on duties' d)) (given_other links device link' d ne) ∙ ap (λ (x : Duty). turns_on x (links d)) (took_there r (links device).faults device d duties ne))
      ]
        where
          below : {a b : ℕ} → a < b → a ≤ b
          below h = omega (arith, h)

          same_most : {a b : ℕ} → a ≡ b → a ≤ b
          same_most h = omega (arith, h)

  -- a decision is told
  pub told_turns : (t : ℕ) (commit : Bool) (n : ℕ) → Turns (map (duty_told t commit) duties) links n ≤ Turns duties links n
  told_turns t commit n = total_most (λ d. turns_on (duty_on (map (duty_told t commit) duties) d) (links d)) (λ d. turns_on (duty_on duties d) (links d)) each n
    where
      each : (d : ℕ) → turns_on (duty_on (map (duty_told t commit) duties) d) (links d) ≤ turns_on (duty_on duties d) (links d)
      each d = subst (λ (x : Duty). turns_on x (links d) ≤ turns_on (duty_on duties d) (links d)) (sym (told_at t commit d duties)) (on (links d).unheard refl)
        where
          on : (u : Option (OpKind × Reply)) → (links d).unheard ≡ u
              → 2 * operations_left (then_heard u (links d).faults (duty_told t commit (duty_on duties d))) + hearings_left u
              ≤ 2 * operations_left (then_heard u (links d).faults (duty_on duties d)) + hearings_left u
          on None e = let less = told_left t commit (duty_on duties d) in omega (arith, less)
          on (Some one) e =
              subst (λ (x : Duty). 2 * operations_left (then_heard (Some one) (links d).faults x) + 1 ≤ 2 * operations_left (then_heard (Some one) (links d).faults (duty_on duties d)) + 1)
              (sym (told_busy t commit (duty_on duties d) (due d one e))) (omega arith)

map_length : {X Y : Type 0} (f : X → Y) (xs : List X) → length (map f xs) ≡ length xs
map_length f [] = refl
map_length f (x ∷ xs) = ap suc (map_length f xs)

-- a phase that is nearer the end
phase_decisions : (t : ℕ) (to : Phase) (active : List Transaction) (place : ℕ) (it : Transaction) → slice_get active place ≡ Some it → it.t ≡ t
    → decisions_left to < decisions_left it.phase → ((place' : ℕ) (other : Transaction) → slice_get active place' ≡ Some other → other.t ≡ t → decisions_left to ≤ decisions_left other.phase)
    → Decisions (map (in_phase t to) active) < Decisions active
phase_decisions t to [] place it there number less others = absurd cc
phase_decisions t to (x ∷ xs) zero it there number less others =
    let same : x ≡ it = same_Some x it there in
    let here : decisions_left (in_phase t to x).phase < decisions_left x.phase =
    subst (λ (b : Bool). decisions_left (cond b (record x { phase = to }) x).phase < decisions_left x.phase)
    (sym (eq-eqb x.t t (ap (λ (a : Transaction). a.t) same ∙ number))) (subst (λ (a : Transaction). decisions_left to < decisions_left a.phase) (sym same) less) in
    let rest = phase_most t to xs (λ place' other there' e. others (suc place') other there' e) in
    omega arith
  where
    phase_most : (u : ℕ) (p : Phase) (ys : List Transaction) → ((place' : ℕ) (other : Transaction) → slice_get ys place' ≡ Some other → other.t ≡ u → decisions_left p ≤ decisions_left other.phase)
        → Decisions (map (in_phase u p) ys) ≤ Decisions ys
    phase_most u p [] h = omega arith
    phase_most u p (y ∷ ys) h =
        let one = one_most u p y (h zero y refl) in
        let rest' = phase_most u p ys (λ place' other there' e. h (suc place') other there' e) in omega arith
      where
        one_most : (v : ℕ) (q : Phase) (z : Transaction) → (z.t ≡ v → decisions_left q ≤ decisions_left z.phase) → decisions_left (in_phase v q z).phase ≤ decisions_left z.phase
        one_most v q z most = on (nat_eq z.t v) refl
          where
            on : (b : Bool) → nat_eq z.t v ≡ b → decisions_left (cond b (record z { phase = q }) z).phase ≤ decisions_left z.phase
            on true e = most (eqb-true z.t v e)
            on false e = omega arith
phase_decisions t to (x ∷ xs) (suc place) it there number less others =
    let later = phase_decisions t to xs place it there number less (λ place' other there' e. others (suc place') other there' e) in
    let one = one_most t to x (others zero x refl) in omega arith
  where
    one_most : (v : ℕ) (q : Phase) (z : Transaction) → (z.t ≡ v → decisions_left q ≤ decisions_left z.phase) → decisions_left (in_phase v q z).phase ≤ decisions_left z.phase
    one_most v q z most = on (nat_eq z.t v) refl
      where
        on : (b : Bool) → nat_eq z.t v ≡ b → decisions_left (cond b (record z { phase = q }) z).phase ≤ decisions_left z.phase
        on true e = most (eqb-true z.t v e)
        on false e = omega arith

retired_sum : (ds : List Duty) (active : List Transaction) → Decisions (map (retired ds) active) ≤ Decisions active
retired_sum ds active =
    let each = sum_most (λ it. decisions_left (retired ds it).phase) (λ it. decisions_left it.phase) (retired_decisions ds) active in
    let same = sum_map (λ (it : Transaction). decisions_left it.phase) (retired ds) active in omega arith

module _ {D : Type 0} (here : Setting D) (world : World D) (hub : Hub) (own : DevicesKept here.decls world) (up : world.hub ≡ Some hub) where
  under : Attends here.decls own.shadow (entries_read world.journal) hub world.links
  under = own.under hub up

  abbrev Fewer : World D → Type 0
  Fewer next = (hub' : Hub) → next.hub ≡ Some hub' → turns_left hub' next.links < turns_left hub world.links

  -- after it there is this hub
  fewer : (next : World D) (x : Hub) → next.hub ≡ Some x → turns_left x next.links < turns_left hub world.links → Fewer next
  fewer next x is less hub' e = subst (λ (y : Hub). turns_left y next.links < turns_left hub world.links) (same_Some x hub' (sym is ∙ e)) less

  -- a transaction comes to a phase nearer its end, and workers may be told
  decided : (place : ℕ) (it : Transaction) → slice_get hub.active place ≡ Some it → (to : Phase) → decisions_left to < decisions_left it.phase → (t : ℕ) → it.t ≡ t
      → Decisions (map (in_phase t to) hub.active) < Decisions hub.active
  decided place it there to less t number =
      phase_decisions t to hub.active place it there number less
      (λ place' other there' e. let same : other ≡ it = same_Some other it (sym there' ∙ ap (slice_get hub.active) (under.numbers place' place other it there' there (e ∙ sym number)) ∙ there) in
      subst (λ (a : Transaction). decisions_left to ≤ decisions_left a.phase) (sym same) (omega (arith, less)))

  preparing_two : (p : Phase) → is_preparing p ≡ true → decisions_left p ≡ 2
  preparing_two phase.Preparing h = refl
  preparing_two p h = absurd (false≢true h)

  settling_one : (p : Phase) → is_settling p ≡ true → decisions_left p ≡ 1
  settling_one phase.Settling h = refl
  settling_one p h = absurd (false≢true h)

  pub does_lessen : (meant : Event) (row : List Entry) (next : World D) → DoesUnderHub here world hub meant row next → is_of_round meant ≡ true → Fewer next
  does_lessen meant row next (DoesUnderHub.turns_away place it said there first idle why) round =
      fewer next _ refl (let fewer_wait = sum_without turns_of_waiting place hub.waiting it there in omega arith)
  does_lessen meant row next (DoesUnderHub.admits place it sets there first idle passes fresh) round =
      fewer next _ refl
      (let fewer_wait = sum_without turns_of_waiting place hub.waiting it there in
      let one_more = sum_push (λ (x : Transaction). decisions_left x.phase) hub.active (transaction_begun (length (history_read world.journal)) it) in
      let starts = started_left it.t sets hub.duties world.links (length hub.duties) in
      let long : length (started it.t sets hub.duties) ≡ length hub.duties = started_length it.t sets hub.duties in
      let devices : length sets ≡ length it.plan.held.devices = sym (map_length (λ (one : ℕ × ChangeSet). one.0) sets) ∙ ap length passes.devices in
      let whole : Turns (started it.t sets hub.duties) world.links (length (started it.t sets hub.duties)) ≡ Turns (started it.t sets hub.duties) world.links (length hub.duties) =
      ap (Turns (started it.t sets hub.duties) world.links) long in
      omega arith)
  does_lessen meant row next (DoesUnderHub.performs device op happened due_now unheard possible way) round =
      fewer next hub up
      (let busy = order_busy (duty_on hub.duties device) op (sym (order_is hub device) ∙ due_is hub device op due_now) in
      let less = performed_turns hub.duties world.links under.due device (kind_of_op op) (way_reply (world.nodes device) op happened)
      (link_behind (without_first (kind_of_op op) (world.links device).listed) (world.links device) (way_session (world.nodes device) (world.links device).session op happened) op happened (way_reply (world.nodes device) op happened)) refl unheard busy in
      omega arith)
  does_lessen meant row next (DoesUnderHub.leaves_unsent device changes due_now unheard) round =
      fewer next hub up
      (let busy = order_busy (duty_on hub.duties device) (op.Edit changes) (sym (order_is hub device) ∙ due_is hub device (op.Edit changes) due_now) in
      let less = performed_turns hub.duties world.links under.due device kind.Edit reply.Memory
      (link_behind (world.links device).listed (world.links device) (world.links device).session (op.Edit changes) way.NoMemory reply.Memory) refl unheard busy in
      omega arith)
  does_lessen meant row next (DoesUnderHub.reports device op reply unheard) round =
      fewer next _ refl
      (let less = reported_turns hub.duties world.links under.due device op reply unheard in
      let long = changed_length (λ duty. duty_took duty reply (world.links device).faults) device hub.duties in
      let whole = ap (Turns (with_changed (λ duty. duty_took duty reply (world.links device).faults) device hub.duties) (updated_at world.links device (record (world.links device) { unheard = None }))) long in
      let retire = retired_sum (with_changed (λ duty. duty_took duty reply (world.links device).faults) device hub.duties) hub.active in
      omega arith)
  does_lessen meant row next (DoesUnderHub.commits place it there least due_now prepared valid) round =
      fewer next _ refl
      (let two = preparing_two it.phase (both_true (is_preparing it.phase) (are_heard hub.duties it.t it.plan.held.devices) due_now).0 in
      let less = decided place it there phase.Decided (omega (arith, two)) it.t refl in
      let retire = retired_sum (map (duty_told it.t true) hub.duties) (map (in_phase it.t phase.Decided) hub.active) in
      let tell = told_turns hub.duties world.links under.due it.t true (length hub.duties) in
      let whole = ap (Turns (map (duty_told it.t true) hub.duties) world.links) (map_length (duty_told it.t true) hub.duties) in
      omega arith)
  does_lessen meant row next (DoesUnderHub.aborts place it said there least due_now why) round =
      fewer next _ refl
      (let two = preparing_two it.phase (both_true (is_preparing it.phase) (are_heard hub.duties it.t it.plan.held.devices) due_now).0 in
      let less = decided place it there phase.Aborted (omega (arith, two)) it.t refl in
      let retire = retired_sum (map (duty_told it.t false) hub.duties) (map (in_phase it.t phase.Aborted) hub.active) in
      let tell = told_turns hub.duties world.links under.due it.t false (length hub.duties) in
      let whole = ap (Turns (map (duty_told it.t false) hub.duties) world.links) (map_length (duty_told it.t false) hub.duties) in
      omega arith)
  does_lessen meant row next (DoesUnderHub.settles place it there least settling) round =
      fewer next _ refl
      (let one = settling_one it.phase settling in
      let less = decided place it there phase.Left (omega (arith, one)) it.t refl in
      let leaves = sum_stays (λ (x : Transaction). decisions_left x.phase) (is_other it.t) (map (in_phase it.t phase.Left) hub.active) in
      let same = ap Decisions (phase_leaves it.t phase.Left hub.active) in
      omega arith)
  does_lessen meant row next (DoesUnderHub.begins caller) round = absurd (false≢true round)
  does_lessen meant row next (DoesUnderHub.answers call front said asked snap why keeps) round = absurd (false≢true round)
  does_lessen meant row next (DoesUnderHub.queues it front snap same lawful closed apart new within made number slot) round = absurd (false≢true round)
  does_lessen meant row next DoesUnderHub.stops round = absurd (false≢true round)
  does_lessen meant row next (DoesUnderHub.mends numbers idle unsettled) round = absurd (false≢true round)
  does_lessen meant row next (DoesUnderHub.mended numbers met busy heard unsettled) round = absurd (false≢true round)
  does_lessen meant row next (DoesUnderHub.finds_no_memory met busy heard) round = absurd (false≢true round)
  does_lessen meant row next (DoesUnderHub.fails_to_mend met failed heard) round = absurd (false≢true round)

module _ {D : Type 0} (here : Setting D) where
  none_up : (after : Hub) → ◌≡◌ {A = Option Hub} None (Some after) → ⊥
  none_up after e = cc

  pub steps_lessen : (old new : World D) (meant : Event) (seen : Option Event) (hub after : Hub) → DevicesKept here.decls old → old.hub ≡ Some hub → new.hub ≡ Some after
      → is_of_round meant ≡ true → Steps here old meant seen new → turns_left after new.links < turns_left hub old.links
  steps_lessen old new meant seen hub after own up then_up round (Steps.done hub' row next _ up' does appends is) =
      let same : hub' ≡ hub = same_Some hub' hub (sym up' ∙ up) in
      let less : turns_left after next.links < turns_left hub' old.links =
      does_lessen here old hub' own up' meant row next does round after (ap (λ (w : World D). w.hub) (sym is) ∙ then_up) in
      subst (λ (w : World D). turns_left after w.links < turns_left hub old.links) (sym is) (subst (λ (h : Hub). turns_left after next.links < turns_left h old.links) same less)
  steps_lessen old new meant seen hub after own up then_up round (Steps.cut hub' row next _ up' does appends is) =
      absurd (none_up after (ap (λ (w : World D). w.hub) (sym is) ∙ then_up))
  steps_lessen old new meant seen hub after own up then_up round (Steps.failed hub' row next _ up' does appends is) =
      absurd (none_up after (ap (λ (w : World D). w.hub) (sym is) ∙ then_up))
  steps_lessen old new meant seen hub after own up then_up round (Steps.full hub' row next len _ up' does appends is) =
      absurd (none_up after (ap (λ (w : World D). w.hub) (sym is) ∙ then_up))
  steps_lessen old new meant seen hub after own up then_up round (Steps.anyway _ (DoesAnyway.ticks seconds)) = absurd (false≢true round)
  steps_lessen old new meant seen hub after own up then_up round (Steps.anyway _ (DoesAnyway.restarts device)) = absurd (false≢true round)
  steps_lessen old new meant seen hub after own up then_up round (Steps.anyway _ (DoesAnyway.answers_down call front down)) = absurd (false≢true round)
  steps_lessen old new meant seen hub after own up then_up round (Steps.unopened _ down recover stays is) = absurd (none_up hub (sym down ∙ up))
  steps_lessen old new meant seen hub after own up then_up round (Steps.recovers _ down recover reopens is) = absurd (none_up hub (sym down ∙ up))
