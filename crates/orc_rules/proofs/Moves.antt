-- Each event leads to a network of which the crash invariant holds, and keeps the work on devices.
use Rattle.std.proofs.Common.{◌≡◌, ◌⊎◌, eqb-true, inl, inr, ⊎_elim, ℕ, ◌+◌, Bool, true, false, cond, ◌||◌, nat_eq, nat_lt, List, [], ◌∷◌, ◌++◌, Option, Some, None, All, map, length, refl, sym, ap, subst, ◌∙◌, append-nil, zero, suc}
use Rattle.std.specs.Prelude.{slice_get}
use Rattle.std.specs.List.{list_all}
use Rattle.std.specs.Option.{option_map_or}
use Rattle.std.proofs.lemmas.Bool.{false≢true}
use Rattle.std.proofs.lemmas.Option.{same_Some}
use Rattle.orc_call.specs.declared.answer.Answer.TheVariants as answer
use Rattle.orc_call.specs.declared.answer.RecFault.{RecFault}
use Rattle.orc_call.specs.declared.call.Call.{Call}
use Rattle.orc_datastore.specs.Actions.{data_after}
use Rattle.orc_datastore.specs.Legal.{IsLegal, state_of}
use Rattle.orc_datastore.specs.Next.{invalid}
use Rattle.orc_datastore.specs.States.{Datastore}
use Rattle.orc_decls.specs.Declarations.{AreDecls}
use Rattle.orc_decls.specs.declared.declarations.Decls.{Decls}
use Rattle.orc_device.specs.declared.kind.When.{When}
use Rattle.orc_device.specs.Links.{Possible, Way, took_effect, takes_memory, way_node, way_reply, way_session}
use Rattle.orc_device.specs.Listings.{kind_of_op, without_first}
use Rattle.orc_device.specs.Links.{Way as way}
use Rattle.orc_device.specs.declared.op.Op.TheVariants as op
use Rattle.orc_rules.proofs.NodeLaws.{may_happen}
use Rattle.orc_rules.specs.Cells.{MayHappen}
use Rattle.orc_device.specs.Nodes.{NodeState}
use Rattle.orc_tree.specs.Sameness.{equal_configs}
use Rattle.orc_device.specs.declared.kind.OpKind.{OpKind}
use Rattle.orc_device.specs.declared.op.Op.{Op}
use Rattle.orc_device.specs.declared.reply.Reply.{Reply}
use Rattle.orc_journal.specs.Committed.{history_of}
use Rattle.orc_journal.specs.Laws.{IsUnnamed}
use Rattle.orc_journal.specs.declared.entry.Entry.{Entry}
use Rattle.orc_journal.specs.declared.entry.Entry.TheVariants as entry
use Rattle.orc_plans.specs.Plans.{PlanStands}
use Rattle.orc_queue.specs.Fitting.{FitTogether}
use Rattle.orc_recover.specs.Menders.{MenderState, differences, is_mending, mend_order, mender_took}
use Rattle.orc_worker.specs.Workers.{worker_took}
use Rattle.orc_worker.specs.declared.worker.Worker.{Worker}
use Rattle.orc_rules.specs.Agreement.{mender_of}
use Rattle.orc_rules.specs.Admissions.{intent_entry}
use Rattle.orc_rules.specs.Cells.{Cell, Mended, at_after, cleared, place_or, updated_at, has_intent, mended_clear, mender_after}
use Rattle.orc_rules.specs.Coming.{came_by, came_by_due, came_to}
use Rattle.orc_rules.specs.Cells.Mended.{Goes, Whole, Fails}
use Rattle.orc_rules.specs.Courses.{is_clear}
use Rattle.orc_rules.specs.Due.{is_decision_due}
use Rattle.orc_rules.specs.Duties.{duty_order, duty_told, is_busy, no_call_works}
use Rattle.orc_rules.specs.Events.{DoesUnderHub, mender_freed, link_behind, performed_with, way_due}
use Rattle.orc_rules.specs.Hubs.{Hub, answered, due_on, duty_on, order_on, hub_reported, hub_told}
use Rattle.orc_rules.specs.Invariant.{IsLawful}
use Rattle.orc_rules.specs.Journals.{entries_read, history_read}
use Rattle.orc_rules.specs.Kept.{FitAt, HistoryKept, HubKept, NetworkKept, Shadow, StandsAt, ValidAt, heard as then_heard, network_of, lawful_state}
use Rattle.orc_rules.specs.Network.{Planning, cell}
use Rattle.orc_rules.specs.Standing.{IsWaiting}
use Rattle.orc_rules.specs.Told.{Told, told_by}
use Rattle.orc_rules.specs.Transactions.{in_phase, is_preparing}
use Rattle.orc_rules.specs.UnderHub.{Attends, AreMending, DevicesKept, IsMenderOf, IsOfHub, Leads, MendingKept, UndeclaredRest}
use Rattle.orc_rules.specs.Verdicts.{are_heard}
use Rattle.orc_rules.specs.Works.{Mend, worker_clears}
use Rattle.orc_rules.specs.Worlds.{Link, Setting, World, is_over as is_left, over}
use Rattle.orc_rules.specs.declared.duty.Duty.{Duty}
use Rattle.orc_rules.specs.declared.duty.Duty.TheVariants as duty
use Rattle.orc_rules.specs.declared.event.Event.{Event}
use Rattle.orc_rules.specs.declared.transaction.Phase.{Phase}
use Rattle.orc_rules.specs.declared.transaction.Phase.TheVariants as phase
use Rattle.orc_rules.specs.declared.transaction.Transaction.{Transaction}
use Rattle.orc_rules.specs.declared.transaction.Waiting.{Waiting}
use Rattle.orc_rules.proofs.Admitting.{admits_keep, admits_under, admitted_shadow, state_legal}
use Rattle.orc_rules.proofs.Attending.{mends_on, performs_under, reports_under, retire_under}
use Rattle.orc_rules.proofs.Courses.{order_due, took_clear}
use Rattle.orc_rules.proofs.Deciding.{aborts_keep, commits_keep, told_under}
use Rattle.orc_rules.proofs.Devices.{stops_keep, told_history}
use Rattle.orc_rules.proofs.Entering.{All-at}
use Rattle.orc_rules.proofs.Moving.{due_is, mends_moves, order_is, shadow_mended, shadow_worked, works_moves}
use Rattle.orc_rules.proofs.Reconciling.{all_clear, fails_keep, fails_under, freed_is, fresh_slot, mended_keep, mended_under, mends_keep, mends_under}
use Rattle.orc_rules.proofs.Recording.{either, given_at, given_other}
use Rattle.orc_rules.proofs.Reporting.{reports_keep}
use Rattle.orc_rules.proofs.Settling.{settled_under, settles_keep}
use Rattle.orc_rules.proofs.Slots.{both_true, get_in, mends_not_free, slot_within, works_not_free}
use Rattle.orc_rules.proofs.Telling.{told_push}

-- none is under way
left_so : (p : Phase) → is_left p ≡ true → p ≡ phase.Left
left_so phase.Left h = refl
left_so p h = absurd (false≢true h)

pub all_left : (xs : List Transaction) → list_all (λ it. is_left it.phase) xs ≡ true → (place : ℕ) (it : Transaction) → slice_get xs place ≡ Some it → it.phase ≡ phase.Left
all_left [] all place it there = absurd (let no : ◌≡◌ {A = Option Transaction} None (Some it) = there in cc)
all_left (x ∷ xs) all zero it there =
    ap (λ (a : Transaction). a.phase) (sym (same_Some x it there)) ∙ left_so x.phase (both_true (is_left x.phase) (list_all (λ it. is_left it.phase) xs) all).0
all_left (x ∷ xs) all (suc place) it there = all_left xs (both_true (is_left x.phase) (list_all (λ it. is_left it.phase) xs) all).1 place it there

-- the place that an operation brings a device to, in words of a cell and of what the journal says
after_is : (c : Cell Call) (told : Told) (at : ℕ) → c.at ≡ at → c.place ≡ told.place → c.history ≡ told.history → (one : Op) (b : Bool) → at_after c one b ≡ cond b (came_to told at one) at
after_is c told at is place history one false = is
after_is c told at is place history (op.Confirm t) true = ap (λ (o : Option ℕ). place_or o c.at) (ap (λ (f : ℕ → Option ℕ). f t) place) ∙ ap (place_or (told.place t)) is
after_is c told at is place history op.Commit true = ap (λ (h : List Call). length h) history
after_is c told at is place history one true = is

at_cond : (b : Bool) (one other : Shadow) → (cond b one other).at ≡ cond b one.at other.at
at_cond true one other = refl
at_cond false one other = refl

module _ {D : Type 0} (here : Setting D) (are_decls : AreDecls here.decls) (plans : PlanStands) (are : (device : ℕ) → IsOfHub (here.kinds device))
    (lawful : (device : ℕ) → IsLawful (here.kinds device) (over here.decls device)) (planning : Planning (over here.decls) (StandsAt here.decls) (FitAt here.decls) (ValidAt here.decls)) where
  abbrev decls : Decls
  decls = here.decls

  -- what takes no effect, or brings no device anywhere
  pub effect_so : (device : ℕ) (world : World D) (one : Op) (happened : Way) (told : Told) (at : ℕ) → Possible (here.kinds device) (world.nodes device) (world.links device).session one happened
      → (happened ≡ way_due here world device one) ⊎ (happened ≡ way.NoMemory)
      → cond (took_effect happened) (came_to told at one) at ≡ cond (took_effect (way_due here world device one)) (came_to told at one) at
  effect_so device world one happened told at possible (inl same) = ap (λ (w : Way). cond (took_effect w) (came_to told at one) at) same
  effect_so device world one happened told at possible (inr none) =
      ap (λ (w : Way). cond (took_effect w) (came_to told at one) at) none
      ∙ sym (ap (λ (n : ℕ). cond (took_effect (way_due here world device one)) n at)
      (copies one (subst (λ (w : Way). Possible (here.kinds device) (world.nodes device) (world.links device).session one w) none possible).0) ∙ same_either (took_effect (way_due here world device one)))
    where
      copies : (o : Op) → takes_memory o ≡ true → came_to told at o ≡ at
      copies (op.Edit set) h = refl
      copies op.GetRunning h = refl
      copies o h = absurd (false≢true h)

      same_either : (b : Bool) → cond b at at ≡ at
      same_either true = refl
      same_either false = refl

  module _ (world : World D) (hub : Hub) (kept : HistoryKept here world) (own : DevicesKept here.decls world) (up : world.hub ≡ Some hub)
      (known : HubKept here.decls (entries_read world.journal) (history_of (entries_read world.journal)) hub.active hub.waiting hub.given)
      (legal : IsLegal here.decls (history_of (entries_read world.journal))) where
    abbrev entries : List Entry
    entries = entries_read world.journal

    abbrev Led : List Entry → World D → Type 0
    Led row next = Leads here.decls world row next

    under : Attends here.decls own.shadow (entries_read world.journal) hub world.links
    under = own.under hub up

    net_kept : NetworkKept here.decls (network_of here.decls own.shadow (entries_read world.journal) (Some hub) world.nodes world.links)
    net_kept = subst (λ (h : Option Hub). NetworkKept here.decls (network_of here.decls own.shadow (entries_read world.journal) h world.nodes world.links)) up own.kept

    -- after the row there is this hub
    leads : (row : List Entry) (next : World D) (sh : ℕ → Shadow) (hub' : Hub) → next.hub ≡ Some hub'
        → NetworkKept here.decls (network_of here.decls sh (entries_read world.journal ++ row) (Some hub') next.nodes next.links)
        → Attends here.decls sh (entries_read world.journal ++ row) hub' next.links → UndeclaredRest here.decls next.nodes → Led row next
    leads row next sh hub' is k u rests = record {
      shadow = sh;
      kept = subst (λ (h : Option Hub). NetworkKept here.decls (network_of here.decls sh (entries_read world.journal ++ row) h next.nodes next.links)) (sym is) k;
      under = λ h e. subst (λ (x : Hub). Attends here.decls sh (entries_read world.journal ++ row) x next.links) (same_Some hub' h (sym is ∙ e)) u;
      rests = rests;
    }

    -- nothing is appended
    quiet : (next : World D) (sh : ℕ → Shadow) (hub' : Hub) → next.hub ≡ Some hub'
        → NetworkKept here.decls (network_of here.decls sh (entries_read world.journal) (Some hub') next.nodes next.links)
        → Attends here.decls sh (entries_read world.journal) hub' next.links → UndeclaredRest here.decls next.nodes → Led [] next
    quiet next sh hub' is k u rests =
        leads [] next sh hub' is
        (subst (λ (l : List Entry). NetworkKept here.decls (network_of here.decls sh l (Some hub') next.nodes next.links)) (sym (append-nil (entries_read world.journal))) k)
        (subst (λ (l : List Entry). Attends here.decls sh l hub' next.links) (sym (append-nil (entries_read world.journal))) u) rests

    -- an operation is performed
    module _ (device : ℕ) (op : Op) (happened : Way) (order : order_on hub device ≡ Some op) (unheard : (world.links device).unheard ≡ None)
        (possible : MayHappen (here.kinds device) (world.nodes device) (world.links device).session op happened) (listed : List (OpKind × When)) where
      abbrev r : Reply
      r = way_reply (world.nodes device) op happened

      abbrev link' : Link
      link' = link_behind listed (world.links device) (way_session (world.nodes device) (world.links device).session op happened) op happened r

      abbrev next : World D
      next = performed_with here world listed device op happened

      order_now : (on : Duty) → duty_on hub.duties device ≡ on → duty_order on ≡ Some op
      order_now on is = ap duty_order (sym is) ∙ sym (order_is hub device) ∙ order

      rests_now : (on : Duty) → duty_on hub.duties device ≡ on → (on ≡ duty.Free → ⊥) → UndeclaredRest here.decls (performed_with here world listed device op happened).nodes
      rests_now on is busy x past = elim (either device x) [
        | inl s ↦ absurd (false≢true (sym past ∙ sym (ap (λ (y : ℕ). nat_lt y (length here.decls.names)) s) ∙ sym (ap (λ (n : ℕ). nat_lt device n) under.duties_sized)
            ∙ slot_within hub.duties device on is busy))
        | inr ne ↦ ap (λ (n : NodeState). n.pending) (given_other world.nodes device (way_node (here.kinds device) (world.nodes device) (world.links device).session op happened) x ne) ∙ own.rests x past
      ]

      cleared_more : (b : Bool) (f : ℕ → Bool) (t x : ℕ) → f x ≡ true → cleared b f t x ≡ true
      cleared_more true f t x h = on (nat_eq t x)
        where
          on : (c : Bool) → cond c true (f x) ≡ true
          on true = refl
          on false = h
      cleared_more false f t x h = h

      mended_more : {I : Type 0} (open_intent : ℕ → Option I) (clear : ℕ → Bool) (y : Mended) (t : ℕ) → clear t ≡ true → mended_clear open_intent clear y t ≡ true
      mended_more open_intent clear (Goes m) t h = h
      mended_more open_intent clear Whole t h = on (has_intent (open_intent t))
        where
          on : (b : Bool) → (b || clear t) ≡ true
          on true = refl
          on false = h
      mended_more open_intent clear (Fails b) t h = h

      by_worker : (worker : Worker) → duty_on hub.duties device ≡ duty.Works worker → Led [] (performed_with here world listed device op happened)
      by_worker worker is =
          let due = order_due worker.t worker.set worker.stage op (order_now (duty.Works worker) is) in
          let owned = under.owned device worker is due.1 in
          let agree = under.agree device worker is in
          let sh : Shadow = shadow_worked here.decls here.kinds are lawful planning own.shadow (entries_read world.journal) hub world.nodes world.links device op happened unheard possible listed net_kept
          worker is (order_now (duty.Works worker) is) agree owned in
          quiet (performed_with here world listed device op happened) (updated_at own.shadow device sh) hub up
          (works_moves here.decls here.kinds are lawful planning own.shadow (entries_read world.journal) hub world.nodes world.links device op happened unheard possible listed net_kept
          worker is (order_now (duty.Works worker) is) agree owned)
          (performs_under here.decls own.shadow (entries_read world.journal) hub.active hub.duties hub.stale hub.mends world.links under device link' sh
          (ap is_busy is ∙ due.0) clears (λ t h. cleared_more (worker_clears worker.stage r) (own.shadow device).clear worker.t t h))
          (rests_now (duty.Works worker) is (works_not_free worker))
        where
          same_worker : (a b : Worker) → duty.Works a ≡ duty.Works b → a ≡ b
          same_worker a b e = cc

          clears : (w : Worker) → then_heard link'.unheard link'.faults (duty_on hub.duties device) ≡ duty.Works w → is_clear w.outcome ≡ true
              → cleared (worker_clears worker.stage r) (own.shadow device).clear worker.t w.t ≡ true
          clears w e h =
              let same : worker_took worker r link'.faults ≡ w = same_worker (worker_took worker r link'.faults) w
              (sym (ap (λ (d : Duty). then_heard link'.unheard link'.faults d) is) ∙ e) in
              subst (λ (y : Worker). cleared (worker_clears worker.stage r) (own.shadow device).clear worker.t y.t ≡ true) same
              (⊎_elim
              (λ clear_now. ap (λ (b : Bool). cleared b (own.shadow device).clear worker.t worker.t) clear_now ∙ given_at (own.shadow device).clear worker.t true)
              (λ before. cleared_more (worker_clears worker.stage r) (own.shadow device).clear worker.t worker.t
              (under.clear device worker (ap (λ (u : Option (OpKind × Reply)). then_heard u (world.links device).faults (duty_on hub.duties device)) unheard ∙ is) before))
              (took_clear link'.faults worker.stage worker.outcome r (subst (λ (y : Worker). is_clear y.outcome ≡ true) (sym same) h)))

      mender_stood : (mender : MenderState) → duty_on hub.duties device ≡ duty.Mends mender → IsMenderOf here.decls (entries_read world.journal) device mender
          → Led [] (performed_with here world listed device op happened)
      mender_stood mender is (inl ended) = absurd (let no : ◌≡◌ {A = Option Op} None (Some op) =
          sym (ap (λ s. mend_order differences mender.left mender.due s) ended) ∙ order_now (duty.Mends mender) is in cc)
      mender_stood mender is (inr so) =
          let slot = get_in hub.stale device (length here.decls.names) under.stale_sized within in
          let sh : Shadow = shadow_mended here.decls here.kinds are lawful planning own.shadow (entries_read world.journal) hub world.nodes world.links device op happened unheard possible listed net_kept
          mender so.0 is so.1 (order_now (duty.Mends mender) is) slot.0 slot.1 in
          quiet (performed_with here world listed device op happened) (updated_at own.shadow device sh) hub up
          (mends_moves here.decls here.kinds are lawful planning own.shadow (entries_read world.journal) hub world.nodes world.links device op happened unheard possible listed net_kept
          mender so.0 is so.1 (order_now (duty.Mends mender) is) slot.0 slot.1)
          (performs_under here.decls own.shadow (entries_read world.journal) hub.active hub.duties hub.stale hub.mends world.links under device link' sh
          (ap is_busy is ∙ busy so.0 so.1) (λ w e h. absurd (no_worker w e))
          (λ t h. mended_more (cell (over here.decls) (network_of here.decls own.shadow (entries_read world.journal) (Some hub) world.nodes world.links) device).open_intent (own.shadow device).clear
          (mender_after (here.kinds device) (over here.decls device (told_by (entries_read world.journal)).history) so.0 r) t h))
          (rests_now (duty.Mends mender) is (mends_not_free mender))
        where
          within : nat_lt device (length here.decls.names) ≡ true
          within = sym (ap (λ (n : ℕ). nat_lt device n) under.duties_sized) ∙ slot_within hub.duties device (duty.Mends mender) is (mends_not_free mender)

          no_worker : (w : Worker) → then_heard link'.unheard link'.faults (duty_on hub.duties device) ≡ duty.Works w → ⊥
          no_worker w e = let no : duty.Mends (mender_took equal_configs mender r) ≡ duty.Works w = sym (ap (λ (d : Duty). then_heard link'.unheard link'.faults d) is) ∙ e in cc

          busy : (m : Mend) → mender ≡ mender_of (told_by (entries_read world.journal)).place (over here.decls device (told_by (entries_read world.journal)).history) m
              → is_mending mender.stage ≡ true
          busy m stands = ap (λ (n : MenderState). is_mending n.stage) stands ∙ mends_on m

      mender_in : (mender : MenderState) → duty_on hub.duties device ≡ duty.Mends mender → (m : Option (Option RecFault)) → hub.mends ≡ m
          → Led [] (performed_with here world listed device op happened)
      mender_in mender is None e = absurd (subst (λ (n : Option (Option RecFault)). MendingKept here.decls (entries_read world.journal) hub.active hub.duties hub.stale n) e under.mending device mender is)
      mender_in mender is (Some met) e =
          let mending : AreMending here.decls (entries_read world.journal) hub.active hub.duties hub.stale met =
          subst (λ (n : Option (Option RecFault)). MendingKept here.decls (entries_read world.journal) hub.active hub.duties hub.stale n) e under.mending in
          mender_stood mender is (mending.stand device mender is)

      performs_by : (d : Duty) → duty_on hub.duties device ≡ d → Led [] (performed_with here world listed device op happened)
      performs_by duty.Free is = absurd (let no : ◌≡◌ {A = Option Op} None (Some op) = order_now duty.Free is in cc)
      performs_by (duty.Works worker) is = by_worker worker is
      performs_by (duty.Mends mender) is = mender_in mender is hub.mends refl

      pub performs_leads : Led [] (performed_with here world listed device op happened)
      performs_leads = performs_by (duty_on hub.duties device) refl

      -- How far along the history each device has come then. (By the same cases.)
      abbrev Came : (ℕ → Shadow) → ℕ → Type 0
      Came sh x = (sh x).at ≡ cond (nat_eq device x) (cond (took_effect happened) (came_to (told_by (entries_read world.journal)) (own.shadow device).at op) (own.shadow device).at) (own.shadow x).at

      came_one : (sh : Shadow) → sh.at ≡ at_after (cell (over here.decls) (network_of here.decls own.shadow (entries_read world.journal) (Some hub) world.nodes world.links) device) op (took_effect happened)
          → (x : ℕ) → Came (updated_at own.shadow device sh) x
      came_one sh is x =
          at_cond (nat_eq device x) sh (own.shadow x)
          ∙ ap (λ (n : ℕ). cond (nat_eq device x) n (own.shadow x).at)
          (is ∙ after_is (cell (over here.decls) (network_of here.decls own.shadow (entries_read world.journal) (Some hub) world.nodes world.links) device) (told_by (entries_read world.journal))
          (own.shadow device).at refl refl refl op (took_effect happened))

      stood_came : (mender : MenderState) (is : duty_on hub.duties device ≡ duty.Mends mender) (so : IsMenderOf here.decls (entries_read world.journal) device mender) (x : ℕ)
          → Came (mender_stood mender is so).shadow x
      unfolding mender_stood quiet leads
      stood_came mender is (inl ended) x = absurd (let no : ◌≡◌ {A = Option Op} None (Some op) =
          sym (ap (λ s. mend_order differences mender.left mender.due s) ended) ∙ order_now (duty.Mends mender) is in cc)
      stood_came mender is (inr so) x = came_one _ refl x

      mender_came : (mender : MenderState) (is : duty_on hub.duties device ≡ duty.Mends mender) (m : Option (Option RecFault)) (e : hub.mends ≡ m) (x : ℕ) → Came (mender_in mender is m e).shadow x
      unfolding mender_in mender_stood
      mender_came mender is None e x = absurd (subst (λ (n : Option (Option RecFault)). MendingKept here.decls (entries_read world.journal) hub.active hub.duties hub.stale n) e under.mending device mender is)
      mender_came mender is (Some met) e x =
          let mending : AreMending here.decls (entries_read world.journal) hub.active hub.duties hub.stale met =
          subst (λ (n : Option (Option RecFault)). MendingKept here.decls (entries_read world.journal) hub.active hub.duties hub.stale n) e under.mending in
          stood_came mender is (mending.stand device mender is) x

      by_came : (d : Duty) (is : duty_on hub.duties device ≡ d) (x : ℕ) → Came (performs_by d is).shadow x
      unfolding performs_by by_worker quiet leads
      by_came duty.Free is x = absurd (let no : ◌≡◌ {A = Option Op} None (Some op) = order_now duty.Free is in cc)
      by_came (duty.Works worker) is x = came_one _ refl x
      by_came (duty.Mends mender) is x = mender_came mender is hub.mends refl x

      pub performs_came : (x : ℕ) → Came performs_leads.shadow x
      unfolding performs_leads performs_by
      performs_came x = by_came (duty_on hub.duties device) refl x

    -- any prefix of what a reconciliation settles
    pub mended_front : hub.mends ≡ Some None → ((device : ℕ) → (world.links device).unheard ≡ None) → All (λ duty. is_busy duty ≡ false) hub.duties → (ts : List ℕ)
        → (sh : ℕ → Shadow) × (h : Option Hub) × NetworkKept here.decls (network_of here.decls sh (entries_read world.journal ++ map entry.Settled ts) h world.nodes world.links)
    mended_front met heard busy ts = (
      all_clear own.shadow,
      Some (record hub { active = []; mends = None; duties = map mender_freed hub.duties }),
      mended_keep here.decls here.kinds are lawful planning own.shadow (entries_read world.journal) hub world.nodes world.links under net_kept None met heard refl busy own.rests ts,
    )

    pub mended_came : (met : hub.mends ≡ Some None) (heard : (device : ℕ) → (world.links device).unheard ≡ None) (busy : All (λ duty. is_busy duty ≡ false) hub.duties) (ts : List ℕ) (x : ℕ)
        → ((mended_front met heard busy ts).0 x).at ≡ (own.shadow x).at
    unfolding mended_front
    mended_came met heard busy ts x = refl

    -- after a reconciliation that is well each declared device is in step
    pub mended_in_step : hub.mends ≡ Some None → ((device : ℕ) → (world.links device).unheard ≡ None) → All (λ duty. is_busy duty ≡ false) hub.duties
        → (device : ℕ) → nat_lt device (length here.decls.names) ≡ true
        → (slice_get hub.stale device ≡ Some None) × (no_call_works (duty_on (map mender_freed hub.duties) device) ≡ true)
    mended_in_step met heard busy device within = (
      fresh_slot here.decls here.kinds are lawful planning own.shadow (entries_read world.journal) hub world.nodes world.links under net_kept None met heard refl busy own.rests device within,
      ap no_call_works (freed_is here.decls here.kinds are lawful planning own.shadow (entries_read world.journal) hub world.nodes world.links under net_kept None met heard device),
    )

    -- a decision is written
    due_so : (it : Transaction) → is_decision_due hub.duties it ≡ true → (is_preparing it.phase ≡ true) × (are_heard hub.duties it.t it.plan.held.devices ≡ true)
    due_so it due = both_true (is_preparing it.phase) (are_heard hub.duties it.t it.plan.held.devices) due

    state_is : lawful_state here.decls (told_by (entries_read world.journal)).history ≡ state_of here.decls (history_of (entries_read world.journal))
    state_is = ap (lawful_state here.decls) (told_history (entries_read world.journal)) ∙ state_legal here.decls (history_of (entries_read world.journal)) legal

    pub does_leads : (meant : Event) (row : List Entry) (next : World D) → DoesUnderHub here world hub meant row next → Led row next
    does_leads meant row next (DoesUnderHub.begins caller) = quiet next own.shadow hub up net_kept under own.rests
    does_leads meant row next (DoesUnderHub.answers call front said asked snap why keeps) = quiet next own.shadow _ refl net_kept under own.rests
    does_leads meant row next (DoesUnderHub.queues it front snap same lawful' closed apart new within made number slot) = quiet next own.shadow _ refl net_kept under own.rests
    does_leads meant row next (DoesUnderHub.turns_away place it said there first idle why) = quiet next own.shadow _ refl net_kept under own.rests
    does_leads meant row next (DoesUnderHub.admits place it sets there first idle passes fresh) =
        let same : first.it ≡ it = same_Some first.it it (sym first.fits.there ∙ there) in
        let unused = All-at (λ (one : Waiting). IsUnnamed (entries_read world.journal) one.t) hub.waiting place it known.unused there in
        let waits = All-at (IsWaiting here.decls (history_of (entries_read world.journal))) hub.waiting place it known.waits there in
        let fits = subst (λ (w : Waiting). All (λ (other : Transaction). FitTogether w.plan.held other.plan.held) hub.active) same first.fits.active_ones in
        leads (intent_entry it ∷ []) next (admitted_shadow own.shadow it.plan.held.devices it.t) _ refl
        (admits_keep here.decls are_decls plans here.kinds are lawful planning own.shadow (entries_read world.journal) hub world.nodes world.links under net_kept known.admitted legal
        it sets (length (history_read world.journal)) unused idle fits passes waits.lawful fresh)
        (admits_under here.decls are_decls plans here.kinds are lawful planning own.shadow (entries_read world.journal) hub world.nodes world.links under net_kept known.admitted legal
        it sets (length (history_read world.journal)) unused idle fits passes waits.lawful fresh)
        own.rests
    does_leads meant row next (DoesUnderHub.performs device op happened due unheard possible way) =
        performs_leads device op happened (due_is hub device op due) unheard (may_happen (here.kinds device) (world.nodes device) (world.links device).session op happened possible) (without_first (kind_of_op op) (world.links device).listed)
    does_leads meant row next (DoesUnderHub.leaves_unsent device changes due unheard) =
        performs_leads device (op.Edit changes) way.NoMemory (due_is hub device (op.Edit changes) due) unheard (refl, tt) (world.links device).listed
    does_leads meant row next (DoesUnderHub.reports device op reply unheard) =
        quiet next own.shadow (hub_reported device reply (world.links device).faults hub) refl
        (reports_keep here.decls own.shadow (entries_read world.journal) hub world.nodes world.links device op reply unheard net_kept)
        (retire_under here.decls own.shadow (entries_read world.journal) hub.active _ _ _ _
        (reports_under here.decls own.shadow (entries_read world.journal) hub.active hub.duties hub.stale hub.mends world.links under device op reply unheard))
        own.rests
    does_leads meant row next (DoesUnderHub.commits place it there least due prepared valid) =
        let so = due_so it due in
        let open_in = known.intents place it there so.0 in
        let hub' : Hub = answered it.asker (answer.Committed (length (history_read world.journal) + 1)) (hub_told it.t phase.Decided true hub) in
        leads (entry.Decide it.t ∷ []) next own.shadow hub' refl
        (commits_keep here.decls here.kinds are lawful planning own.shadow (entries_read world.journal) hub world.nodes world.links under net_kept place it there so.0 so.1
        hub' open_in.call
        (ap (λ (s : Datastore). invalid here.decls.data_schema (data_after it.call.actions s.data)) state_is ∙ valid) prepared refl refl refl)
        (retire_under here.decls own.shadow (entries_read world.journal ++ entry.Decide it.t ∷ []) (map (in_phase it.t phase.Decided) hub.active) (map (duty_told it.t true) hub.duties) hub.stale hub.mends world.links
        (told_under here.decls own.shadow (entries_read world.journal) hub.active hub.duties hub.stale hub.mends world.links under place it there so.0
        (entry.Decide it.t) phase.Decided true refl refl refl (ap (λ (x : Told). x.intents) (told_push (entries_read world.journal) (entry.Decide it.t)))))
        own.rests
    does_leads meant row next (DoesUnderHub.aborts place it said there least due why) =
        let so = due_so it due in
        let hub' : Hub = answered it.asker said (hub_told it.t phase.Aborted false hub) in
        leads (entry.Abort it.t ∷ []) next own.shadow hub' refl
        (aborts_keep here.decls here.kinds are lawful planning own.shadow (entries_read world.journal) hub world.nodes world.links under net_kept place it there so.0 so.1
        hub' refl refl refl)
        (retire_under here.decls own.shadow (entries_read world.journal ++ entry.Abort it.t ∷ []) (map (in_phase it.t phase.Aborted) hub.active) (map (duty_told it.t false) hub.duties) hub.stale hub.mends world.links
        (told_under here.decls own.shadow (entries_read world.journal) hub.active hub.duties hub.stale hub.mends world.links under place it there so.0
        (entry.Abort it.t) phase.Aborted false refl refl refl (ap (λ (x : Told). x.intents) (told_push (entries_read world.journal) (entry.Abort it.t)))))
        own.rests
    does_leads meant row next (DoesUnderHub.settles place it there least settling) =
        leads (entry.Settled it.t ∷ []) next own.shadow _ refl
        (settles_keep here.decls here.kinds are lawful planning own.shadow (entries_read world.journal) hub world.nodes world.links under net_kept place it there settling)
        (settled_under here.decls own.shadow (entries_read world.journal) hub.active hub.duties hub.stale hub.mends world.links under place it there settling)
        own.rests
    does_leads meant row next DoesUnderHub.stops = record {
      shadow = own.shadow;
      kept = subst (λ (l : List Entry). NetworkKept here.decls (network_of here.decls own.shadow l next.hub next.nodes next.links)) (sym (append-nil (entries_read world.journal)))
          (stops_keep here.decls here.kinds lawful planning own.shadow (entries_read world.journal) world.hub world.nodes world.links own.kept);
      under = λ h e. absurd (let no : ◌≡◌ {A = Option Hub} None (Some h) = e in cc);
      rests = own.rests;
    }
    does_leads meant row next (DoesUnderHub.mends numbers idle unsettled) =
        quiet next own.shadow _ refl
        (mends_keep here.decls here.kinds are lawful planning own.shadow (entries_read world.journal) hub world.nodes world.links under net_kept numbers (all_left hub.active idle.1) idle.2 unsettled)
        (mends_under here.decls here.kinds are lawful planning own.shadow (entries_read world.journal) hub world.nodes world.links under net_kept numbers (all_left hub.active idle.1) idle.2 unsettled)
        own.rests
    does_leads meant row next (DoesUnderHub.mended numbers met busy heard unsettled) =
        leads (map entry.Settled numbers) next (all_clear own.shadow) _ refl
        (mended_keep here.decls here.kinds are lawful planning own.shadow (entries_read world.journal) hub world.nodes world.links under net_kept None met heard refl busy own.rests numbers)
        (mended_under here.decls here.kinds are lawful planning own.shadow (entries_read world.journal) hub world.nodes world.links under net_kept None met heard refl busy own.rests numbers)
        own.rests
    does_leads meant row next (DoesUnderHub.finds_no_memory met busy heard) =
        quiet next own.shadow _ refl
        (fails_keep here.decls here.kinds are lawful planning own.shadow (entries_read world.journal) hub world.nodes world.links under net_kept None met heard)
        (fails_under here.decls here.kinds are lawful planning own.shadow (entries_read world.journal) hub world.nodes world.links under net_kept None met heard)
        own.rests
    does_leads meant row next (DoesUnderHub.fails_to_mend met failed heard) =
        quiet next own.shadow _ refl
        (fails_keep here.decls here.kinds are lawful planning own.shadow (entries_read world.journal) hub world.nodes world.links under net_kept (Some met) failed heard)
        (fails_under here.decls here.kinds are lawful planning own.shadow (entries_read world.journal) hub world.nodes world.links under net_kept (Some met) failed heard)
        own.rests

    -- How far along the history each device has come then.
    pub does_came : (meant : Event) (row : List Entry) (next : World D) (does : DoesUnderHub here world hub meant row next) (x : ℕ)
        → ((does_leads meant row next does).shadow x).at ≡ came_by here world x (own.shadow x).at (Some meant)
    unfolding does_leads quiet leads
    does_came meant row next (DoesUnderHub.begins caller) x = refl
    does_came meant row next (DoesUnderHub.answers call front said asked snap why keeps) x = refl
    does_came meant row next (DoesUnderHub.queues it front snap same lawful' closed apart new within made number slot) x = refl
    does_came meant row next (DoesUnderHub.turns_away place it said there first idle why) x = refl
    does_came meant row next (DoesUnderHub.admits place it sets there first idle passes fresh) x = refl
    does_came meant row next (DoesUnderHub.performs device one happened due unheard possible way') x =
        performs_came device one happened (due_is hub device one due) unheard
        (may_happen (here.kinds device) (world.nodes device) (world.links device).session one happened possible) (without_first (kind_of_op one) (world.links device).listed) x
        ∙ here_or (nat_eq device x) refl
      where
        told : Told
        told = told_by (entries_read world.journal)

        by_hub : (device' : ℕ) → device ≡ device' → cond (took_effect happened) (came_to told (own.shadow device).at one) (own.shadow device).at
            ≡ option_map_or (λ (h : Hub). came_by_due here world device' (own.shadow device').at (due_on h device')) world.hub (own.shadow device').at
        by_hub device' same =
            subst (λ (d : ℕ). cond (took_effect happened) (came_to told (own.shadow device).at one) (own.shadow device).at
            ≡ option_map_or (λ (h : Hub). came_by_due here world d (own.shadow d).at (due_on h d)) world.hub (own.shadow d).at) same
            (effect_so device world one happened told (own.shadow device).at possible way'
            ∙ sym (ap (λ (o : Option Hub). option_map_or (λ (h : Hub). came_by_due here world device (own.shadow device).at (due_on h device)) o (own.shadow device).at) up
            ∙ ap (λ (o : Option Op). came_by_due here world device (own.shadow device).at o) due))

        here_or : (b : Bool) → nat_eq device x ≡ b → cond b (cond (took_effect happened) (came_to told (own.shadow device).at one) (own.shadow device).at) (own.shadow x).at
            ≡ cond b (option_map_or (λ (h : Hub). came_by_due here world x (own.shadow x).at (due_on h x)) world.hub (own.shadow x).at) (own.shadow x).at
        here_or true is = by_hub x (eqb-true device x is)
        here_or false is = refl
    does_came meant row next (DoesUnderHub.leaves_unsent device changes due unheard) x =
        performs_came device (op.Edit changes) way.NoMemory (due_is hub device (op.Edit changes) due) unheard (refl, tt) (world.links device).listed x
        ∙ stays (nat_eq device x) refl
      where
        stays : (b : Bool) → nat_eq device x ≡ b → cond b (own.shadow device).at (own.shadow x).at ≡ (own.shadow x).at
        stays true is = ap (λ (d : ℕ). (own.shadow d).at) (eqb-true device x is)
        stays false is = refl
    does_came meant row next (DoesUnderHub.reports device kind reply unheard) x = refl
    does_came meant row next (DoesUnderHub.commits place it there least due prepared valid) x = refl
    does_came meant row next (DoesUnderHub.aborts place it said there least due why) x = refl
    does_came meant row next (DoesUnderHub.settles place it there least settling) x = refl
    does_came meant row next DoesUnderHub.stops x = refl
    does_came meant row next (DoesUnderHub.mends numbers idle unsettled) x = refl
    does_came meant row next (DoesUnderHub.mended numbers met busy heard unsettled) x = refl
    does_came meant row next (DoesUnderHub.finds_no_memory met busy heard) x = refl
    does_came meant row next (DoesUnderHub.fails_to_mend met failed heard) x = refl
