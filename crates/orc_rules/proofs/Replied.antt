-- Each event keeps what is known of replies: what devices accept, who has a session, and what outcomes say.
use Rattle.std.proofs.Common.{◌≡◌, inl, inr, ℕ, Bool, true, false, nat_eq, nat_lt, List, [], ◌∷◌, ◌++◌, Option, Some, None, All, map, length, refl, sym, ap, subst, ◌∙◌, append-nil}
use Rattle.std.specs.Prelude.{slice_get}
use Rattle.std.specs.List.{list_any}
use Rattle.std.specs.Option.{option_map}
use Rattle.std.proofs.lemmas.Option.{same_Some}
use Rattle.orc_call.specs.declared.answer.RecFault.{RecFault}
use Rattle.orc_call.specs.declared.call.Call.{Call}
use Rattle.orc_datastore.specs.Legal.{IsLegal}
use Rattle.orc_decls.specs.Declarations.{AreDecls}
use Rattle.orc_decls.specs.declared.declarations.Decls.{Decls}
use Rattle.orc_device.specs.declared.kind.When.{When}
use Rattle.orc_device.specs.Links.{Way, way_node, way_reply, way_session}
use Rattle.orc_device.specs.Links.{Way as way}
use Rattle.orc_device.specs.declared.op.Op.TheVariants as op
use Rattle.orc_rules.proofs.NodeLaws.{may_happen}
use Rattle.orc_rules.specs.Cells.{MayHappen}
use Rattle.orc_device.specs.Listings.{kind_of_op, without_first}
use Rattle.orc_device.specs.Nodes.{DeviceKind, restarted}
use Rattle.orc_device.specs.declared.kind.OpKind.{OpKind}
use Rattle.orc_device.specs.declared.op.Op.{Op}
use Rattle.orc_device.specs.declared.reply.Reply.{Reply}
use Rattle.orc_journal.specs.Committed.{as_calls, history_of}
use Rattle.orc_journal.specs.Laws.{IsUnnamed}
use Rattle.orc_journal.specs.declared.entry.Entry.{Entry}
use Rattle.orc_journal.specs.declared.entry.Entry.TheVariants as entry
use Rattle.orc_plans.specs.Plans.{PlanStands}
use Rattle.orc_queue.specs.Fitting.{FitTogether}
use Rattle.orc_recover.specs.Menders.{MenderState, differences, mender_took}
use Rattle.orc_tree.specs.Sameness.{equal_configs}
use Rattle.orc_worker.specs.Workers.{worker_took}
use Rattle.orc_worker.specs.declared.worker.Worker.{Worker}
use Rattle.orc_rules.specs.Acceptance.{IsHonest, Replies, RepliesKept, Tells, has_session}
use Rattle.orc_rules.specs.Admissions.{intent_entry, transaction_begun}
use Rattle.orc_rules.specs.Cells.{Cell, DeviceRole, updated_at}
use Rattle.orc_rules.specs.Due.{is_decision_due}
use Rattle.orc_rules.specs.Duties.{duty_order, duty_told, is_busy}
use Rattle.orc_rules.specs.Events.{DoesAnyway, DoesUnderHub, Steps, link_behind, mender_freed, mender_on, performed_with}
use Rattle.orc_rules.specs.Hubs.{Hub, duty_on, order_on}
use Rattle.orc_rules.specs.Invariant.{Invariant, IsFitting, IsLawful, RoleFacts, RunsAccepted, StageFacts}
use Rattle.orc_rules.specs.Journals.{entries_read, history_read}
use Rattle.orc_rules.specs.Kept.{FitAt, HistoryKept, HubKept, NetworkKept, StandsAt, ValidAt, active_under, heard as then_heard, network_of, plan_of}
use Rattle.orc_rules.specs.Network.{Plan as Named, Planning, cell}
use Rattle.orc_rules.specs.Standing.{IsWaiting}
use Rattle.orc_rules.specs.Told.{told_by}
use Rattle.orc_rules.specs.Transactions.{in_phase, is_other, is_preparing}
use Rattle.orc_rules.specs.UnderHub.{AreMending, Attends, DevicesKept, IsOfHub, IsOwned, MendingKept, is_under_way}
use Rattle.orc_rules.specs.Verdicts.{are_heard}
use Rattle.orc_rules.specs.Works.{Intent, work_operation as work_order}
use Rattle.orc_rules.specs.Worlds.{Link, Setting, World, declared, over}
use Rattle.orc_rules.specs.declared.duty.Duty.{Duty}
use Rattle.orc_rules.specs.declared.duty.Duty.TheVariants as duty
use Rattle.orc_rules.specs.declared.event.Event.{Event}
use Rattle.orc_rules.specs.declared.transaction.Phase.{Phase}
use Rattle.orc_rules.specs.declared.transaction.Phase.TheVariants as phase
use Rattle.orc_rules.specs.declared.transaction.Transaction.{Transaction}
use Rattle.orc_rules.specs.declared.transaction.Waiting.{Waiting}
use Rattle.orc_rules.proofs.Accepting.{restarted_accepted, ticked_accepted}
use Rattle.orc_rules.proofs.Admitting.{none_unheard, others, starts}
use Rattle.orc_rules.proofs.Answering.{admit_replies, grown_replies, perform_replies, phase_replies, quiet_replies, report_replies, retired_replies, told_replies}
use Rattle.orc_rules.proofs.Courses.{order_due}
use Rattle.orc_rules.proofs.Devices.{told_history}
use Rattle.orc_rules.proofs.Entering.{All-at}
use Rattle.orc_rules.proofs.Fronts.{history_of-append}
use Rattle.orc_rules.proofs.Leaving.{leaves_replies}
use Rattle.orc_rules.proofs.Legality.{same_history}
use Rattle.orc_rules.proofs.Moves.{all_left}
use Rattle.orc_rules.proofs.Moving.{due_is, order_here, order_is, works_now}
use Rattle.orc_rules.proofs.Reconciling.{all_heard, freed_is, mender_there, nobody_past}
use Rattle.orc_rules.proofs.Retiring.{was_other}
use Rattle.orc_rules.proofs.Recording.{either, given_at, given_other}
use Rattle.orc_rules.proofs.Replying.{dropped_accepted, honest_worked, opened_mend, opened_work, tells_worked, way_accepted}
use Rattle.orc_rules.proofs.Slots.{both_true}
use Rattle.orc_rules.proofs.Starting.{free_on}
use Rattle.orc_rules.proofs.Telling.{find_there}
use Rattle.orc_rules.proofs.Tracking.{done_read, known_at}

module _ {D : Type 0} (here : Setting D) (are_decls : AreDecls here.decls) (plans : PlanStands) (are : (device : ℕ) → IsOfHub (here.kinds device))
    (lawful : (device : ℕ) → IsLawful (here.kinds device) (over here.decls device)) (planning : Planning (over here.decls) (StandsAt here.decls) (FitAt here.decls) (ValidAt here.decls))
    (fit : (device : ℕ) → IsFitting (here.kinds device) (over here.decls device)) where
  -- under a hub that is up
  module _ (world : World D) (hub : Hub) (own : DevicesKept here.decls world) (up : world.hub ≡ Some hub)
      (known : HubKept here.decls (entries_read world.journal) (history_of (entries_read world.journal)) hub.active hub.waiting hub.given)
      (legal : IsLegal here.decls (history_of (entries_read world.journal))) (replies : RepliesKept here world) where
    abbrev decls : Decls
    decls = here.decls

    abbrev kinds : ℕ → DeviceKind
    kinds = here.kinds

    entries : List Entry
    entries = entries_read world.journal

    under : Attends here.decls own.shadow (entries_read world.journal) hub world.links
    under = own.under hub up

    net_kept : NetworkKept here.decls (network_of here.decls own.shadow (entries_read world.journal) (Some hub) world.nodes world.links)
    net_kept = subst (λ (h : Option Hub). NetworkKept here.decls (network_of here.decls own.shadow (entries_read world.journal) h world.nodes world.links)) up own.kept

    said : Replies here.decls here.kinds (history_of (entries_read world.journal)) hub.active hub.duties world.links
    said = replies.under hub up

    abbrev Known : List Call → Hub → (ℕ → Link) → Type 0
    Known history hub' links = Replies here.decls here.kinds history hub'.active hub'.duties links

    abbrev Replied : List Entry → World D → Type 0
    Replied row next = ((device : ℕ) → RunsAccepted (here.kinds device) (next.nodes device))
        × ((hub' : Hub) → next.hub ≡ Some hub' → Known (history_of (entries_read world.journal ++ row)) hub' next.links)

    -- after entries that commit nothing
    same : (row : List Entry) (next : World D) (hub' : Hub) → next.hub ≡ Some hub' → history_of (entries_read world.journal ++ row) ≡ history_of (entries_read world.journal)
        → ((device : ℕ) → RunsAccepted (here.kinds device) (next.nodes device)) → Known (history_of (entries_read world.journal)) hub' next.links → Replied row next
    same row next hub' is none nodes kept = (
      nodes,
      λ h e. subst (λ (calls : List Call). Known calls h next.links) (sym none) (subst (λ (x : Hub). Known (history_of (entries_read world.journal)) x next.links) (same_Some hub' h (sym is ∙ e)) kept),
    )

    nothing : history_of (entries_read world.journal ++ []) ≡ history_of (entries_read world.journal)
    nothing = ap history_of (append-nil (entries_read world.journal))

    due : (device : ℕ) (one : OpKind × Reply) → (world.links device).unheard ≡ Some one → is_busy (duty_on hub.duties device) ≡ true
    due = under.due

    -- an operation is performed
    module _ (device : ℕ) (op : Op) (happened : Way) (order : order_on hub device ≡ Some op) (unheard : (world.links device).unheard ≡ None)
        (possible : MayHappen (here.kinds device) (world.nodes device) (world.links device).session op happened) (listed : List (OpKind × When)) where
      abbrev r : Reply
      r = way_reply (world.nodes device) op happened

      abbrev link' : Link
      link' = link_behind listed (world.links device) (way_session (world.nodes device) (world.links device).session op happened) op happened r

      abbrev c : Cell Call
      c = cell (over here.decls) (network_of here.decls own.shadow (entries_read world.journal) (Some hub) world.nodes world.links) device

      inv : Invariant (over here.decls device) c
      inv = net_kept.each device

      order_now : (on : Duty) → duty_on hub.duties device ≡ on → duty_order on ≡ Some op
      order_now on is = ap duty_order (sym is) ∙ sym (order_is hub device) ∙ order

      was_heard : (on : Duty) → duty_on hub.duties device ≡ on → then_heard (world.links device).unheard (world.links device).faults (duty_on hub.duties device) ≡ on
      was_heard on is = ap (λ (u : Option (OpKind × Reply)). then_heard u (world.links device).faults (duty_on hub.duties device)) unheard ∙ is

      opened_before : (on : Duty) → duty_on hub.duties device ≡ on → has_session on ≡ true → nat_eq (world.links device).session 0 ≡ false
      opened_before on is h = said.opened device (ap has_session (was_heard on is) ∙ h)

      -- a worker's
      module _ (worker : Worker) (is : duty_on hub.duties device ≡ duty.Works worker) where
        owned : IsOwned here.decls (entries_read world.journal) hub.active device worker
        owned = under.owned device worker is (order_due worker.t worker.set worker.stage op (order_now (duty.Works worker) is)).1

        abbrev o : Intent Call
        o = record {
          t = worker.t;
          call = owned.noted.plan.call;
          before = over here.decls device owned.noted.base;
          due = over here.decls device (owned.noted.base ++ owned.noted.plan.call ∷ []);
        }

        facts : StageFacts (over here.decls device) c o worker.stage
        facts = (subst (λ (role : DeviceRole Call). RoleFacts (over here.decls device) c role)
            (works_now here.decls here.kinds are lawful planning own.shadow (entries_read world.journal) hub world.nodes world.links device op happened unheard possible listed net_kept
            worker is (order_now (duty.Works worker) is) (under.agree device worker is) owned)
            inv.role).1

        ordered : work_order (here.kinds device) o worker.stage ≡ Some op
        ordered = order_here here.decls here.kinds are lawful planning own.shadow (entries_read world.journal) hub world.nodes world.links device op happened unheard possible listed net_kept
            worker is (order_now (duty.Works worker) is) (under.agree device worker is) owned

        honest_here : IsHonest (duty.Works worker) r
        honest_here = honest_worked (here.kinds device) (over here.decls device) (fit device) c inv o worker.stage op happened ordered
            (opened_before (duty.Works worker) is) facts (replies.nodes device) possible

        opened_here : has_session (duty.Works (worker_took worker r link'.faults)) ≡ true → nat_eq link'.session 0 ≡ false
        opened_here = opened_work (here.kinds device) (world.nodes device) (world.links device).session worker.t worker.set worker.stage op happened
            (order_now (duty.Works worker) is) possible (opened_before (duty.Works worker) is)

        -- the transaction that it works for
        call_is : (place : ℕ) (it : Transaction) → slice_get hub.active place ≡ Some it → worker.t ≡ it.t → owned.noted.plan.call ≡ it.call
        call_is place it there number =
            let where_it_is = under.numbers owned.place place owned.it it owned.there there (owned.number ∙ number) in
            let one : owned.it ≡ it = same_Some owned.it it (sym owned.there ∙ ap (slice_get hub.active) where_it_is ∙ there) in
            ap (λ (p : Named Call). p.call) owned.plan ∙ ap (λ (a : Transaction). a.call) one

        tells_here : (place : ℕ) (it : Transaction) → slice_get hub.active place ≡ Some it → is_preparing it.phase ≡ true → list_any (nat_eq device) it.plan.held.devices ≡ true
            → worker.t ≡ it.t
            → Tells (worker_took worker r link'.faults).outcome ((here.kinds device).accepts (over here.decls device (history_of (entries_read world.journal) ++ it.call ∷ [])))
        tells_here place it there h named number =
            let accepted : (here.kinds device).accepts (over here.decls device ((told_by (entries_read world.journal)).history ++ owned.noted.plan.call ∷ []))
            ≡ (here.kinds device).accepts (over here.decls device (history_of (entries_read world.journal) ++ it.call ∷ [])) =
            ap (λ (calls : List Call). (here.kinds device).accepts (over here.decls device (calls ++ owned.noted.plan.call ∷ []))) (told_history (entries_read world.journal))
            ∙ ap (λ (call : Call). (here.kinds device).accepts (over here.decls device (history_of (entries_read world.journal) ++ call ∷ []))) (call_is place it there number) in
            subst (Tells (worker_took worker r link'.faults).outcome) accepted
            (tells_worked (here.kinds device) (over here.decls device) (fit device) c inv o worker.stage op happened link'.faults worker.outcome ordered
            (opened_before (duty.Works worker) is) facts (under.before place it there h device worker is number)
            (subst (Tells worker.outcome) (sym accepted) (said.tells place it there h device worker named (was_heard (duty.Works worker) is) number)) possible)

      -- a mender's
      mender_opened : (mender : MenderState) → duty_on hub.duties device ≡ duty.Mends mender → has_session (duty.Mends (mender_took equal_configs mender r)) ≡ true
          → nat_eq link'.session 0 ≡ false
      mender_opened mender is = opened_mend (here.kinds device) (world.nodes device) (world.links device).session equal_configs differences mender.left mender.due mender.stage op happened
          (order_now (duty.Mends mender) is) possible (opened_before (duty.Mends mender) is)

      heard_now : (on : Duty) → duty_on hub.duties device ≡ on → then_heard link'.unheard link'.faults (duty_on hub.duties device) ≡ then_heard link'.unheard link'.faults on
      heard_now on is = ap (λ (d : Duty). then_heard link'.unheard link'.faults d) is

      opened_then : (on : Duty) → duty_on hub.duties device ≡ on → has_session (then_heard link'.unheard link'.faults on) ≡ true → nat_eq link'.session 0 ≡ false
      opened_then duty.Free is h = absurd (let no : ◌≡◌ {A = Option Op} None (Some op) = order_now duty.Free is in cc)
      opened_then (duty.Works worker) is h = opened_here worker is h
      opened_then (duty.Mends mender) is h = mender_opened mender is h

      honest_then : (on : Duty) → duty_on hub.duties device ≡ on → IsHonest on r
      honest_then duty.Free is = tt
      honest_then (duty.Works worker) is = honest_here worker is
      honest_then (duty.Mends mender) is = tt

      tells_then : (on : Duty) → duty_on hub.duties device ≡ on → (place : ℕ) (it : Transaction) → slice_get hub.active place ≡ Some it → is_preparing it.phase ≡ true → (worker' : Worker)
          → list_any (nat_eq device) it.plan.held.devices ≡ true → then_heard link'.unheard link'.faults on ≡ duty.Works worker' → worker'.t ≡ it.t
          → Tells worker'.outcome ((here.kinds device).accepts (over here.decls device (history_of (entries_read world.journal) ++ it.call ∷ [])))
      tells_then duty.Free is place it there h worker' named e number = absurd (let no : duty.Free ≡ duty.Works worker' = e in cc)
      tells_then (duty.Mends mender) is place it there h worker' named e number = absurd (let no : duty.Mends (mender_took equal_configs mender r) ≡ duty.Works worker' = e in cc)
      tells_then (duty.Works worker) is place it there h worker' named e number =
          let same_one : worker_took worker r link'.faults ≡ worker' = same_works (worker_took worker r link'.faults) worker' e in
          subst (λ (w : Worker). Tells w.outcome ((here.kinds device).accepts (over here.decls device (history_of (entries_read world.journal) ++ it.call ∷ [])))) same_one
          (tells_here worker is place it there h named (ap (λ (w : Worker). w.t) same_one ∙ number))
        where
          same_works : (a b : Worker) → duty.Works a ≡ duty.Works b → a ≡ b
          same_works a b e' = cc

      performs_replied : Replied [] (performed_with here world listed device op happened)
      performs_replied = same [] (performed_with here world listed device op happened) hub up nothing nodes
          (perform_replies here.decls here.kinds (history_of (entries_read world.journal)) hub.active hub.duties world.links said device link'
          (λ h. opened_then (duty_on hub.duties device) refl h)
          (λ place it there h worker' named e number. tells_then (duty_on hub.duties device) refl place it there h worker' named e number)
          (λ one e. subst (λ (x : OpKind × Reply). IsHonest (duty_on hub.duties device) x.1) (same_Some (kind_of_op op, r) one e) (honest_then (duty_on hub.duties device) refl)))
        where
          nodes : (x : ℕ) → RunsAccepted (here.kinds x) ((performed_with here world listed device op happened).nodes x)
          nodes x = elim (either device x) [
            | inl s ↦ subst (λ (y : ℕ). RunsAccepted (here.kinds y) ((performed_with here world listed device op happened).nodes y)) s
                (subst (RunsAccepted (here.kinds device)) (sym (given_at world.nodes device (way_node (here.kinds device) (world.nodes device) (world.links device).session op happened)))
                (way_accepted (here.kinds device) (world.nodes device) (world.links device).session op happened possible (replies.nodes device)))
            | inr ne ↦ subst (RunsAccepted (here.kinds x)) (sym (given_other world.nodes device (way_node (here.kinds device) (world.nodes device) (world.links device).session op happened) x ne))
                (replies.nodes x)
          ]

    -- a decision is written
    preparing_so : (it : Transaction) → is_decision_due hub.duties it ≡ true → is_preparing it.phase ≡ true
    preparing_so it due_now = (both_true (is_preparing it.phase) (are_heard hub.duties it.t it.plan.held.devices) due_now).0

    is_active : (place : ℕ) (it : Transaction) → slice_get hub.active place ≡ Some it → is_preparing it.phase ≡ true → active_under (Some hub) it.t ≡ Some (plan_of it)
    is_active place it there h = ap (option_map plan_of) (find_there hub.active place it there h
        (λ place' other there' number. under.numbers place' place other it there' there number))

    decided : (it : Transaction) (to : Phase) (commit : Bool) → is_preparing to ≡ false
        → Replies here.decls here.kinds (history_of (entries_read world.journal)) (map (in_phase it.t to) hub.active) (map (duty_told it.t commit) hub.duties) world.links
    decided it to commit other =
        told_replies here.decls here.kinds (history_of (entries_read world.journal)) (map (in_phase it.t to) hub.active) hub.duties world.links
        (phase_replies here.decls here.kinds (history_of (entries_read world.journal)) hub.active hub.duties world.links said it.t to other) it.t commit under.due

    -- what is due with another call stays so
    stable : (place : ℕ) (it : Transaction) → slice_get hub.active place ≡ Some it → is_preparing it.phase ≡ true
        → (place' : ℕ) (other : Transaction) → slice_get hub.active place' ≡ Some other → is_preparing other.phase ≡ true → nat_eq other.t it.t ≡ false
        → (device : ℕ) → list_any (nat_eq device) other.plan.held.devices ≡ true
        → over here.decls device ((history_of (entries_read world.journal) ++ it.call ∷ []) ++ other.call ∷ []) ≡ over here.decls device (history_of (entries_read world.journal) ++ other.call ∷ [])
    stable place it there h place' other there' h' apart device named =
        subst (λ (calls : List Call). over here.decls device ((calls ++ it.call ∷ []) ++ other.call ∷ []) ≡ over here.decls device (calls ++ other.call ∷ []))
        (told_history (entries_read world.journal))
        (planning.stable (told_by (entries_read world.journal)).history (plan_of other) (plan_of it) device
        (net_kept.stands other.t (plan_of other) (is_active place' other there' h')) (net_kept.stands it.t (plan_of it) (is_active place it there h))
        (net_kept.fit other.t it.t (plan_of other) (plan_of it) (is_active place' other there' h') (is_active place it there h) apart) named)

    pub does_reply : (meant : Event) (row : List Entry) (next : World D) → DoesUnderHub here world hub meant row next → Replied row next
    does_reply meant row next (DoesUnderHub.begins caller) = same [] next hub up nothing replies.nodes said
    does_reply meant row next (DoesUnderHub.answers call front answer asked snap why keeps) = same [] next _ refl nothing replies.nodes said
    does_reply meant row next (DoesUnderHub.queues it front snap same_front lawful' closed apart new within made number slot) = same [] next _ refl nothing replies.nodes said
    does_reply meant row next (DoesUnderHub.turns_away place it answer there first idle why) = same [] next _ refl nothing replies.nodes said
    does_reply meant row next (DoesUnderHub.admits place it sets there first idle passes fresh) =
        let is : first.it ≡ it = same_Some first.it it (sym first.fits.there ∙ there) in
        let unused = All-at (λ (one : Waiting). IsUnnamed (entries_read world.journal) one.t) hub.waiting place it known.unused there in
        let waits = All-at (IsWaiting here.decls (history_of (entries_read world.journal))) hub.waiting place it known.waits there in
        let fits = subst (λ (w : Waiting). All (λ (other : Transaction). FitTogether w.plan.held other.plan.held) hub.active) is first.fits.active_ones in
        same (intent_entry it ∷ []) next _ refl (same_history (entries_read world.journal) (intent_entry it) refl) replies.nodes
        (admit_replies here.decls here.kinds (history_of (entries_read world.journal)) hub.active hub.duties world.links said (transaction_begun (length (history_read world.journal)) it) _ it.t
        (λ x named. (
          none_unheard here.decls are_decls plans here.kinds are lawful planning own.shadow (entries_read world.journal) hub world.nodes world.links under net_kept known.admitted legal
              it sets (length (history_read world.journal)) unused idle fits passes waits.lawful fresh x named,
          (let s = starts here.decls are_decls plans here.kinds are lawful planning own.shadow (entries_read world.journal) hub world.nodes world.links under net_kept known.admitted legal
              it sets (length (history_read world.journal)) unused idle fits passes waits.lawful fresh x named in (s.set, s.is)),
        ))
        (λ x unnamed. others here.decls are_decls plans here.kinds are lawful planning own.shadow (entries_read world.journal) hub world.nodes world.links under net_kept known.admitted legal
        it sets (length (history_read world.journal)) unused idle fits passes waits.lawful fresh x unnamed))
    does_reply meant row next (DoesUnderHub.performs device op happened due_now unheard possible way) =
        performs_replied device op happened (due_is hub device op due_now) unheard (may_happen (here.kinds device) (world.nodes device) (world.links device).session op happened possible) (without_first (kind_of_op op) (world.links device).listed)
    does_reply meant row next (DoesUnderHub.leaves_unsent device changes due unheard) =
        performs_replied device (op.Edit changes) way.NoMemory (due_is hub device (op.Edit changes) due) unheard (refl, tt) (world.links device).listed
    does_reply meant row next (DoesUnderHub.reports device op reply unheard) =
        same [] next _ refl nothing replies.nodes
        (retired_replies here.decls here.kinds (history_of (entries_read world.journal)) hub.active _ _
        (report_replies here.decls here.kinds (history_of (entries_read world.journal)) hub.active hub.duties world.links said device op reply unheard) _)
    does_reply meant row next (DoesUnderHub.commits place it there least due_now prepared valid) =
        let h = preparing_so it due_now in
        let open_in = known.intents place it there h in
        let grows : history_of (entries_read world.journal ++ entry.Decide it.t ∷ []) ≡ history_of (entries_read world.journal) ++ it.call ∷ [] =
        history_of-append (entries_read world.journal) (entry.Decide it.t) ∙ ap (λ (o : Option Call). history_of (entries_read world.journal) ++ as_calls o) open_in.call in (
          replies.nodes,
          λ hub' e. subst (λ (calls : List Call). Known calls hub' next.links) (sym grows)
              (subst (λ (x : Hub). Known (history_of (entries_read world.journal) ++ it.call ∷ []) x next.links) (same_Some _ hub' e)
              (retired_replies here.decls here.kinds (history_of (entries_read world.journal) ++ it.call ∷ []) (map (in_phase it.t phase.Decided) hub.active) (map (duty_told it.t true) hub.duties) world.links
              (grown_replies here.decls here.kinds (history_of (entries_read world.journal)) (map (in_phase it.t phase.Decided) hub.active) (map (duty_told it.t true) hub.duties) world.links
              (decided it phase.Decided true refl) it.call
              (λ place' other there' h' device named. let was = was_other it.t phase.Decided hub.active place' other refl there' h' in
              stable place it there h place' other was.0 h' was.1 device named)) (map (duty_told it.t true) hub.duties))),
        )
    does_reply meant row next (DoesUnderHub.aborts place it answer there least due_now why) =
        same (entry.Abort it.t ∷ []) next _ refl (same_history (entries_read world.journal) (entry.Abort it.t) refl) replies.nodes
        (retired_replies here.decls here.kinds (history_of (entries_read world.journal)) (map (in_phase it.t phase.Aborted) hub.active) (map (duty_told it.t false) hub.duties) world.links
        (decided it phase.Aborted false refl) (map (duty_told it.t false) hub.duties))
    does_reply meant row next (DoesUnderHub.settles place it there least settling) =
        same (entry.Settled it.t ∷ []) next _ refl (same_history (entries_read world.journal) (entry.Settled it.t) refl) replies.nodes
        (leaves_replies here.decls here.kinds (history_of (entries_read world.journal)) hub.active hub.duties world.links said (is_other it.t))
    does_reply meant row next DoesUnderHub.stops = (
      λ device. dropped_accepted (here.kinds device) (world.nodes device) (replies.nodes device),
      λ hub' e. absurd (let no : ◌≡◌ {A = Option Hub} None (Some hub') = e in cc),
    )
    does_reply meant row next (DoesUnderHub.mends numbers idle unsettled) =
        let left = all_left hub.active idle.1 in
        same [] next _ refl nothing replies.nodes
        (quiet_replies here.decls here.kinds (history_of (entries_read world.journal)) hub.active _ world.links
        (all_heard here.decls own.shadow (entries_read world.journal) hub.active hub.duties hub.stale hub.mends world.links under
        (λ place it there. ap is_under_way (left place it there))
        (subst (λ (m : Option (Option RecFault)). MendingKept here.decls (entries_read world.journal) hub.active hub.duties hub.stale m) idle.2 under.mending))
        (λ place it there. ap is_preparing (left place it there))
        (λ device. closed device (nat_lt device (length here.decls.names)) refl))
      where
        closed : (device : ℕ) (b : Bool) → nat_lt device (length here.decls.names) ≡ b
            → has_session (duty_on (map (mender_on (over here.decls) (told_by (entries_read world.journal)) numbers) (declared here.decls)) device) ≡ false
        closed device true within = ap has_session (mender_there (over here.decls) (told_by (entries_read world.journal)) here.decls numbers device within)
        closed device false past = ap has_session (nobody_past (over here.decls) (told_by (entries_read world.journal)) here.decls numbers device past)
    does_reply meant row next (DoesUnderHub.mended numbers met busy heard unsettled) = (
      replies.nodes,
      λ hub' e. subst (λ (x : Hub). Known (history_of (entries_read world.journal ++ map entry.Settled numbers)) x world.links) (same_Some _ hub' e)
          (quiet_replies here.decls here.kinds (history_of (entries_read world.journal ++ map entry.Settled numbers)) [] (map mender_freed hub.duties) world.links heard
          (λ place it there. absurd (let no : ◌≡◌ {A = Option Transaction} None (Some it) = there in cc))
          (λ device. ap has_session (freed_is here.decls here.kinds are lawful planning own.shadow (entries_read world.journal) hub world.nodes world.links under net_kept None met heard device))),
    )
    does_reply meant row next (DoesUnderHub.finds_no_memory met busy heard) =
        same [] next _ refl nothing replies.nodes
        (quiet_replies here.decls here.kinds (history_of (entries_read world.journal)) hub.active (map mender_freed hub.duties) world.links heard
        (λ place it there. ap is_preparing (mending.left place it there))
        (λ device. ap has_session (freed_is here.decls here.kinds are lawful planning own.shadow (entries_read world.journal) hub world.nodes world.links under net_kept None met heard device)))
      where
        mending : AreMending here.decls (entries_read world.journal) hub.active hub.duties hub.stale None
        mending = subst (λ (m : Option (Option RecFault)). MendingKept here.decls (entries_read world.journal) hub.active hub.duties hub.stale m) met under.mending
    does_reply meant row next (DoesUnderHub.fails_to_mend met failed heard) =
        same [] next _ refl nothing replies.nodes
        (quiet_replies here.decls here.kinds (history_of (entries_read world.journal)) hub.active (map mender_freed hub.duties) world.links heard
        (λ place it there. ap is_preparing ((mending met failed).left place it there))
        (λ device. ap has_session (freed_is here.decls here.kinds are lawful planning own.shadow (entries_read world.journal) hub world.nodes world.links under net_kept (Some met) failed heard device)))
      where
        mending : (met : RecFault) → hub.mends ≡ Some (Some met) → AreMending here.decls (entries_read world.journal) hub.active hub.duties hub.stale (Some met)
        mending met failed = subst (λ (m : Option (Option RecFault)). MendingKept here.decls (entries_read world.journal) hub.active hub.duties hub.stale m) failed under.mending

  -- each turn

  no_hub : (new like : World D) → new ≡ like → like.hub ≡ None → ((device : ℕ) → RunsAccepted (here.kinds device) (like.nodes device)) → RepliesKept here new
  no_hub new like is none nodes = record {
    nodes = λ device. subst (λ (w : World D). RunsAccepted (here.kinds device) (w.nodes device)) (sym is) (nodes device);
    under = λ hub e. absurd (let no : ◌≡◌ {A = Option Hub} None (Some hub) = sym none ∙ sym (ap (λ (w : World D). w.hub) is) ∙ e in cc);
  }

  pub steps_reply : (old new : World D) (meant : Event) (seen : Option Event) → HistoryKept here old → DevicesKept here.decls old → RepliesKept here old → Steps here old meant seen new
      → RepliesKept here new
  steps_reply old new meant seen kept own replies (Steps.done hub row next _ up does appends is) =
      let known = known_at here are_decls plans are lawful planning old hub kept up in
      let result = does_reply old hub own up known.0 known.1 replies meant row next does in
      let read = done_read here are_decls plans are lawful planning old.journal new.journal row appends in
      subst (λ (w : World D). RepliesKept here w) (sym is) (record {
        nodes = result.0;
        under = λ hub' e. subst (λ (es : List Entry). Replies here.decls here.kinds (history_of es) hub'.active hub'.duties next.links) read (result.1 hub' e);
      })
  steps_reply old new meant seen kept own replies (Steps.cut hub row next _ up does appends is) =
      no_hub new _ is refl (λ device. dropped_accepted (here.kinds device) (old.nodes device) (replies.nodes device))
  steps_reply old new meant seen kept own replies (Steps.failed hub row next _ up does appends is) = no_hub new _ is refl replies.nodes
  steps_reply old new meant seen kept own replies (Steps.full hub row next len _ up does appends is) = no_hub new _ is refl replies.nodes
  steps_reply old new meant seen kept own replies (Steps.anyway _ (DoesAnyway.ticks seconds)) = record {
    nodes = λ device. ticked_accepted (here.kinds device) (old.nodes device) seconds (replies.nodes device);
    under = replies.under;
  }
  steps_reply old new meant seen kept own replies (Steps.anyway _ (DoesAnyway.restarts device)) = record {
    nodes = λ x. elim (either device x) [
      | inl s ↦ subst (λ (y : ℕ). RunsAccepted (here.kinds y) (updated_at old.nodes device (restarted (old.nodes device)) y)) s
          (subst (RunsAccepted (here.kinds device)) (sym (given_at old.nodes device (restarted (old.nodes device)))) (restarted_accepted (here.kinds device) (old.nodes device) (replies.nodes device)))
      | inr ne ↦ subst (RunsAccepted (here.kinds x)) (sym (given_other old.nodes device (restarted (old.nodes device)) x ne)) (replies.nodes x)
    ];
    under = replies.under;
  }
  steps_reply old new meant seen kept own replies (Steps.anyway _ (DoesAnyway.answers_down call front down)) = replies
  steps_reply old new meant seen kept own replies (Steps.unopened _ down recover stays is) = no_hub new _ is down replies.nodes
  steps_reply old new meant seen kept own replies (Steps.recovers _ down recover reopens is) =
      subst (λ (w : World D). RepliesKept here w) (sym is) (record {
        nodes = replies.nodes;
        under = λ hub e. subst (λ (x : Hub). Replies here.decls here.kinds (history_read new.journal) x.active x.duties old.links) (same_Some _ hub e)
            (quiet_replies here.decls here.kinds (history_read new.journal) [] (map (λ device. duty.Free) (declared here.decls)) old.links (own.silent down)
            (λ place it there. absurd (let no : ◌≡◌ {A = Option Transaction} None (Some it) = there in cc))
            (λ device. ap has_session (free_on here.decls device)));
      })
