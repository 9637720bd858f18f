-- Where each device accepts what is due after each prefix of the history it stays so, and no reconciliation is refused.
use Rattle.std.proofs.Common.{◌≡◌, inl, inr, ℕ, ◌<◌, ◌≤◌, Bool, true, false, nat_eq, nat_lt, ltb-true, lt-ltb, arith, List, [], ◌∷◌, ◌++◌, Option, Some, None, Err, All, map, take, length, refl, sym, ap, subst, ◌∙◌, append-nil, append_assoc}
use Rattle.std.specs.Prelude.{slice_get}
use Rattle.std.specs.List.{list_any}
use Rattle.std.specs.Option.{option_map, option_or}
use Rattle.std.proofs.Math.Seq.{take-length}
use Rattle.std.proofs.lemmas.Bool.{false≢true}
use Rattle.std.proofs.lemmas.List.{length-append, take-append-le, take_all}
use Rattle.std.proofs.lemmas.Option.{same_Some}
use Rattle.orc_journal.specs.declared.outcome.Appended.{Appended}
use Rattle.orc_journal.specs.declared.outcome.Appended.TheVariants as appended
use Rattle.orc_call.specs.declared.answer.RecFault.{RecFault}
use Rattle.orc_call.specs.declared.answer.RecFault.TheVariants as fault
use Rattle.orc_call.specs.declared.answer.Tag.{Tag}
use Rattle.orc_call.specs.declared.call.Call.{Call}
use Rattle.orc_datastore.specs.Actions.{data_after}
use Rattle.orc_datastore.specs.Legal.{IsLegal, state_of}
use Rattle.orc_datastore.specs.Next.{invalid}
use Rattle.orc_datastore.specs.States.{Datastore}
use Rattle.orc_decls.specs.Declarations.{AreDecls}
use Rattle.orc_device.specs.declared.kind.When.{When}
use Rattle.orc_device.specs.Links.{Way, way_reply, way_session}
use Rattle.orc_device.specs.Links.{Way as way}
use Rattle.orc_device.specs.declared.op.Op.TheVariants as op
use Rattle.orc_rules.proofs.NodeLaws.{may_happen}
use Rattle.orc_rules.specs.Cells.{MayHappen}
use Rattle.orc_device.specs.Listings.{kind_of_op, without_first}
use Rattle.orc_device.specs.declared.kind.OpKind.{OpKind}
use Rattle.orc_device.specs.declared.op.Op.{Op}
use Rattle.orc_device.specs.declared.reply.Reply.{Reply}
use Rattle.orc_journal.specs.Committed.{as_calls, history_of}
use Rattle.orc_journal.specs.Laws.{IsUnnamed}
use Rattle.orc_journal.specs.declared.entry.Entry.{Entry}
use Rattle.orc_journal.specs.declared.entry.Entry.TheVariants as entry
use Rattle.orc_path.specs.Configurations.{Config}
use Rattle.orc_plans.specs.Plans.{PlanStands}
use Rattle.orc_queue.specs.Fitting.{FitTogether}
use Rattle.orc_recover.specs.Menders.{MenderState, differences, mend_order, mender_end}
use Rattle.orc_worker.specs.Workers.{is_due, new_worker}
use Rattle.orc_worker.specs.declared.report.Outcome.{Outcome}
use Rattle.orc_worker.specs.declared.report.Outcome.TheVariants as outcome
use Rattle.orc_worker.specs.declared.stage.Stage.{Stage}
use Rattle.orc_worker.specs.declared.stage.Stage.TheVariants as stage
use Rattle.orc_worker.specs.declared.worker.Worker.{Worker}
use Rattle.orc_rules.specs.Acceptance.{AcceptsFronts, FrontsKept, IsNotRefused, Replies, RepliesKept, Tells, has_session, mends_in_session}
use Rattle.orc_rules.specs.Admissions.{intent_entry, started as starts_with}
use Rattle.orc_rules.specs.Agreement.{mender_of}
use Rattle.orc_rules.specs.Cells.{Cell, DeviceRole, updated_at}
use Rattle.orc_rules.specs.Courses.{agrees}
use Rattle.orc_rules.specs.Due.{is_decision_due}
use Rattle.orc_rules.specs.Duties.{duty_end, duty_order, duty_told, duty_took, is_busy}
use Rattle.orc_rules.specs.Events.{DoesAnyway, DoesUnderHub, Steps, link_behind, seen_failing}
use Rattle.orc_rules.specs.Hubs.{Hub, duty_on, mend_fault, order_on, with_changed}
use Rattle.orc_rules.specs.Invariant.{IsFitting, IsLawful, MendFacts, RoleFacts}
use Rattle.orc_rules.specs.Journals.{AppendsRow, entries_read, history_read}
use Rattle.orc_rules.specs.Kept.{FitAt, HistoryKept, HubKept, NetworkKept, StandsAt, ValidAt, active_under, heard as then_heard, lawful_state, network_of, plan_of}
use Rattle.orc_rules.specs.Network.{Planning, cell}
use Rattle.orc_rules.specs.Standing.{IsWaiting}
use Rattle.orc_rules.specs.Told.{told_by}
use Rattle.orc_rules.specs.Transactions.{is_preparing}
use Rattle.orc_rules.specs.UnderHub.{AreMending, Attends, DevicesKept, IsMenderOf, IsOfHub, MendingKept, is_under_way}
use Rattle.orc_rules.specs.Verdicts.{are_heard, verdict}
use Rattle.orc_rules.specs.Works.{Mend, mend_operation as role_order}
use Rattle.orc_rules.specs.Worlds.{Link, Setting, World, over}
use Rattle.orc_rules.specs.declared.duty.Duty.{Duty}
use Rattle.orc_rules.specs.declared.duty.Duty.TheVariants as duty
use Rattle.orc_rules.specs.declared.event.Event.{Event}
use Rattle.orc_rules.specs.declared.event.Event.TheVariants as event
use Rattle.orc_rules.specs.declared.transaction.Transaction.{Transaction}
use Rattle.orc_rules.specs.declared.transaction.Waiting.{Waiting}
use Rattle.orc_rules.proofs.Admitting.{others, starts, state_legal}
use Rattle.orc_rules.proofs.Deciding.{prepared_of}
use Rattle.orc_rules.proofs.Devices.{told_history}
use Rattle.orc_rules.proofs.Entering.{All-at}
use Rattle.orc_rules.proofs.Fronts.{history_of-append}
use Rattle.orc_rules.proofs.Legality.{same_history}
use Rattle.orc_rules.proofs.Moves.{all_left}
use Rattle.orc_rules.proofs.Moving.{due_is, mends_now, op_is, order_is}
use Rattle.orc_rules.proofs.Reconciling.{all_heard}
use Rattle.orc_rules.proofs.Recording.{either, given_at, given_other}
use Rattle.orc_rules.proofs.Replying.{is_refused, mend_harmless, met_unrefused, unrefused_end}
use Rattle.orc_rules.proofs.Slots.{both_true, get_in, mends_not_free, slot_within, told_at, told_mends, took_there}
use Rattle.orc_rules.proofs.Telling.{find_there}
use Rattle.orc_rules.proofs.Tracking.{done_read, known_at, map_front, nil_front, read_by, stays_read}
use Rattle.orc_rules.proofs.Turning.{uncut_read}

-- a row that commits nothing leaves the history

settled_history : (entries : List Entry) (ts : List ℕ) → history_of (entries ++ map entry.Settled ts) ≡ history_of entries
settled_history entries [] = ap history_of (append-nil entries)
settled_history entries (t ∷ ts) =
    ap history_of (sym (append_assoc entries (entry.Settled t ∷ []) (map entry.Settled ts)))
    ∙ settled_history (entries ++ entry.Settled t ∷ []) ts ∙ same_history entries (entry.Settled t) refl

nothing_more : (entries front rest : List Entry) → [] ≡ front ++ rest → history_of (entries ++ front) ≡ history_of entries
nothing_more entries front rest is = ap (λ (l : List Entry). history_of (entries ++ l)) (nil_front front rest is) ∙ ap history_of (append-nil entries)

-- of one entry a prefix is nothing, or it
one_front : (P : List Entry → Type 0) (e : Entry) → P [] → P (e ∷ []) → (front rest : List Entry) → e ∷ [] ≡ front ++ rest → P front
one_front P e none some [] rest is = none
one_front P e none some (x ∷ front) rest is =
    subst P (ap (λ (y : Entry). y ∷ []) (head_is e x [] (front ++ rest) is) ∙ ap (λ (l : List Entry). x ∷ l) (sym (nil_front front rest (tail_is e x [] (front ++ rest) is)))) some
  where
    head_is : (a b : Entry) (xs ys : List Entry) → a ∷ xs ≡ b ∷ ys → a ≡ b
    head_is a b xs ys h = cc

    tail_is : (a b : Entry) (xs ys : List Entry) → a ∷ xs ≡ b ∷ ys → xs ≡ ys
    tail_is a b xs ys h = cc

not_below : (a b : ℕ) → (a < b → ⊥) → b ≤ a
not_below a b none = omega (arith, none)

not_more : (n m : ℕ) → nat_lt n m ≡ false → m ≤ n
not_more n m h = not_below n m (λ below. false≢true (sym h ∙ lt-ltb n m below))

-- prefixes of a history with a call more are prefixes of it, or all of it
front_more : (P : List Call → Type 0) (history : List Call) (call : Call) → ((count : ℕ) → P (take count history)) → P (history ++ call ∷ []) → (count : ℕ) → P (take count (history ++ call ∷ []))
front_more P history call fronts whole count = on (nat_lt (length history) count) refl
  where
    on : (b : Bool) → nat_lt (length history) count ≡ b → P (take count (history ++ call ∷ []))
    on true is =
        let more : length history < count = ltb-true (length history) count is in
        let long : length (history ++ call ∷ []) ≤ count = subst (λ (n : ℕ). n ≤ count) (sym (length-append history (call ∷ []))) (omega arith) in
        subst P (sym (take_all count (history ++ call ∷ []) long)) whole
    on false is = subst P (sym (take-append-le count history (call ∷ []) (not_more (length history) count is))) (fronts count)

-- a worker that stands prepared has that outcome
prepared_outcome : (o : Option Outcome) → agrees stage.Prepared o ≡ true → o ≡ Some outcome.Prepared
prepared_outcome None h = absurd (false≢true h)
prepared_outcome (Some outcome.Prepared) h = refl
prepared_outcome (Some (outcome.Refused tag)) h = absurd (false≢true h)
prepared_outcome (Some (outcome.Lost count)) h = absurd (false≢true h)
prepared_outcome (Some outcome.Short) h = absurd (false≢true h)
prepared_outcome (Some outcome.Confirmed) h = absurd (false≢true h)
prepared_outcome (Some outcome.Gone) h = absurd (false≢true h)
prepared_outcome (Some outcome.Cancelled) h = absurd (false≢true h)

none_one : (one : OpKind × Reply) → ◌≡◌ {A = Option (OpKind × Reply)} None (Some one) → ⊥
none_one one e = cc

-- where nothing is unheard and no failure was met
quiet_unrefused : (mends : Option (Option RecFault)) (duties : List Duty) (links : ℕ → Link) → ((device : ℕ) (tag : Tag) → mends ≡ Some (Some (fault.Refused device tag)) → ⊥)
    → ((device : ℕ) → (links device).unheard ≡ None) → IsNotRefused mends duties links
quiet_unrefused mends duties links met heard = record {
  met = met;
  unheard = λ device one mender e is other tag h. none_one one (sym (heard device) ∙ e);
}

none_met : (device : ℕ) (tag : Tag) → ◌≡◌ {A = Option RecFault} None (Some (fault.Refused device tag)) → ⊥
none_met device tag e = cc

not_mending : (device : ℕ) (tag : Tag) → ◌≡◌ {A = Option (Option RecFault)} None (Some (Some (fault.Refused device tag))) → ⊥
not_mending device tag e = cc

module _ {D : Type 0} (here : Setting D) (are_decls : AreDecls here.decls) (plans : PlanStands) (are : (device : ℕ) → IsOfHub (here.kinds device))
    (lawful : (device : ℕ) → IsLawful (here.kinds device) (over here.decls device)) (planning : Planning (over here.decls) (StandsAt here.decls) (FitAt here.decls) (ValidAt here.decls))
    (fit : (device : ℕ) → IsFitting (here.kinds device) (over here.decls device)) where
  -- under a hub that is up
  module _ (world : World D) (hub : Hub) (own : DevicesKept here.decls world) (up : world.hub ≡ Some hub)
      (known : HubKept here.decls (entries_read world.journal) (history_of (entries_read world.journal)) hub.active hub.waiting hub.given)
      (legal : IsLegal here.decls (history_of (entries_read world.journal))) (replies : RepliesKept here world) (kept : FrontsKept here world) where
    under : Attends here.decls own.shadow (entries_read world.journal) hub world.links
    under = own.under hub up

    net_kept : NetworkKept here.decls (network_of here.decls own.shadow (entries_read world.journal) (Some hub) world.nodes world.links)
    net_kept = subst (λ (h : Option Hub). NetworkKept here.decls (network_of here.decls own.shadow (entries_read world.journal) h world.nodes world.links)) up own.kept

    said : Replies here.decls here.kinds (history_of (entries_read world.journal)) hub.active hub.duties world.links
    said = replies.under hub up

    unrefused : IsNotRefused hub.mends hub.duties world.links
    unrefused = kept.under hub up

    abbrev Accepts : List Call → Type 0
    Accepts history = AcceptsFronts here.decls here.kinds history

    -- prefixes

    none_more : (front rest : List Entry) → [] ≡ front ++ rest → Accepts (history_of (entries_read world.journal ++ front))
    none_more front rest is = subst Accepts (sym (nothing_more (entries_read world.journal) front rest is)) kept.fronts

    quiet_entry : (e : Entry) → history_of (entries_read world.journal ++ e ∷ []) ≡ history_of (entries_read world.journal) → (front rest : List Entry) → e ∷ [] ≡ front ++ rest
        → Accepts (history_of (entries_read world.journal ++ front))
    quiet_entry e none front rest is =
        one_front (λ (l : List Entry). Accepts (history_of (entries_read world.journal ++ l))) e
        (subst Accepts (sym (ap history_of (append-nil (entries_read world.journal)))) kept.fronts) (subst Accepts (sym none) kept.fronts) front rest is

    module _ (place : ℕ) (it : Transaction) (there : slice_get hub.active place ≡ Some it) (due_now : is_decision_due hub.duties it ≡ true)
        (good : verdict hub.duties it.t it.plan.held.devices ≡ None)
        (valid : invalid here.decls.data_schema (data_after it.call.actions (state_of here.decls (history_of (entries_read world.journal))).data) ≡ None) where
      so : (is_preparing it.phase ≡ true) × (are_heard hub.duties it.t it.plan.held.devices ≡ true)
      so = both_true (is_preparing it.phase) (are_heard hub.duties it.t it.plan.held.devices) due_now

      state_is : lawful_state here.decls (told_by (entries_read world.journal)).history ≡ state_of here.decls (history_of (entries_read world.journal))
      state_is = ap (lawful_state here.decls) (told_history (entries_read world.journal)) ∙ state_legal here.decls (history_of (entries_read world.journal)) legal

      is_active : active_under (Some hub) it.t ≡ Some (plan_of it)
      is_active = ap (option_map plan_of) (find_there hub.active place it there so.0
          (λ place' other there' number. under.numbers place' place other it there' there number))

      -- a device of it accepts what is due with it
      named_accepts : (device : ℕ) → list_any (nat_eq device) it.plan.held.devices ≡ true
          → (here.kinds device).accepts (over here.decls device (history_of (entries_read world.journal) ++ it.call ∷ [])) ≡ true
      named_accepts device named =
          let w = prepared_of here.decls own.shadow (entries_read world.journal) hub.active hub.duties hub.stale hub.mends world.links under place it there so.0 so.1 good device named in
          subst (λ (o : Option Outcome). Tells o ((here.kinds device).accepts (over here.decls device (history_of (entries_read world.journal) ++ it.call ∷ []))))
          (prepared_outcome w.0.outcome (ap (λ (st : Stage). agrees st w.0.outcome) (sym w.3) ∙ under.agree device w.0 w.1))
          (said.tells place it there so.0 device w.0 named
          (ap (λ (u : Option (OpKind × Reply)). then_heard u (world.links device).faults (duty_on hub.duties device)) (none_unheard device w.0 w.1 w.3) ∙ w.1) w.2)
        where
          none_unheard : (x : ℕ) (worker : Worker) → duty_on hub.duties x ≡ duty.Works worker → worker.stage ≡ stage.Prepared → (world.links x).unheard ≡ None
          none_unheard x worker is at = on (world.links x).unheard refl
            where
              on : (u : Option (OpKind × Reply)) → (world.links x).unheard ≡ u → (world.links x).unheard ≡ None
              on None e = e
              on (Some one) e = absurd (false≢true (sym (ap is_due at) ∙ sym (ap is_busy is) ∙ under.due x one e))

      -- and on another one it is what was due
      unnamed_accepts : (device : ℕ) → list_any (nat_eq device) it.plan.held.devices ≡ false
          → (here.kinds device).accepts (over here.decls device (history_of (entries_read world.journal) ++ it.call ∷ [])) ≡ true
      unnamed_accepts device unnamed =
          ap (here.kinds device).accepts
          (subst (λ (calls : List Call). over here.decls device (calls ++ it.call ∷ []) ≡ over here.decls device calls) (told_history (entries_read world.journal))
          (planning.frame (told_by (entries_read world.journal)).history (plan_of it) device (net_kept.stands it.t (plan_of it) is_active)
          (ap (λ (s : Datastore). invalid here.decls.data_schema (data_after it.call.actions s.data)) state_is ∙ valid) unnamed))
          ∙ ap (λ (calls : List Call). (here.kinds device).accepts (over here.decls device calls)) (sym (take-length (history_of (entries_read world.journal))))
          ∙ kept.fronts (length (history_of (entries_read world.journal))) device

      decided_accepts : Accepts (history_of (entries_read world.journal) ++ it.call ∷ [])
      decided_accepts count device =
          front_more (λ (calls : List Call). (here.kinds device).accepts (over here.decls device calls) ≡ true) (history_of (entries_read world.journal)) it.call (λ n. kept.fronts n device)
          (whole (list_any (nat_eq device) it.plan.held.devices) refl) count
        where
          whole : (b : Bool) → list_any (nat_eq device) it.plan.held.devices ≡ b
              → (here.kinds device).accepts (over here.decls device (history_of (entries_read world.journal) ++ it.call ∷ [])) ≡ true
          whole true named = named_accepts device named
          whole false unnamed = unnamed_accepts device unnamed

      decide_accepts : (front rest : List Entry) → entry.Decide it.t ∷ [] ≡ front ++ rest → Accepts (history_of (entries_read world.journal ++ front))
      decide_accepts front rest is =
          one_front (λ (l : List Entry). Accepts (history_of (entries_read world.journal ++ l))) (entry.Decide it.t)
          (subst Accepts (sym (ap history_of (append-nil (entries_read world.journal)))) kept.fronts)
          (subst Accepts (sym (history_of-append (entries_read world.journal) (entry.Decide it.t)
          ∙ ap (λ (o : Option Call). history_of (entries_read world.journal) ++ as_calls o) (known.intents place it there so.0).call)) decided_accepts) front rest is

    -- of what was appended a read may give a prefix
    pub does_fronts : (meant : Event) (row : List Entry) (next : World D) → DoesUnderHub here world hub meant row next → (front rest : List Entry) → row ≡ front ++ rest
        → Accepts (history_of (entries_read world.journal ++ front))
    does_fronts meant row next (DoesUnderHub.admits place it sets there first idle passes fresh) front rest is =
        quiet_entry (intent_entry it) (same_history (entries_read world.journal) (intent_entry it) refl) front rest is
    does_fronts meant row next (DoesUnderHub.commits place it there least due_now prepared valid) front rest is = decide_accepts place it there due_now prepared valid front rest is
    does_fronts meant row next (DoesUnderHub.aborts place it answer there least due_now why) front rest is =
        quiet_entry (entry.Abort it.t) (same_history (entries_read world.journal) (entry.Abort it.t) refl) front rest is
    does_fronts meant row next (DoesUnderHub.settles place it there least settling) front rest is =
        quiet_entry (entry.Settled it.t) (same_history (entries_read world.journal) (entry.Settled it.t) refl) front rest is
    does_fronts meant row next (DoesUnderHub.mended numbers met busy heard unsettled) front rest is =
        let some = map_front entry.Settled numbers front rest is in
        subst Accepts (sym (ap (λ (l : List Entry). history_of (entries_read world.journal ++ l)) some.1 ∙ settled_history (entries_read world.journal) some.0)) kept.fronts
    does_fronts meant row next does front rest is = none_more front rest is

    -- reconciliations

    -- an operation of a mender is performed
    module _ (device : ℕ) (op : Op) (happened : Way) (order : order_on hub device ≡ Some op) (unheard : (world.links device).unheard ≡ None)
        (possible : MayHappen (here.kinds device) (world.nodes device) (world.links device).session op happened) (listed : List (OpKind × When)) where
      abbrev r : Reply
      r = way_reply (world.nodes device) op happened

      abbrev link' : Link
      link' = link_behind listed (world.links device) (way_session (world.nodes device) (world.links device).session op happened) op happened r

      abbrev c : Cell Call
      c = cell (over here.decls) (network_of here.decls own.shadow (entries_read world.journal) (Some hub) world.nodes world.links) device

      abbrev place_now : ℕ → Option ℕ
      place_now = (told_by (entries_read world.journal)).place

      abbrev due_here : Config
      due_here = over here.decls device (told_by (entries_read world.journal)).history

      module _ (mender : MenderState) (is : duty_on hub.duties device ≡ duty.Mends mender) where
        order_now : duty_order (duty.Mends mender) ≡ Some op
        order_now = ap duty_order (sym is) ∙ sym (order_is hub device) ∙ order

        within : nat_lt device (length here.decls.names) ≡ true
        within = sym (ap (λ (n : ℕ). nat_lt device n) under.duties_sized) ∙ slot_within hub.duties device (duty.Mends mender) is (mends_not_free mender)

        opened_before : (m : Mend) → mender ≡ mender_of place_now due_here m → mends_in_session (mender_of place_now due_here m).stage ≡ true → nat_eq (world.links device).session 0 ≡ false
        opened_before m stands h = said.opened device
            (ap has_session (ap (λ (u : Option (OpKind × Reply)). then_heard u (world.links device).faults (duty_on hub.duties device)) unheard ∙ is)
            ∙ ap (λ (n : MenderState). mends_in_session n.stage) stands ∙ h)

        fine : (m : Mend) → mender ≡ mender_of place_now due_here m → (other : ℕ) (tag : Tag) → mend_fault device (mender_end mender r link'.faults) ≡ Some (fault.Refused other tag) → ⊥
        fine m stands =
            let slot = get_in hub.stale device (length here.decls.names) under.stale_sized within in
            let op_here : role_order (here.kinds device) place_now due_here m ≡ op =
            op_is here.decls here.kinds are lawful planning own.shadow (entries_read world.journal) hub world.nodes world.links device op happened unheard possible listed net_kept
            mender m is stands order_now slot.0 slot.1 in
            let facts : MendFacts (over here.decls device) c m =
            (subst (λ (role : DeviceRole Call). RoleFacts (over here.decls device) c role)
            (mends_now here.decls here.kinds are lawful planning own.shadow (entries_read world.journal) hub world.nodes world.links device op happened unheard possible listed net_kept
            mender m is stands order_now slot.0 slot.1) (net_kept.each device).role).1 in
            let may : MayHappen (here.kinds device) (world.nodes device) (world.links device).session (role_order (here.kinds device) place_now due_here m) happened =
            subst (λ (x : Op). MayHappen (here.kinds device) (world.nodes device) (world.links device).session x happened) (sym op_here) possible in
            met_unrefused device (mender_end mender r link'.faults)
            (ap (λ (n : MenderState). is_refused (mender_end n r link'.faults)) stands
            ∙ ap (λ (x : Op). is_refused (mender_end (mender_of place_now due_here m) (way_reply (world.nodes device) x happened) link'.faults)) (sym op_here)
            ∙ unrefused_end (here.kinds device) (over here.decls device) (fit device) c (net_kept.each device) place_now due_here m happened link'.faults
            (λ tag denied. mend_harmless (here.kinds device) (over here.decls device) (fit device) c (net_kept.each device) m tag
            (λ n. subst (λ (calls : List Call). (here.kinds device).accepts (over here.decls device (take n calls)) ≡ true) (sym (told_history (entries_read world.journal))) (kept.fronts n device))
            facts (opened_before m stands)
            (subst (λ (w : Way). MayHappen (here.kinds device) (world.nodes device) (world.links device).session (role_order (here.kinds device) place_now due_here m) w) denied may)))

        mender_fine : (other : ℕ) (tag : Tag) → mend_fault device (mender_end mender r link'.faults) ≡ Some (fault.Refused other tag) → ⊥
        mender_fine = at hub.mends refl
          where
            stood : IsMenderOf here.decls (entries_read world.journal) device mender → (other : ℕ) (tag : Tag) → mend_fault device (mender_end mender r link'.faults) ≡ Some (fault.Refused other tag) → ⊥
            stood (inl ended) other tag h = let no : ◌≡◌ {A = Option Op} None (Some op) = sym (ap (λ s. mend_order differences mender.left mender.due s) ended) ∙ order_now in cc
            stood (inr stands) other tag h = fine stands.0 stands.1 other tag h

            at : (m : Option (Option RecFault)) → hub.mends ≡ m → (other : ℕ) (tag : Tag) → mend_fault device (mender_end mender r link'.faults) ≡ Some (fault.Refused other tag) → ⊥
            at None e other tag h =
                subst (λ (n : Option (Option RecFault)). MendingKept here.decls (entries_read world.journal) hub.active hub.duties hub.stale n) e under.mending device mender is
            at (Some met) e other tag h =
                let mending : AreMending here.decls (entries_read world.journal) hub.active hub.duties hub.stale met =
                subst (λ (n : Option (Option RecFault)). MendingKept here.decls (entries_read world.journal) hub.active hub.duties hub.stale n) e under.mending in
                stood (mending.stand device mender is) other tag h

      performs_unrefused : IsNotRefused hub.mends hub.duties (updated_at world.links device link')
      performs_unrefused = record {
        met = unrefused.met;
        unheard = λ x one mender e is other tag h. elim (either device x) [
          | inl s ↦ here_fine x s one mender e is other tag h
          | inr ne ↦ unrefused.unheard x one mender (sym (ap (λ (l : Link). l.unheard) (given_other world.links device link' x ne)) ∙ e) is other tag
              (ap (λ (l : Link). mend_fault x (mender_end mender one.1 l.faults)) (sym (given_other world.links device link' x ne)) ∙ h)
        ];
      }
        where
          here_fine : (x : ℕ) → device ≡ x → (one : OpKind × Reply) (mender : MenderState) → (updated_at world.links device link' x).unheard ≡ Some one → duty_on hub.duties x ≡ duty.Mends mender
              → (other : ℕ) (tag : Tag) → mend_fault x (mender_end mender one.1 (updated_at world.links device link' x).faults) ≡ Some (fault.Refused other tag) → ⊥
          here_fine x s one mender e is other tag h =
              let link_is : updated_at world.links device link' x ≡ link' = sym (ap (updated_at world.links device link') s) ∙ given_at world.links device link' in
              let one_is : (kind_of_op op, r) ≡ one = same_Some (kind_of_op op, r) one (ap (λ (l : Link). l.unheard) (sym link_is) ∙ e) in
              mender_fine mender (ap (duty_on hub.duties) s ∙ is) other tag
              (ap (λ (y : ℕ). mend_fault y (mender_end mender r link'.faults)) s
              ∙ ap (λ (y : OpKind × Reply). mend_fault x (mender_end mender y.1 link'.faults)) one_is
              ∙ ap (λ (l : Link). mend_fault x (mender_end mender one.1 l.faults)) (sym link_is) ∙ h)

    -- a decision is told
    told_unrefused : (t : ℕ) (commit : Bool) → IsNotRefused hub.mends (map (duty_told t commit) hub.duties) world.links
    told_unrefused t commit = record {
      met = unrefused.met;
      unheard = λ device one mender e is. unrefused.unheard device one mender e (told_mends t commit (duty_on hub.duties device) mender (sym (told_at t commit device hub.duties) ∙ is));
    }

    -- a reply is heard
    report_unrefused : (device : ℕ) (op : OpKind) (r : Reply) → (world.links device).unheard ≡ Some (op, r)
        → IsNotRefused (option_map (λ met. option_or met (mend_fault device (duty_end (duty_on hub.duties device) r (world.links device).faults))) hub.mends)
        (with_changed (λ duty. duty_took duty r (world.links device).faults) device hub.duties) (updated_at world.links device (record (world.links device) { unheard = None }))
    report_unrefused device op r unheard = record {
      met = λ d tag e. met hub.mends refl d tag e;
      unheard = λ x one mender e is other tag h. elim (either device x) [
        | inl s ↦ none_one one (sym (ap (λ (l : Link). l.unheard) (given_at world.links device link'))
            ∙ ap (λ (y : ℕ). (updated_at world.links device link' y).unheard) s ∙ e)
        | inr ne ↦ unrefused.unheard x one mender (sym (ap (λ (l : Link). l.unheard) (given_other world.links device link' x ne)) ∙ e)
            (sym (took_there r (world.links device).faults device x hub.duties ne) ∙ is) other tag
            (ap (λ (l : Link). mend_fault x (mender_end mender one.1 l.faults)) (sym (given_other world.links device link' x ne)) ∙ h)
      ];
    }
      where
        link' : Link
        link' = record (world.links device) { unheard = None }

        ended : (on : Duty) → duty_on hub.duties device ≡ on → (d : ℕ) (tag : Tag) → mend_fault device (duty_end on r (world.links device).faults) ≡ Some (fault.Refused d tag) → ⊥
        ended duty.Free is d tag h = cc
        ended (duty.Works worker) is d tag h = cc
        ended (duty.Mends mender) is d tag h = unrefused.unheard device (op, r) mender unheard is d tag h

        met : (m : Option (Option RecFault)) → hub.mends ≡ m → (d : ℕ) (tag : Tag)
            → option_map (λ x. option_or x (mend_fault device (duty_end (duty_on hub.duties device) r (world.links device).faults))) m ≡ Some (Some (fault.Refused d tag)) → ⊥
        met None is d tag e = not_mending d tag e
        met (Some None) is d tag e =
            ended (duty_on hub.duties device) refl d tag
            (same_Some (mend_fault device (duty_end (duty_on hub.duties device) r (world.links device).faults)) (Some (fault.Refused d tag)) e)
        met (Some (Some x)) is d tag e = unrefused.met d tag (is ∙ e)

    to : (x : Hub) (links : ℕ → Link) (hub' : Hub) → Some x ≡ Some hub' → IsNotRefused x.mends x.duties links → IsNotRefused hub'.mends hub'.duties links
    to x links hub' e h = subst (λ (y : Hub). IsNotRefused y.mends y.duties links) (same_Some x hub' e) h

    pub does_unrefused : (meant : Event) (row : List Entry) (next : World D) → DoesUnderHub here world hub meant row next → (hub' : Hub) → next.hub ≡ Some hub'
        → IsNotRefused hub'.mends hub'.duties next.links
    does_unrefused meant row next (DoesUnderHub.begins caller) hub' is = to hub world.links hub' (sym up ∙ is) unrefused
    does_unrefused meant row next (DoesUnderHub.answers call front answer asked snap why keeps) hub' is = to _ world.links hub' is (record { met = unrefused.met; unheard = unrefused.unheard })
    does_unrefused meant row next (DoesUnderHub.queues it front snap same_front lawful' closed apart new within made number slot) hub' is =
        to _ world.links hub' is (record { met = unrefused.met; unheard = unrefused.unheard })
    does_unrefused meant row next (DoesUnderHub.turns_away place it answer there first idle why) hub' is = to _ world.links hub' is (record { met = unrefused.met; unheard = unrefused.unheard })
    does_unrefused meant row next (DoesUnderHub.admits place it sets there first idle passes fresh) hub' is =
        to _ world.links hub' is (record { met = unrefused.met; unheard = λ device one mender e mends. started device one mender e mends (list_any (nat_eq device) it.plan.held.devices) refl })
      where
        one_is : first.it ≡ it
        one_is = same_Some first.it it (sym first.fits.there ∙ there)

        unused : IsUnnamed (entries_read world.journal) it.t
        unused = All-at (λ (one : Waiting). IsUnnamed (entries_read world.journal) one.t) hub.waiting place it known.unused there

        waits : IsWaiting here.decls (history_of (entries_read world.journal)) it
        waits = All-at (IsWaiting here.decls (history_of (entries_read world.journal))) hub.waiting place it known.waits there

        fits : All (λ other. FitTogether it.plan.held other.plan.held) hub.active
        fits = subst (λ (w : Waiting). All (λ (other : Transaction). FitTogether w.plan.held other.plan.held) hub.active) one_is first.fits.active_ones

        started : (device : ℕ) (one : OpKind × Reply) (mender : MenderState) → (world.links device).unheard ≡ Some one → duty_on (starts_with it.t sets hub.duties) device ≡ duty.Mends mender
            → (b : Bool) → list_any (nat_eq device) it.plan.held.devices ≡ b
            → (other : ℕ) (tag : Tag) → mend_fault device (mender_end mender one.1 (world.links device).faults) ≡ Some (fault.Refused other tag) → ⊥
        started device one mender e mends true named other tag h =
            let s = starts here.decls are_decls plans here.kinds are lawful planning own.shadow (entries_read world.journal) hub world.nodes world.links under net_kept known.admitted legal
            it sets (length (history_read world.journal)) unused idle fits passes waits.lawful fresh device named in
            let no : duty.Works (new_worker it.t s.set) ≡ duty.Mends mender = sym s.is ∙ mends in cc
        started device one mender e mends false unnamed other tag h =
            unrefused.unheard device one mender e
            (sym (others here.decls are_decls plans here.kinds are lawful planning own.shadow (entries_read world.journal) hub world.nodes world.links under net_kept known.admitted legal
            it sets (length (history_read world.journal)) unused idle fits passes waits.lawful fresh device unnamed) ∙ mends) other tag h
    does_unrefused meant row next (DoesUnderHub.performs device op happened due_now unheard possible way) hub' is =
        to hub _ hub' (sym up ∙ is) (performs_unrefused device op happened (due_is hub device op due_now) unheard (may_happen (here.kinds device) (world.nodes device) (world.links device).session op happened possible) (without_first (kind_of_op op) (world.links device).listed))
    does_unrefused meant row next (DoesUnderHub.leaves_unsent device changes due unheard) hub' is =
        to hub _ hub' (sym up ∙ is) (performs_unrefused device (op.Edit changes) way.NoMemory (due_is hub device (op.Edit changes) due) unheard (refl, tt) (world.links device).listed)
    does_unrefused meant row next (DoesUnderHub.reports device op reply unheard) hub' is = to _ _ hub' is (report_unrefused device op reply unheard)
    does_unrefused meant row next (DoesUnderHub.commits place it there least due_now prepared valid) hub' is = to _ world.links hub' is (told_unrefused it.t true)
    does_unrefused meant row next (DoesUnderHub.aborts place it answer there least due_now why) hub' is = to _ world.links hub' is (told_unrefused it.t false)
    does_unrefused meant row next (DoesUnderHub.settles place it there least settling) hub' is = to _ world.links hub' is (record { met = unrefused.met; unheard = unrefused.unheard })
    does_unrefused meant row next DoesUnderHub.stops hub' is = absurd (let no : ◌≡◌ {A = Option Hub} None (Some hub') = is in cc)
    does_unrefused meant row next (DoesUnderHub.mends numbers idle unsettled) hub' is =
        to _ world.links hub' is (quiet_unrefused (Some None) _ world.links (λ device tag e. none_met device tag (same_Some None (Some (fault.Refused device tag)) e))
        (all_heard here.decls own.shadow (entries_read world.journal) hub.active hub.duties hub.stale hub.mends world.links under
        (λ place it there. ap is_under_way (all_left hub.active idle.1 place it there))
        (subst (λ (m : Option (Option RecFault)). MendingKept here.decls (entries_read world.journal) hub.active hub.duties hub.stale m) idle.2 under.mending)))
    does_unrefused meant row next (DoesUnderHub.mended numbers met busy heard unsettled) hub' is = to _ world.links hub' is (quiet_unrefused None _ world.links not_mending heard)
    does_unrefused meant row next (DoesUnderHub.finds_no_memory met busy heard) hub' is = to _ world.links hub' is (quiet_unrefused None _ world.links not_mending heard)
    does_unrefused meant row next (DoesUnderHub.fails_to_mend met failed heard) hub' is = to _ world.links hub' is (quiet_unrefused None _ world.links not_mending heard)

  -- each turn

  no_hub : (new like : World D) → new ≡ like → like.hub ≡ None → AcceptsFronts here.decls here.kinds (history_read new.journal) → FrontsKept here new
  no_hub new like is none fronts = record {
    fronts = fronts;
    under = λ hub e. absurd (let no : ◌≡◌ {A = Option Hub} None (Some hub) = sym none ∙ sym (ap (λ (w : World D). w.hub) is) ∙ e in cc);
  }

  -- after an append that wasn't done
  cut_fronts : (old new : World D) (hub : Hub) (meant : Event) (row : List Entry) (next : World D) (out : Appended) → HistoryKept here old → DevicesKept here.decls old → RepliesKept here old
      → FrontsKept here old → old.hub ≡ Some hub → DoesUnderHub here old hub meant row next → AppendsRow here.disk here.decls.text here.limit old.journal row out new.journal
      → AcceptsFronts here.decls here.kinds (history_read new.journal)
  cut_fronts old new hub meant row next out kept own replies fronts up does appends =
      let known = known_at here are_decls plans are lawful planning old hub kept up in
      let r = read_by here old.journal new.journal row out appends in
      subst (λ (es : List Entry). AcceptsFronts here.decls here.kinds (history_of es)) (sym r.read)
      (does_fronts old hub own up known.0 known.1 replies fronts meant row next does r.front r.rest r.parts)

  pub steps_fronts : (old new : World D) (meant : Event) (seen : Option Event) → HistoryKept here old → DevicesKept here.decls old → RepliesKept here old → FrontsKept here old
      → Steps here old meant seen new → FrontsKept here new
  steps_fronts old new meant seen kept own replies fronts (Steps.done hub row next _ up does appends is) =
      let known = known_at here are_decls plans are lawful planning old hub kept up in
      let read = done_read here are_decls plans are lawful planning old.journal new.journal row appends in
      subst (λ (w : World D). FrontsKept here w) (sym is) (record {
        fronts = subst (λ (es : List Entry). AcceptsFronts here.decls here.kinds (history_of es)) read
            (does_fronts old hub own up known.0 known.1 replies fronts meant row next does row [] (sym (append-nil row)));
        under = does_unrefused old hub own up known.0 known.1 replies fronts meant row next does;
      })
  steps_fronts old new meant seen kept own replies fronts (Steps.cut hub row next _ up does appends is) =
      no_hub new _ is refl (cut_fronts old new hub meant row next appended.Stopped kept own replies fronts up does appends)
  steps_fronts old new meant seen kept own replies fronts (Steps.failed hub row next _ up does appends is) =
      no_hub new _ is refl (cut_fronts old new hub meant row next appended.Failed kept own replies fronts up does appends)
  steps_fronts old new meant seen kept own replies fronts (Steps.full hub row next len _ up does appends is) =
      no_hub new _ is refl (cut_fronts old new hub meant row next (appended.Full len) kept own replies fronts up does appends)
  steps_fronts old new meant seen kept own replies fronts (Steps.anyway _ (DoesAnyway.ticks seconds)) = record { fronts = fronts.fronts; under = fronts.under }
  steps_fronts old new meant seen kept own replies fronts (Steps.anyway _ (DoesAnyway.restarts device)) = record { fronts = fronts.fronts; under = fronts.under }
  steps_fronts old new meant seen kept own replies fronts (Steps.anyway _ (DoesAnyway.answers_down call front down)) = fronts
  steps_fronts old new meant seen kept own replies fronts (Steps.unopened _ down recover stays is) =
      no_hub new _ is down (subst (λ (es : List Entry). AcceptsFronts here.decls here.kinds (history_of es)) (stays_read here old.journal new.journal stays) fronts.fronts)
  steps_fronts old new meant seen kept own replies fronts (Steps.recovers _ down recover reopens is) =
      subst (λ (w : World D). FrontsKept here w) (sym is) (record {
        fronts = subst (λ (es : List Entry). AcceptsFronts here.decls here.kinds (history_of es)) (sym (uncut_read new.journal reopens.cut ∙ reopens.synced kept.journal.read_back)) fronts.fronts;
        under = λ hub e. subst (λ (x : Hub). IsNotRefused x.mends x.duties old.links) (same_Some _ hub e) (quiet_unrefused None _ old.links not_mending (own.silent down));
      })

  -- no reconciliation is seen to be refused
  pub steps_unrefused : (old new : World D) (meant : Event) (seen : Option Event) → FrontsKept here old → Steps here old meant seen new → (device : ℕ) (tag : Tag)
      → seen ≡ Some (event.Reconcile (Some (Err (fault.Refused device tag)))) → ⊥
  steps_unrefused old new meant seen fronts (Steps.done hub row next _ up does appends is) device tag e =
      by_row meant row next does (λ d t h. (fronts.under hub up).met d t h) device tag e
    where
      by_row : (m : Event) (es : List Entry) (behind : World D) → DoesUnderHub here old hub m es behind → ((d : ℕ) (t : Tag) → hub.mends ≡ Some (Some (fault.Refused d t)) → ⊥)
          → (d : ℕ) (t : Tag) → Some m ≡ Some (event.Reconcile (Some (Err (fault.Refused d t)))) → ⊥
      by_row m es behind (DoesUnderHub.fails_to_mend met failed heard) none d t h =
          let same : met ≡ fault.Refused d t = cc in none d t (failed ∙ ap (λ (f : RecFault). Some (Some f)) same)
      by_row m es behind does' none d t h = cc
  steps_unrefused old new meant seen fronts (Steps.cut hub row next _ up does appends is) device tag e = cc
  steps_unrefused old new meant seen fronts (Steps.failed hub row next _ up does appends is) device tag e = failing meant device tag e
    where
      failing : (m : Event) (d : ℕ) (t : Tag) → seen_failing m ≡ Some (event.Reconcile (Some (Err (fault.Refused d t)))) → ⊥
      failing (event.Admit n said) d t h = cc
      failing (event.Decide n said) d t h = cc
      failing (event.Reconcile result) d t h = cc
      failing other d t h = cc
  steps_unrefused old new meant seen fronts (Steps.full hub row next len _ up does appends is) device tag e = cc
  steps_unrefused old new meant seen fronts (Steps.anyway _ (DoesAnyway.ticks seconds)) device tag e = cc
  steps_unrefused old new meant seen fronts (Steps.anyway _ (DoesAnyway.restarts d)) device tag e = cc
  steps_unrefused old new meant seen fronts (Steps.anyway _ (DoesAnyway.answers_down call front down)) device tag e = cc
  steps_unrefused old new meant seen fronts (Steps.unopened _ down recover stays is) device tag e = cc
  steps_unrefused old new meant seen fronts (Steps.recovers _ down recover reopens is) device tag e =
      let no : event.Recover ≡ event.Reconcile (Some (Err (fault.Refused device tag))) = sym recover ∙ same_Some meant (event.Reconcile (Some (Err (fault.Refused device tag)))) e in cc
