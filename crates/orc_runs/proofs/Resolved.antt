-- No confirmed commit is cancelled that is decided, and none confirmed that isn't.
use Rattle.std.proofs.Common.{[], ◌≡◌, ◌≢◌, ◌⊎◌, inl, inr, ℕ, Bool, true, false, Option, Some, None, List, ◌∷◌, ◌++◌, refl, sym, ap, subst, ◌∙◌}
use Rattle.std.specs.Prelude.{length, nat_lt}
use Rattle.std.proofs.lemmas.Option.{same_Some}
use Rattle.orc_call.specs.declared.answer.RecFault.{RecFault}
use Rattle.orc_call.specs.declared.call.Call.{Call}
use Rattle.orc_device.specs.Links.{Way, Possible}
use Rattle.orc_rules.proofs.NodeLaws.{may_happen}
use Rattle.orc_rules.specs.Cells.{MayHappen}
use Rattle.orc_device.specs.declared.kind.OpKind.{OpKind}
use Rattle.orc_device.specs.declared.op.Op.{Op}
use Rattle.orc_device.specs.declared.op.Op.TheVariants as op
use Rattle.orc_device.specs.declared.reply.Mark.{Mark}
use Rattle.orc_journal.specs.declared.entry.Entry.{Entry}
use Rattle.orc_recover.specs.Menders.{MenderState, differences, mend_order}
use Rattle.orc_worker.specs.declared.worker.Worker.{Worker}
use Rattle.orc_rules.specs.Cells.{Cell, DeviceRole, due_op}
use Rattle.orc_rules.specs.Cells.DeviceRole.{Mends}
use Rattle.orc_rules.specs.Duties.{duty_order}
use Rattle.orc_rules.specs.Events.{DoesAnyway, DoesUnderHub, Steps, seen_failing}
use Rattle.orc_rules.specs.Hubs.{Hub, due_on, duty_on, order_on}
use Rattle.orc_rules.specs.Invariant.{IsLawful, RoleFacts}
use Rattle.orc_rules.specs.Journals.{entries_read, history_read}
use Rattle.orc_rules.specs.Kept.{FitAt, NetworkKept, StandsAt, ValidAt, network_of, role_on}
use Rattle.orc_rules.specs.Network.{Noted, Planning, cell, intent_seen, seen_plan}
use Rattle.orc_rules.specs.Told.{told_by}
use Rattle.orc_rules.specs.UnderHub.{AreMending, Attends, DevicesKept, IsMenderOf, IsOfHub, MendingKept}
use Rattle.orc_rules.specs.Worlds.{Setting, World, over}
use Rattle.orc_rules.specs.declared.duty.Duty.{Duty}
use Rattle.orc_rules.specs.declared.duty.Duty.TheVariants as duty
use Rattle.orc_rules.specs.declared.event.Event.{Event}
use Rattle.orc_rules.specs.declared.event.Event.TheVariants as event
use Rattle.orc_rules.proofs.Courses.{order_due}
use Rattle.orc_rules.proofs.Moving.{due_is, mends_now, op_is, order_here, order_is, works_now}
use Rattle.orc_rules.proofs.Devices.{told_history}
use Rattle.orc_rules.proofs.Promises.{cancel_undecided, confirm_decided, edit_is_exact, prepares_undecided}
use Rattle.orc_rules.specs.Works.{Intent}
use Rattle.orc_decls.specs.declared.declarations.Decls.{Decls}
use Rattle.orc_path.specs.Configurations.{Config}
use Rattle.orc_tree.specs.declared.change.ChangeSet.{ChangeSet}
use Rattle.orc_runs.specs.Headline.{IsDueOn, IsExactEdit}
use Rattle.orc_rules.proofs.Slots.{get_in, mends_not_free, slot_within}

-- A device that was given the operation: what the journal has of the transaction that it names, and what an Edit changes.
pub record ResolvesSo {D : Type 0} (decls : Decls) (world : World D) (device : ℕ) (one : Op) : Type 0 where
  pub cancels : (t : ℕ) → one ≡ op.Cancel t → (told_by (entries_read world.journal)).place t ≡ None
  pub confirms : (t : ℕ) → one ≡ op.Confirm t → (n : ℕ) × ((told_by (entries_read world.journal)).place t ≡ Some n)
  pub prepares : (t seconds : ℕ) → one ≡ op.CommitConfirmed t seconds → (told_by (entries_read world.journal)).place t ≡ None
  pub intends : (t seconds : ℕ) → one ≡ op.CommitConfirmed t seconds → (told_by (entries_read world.journal)).intents t ≢ None
  pub edits : (set : ChangeSet) → one ≡ op.Edit set → IsExactEdit decls world device set

module _ {D : Type 0} (here : Setting D) (kinds : (device : ℕ) → IsOfHub (here.kinds device)) (lawful : (device : ℕ) → IsLawful (here.kinds device) (over here.decls device))
    (planning : Planning (over here.decls) (StandsAt here.decls) (FitAt here.decls) (ValidAt here.decls)) where
  module _ (world : World D) (hub : Hub) (up : world.hub ≡ Some hub) (own : DevicesKept here.decls world) (device : ℕ) (one : Op) (happened : Way) (order : order_on hub device ≡ Some one)
      (unheard : (world.links device).unheard ≡ None) (possible : Possible (here.kinds device) (world.nodes device) (world.links device).session one happened) where
    abbrev under : Attends here.decls own.shadow (entries_read world.journal) hub world.links
    under = own.under hub up

    may : MayHappen (here.kinds device) (world.nodes device) (world.links device).session one happened
    may = may_happen (here.kinds device) (world.nodes device) (world.links device).session one happened possible

    net_kept : NetworkKept here.decls (network_of here.decls own.shadow (entries_read world.journal) (Some hub) world.nodes world.links)
    net_kept = subst (λ (h : Option Hub). NetworkKept here.decls (network_of here.decls own.shadow (entries_read world.journal) h world.nodes world.links)) up own.kept

    abbrev c : Cell Call
    c = cell (over here.decls) (network_of here.decls own.shadow (entries_read world.journal) (Some hub) world.nodes world.links) device

    by_role : (r : DeviceRole Call) → role_on here.decls own.shadow (entries_read world.journal) (Some hub) device (world.links device) ≡ r
        → due_op (here.kinds device) (over here.decls device) c r ≡ Some one → ResolvesSo here.decls world device one
    by_role r is due =
        record {
          cancels = λ t cancels. cancel_undecided (here.kinds device) (over here.decls device) c r t facts (due ∙ ap (λ (o : Op). Some o) cancels);
          confirms = λ t confirms. confirm_decided (here.kinds device) (over here.decls device) c r t facts (due ∙ ap (λ (o : Op). Some o) confirms);
          prepares = λ t seconds prepares. (prepares_undecided (here.kinds device) (over here.decls device) c r t seconds facts (due ∙ ap (λ (o : Op). Some o) prepares)).0;
          intends = λ t seconds prepares none. let open_in = (prepares_undecided (here.kinds device) (over here.decls device) c r t seconds facts (due ∙ ap (λ (o : Op). Some o) prepares)).1 in
              unseen t open_in.0 none open_in.1;
          edits = λ set edits. let exact = edit_is_exact (here.kinds device) (over here.decls device) c r set facts (due ∙ ap (λ (o : Op). Some o) edits) in record {
            target = exact.0;
            set_is = exact.1 ∙ ap (λ (f : Config → Config → ChangeSet). f (world.nodes device).running exact.0) (kinds device).between;
            due = by_due exact.0 exact.2;
          };
        }
      where
        facts : RoleFacts (over here.decls device) c r
        facts = subst (λ (x : DeviceRole Call). RoleFacts (over here.decls device) c x) is (net_kept.each device).role

        -- an intent that the device has is one of the journal
        unseen : (t : ℕ) (o : Intent Call) → (told_by (entries_read world.journal)).intents t ≡ None
            → intent_seen (over here.decls device) device t ((told_by (entries_read world.journal)).intents t) ≡ Some o → ⊥
        unseen t o none seen =
            let no : ◌≡◌ {A = Option (Intent Call)} None (Some o) = sym (ap (intent_seen (over here.decls device) device t) none) ∙ seen in cc

        read_is : (told_by (entries_read world.journal)).history ≡ history_read world.journal
        read_is = told_history (entries_read world.journal)

        with_call : (target : Config) (o : Intent Call) → target ≡ over here.decls device ((told_by (entries_read world.journal)).history ++ o.call ∷ []) → (n : Option (Noted Call))
            → (told_by (entries_read world.journal)).intents o.t ≡ n → intent_seen (over here.decls device) device o.t n ≡ Some o → IsDueOn here.decls world device target
        with_call target o same None at seen = absurd (let no : ◌≡◌ {A = Option (Intent Call)} None (Some o) = seen in cc)
        with_call target o same (Some noted) at seen = named (noted.plan.names device) refl seen
          where
            named : (b : Bool) → noted.plan.names device ≡ b → seen_plan (over here.decls device) o.t noted b ≡ Some o → IsDueOn here.decls world device target
            named true names e =
                let call_is : noted.plan.call ≡ o.call = ap (λ (p : Intent Call). p.call) (same_Some _ o e) in
                inr (
                  o.t,
                  noted,
                  at,
                  names,
                  same ∙ ap (λ (h : List Call). over here.decls device (h ++ o.call ∷ [])) read_is
                      ∙ ap (λ (x : Call). over here.decls device (history_read world.journal ++ x ∷ [])) (sym call_is),
                )
            named false names e = absurd (let no : ◌≡◌ {A = Option (Intent Call)} None (Some o) = e in cc)

        by_due : (target : Config) → (target ≡ over here.decls device (told_by (entries_read world.journal)).history)
            ⊎ ((o : Intent Call) × (intent_seen (over here.decls device) device o.t ((told_by (entries_read world.journal)).intents o.t) ≡ Some o)
            × (target ≡ over here.decls device ((told_by (entries_read world.journal)).history ++ o.call ∷ [])))
            → IsDueOn here.decls world device target
        by_due target (inl same) = inl (same ∙ ap (λ (h : List Call). over here.decls device h) read_is)
        by_due target (inr more) = with_call target more.0 more.2 ((told_by (entries_read world.journal)).intents more.0.t) refl more.1

    order_now : (on : Duty) → duty_on hub.duties device ≡ on → duty_order on ≡ Some one
    order_now on is = ap duty_order (sym is) ∙ sym (order_is hub device) ∙ order

    by_worker : (worker : Worker) → duty_on hub.duties device ≡ duty.Works worker → ResolvesSo here.decls world device one
    by_worker worker is =
        let due = order_now (duty.Works worker) is in
        let owned = under.owned device worker is (order_due worker.t worker.set worker.stage one due).1 in
        let agree = under.agree device worker is in
        by_role _
        (works_now here.decls here.kinds kinds lawful planning own.shadow (entries_read world.journal) hub world.nodes world.links device one happened unheard may [] net_kept worker is due agree owned)
        (order_here here.decls here.kinds kinds lawful planning own.shadow (entries_read world.journal) hub world.nodes world.links device one happened unheard may [] net_kept worker is due agree owned)

    by_mender : (mender : MenderState) → duty_on hub.duties device ≡ duty.Mends mender → ResolvesSo here.decls world device one
    by_mender mender is = at hub.mends refl
      where
        within : nat_lt device (length here.decls.names) ≡ true
        within = sym (ap (λ (n : ℕ). nat_lt device n) under.duties_sized) ∙ slot_within hub.duties device (duty.Mends mender) is (mends_not_free mender)

        stood : IsMenderOf here.decls (entries_read world.journal) device mender → ResolvesSo here.decls world device one
        stood (inl ended) = absurd (let no : ◌≡◌ {A = Option Op} None (Some one) =
            sym (ap (λ s. mend_order differences mender.left mender.due s) ended) ∙ order_now (duty.Mends mender) is in cc)
        stood (inr so) =
            let slot = get_in hub.stale device (length here.decls.names) under.stale_sized within in
            by_role (Mends so.0)
            (mends_now here.decls here.kinds kinds lawful planning own.shadow (entries_read world.journal) hub world.nodes world.links device one happened unheard may [] net_kept
            mender so.0 is so.1 (order_now (duty.Mends mender) is) slot.0 slot.1)
            (ap (λ (o : Op). Some o)
            (op_is here.decls here.kinds kinds lawful planning own.shadow (entries_read world.journal) hub world.nodes world.links device one happened unheard may [] net_kept
            mender so.0 is so.1 (order_now (duty.Mends mender) is) slot.0 slot.1))

        at : (m : Option (Option RecFault)) → hub.mends ≡ m → ResolvesSo here.decls world device one
        at None e = absurd (subst (λ (n : Option (Option RecFault)). MendingKept here.decls (entries_read world.journal) hub.active hub.duties hub.stale n) e under.mending device mender is)
        at (Some met) e =
            let mending : AreMending here.decls (entries_read world.journal) hub.active hub.duties hub.stale met =
            subst (λ (n : Option (Option RecFault)). MendingKept here.decls (entries_read world.journal) hub.active hub.duties hub.stale n) e under.mending in
            stood (mending.stand device mender is)

    pub resolves : ResolvesSo here.decls world device one
    resolves = on (duty_on hub.duties device) refl
      where
        on : (d : Duty) → duty_on hub.duties device ≡ d → ResolvesSo here.decls world device one
        on duty.Free is = absurd (let no : ◌≡◌ {A = Option Op} None (Some one) = order_now duty.Free is in cc)
        on (duty.Works worker) is = by_worker worker is
        on (duty.Mends mender) is = by_mender mender is

  does_resolve : (world : World D) (hub : Hub) → world.hub ≡ Some hub → DevicesKept here.decls world → (meant : Event) (row : List Entry) (next : World D) → DoesUnderHub here world hub meant row next
      → (device : ℕ) (kind : OpKind) (reply : Mark) (count : ℕ) → meant ≡ event.Perform device kind reply count → (one : Op) → due_on hub device ≡ Some one → ResolvesSo here.decls world device one
  does_resolve world hub up own meant row next (DoesUnderHub.performs x first happened due unheard possible way) device kind reply count is one due' =
      let same : x ≡ device = device_is _ _ _ is in
      let op_same : first ≡ one = same_Some first one (sym due ∙ ap (due_on hub) same ∙ due') in
      subst (λ (o : Op). ResolvesSo here.decls world device o) op_same
      (subst (λ (d : ℕ). ResolvesSo here.decls world d first) same (resolves world hub up own x first happened (due_is hub x first due) unheard possible))
    where
      device_is : (a : OpKind) (b : Mark) (n : ℕ) → event.Perform x a b n ≡ event.Perform device kind reply count → x ≡ device
      device_is a b n e = cc
  does_resolve world hub up own meant row next does device kind reply count is one due' = absurd cc

  failing_performs : (meant : Event) (device : ℕ) (kind : OpKind) (reply : Mark) (count : ℕ) → seen_failing meant ≡ Some (event.Perform device kind reply count) → ⊥
  failing_performs (event.Admit t given) device kind reply count e = cc
  failing_performs (event.Decide t given) device kind reply count e = cc
  failing_performs (event.Reconcile result) device kind reply count e = cc
  failing_performs other device kind reply count e = cc

  pub steps_resolve : (old new : World D) (meant : Event) (seen : Option Event) → DevicesKept here.decls old → Steps here old meant seen new → (hub : Hub) → old.hub ≡ Some hub
      → (device : ℕ) (kind : OpKind) (reply : Mark) (count : ℕ) → seen ≡ Some (event.Perform device kind reply count) → (one : Op) → due_on hub device ≡ Some one → ResolvesSo here.decls old device one
  steps_resolve old new meant seen own (Steps.done hub' row next _ up' does appends is) hub up device kind reply count e one due =
      does_resolve old hub' up' own meant row next does device kind reply count (same_Some meant (event.Perform device kind reply count) e) one
      (ap (λ (h : Hub). due_on h device) (same_Some hub' hub (sym up' ∙ up)) ∙ due)
  steps_resolve old new meant seen own (Steps.cut hub' row next _ up' does appends is) hub up device kind reply count e one due = absurd cc
  steps_resolve old new meant seen own (Steps.failed hub' row next _ up' does appends is) hub up device kind reply count e one due = absurd (failing_performs meant device kind reply count e)
  steps_resolve old new meant seen own (Steps.full hub' row next len _ up' does appends is) hub up device kind reply count e one due = absurd cc
  steps_resolve old new meant seen own (Steps.anyway _ (DoesAnyway.ticks seconds)) hub up device kind reply count e one due = absurd cc
  steps_resolve old new meant seen own (Steps.anyway _ (DoesAnyway.restarts x)) hub up device kind reply count e one due = absurd cc
  steps_resolve old new meant seen own (Steps.anyway _ (DoesAnyway.answers_down submitted front down)) hub up device kind reply count e one due = absurd cc
  steps_resolve old new meant seen own (Steps.unopened _ down recover stays is) hub up device kind reply count e one due = absurd cc
  steps_resolve old new meant seen own (Steps.recovers _ down recover reopens is) hub up device kind reply count e one due =
      absurd (let none : ◌≡◌ {A = Option Hub} None (Some hub) = sym down ∙ up in cc)
