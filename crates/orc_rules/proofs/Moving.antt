-- An operation is performed: one device moves.
use Rattle.std.proofs.Common.{◌≡◌, ℕ, Bool, true, false, cond, ◌||◌, nat_eq, List, [], ◌∷◌, ◌++◌, Option, Some, None, map, refl, sym, ap, subst, ◌∙◌, eqb-true}
use Rattle.std.specs.Prelude.{slice_get}
use Rattle.std.specs.Option.{option_map, option_map_or, option_or}
use Rattle.std.proofs.Math.Path.{fun_ext}
use Rattle.std.proofs.lemmas.Bool.{false≢true}
use Rattle.orc_path.specs.Configurations.{Config}
use Rattle.orc_call.specs.declared.answer.Why.{Why}
use Rattle.orc_call.specs.declared.answer.Why.TheVariants as why
use Rattle.orc_call.specs.declared.call.Call.{Call}
use Rattle.orc_decls.specs.declared.declarations.Decls.{Decls}
use Rattle.orc_device.specs.declared.kind.When.{When}
use Rattle.orc_device.specs.Links.{Way, took_effect, way_node, way_reply, way_session}
use Rattle.orc_rules.specs.Cells.{MayHappen}
use Rattle.orc_device.specs.Listings.{kind_of_op}
use Rattle.orc_device.specs.Nodes.{DeviceKind, NodeState}
use Rattle.orc_device.specs.Operations.{is_fault, is_ok, is_resolved}
use Rattle.orc_tree.specs.Sameness.{equal_configs}
use Rattle.orc_device.specs.declared.kind.OpKind.{OpKind}
use Rattle.orc_device.specs.declared.op.Op.{Op}
use Rattle.orc_device.specs.declared.reply.Reply.{Reply}
use Rattle.orc_device.specs.declared.reply.Reply.TheVariants as reply
use Rattle.orc_journal.specs.declared.entry.Entry.{Entry}
use Rattle.orc_recover.specs.Menders.{MenderState, differences, failed_by, mender_order, mender_took, read_end}
use Rattle.orc_recover.specs.declared.ends.Mend.TheVariants as end
use Rattle.orc_tree.specs.declared.change.ChangeSet.{ChangeSet}
use Rattle.orc_worker.specs.Workers.{order_at, work_stage_after, worker_order}
use Rattle.orc_worker.specs.declared.stage.Stage.{Stage}
use Rattle.orc_worker.specs.declared.stage.Stage.TheVariants as stage
use Rattle.orc_worker.specs.declared.worker.Worker.{Worker}
use Rattle.orc_rules.specs.Agreement.{HasCome, left_of, mender_of, mend_stage_of, with_decisions}
use Rattle.orc_rules.specs.Cells.{Cell, Mended, PossibleDue, DeviceRole, at_after, cleared, due_op, updated_at, mended, mended_clear, mended_role, mended_stale, mender_after, performed, read_after, released, worked, worked_due}
use Rattle.orc_rules.specs.Cells.Mended.{Goes, Whole, Fails}
use Rattle.orc_rules.specs.Cells.DeviceRole.{Free, Works, Mends}
use Rattle.orc_rules.specs.Courses.{agrees}
use Rattle.orc_rules.specs.Duties.{duty_order, is_over, stale_by, stale_ended}
use Rattle.orc_rules.specs.Events.{link_behind}
use Rattle.orc_rules.specs.Hubs.{Hub, due_on, duty_on, has_come_to, has_met_failure, order_on}
use Rattle.orc_rules.specs.Invariant.{IsLawful, MayRest}
use Rattle.orc_rules.specs.Kept.{FitAt, NetworkKept, Shadow, StandsAt, ValidAt, heard as then_heard, is_stale, local_of, mend_at, mends_at, network_of, role_of, role_on, stale_on, stale_then, works_at}
use Rattle.orc_rules.specs.Network.{Happening, Local, May, Network, Planning, cell, cell_of, happens, local, intent_seen, seen_plan}
use Rattle.orc_rules.specs.Network.Happening.{Performs, Releases}
use Rattle.orc_rules.specs.Told.{told_by}
use Rattle.orc_rules.specs.UnderHub.{IsOfHub, IsOwned}
use Rattle.orc_rules.specs.Works.{Intent, Mend, mend_operation as mend_order, work_operation as work_order, worker_clears, worker_spoils}
use Rattle.orc_rules.specs.Works.Mend.{Mclosing, Mcommitting, Mediting, MlockingCandidate, MlockingRunning, Mopening, Mresolving, MunlockingCandidate, MunlockingRunning, Mvalidating}
use Rattle.orc_rules.specs.Worlds.{Link, over}
use Rattle.orc_rules.specs.declared.duty.Duty.{Duty}
use Rattle.orc_rules.specs.declared.duty.Duty.TheVariants as duty
use Rattle.orc_rules.proofs.Agreeing.{orders_agree, takes_agree}
use Rattle.orc_rules.proofs.Courses.{order_due, spoils_tell}
use Rattle.orc_rules.proofs.Network.{happens_keeps}
use Rattle.orc_rules.proofs.Recording.{given_at}

-- the operation due, and what is done
-- what is due may be performed
pub due_is : (hub : Hub) (device : ℕ) (op : Op) → due_on hub device ≡ Some op → order_on hub device ≡ Some op
due_is hub device op e = on (has_met_failure hub.mends) (has_come_to hub device) e
  where
    on : (met come : Bool) → cond met None (cond come (order_on hub device) None) ≡ Some op → order_on hub device ≡ Some op
    on true come h = absurd (let no : ◌≡◌ {A = Option Op} None (Some op) = h in cc)
    on false true h = h
    on false false h = absurd (let no : ◌≡◌ {A = Option Op} None (Some op) = h in cc)

pub order_is : (hub : Hub) (device : ℕ) → order_on hub device ≡ duty_order (duty_on hub.duties device)
order_is hub device = on (slice_get hub.duties device)
  where
    on : (o : Option Duty) → option_map_or duty_order o None ≡ duty_order (option_map_or (λ duty. duty) o duty.Free)
    on None = refl
    on (Some d) = refl

over_is : (st : Stage) → is_over st ≡ true → st ≡ stage.Over
over_is stage.Over h = refl
over_is st h = absurd (false≢true h)

-- how a reconciliation ended, as the mender says and as the role does
or_none : (b : Bool) → (b || false) ≡ b
or_none true = refl
or_none false = refl

abbrev Stale : Option Why → Bool
Stale slot = is_stale (Some slot)

more_stale : (slot w : Option Why) → Stale (option_or slot w) ≡ (Stale slot || Stale w)
more_stale None w = refl
more_stale (Some v) w = refl

module _ (k : DeviceKind) (place : ℕ → Option ℕ) (due : Config) (f : ℕ) (slot : Option Why) where
  fails_so : (r : Reply) → Stale (stale_ended slot (Some (failed_by r f))) ≡ (Stale slot || is_fault r)
  fails_so reply.Ok = sym (or_none (Stale slot))
  fails_so (reply.Tree tree) = sym (or_none (Stale slot))
  fails_so (reply.Refused tag) = sym (or_none (Stale slot))
  fails_so reply.Fault = more_stale slot (Some (why.Fault f))
  fails_so reply.Memory = sym (or_none (Stale slot))

  goes_so : (b : Bool) (r : Reply) (m : Mend) → Stale (stale_ended slot (cond b None (Some (failed_by r f)))) ≡ mended_stale (Stale slot) (cond b (Goes m) (Fails (is_fault r)))
  goes_so true r m = refl
  goes_so false r m = fails_so r

  reads_so : (r : Reply) → Stale (stale_ended slot (read_end r f)) ≡ mended_stale (Stale slot) (read_after k due r)
  reads_so reply.Ok = fails_so reply.Ok
  reads_so (reply.Tree read) = go (k.same read due)
    where
      go : (b : Bool) → Stale slot ≡ mended_stale (Stale slot) (cond b (Goes Mclosing) (Goes (MlockingRunning read)))
      go true = refl
      go false = refl
  reads_so (reply.Refused tag) = fails_so (reply.Refused tag)
  reads_so reply.Fault = fails_so reply.Fault
  reads_so reply.Memory = fails_so reply.Memory

  closes_so : (b : Bool) (r : Reply) → Stale (stale_ended slot (cond b (Some end.Done) (Some (failed_by r f)))) ≡ mended_stale (Stale slot) (cond b Whole (Fails (is_fault r)))
  closes_so true r = refl
  closes_so false r = fails_so r

  pub stale_so : (m : Mend) (r : Reply) → Stale (stale_by (duty.Mends (mender_of place due m)) r f slot) ≡ mended_stale (Stale slot) (mender_after k due m r)
  stale_so (Mopening ts) r = goes_so (is_ok r) r (Mresolving ts)
  stale_so (Mresolving []) r = reads_so r
  stale_so (Mresolving (t ∷ ts)) r = goes_so (is_resolved r) r (Mresolving ts)
  stale_so (MlockingRunning read) r = goes_so (is_ok r) r (MlockingCandidate read)
  stale_so (MlockingCandidate read) r = goes_so (is_ok r) r (Mediting read)
  stale_so (Mediting read) r = goes_so (is_ok r) r Mvalidating
  stale_so Mvalidating r = goes_so (is_ok r) r Mcommitting
  stale_so Mcommitting r = goes_so (is_ok r) r MunlockingCandidate
  stale_so MunlockingCandidate r = goes_so (is_ok r) r MunlockingRunning
  stale_so MunlockingRunning r = goes_so (is_ok r) r Mclosing
  stale_so Mclosing r = closes_so (is_ok r) r

module _ (decls : Decls) (kinds : ℕ → DeviceKind) (are : (device : ℕ) → IsOfHub (kinds device)) (lawful : (device : ℕ) → IsLawful (kinds device) (over decls device))
    (planning : Planning (over decls) (StandsAt decls) (FitAt decls) (ValidAt decls)) where
  pub happening : (w : Network Call) (e : Happening Call) → NetworkKept decls w → May kinds (over decls) (StandsAt decls) (FitAt decls) (ValidAt decls) w e
      → NetworkKept decls (happens kinds (over decls) w e)
  happening w e kept may = happens_keeps kinds (over decls) lawful (StandsAt decls) (FitAt decls) (ValidAt decls) planning w kept e may

  -- whoever works on a device no more is let go
  rests : (w : Network Call) (device : ℕ) (l : Local Call) → MayRest (over decls device) l.role → NetworkKept decls (record w { locals = updated_at w.locals device l })
      → NetworkKept decls (record w { locals = updated_at w.locals device (record l { role = Free }) })
  rests w device l may kept =
      subst (λ (ls : ℕ → Local Call). NetworkKept decls (record w { locals = ls })) (fun_ext twice)
      (happening x (Releases device) kept (subst (λ (y : Local Call). MayRest (over decls device) y.role) (sym (given_at w.locals device l)) may))
    where
      x : Network Call
      x = record w { locals = updated_at w.locals device l }

      free : Local Call → Local Call
      free y = local (released (cell_of (over decls) x device y))

      twice : (y : ℕ) → updated_at (updated_at w.locals device l) device (free (updated_at w.locals device l device)) y ≡ updated_at w.locals device (record l { role = Free }) y
      twice y = on (nat_eq device y)
        where
          on : (b : Bool) → cond b (free (updated_at w.locals device l device)) (cond b l (w.locals y)) ≡ cond b (record l { role = Free }) (w.locals y)
          on true = ap free (given_at w.locals device l)
          on false = refl

  module _ (shadow : ℕ → Shadow) (entries : List Entry) (hub : Hub) (nodes : ℕ → NodeState) (links : ℕ → Link) where
    abbrev net : Network Call
    net = network_of decls shadow entries (Some hub) nodes links

    -- a device as this node, link and shadow have it
    abbrev local_with : Shadow → ℕ → NodeState → Link → Local Call
    local_with sh device node link = record {
      node = node;
      session = link.session;
      clear = sh.clear;
      role = role_on decls shadow entries (Some hub) device link;
      stale = stale_on decls shadow entries (Some hub) device link;
      at = sh.at;
    }

    -- one device moves
    one_moves : (device : ℕ) (sh : Shadow) (node : NodeState) (link : Link) (moved : Local Call) → moved ≡ local_with sh device node link
        → NetworkKept decls (record net { locals = updated_at net.locals device moved })
        → NetworkKept decls (network_of decls (updated_at shadow device sh) entries (Some hub) (updated_at nodes device node) (updated_at links device link))
    one_moves device sh node link moved is kept =
        subst (λ (l : ℕ → Local Call). NetworkKept decls (record net { locals = l })) (fun_ext each) kept
      where
        each : (x : ℕ) → updated_at net.locals device moved x ≡ local_of decls (updated_at shadow device sh) entries (Some hub) x (updated_at nodes device node x) (updated_at links device link x)
        each x = on (nat_eq device x) refl
          where
            on : (b : Bool) → nat_eq device x ≡ b → cond b moved (net.locals x) ≡ local_with (cond b sh (shadow x)) x (cond b node (nodes x)) (cond b link (links x))
            on true e = is ∙ ap (λ (y : ℕ). local_with sh y node link) (eqb-true device x e)
            on false e = refl

    module _ (device : ℕ) (op : Op) (happened : Way) (unheard : (links device).unheard ≡ None)
        (possible : MayHappen (kinds device) (nodes device) (links device).session op happened) (listed : List (OpKind × When)) (kept : NetworkKept decls net) where
      abbrev k : DeviceKind
      k = kinds device

      abbrev link : Link
      link = links device

      abbrev c : Cell Call
      c = cell (over decls) net device

      abbrev r : Reply
      r = way_reply (nodes device) op happened

      abbrev node' : NodeState
      node' = way_node k (nodes device) link.session op happened

      abbrev link' : Link
      link' = link_behind listed link (way_session (nodes device) link.session op happened) op happened r

      abbrev Moves : Shadow → Type 0
      Moves sh = NetworkKept decls (network_of decls (updated_at shadow device sh) entries (Some hub) (updated_at nodes device node') (updated_at links device link'))

      same_slot : (o : Option (Option Why)) → is_stale (option_map (stale_then None link.faults (duty_on hub.duties device)) o) ≡ is_stale o
      same_slot None = refl
      same_slot (Some b) = refl

      stale_now : stale_on decls shadow entries (Some hub) device link ≡ is_stale (slice_get hub.stale device)
      stale_now =
          ap (λ (u : Option (OpKind × Reply)). is_stale (option_map (stale_then u link.faults (duty_on hub.duties device)) (slice_get hub.stale device))) unheard
          ∙ same_slot (slice_get hub.stale device)

      role_of_duty : Duty → DeviceRole Call
      role_of_duty on = role_of (over decls device) (told_by entries) device on

      role_now : role_on decls shadow entries (Some hub) device link ≡ role_of (over decls device) (told_by entries) device (duty_on hub.duties device)
      role_now = ap (λ (u : Option (OpKind × Reply)). role_of (over decls device) (told_by entries) device (then_heard u link.faults (duty_on hub.duties device))) unheard

      -- a worker's
      module _ (worker : Worker) (duty_is : duty_on hub.duties device ≡ duty.Works worker) (order : worker_order worker ≡ Some op)
          (agree : agrees worker.stage worker.outcome ≡ true) (own : IsOwned decls entries hub.active device worker) where
        abbrev o : Intent Call
        o = record { t = worker.t; call = own.noted.plan.call; before = over decls device own.noted.base; due = over decls device (own.noted.base ++ own.noted.plan.call ∷ []) }

        abbrev st : Stage
        st = worker.stage

        pub seen_is : intent_seen (over decls device) device worker.t ((told_by entries).intents worker.t) ≡ Some o
        seen_is =
            ap (intent_seen (over decls device) device worker.t) own.known
            ∙ named (own.noted.plan.names device) (ap (λ p. p.names device) own.plan ∙ own.names)
          where
            named : (n : Bool) → n ≡ true → seen_plan (over decls device) worker.t own.noted n ≡ Some o
            named true e = refl
            named false e = absurd (false≢true e)

        role_at : (at : Stage) → works_at (intent_seen (over decls device) device worker.t ((told_by entries).intents worker.t)) at ≡ cond (is_over at) Free (Works o at)
        role_at at = ap (λ (s : Option (Intent Call)). works_at s at) seen_is

        pub works_now : role_on decls shadow entries (Some hub) device link ≡ Works o st
        works_now =
            role_now ∙ ap (λ (d : Duty). role_of (over decls device) (told_by entries) device d) duty_is ∙ role_at st
            ∙ ap (λ (b : Bool). cond b Free (Works o st)) (order_due worker.t worker.set st op order).1

        pub order_here : work_order k o st ≡ Some op
        order_here =
            ap (λ (s : ChangeSet). order_at worker.t s st)
            (ap (λ (f : Config → Config → ChangeSet). f o.before o.due) (are device).between ∙ sym own.set)
            ∙ order

        may : PossibleDue k (nodes device) link.session (due_op k (over decls device) c (role_on decls shadow entries (Some hub) device link)) happened
        may =
            subst (λ (x : DeviceRole Call). PossibleDue k (nodes device) link.session (due_op k (over decls device) c x) happened) (sym works_now)
            (subst (λ (x : Option Op). PossibleDue k (nodes device) link.session x happened) (sym order_here) possible)

        performed_is : performed k (over decls device) c (role_on decls shadow entries (Some hub) device link) happened ≡ worked k c o st op happened
        performed_is =
            ap (λ (x : DeviceRole Call). performed k (over decls device) c x happened) works_now
            ∙ ap (λ (x : Option Op). worked_due k c o st x happened) order_here

        abbrev moved : Local Call
        moved = local (worked k c o st op happened)

        kept_moved : NetworkKept decls (record net { locals = updated_at net.locals device moved })
        kept_moved =
            subst (λ (x : Cell Call). NetworkKept decls (record net { locals = updated_at net.locals device (local x) })) performed_is
            (happening net (Performs device happened) kept may)

        stale_slot : (b : Option (Option Why)) → (is_stale b || worker_spoils st r) ≡ is_stale (option_map (stale_then (Some (kind_of_op op, r)) link'.faults (duty.Works worker)) b)
        stale_slot None = refl
        stale_slot (Some None) = sym (spoils_tell link'.faults worker.t st worker.outcome r agree)
        stale_slot (Some (Some w)) = refl

        stale_next : (stale_on decls shadow entries (Some hub) device link || worker_spoils st r) ≡ stale_on decls shadow entries (Some hub) device link'
        stale_next =
            ap (λ (b : Bool). b || worker_spoils st r) stale_now ∙ stale_slot (slice_get hub.stale device)
            ∙ ap (λ (d : Duty). is_stale (option_map (stale_then (Some (kind_of_op op, r)) link'.faults d) (slice_get hub.stale device))) (sym duty_is)

        role_next : cond (is_over (work_stage_after st r)) Free (Works o (work_stage_after st r)) ≡ role_on decls shadow entries (Some hub) device link'
        role_next =
            sym (role_at (work_stage_after st r))
            ∙ ap (λ (d : Duty). role_of (over decls device) (told_by entries) device (then_heard (Some (kind_of_op op, r)) link'.faults d)) (sym duty_is)

        abbrev pub shadow_worked : Shadow
        shadow_worked = record { clear = cleared (worker_clears st r) (shadow device).clear worker.t; at = at_after c op (took_effect happened) }

        pub works_moves : Moves shadow_worked
        works_moves = on (is_over (work_stage_after st r)) refl
          where
            same : (role : DeviceRole Call) → role ≡ role_on decls shadow entries (Some hub) device link' → record moved { role = role } ≡ local_with shadow_worked device node' link'
            same role e =
                ap (λ (x : DeviceRole Call). record moved { role = x }) e
                ∙ ap (λ (b : Bool). record moved { role = role_on decls shadow entries (Some hub) device link'; stale = b }) stale_next

            on : (b : Bool) → is_over (work_stage_after st r) ≡ b → Moves shadow_worked
            on true e =
                one_moves device shadow_worked node' link' (record moved { role = Free }) (same Free (sym (ap (λ (b : Bool). cond b Free (Works o (work_stage_after st r))) e) ∙ role_next))
                (rests net device moved (subst (λ (s : Stage). MayRest (over decls device) (Works o s)) (sym (over_is (work_stage_after st r) e)) tt) kept_moved)
            on false e =
                one_moves device shadow_worked node' link' moved (same (Works o (work_stage_after st r)) (sym (ap (λ (b : Bool). cond b Free (Works o (work_stage_after st r))) e) ∙ role_next)) kept_moved

      -- a mender's
      module _ (mender : MenderState) (m : Mend) (duty_is : duty_on hub.duties device ≡ duty.Mends mender)
          (stands : mender ≡ mender_of (told_by entries).place (over decls device (told_by entries).history) m) (order : mender_order differences mender ≡ Some op)
          (slot : Option Why) (there : slice_get hub.stale device ≡ Some slot) where
        abbrev place : ℕ → Option ℕ
        place = (told_by entries).place

        abbrev due : Config
        due = over decls device (told_by entries).history

        abbrev x : Mended
        x = mender_after k due m r

        numbers_of : (ts : List ℕ) → map (λ one. one.0) (with_decisions place ts) ≡ ts
        numbers_of [] = refl
        numbers_of (t ∷ ts) = ap (λ (l : List ℕ). t ∷ l) (numbers_of ts)

        -- where a mender stands, its role does
        stood : (n : Mend) → mends_at (mend_at (map (λ one. one.0) (left_of place n)) (mend_stage_of n)) ≡ Mends n
        stood (Mopening ts) = ap (λ (l : List ℕ). Mends (Mopening l)) (numbers_of ts)
        stood (Mresolving ts) = ap (λ (l : List ℕ). Mends (Mresolving l)) (numbers_of ts)
        stood (MlockingRunning read) = refl
        stood (MlockingCandidate read) = refl
        stood (Mediting read) = refl
        stood Mvalidating = refl
        stood Mcommitting = refl
        stood MunlockingCandidate = refl
        stood MunlockingRunning = refl
        stood Mclosing = refl

        pub mends_now : role_on decls shadow entries (Some hub) device link ≡ Mends m
        mends_now =
            role_now ∙ ap (λ (d : Duty). role_of (over decls device) (told_by entries) device d) duty_is
            ∙ ap (λ (n : MenderState). mends_at (mend_at (map (λ one. one.0) n.left) n.stage)) stands ∙ stood m

        order_mend : Some (mend_order k place due m) ≡ Some op
        order_mend =
            sym (orders_agree k place due m)
            ∙ ap (λ (f : Config → Config → ChangeSet). mender_order f (mender_of place due m)) (are device).between
            ∙ ap (λ (n : MenderState). mender_order differences n) (sym stands) ∙ order

        pub op_is : mend_order k place due m ≡ op
        op_is = same_some order_mend
          where
            same_some : {a b : Op} → ◌≡◌ {A = Option Op} (Some a) (Some b) → a ≡ b
            same_some e = cc

        may_mend : PossibleDue k (nodes device) link.session (due_op k (over decls device) c (role_on decls shadow entries (Some hub) device link)) happened
        may_mend =
            subst (λ (y : DeviceRole Call). PossibleDue k (nodes device) link.session (due_op k (over decls device) c y) happened) (sym mends_now)
            (subst (λ (y : Op). MayHappen k (nodes device) link.session y happened) (sym op_is) possible)

        performed_mend : performed k (over decls device) c (role_on decls shadow entries (Some hub) device link) happened ≡ mended k due c m op happened
        performed_mend =
            ap (λ (y : DeviceRole Call). performed k (over decls device) c y happened) mends_now
            ∙ ap (λ (y : Op). mended k due c m y happened) op_is

        abbrev moved_mend : Local Call
        moved_mend = local (mended k due c m op happened)

        kept_mend : NetworkKept decls (record net { locals = updated_at net.locals device moved_mend })
        kept_mend =
            subst (λ (y : Cell Call). NetworkKept decls (record net { locals = updated_at net.locals device (local y) })) performed_mend
            (happening net (Performs device happened) kept may_mend)

        come : HasCome place due (mender_took equal_configs mender r) x
        come =
            subst (λ (n : MenderState). HasCome place due (mender_took equal_configs n r) x) (sym stands)
            (subst (λ (f : Config → Config → Bool). HasCome place due (mender_took f (mender_of place due m) r) x) (are device).same (takes_agree k place due m r))

        role_come : (y : Mended) (n : MenderState) → HasCome place due n y → mended_role y ≡ mends_at (mend_at (map (λ one. one.0) n.left) n.stage)
        role_come (Goes m') n h = sym (ap (λ (q : MenderState). mends_at (mend_at (map (λ one. one.0) q.left) q.stage)) h ∙ stood m')
        role_come Whole n h = sym (ap (λ s. mends_at (mend_at (map (λ one. one.0) n.left) s)) h)
        role_come (Fails b) n h = sym (ap (λ s. mends_at (mend_at (map (λ one. one.0) n.left) s)) h)

        role_mend : mended_role x ≡ role_on decls shadow entries (Some hub) device link'
        role_mend =
            role_come x (mender_took equal_configs mender r) come
            ∙ ap (λ (d : Duty). role_of (over decls device) (told_by entries) device (then_heard (Some (kind_of_op op, r)) link'.faults d)) (sym duty_is)

        stale_mend : mended_stale (stale_on decls shadow entries (Some hub) device link) x ≡ stale_on decls shadow entries (Some hub) device link'
        stale_mend =
            ap (λ (b : Bool). mended_stale b x) (stale_now ∙ ap is_stale there)
            ∙ sym (stale_so k place due link'.faults slot m r)
            ∙ ap (λ (n : MenderState). is_stale (Some (stale_by (duty.Mends n) r link'.faults slot))) (sym stands)
            ∙ ap (λ (b : Option (Option Why)). is_stale (option_map (stale_then (Some (kind_of_op op, r)) link'.faults (duty.Mends mender)) b)) (sym there)
            ∙ ap (λ (d : Duty). is_stale (option_map (stale_then (Some (kind_of_op op, r)) link'.faults d) (slice_get hub.stale device))) (sym duty_is)

        abbrev pub shadow_mended : Shadow
        shadow_mended = record { clear = mended_clear c.open_intent (shadow device).clear x; at = at_after c op (took_effect happened) }

        pub mends_moves : Moves shadow_mended
        mends_moves = one_moves device shadow_mended node' link' moved_mend same kept_mend
          where
            same : moved_mend ≡ local_with shadow_mended device node' link'
            same =
                ap (λ (y : DeviceRole Call). record moved_mend { role = y }) role_mend
                ∙ ap (λ (b : Bool). record moved_mend { role = role_on decls shadow entries (Some hub) device link'; stale = b }) stale_mend
