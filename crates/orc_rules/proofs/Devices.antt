-- What is kept of devices: that one in step runs what is due, and the events by which no operation moves.
use Rattle.std.proofs.Common.{◌≡◌, ℕ, Bool, true, false, cond, nat_eq, nat_lt, List, [], ◌∷◌, ◌++◌, Option, Some, None, All, IsTrue, refl, sym, ap, subst, ◌∙◌, length, append-nil, append_assoc, eqb-true, map, zero, suc}
use Rattle.std.specs.FinMap.{empty}
use Rattle.std.specs.Prelude.{filter, slice_get}
use Rattle.std.proofs.Math.Path.{fun_ext}
use Rattle.std.proofs.lemmas.List.Elements.{All-head, All-tail}
use Rattle.orc_call.specs.declared.call.Call.{Call}
use Rattle.orc_device.specs.Nodes.{DeviceKind, NodeState, dropped, restarted, ticked}
use Rattle.orc_journal.specs.Committed.{commits, history_from, history_of}
use Rattle.orc_journal.specs.declared.entry.Entry.{Entry}
use Rattle.orc_journal.specs.declared.entry.Entry.TheVariants as entry
use Rattle.orc_decls.specs.Calls.{is_call}
use Rattle.orc_datastore.specs.Legal.{IsLegal, state_of}
use Rattle.orc_datastore.specs.States.{tree_due}
use Rattle.orc_decls.specs.declared.declarations.Decls.{Decls}
use Rattle.orc_rules.specs.Cells.{DeviceRole, updated_at}
use Rattle.orc_rules.specs.Cells.DeviceRole.{Free, Works}
use Rattle.orc_rules.specs.Duties.{is_over, no_call_works}
use Rattle.orc_rules.specs.Facts.{Quiet}
use Rattle.orc_rules.specs.Hubs.{Hub, duty_on}
use Rattle.orc_rules.specs.Kept.{FitAt, NetworkKept, Shadow, StandsAt, ValidAt, heard as then_heard, is_stale, local_of, mend_at, mends_at, network_of, role_of, role_on, stale_on, stale_then, works_at}
use Rattle.orc_rules.specs.Invariant.{IsLawful}
use Rattle.orc_rules.specs.Network.{Happening, IsAtWork, Local, May, Network, Planning, happens, intent_seen, start_local}
use Rattle.orc_rules.specs.Network.Happening.{Restarts, Stops, Ticks}
use Rattle.orc_rules.specs.Told.{Told, told_by, told_from, told_with}
use Rattle.orc_rules.specs.Works.{Intent, Mend}
use Rattle.orc_rules.specs.Worlds.{Link, declared, new_hub, over, unheard_of}
use Rattle.orc_call.specs.declared.answer.Why.{Why}
use Rattle.orc_call.specs.declared.answer.Why.TheVariants as why
use Rattle.orc_device.specs.declared.kind.OpKind.{OpKind}
use Rattle.orc_device.specs.declared.reply.Reply.{Reply}
use Rattle.std.specs.Option.{option_map}
use Rattle.orc_rules.specs.declared.duty.Duty.{Duty}
use Rattle.orc_rules.specs.declared.duty.Duty.TheVariants as duty
use Rattle.orc_worker.specs.declared.stage.Stage.{Stage}
use Rattle.orc_rules.proofs.Network.{happens_keeps}
use Rattle.orc_rules.proofs.Promises.{is_equal, start_kept}

-- the history in what is told is the history of the entries
told_history_from : (before entries : List Entry) (told : Told) → (told_from before told entries).history ≡ told.history ++ history_from before entries
told_history_from before [] told = sym (append-nil told.history)
told_history_from before (entry.Intent t call devices ∷ entries) told = told_history_from (before ++ entry.Intent t call devices ∷ []) entries (told_with before told (entry.Intent t call devices))
told_history_from before (entry.Decide t ∷ entries) told =
    told_history_from (before ++ entry.Decide t ∷ []) entries (told_with before told (entry.Decide t))
    ∙ append_assoc told.history (commits before (entry.Decide t)) (history_from (before ++ entry.Decide t ∷ []) entries)
told_history_from before (entry.Abort t ∷ entries) told = told_history_from (before ++ entry.Abort t ∷ []) entries (told_with before told (entry.Abort t))
told_history_from before (entry.Settled t ∷ entries) told = told_history_from (before ++ entry.Settled t ∷ []) entries (told_with before told (entry.Settled t))

pub told_history : (entries : List Entry) → (told_by entries).history ≡ history_of entries
told_history entries = told_history_from [] entries (record { history = []; place = λ t. None; intents = λ t. None })

-- a lawful history is itself
pub filter_all : (p : Call → Bool) (calls : List Call) → All (λ call. IsTrue (p call)) calls → filter p calls ≡ calls
filter_all p [] all = refl
filter_all p (call ∷ calls) all = one (p call) (All-head (λ call. IsTrue (p call)) call calls all) ∙ ap (λ (l : List Call). call ∷ l) (filter_all p calls (All-tail (λ call. IsTrue (p call)) call calls all))
  where
    one : (b : Bool) → b ≡ true → cond b (call ∷ filter p calls) (filter p calls) ≡ call ∷ filter p calls
    one true e = refl
    one false e = absurd cc

pub over_is_due : (decls : Decls) (history : List Call) (device : ℕ) → IsLegal decls history → nat_lt device (length decls.names) ≡ true
    → over decls device history ≡ tree_due (state_of decls history) device
over_is_due decls history device legal within =
    ap (λ (b : Bool). cond b (tree_due (state_of decls (filter (is_call decls) history)) device) empty) within
    ∙ ap (λ (l : List Call). tree_due (state_of decls l) device) (filter_all (is_call decls) history legal.lawful)

module _ (decls : Decls) (shadow : ℕ → Shadow) (entries : List Entry) (nodes : ℕ → NodeState) (links : ℕ → Link) where
  free_at : (o : Option (Intent Call)) (at : Stage) → is_over at ≡ true → works_at o at ≡ Free
  free_at None at over = refl
  free_at (Some intent) at over = ap (λ (b : Bool). cond b Free (Works intent at)) over

  -- a device in step runs what is due, and nothing is pending there
  pub in_step : (hub : Hub) (device : ℕ) → NetworkKept decls (network_of decls shadow entries (Some hub) nodes links)
      → slice_get hub.stale device ≡ Some None → no_call_works (duty_on hub.duties device) ≡ true → (links device).unheard ≡ None
      → IsLegal decls (history_of entries) → nat_lt device (length decls.names) ≡ true
      → ((nodes device).running ≡ tree_due (state_of decls (history_of entries)) device) × ((nodes device).pending ≡ None)
  in_step hub device kept fresh unworked heard legal within =
      let quiet : Quiet (nodes device) (over decls device (told_by entries).history) =
      is_equal (over decls) (StandsAt decls) (FitAt decls) (ValidAt decls) (network_of decls shadow entries (Some hub) nodes links) kept device not_stale not_working in
      (quiet.running ∙ ap (λ (h : List Call). over decls device h) (told_history entries) ∙ over_is_due decls (history_of entries) device legal within, quiet.none)
    where
      not_stale : stale_on decls shadow entries (Some hub) device (links device) ≡ false
      not_stale = ap (λ (u : Option (OpKind × Reply)). is_stale (option_map (stale_then u (links device).faults (duty_on hub.duties device)) (slice_get hub.stale device))) heard
          ∙ ap (λ (o : Option (Option Why)). is_stale (option_map (stale_then None (links device).faults (duty_on hub.duties device)) o)) fresh

      at_work : DeviceRole Call → Bool
      at_work r = IsAtWork (over decls) (network_of decls shadow entries (Some hub) nodes links) r

      by_mend : (o : Option Mend) → IsAtWork (over decls) (network_of decls shadow entries (Some hub) nodes links) (mends_at o) ≡ false
      by_mend None = refl
      by_mend (Some m) = refl

      by_duty : (on : Duty) → no_call_works on ≡ true → IsAtWork (over decls) (network_of decls shadow entries (Some hub) nodes links) (role_of (over decls device) (told_by entries) device on) ≡ false
      by_duty duty.Free h = refl
      by_duty (duty.Works worker) h =
          ap (λ (r : DeviceRole Call). IsAtWork (over decls) (network_of decls shadow entries (Some hub) nodes links) r)
          (free_at (intent_seen (over decls device) device worker.t ((told_by entries).intents worker.t)) worker.stage h)
      by_duty (duty.Mends mender) h = by_mend (mend_at (map (λ one. one.0) mender.left) mender.stage)

      not_working : IsAtWork (over decls) (network_of decls shadow entries (Some hub) nodes links) (role_on decls shadow entries (Some hub) device (links device)) ≡ false
      not_working = ap (λ (u : Option (OpKind × Reply)). IsAtWork (over decls) (network_of decls shadow entries (Some hub) nodes links)
          (role_of (over decls device) (told_by entries) device (then_heard u (links device).faults (duty_on hub.duties device)))) heard
          ∙ by_duty (duty_on hub.duties device) unworked

-- The events by which no operation moves. (Kinds are lawful, and plans are as `planning` of Planned says.)
module _ (decls : Decls) (kinds : ℕ → DeviceKind) (lawful : (device : ℕ) → IsLawful (kinds device) (over decls device))
    (planning : Planning (over decls) (StandsAt decls) (FitAt decls) (ValidAt decls)) (shadow : ℕ → Shadow) (entries : List Entry) where
  one_more : (w : Network Call) (e : Happening Call) → NetworkKept decls w → May kinds (over decls) (StandsAt decls) (FitAt decls) (ValidAt decls) w e
      → NetworkKept decls (happens kinds (over decls) w e)
  one_more w e kept may = happens_keeps kinds (over decls) lawful (StandsAt decls) (FitAt decls) (ValidAt decls) planning w kept e may

  pub ticks_keep : (hub : Option Hub) (nodes : ℕ → NodeState) (links : ℕ → Link) (seconds : ℕ) → NetworkKept decls (network_of decls shadow entries hub nodes links)
      → NetworkKept decls (network_of decls shadow entries hub (λ device. ticked (nodes device) seconds) links)
  ticks_keep hub nodes links seconds kept = one_more (network_of decls shadow entries hub nodes links) (Ticks seconds) kept tt

  pub restarts_keep : (hub : Option Hub) (nodes : ℕ → NodeState) (links : ℕ → Link) (device : ℕ) → NetworkKept decls (network_of decls shadow entries hub nodes links)
      → NetworkKept decls (network_of decls shadow entries hub (updated_at nodes device (restarted (nodes device))) links)
  restarts_keep hub nodes links device kept =
      subst (λ (l : ℕ → Local Call). NetworkKept decls (record (network_of decls shadow entries hub nodes links) { locals = l }))
      (fun_ext each) (one_more (network_of decls shadow entries hub nodes links) (Restarts device) kept tt)
    where
      each : (x : ℕ) → updated_at (λ y. local_of decls shadow entries hub y (nodes y) (links y)) device (local_of decls shadow entries hub device (restarted (nodes device)) (links device)) x
          ≡ local_of decls shadow entries hub x (updated_at nodes device (restarted (nodes device)) x) (links x)
      each x = on (nat_eq device x) refl
        where
          on : (b : Bool) → nat_eq device x ≡ b → cond b (local_of decls shadow entries hub device (restarted (nodes device)) (links device)) (local_of decls shadow entries hub x (nodes x) (links x))
              ≡ local_of decls shadow entries hub x (cond b (restarted (nodes device)) (nodes x)) (links x)
          on true is = ap (λ (y : ℕ). local_of decls shadow entries hub y (restarted (nodes device)) (links y)) (eqb-true device x is)
          on false is = refl

  pub stops_keep : (hub : Option Hub) (nodes : ℕ → NodeState) (links : ℕ → Link) → NetworkKept decls (network_of decls shadow entries hub nodes links)
      → NetworkKept decls (network_of decls shadow entries None (λ device. dropped (nodes device)) (λ device. unheard_of (links device)))
  stops_keep hub nodes links kept = one_more (network_of decls shadow entries hub nodes links) Stops kept tt

  -- a hub goes down, or none is up: its sessions live on
  pub without_keep : (hub : Option Hub) (nodes : ℕ → NodeState) (links : ℕ → Link) → NetworkKept decls (network_of decls shadow entries hub nodes links)
      → NetworkKept decls (network_of decls shadow entries None nodes (λ device. unheard_of (links device)))
  without_keep hub nodes links kept = record {
    each = λ device. let i = kept.each device in
        record { locks = i.locks; at = i.at; kept_at = i.kept_at; known = i.known; number = i.number; placed = i.placed; role = λ e. cc };
    stands = λ t p e. cc;
    fit = λ t u p q e f ne. cc;
    noted = λ t p e. absurd cc;
    working = λ device o at e h. absurd (let both : ◌≡◌ {A = DeviceRole Call} Free (Works o at) = e in cc);
  }

  -- a hub over a journal that was opened again
  pub recovers_keep : (nodes : ℕ → NodeState) (links : ℕ → Link) → ((device : ℕ) → (links device).unheard ≡ None)
      → NetworkKept decls (network_of decls shadow entries None nodes links)
      → NetworkKept decls (network_of decls shadow entries
      (Some (new_hub (map (λ device. duty.Free) (declared decls)) (map (λ device. Some why.Recovered) (declared decls)))) nodes links)
  recovers_keep nodes links unheard kept =
      subst (λ (l : ℕ → Local Call). NetworkKept decls (record (network_of decls shadow entries None nodes links) { locals = l })) (fun_ext each) kept
    where
      hub : Hub
      hub = new_hub (map (λ device. duty.Free) (declared decls)) (map (λ device. Some why.Recovered) (declared decls))

      free : (xs : List ℕ) (device : ℕ) → duty_on (map (λ device. duty.Free) xs) device ≡ duty.Free
      free [] device = refl
      free (x ∷ xs) zero = refl
      free (x ∷ xs) (suc device) = free xs device

      stale : (xs : List ℕ) (device : ℕ) → is_stale (slice_get (map (λ device. Some why.Recovered) xs) device) ≡ true
      stale [] device = refl
      stale (x ∷ xs) zero = refl
      stale (x ∷ xs) (suc device) = stale xs device

      same_some : (o : Option (Option Why)) → is_stale (option_map (λ before. before) o) ≡ is_stale o
      same_some None = refl
      same_some (Some x) = refl

      role_is : (device : ℕ) → role_on decls shadow entries (Some hub) device (links device) ≡ Free
      role_is device =
          ap (λ (u : Option (OpKind × Reply)). role_of (over decls device) (told_by entries) device (then_heard u (links device).faults (duty_on hub.duties device))) (unheard device)
          ∙ ap (λ (d : Duty). role_of (over decls device) (told_by entries) device d) (free (declared decls) device)

      stale_is : (device : ℕ) → stale_on decls shadow entries (Some hub) device (links device) ≡ true
      stale_is device =
          ap (λ (u : Option (OpKind × Reply)). is_stale (option_map (stale_then u (links device).faults (duty_on hub.duties device)) (slice_get hub.stale device))) (unheard device)
          ∙ same_some (slice_get hub.stale device) ∙ stale (declared decls) device

      each : (device : ℕ) → local_of decls shadow entries None device (nodes device) (links device) ≡ local_of decls shadow entries (Some hub) device (nodes device) (links device)
      each device = ap (λ (r : DeviceRole Call). record (local_of decls shadow entries None device (nodes device) (links device)) { role = r }) (sym (role_is device))
          ∙ ap (λ (b : Bool). record (local_of decls shadow entries None device (nodes device) (links device)) { role = role_on decls shadow entries (Some hub) device (links device); stale = b }) (sym (stale_is device))

-- As a run begins over a journal that isn't empty: each device has its base, and is stale.
abbrev pub fresh_shadow : ℕ → Shadow
fresh_shadow device = record { clear = λ t. true; at = 0 }

abbrev pub base_node : Decls → ℕ → NodeState
base_node decls device = (start_local {Call = Call} (over decls device []) true).node

abbrev pub new_link : ℕ → Link
new_link device = record { session = 0; listed = []; faults = 0; unheard = None }

module _ (decls : Decls) (kinds : ℕ → DeviceKind) (lawful : (device : ℕ) → IsLawful (kinds device) (over decls device))
    (planning : Planning (over decls) (StandsAt decls) (FitAt decls) (ValidAt decls)) (entries : List Entry) where
  pub opened_devices : NetworkKept decls (network_of decls fresh_shadow entries
      (Some (new_hub (map (λ device. duty.Free) (declared decls)) (map (λ device. Some why.Recovered) (declared decls)))) (base_node decls) new_link)
  opened_devices = recovers_keep decls kinds lawful planning fresh_shadow entries (base_node decls) new_link (λ device. refl)
      (start_kept (over decls) (StandsAt decls) (FitAt decls) (ValidAt decls) (told_by entries).history (told_by entries).place (told_by entries).intents true (λ e. cc))
