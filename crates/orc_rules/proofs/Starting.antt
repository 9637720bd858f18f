-- A run starts, and a hub that is new has nothing to do.
use Rattle.std.proofs.Common.{◌≡◌, ◌⊎◌, inl, inr, ℕ, false, List, [], ◌∷◌, Option, Some, None, map, length, refl, sym, ap, subst, ◌∙◌, zero, suc}
use Rattle.std.proofs.lemmas.Option.{same_Some}
use Rattle.orc_call.specs.declared.answer.Why.{Why}
use Rattle.orc_call.specs.declared.answer.Why.TheVariants as why
use Rattle.orc_call.specs.declared.call.Call.{Call}
use Rattle.orc_decls.specs.declared.declarations.Decls.{Decls}
use Rattle.orc_device.specs.Nodes.{DeviceKind, NodeState}
use Rattle.orc_device.specs.declared.kind.OpKind.{OpKind}
use Rattle.orc_device.specs.declared.reply.Reply.{Reply}
use Rattle.orc_journal.specs.declared.entry.Entry.{Entry}
use Rattle.orc_worker.specs.declared.worker.Worker.{Worker}
use Rattle.orc_rules.specs.Cells.{DeviceRole}
use Rattle.orc_rules.specs.Cells.DeviceRole.{Free, Works}
use Rattle.orc_rules.specs.Hubs.{Hub, duty_on}
use Rattle.orc_rules.specs.Journals.{entries_read}
use Rattle.orc_rules.specs.Kept.{FitAt, NetworkKept, Shadow, StandsAt, ValidAt, heard as then_heard, local_of, network_of, role_of, role_on}
use Rattle.orc_rules.specs.Invariant.{IsLawful, RoleFacts}
use Rattle.orc_rules.specs.Network.{Planning, cell_of}
use Rattle.orc_rules.specs.Told.{told_by}
use Rattle.orc_rules.specs.UnderHub.{Attends, DevicesKept, UnderHub}
use Rattle.orc_rules.specs.Worlds.{Link, World, declared, new_hub, over}
use Rattle.orc_rules.specs.declared.duty.Duty.{Duty}
use Rattle.orc_rules.specs.declared.duty.Duty.TheVariants as duty
use Rattle.orc_rules.specs.declared.transaction.Transaction.{Transaction}
use Rattle.orc_rules.proofs.Devices.{base_node, fresh_shadow, new_link, opened_devices}
use Rattle.orc_rules.proofs.Promises.{start_kept}
use Rattle.orc_rules.proofs.Reconciling.{range_length}

pub free_on : (decls : Decls) (device : ℕ) → duty_on (map (λ device. duty.Free) (declared decls)) device ≡ duty.Free
free_on decls device = free (declared decls) device
  where
    free : (xs : List ℕ) (i : ℕ) → duty_on (map (λ device. duty.Free) xs) i ≡ duty.Free
    free [] i = refl
    free (x ∷ xs) zero = refl
    free (x ∷ xs) (suc i) = free xs i

none_there : (place : ℕ) (it : Transaction) → ◌≡◌ {A = Option Transaction} None (Some it) → ⊥
none_there place it e = cc

-- what is kept of the work on devices by a hub that is new
pub new_under : (decls : Decls) (shadow : ℕ → Shadow) (entries : List Entry) (stale : List (Option Why)) (links : ℕ → Link) → length stale ≡ length decls.names
    → ((device : ℕ) → (links device).unheard ≡ None) → UnderHub decls shadow entries [] (map (λ device. duty.Free) (declared decls)) stale None links
new_under decls shadow entries stale links sized heard = record {
  duties_sized = range_length (λ device. duty.Free) 0 (length decls.names);
  stale_sized = sized;
  due = λ device one h. absurd (let no : ◌≡◌ {A = Option (OpKind × Reply)} (Some one) None = sym h ∙ heard device in cc);
  agree = λ device worker is. absurd (no_worker device worker is);
  worked = λ device worker is. absurd (no_worker device worker is);
  owned = λ device worker is goes. absurd (no_worker device worker is);
  before = λ place it there h. absurd (none_there place it there);
  noted = λ place it there h. absurd (none_there place it there);
  numbers = λ i j x y there there' same. absurd (none_there i x there);
  intent = λ place it there. absurd (none_there place it there);
  clear = λ device worker is h. absurd (no_worker device worker
      (sym (ap (λ (u : Option (OpKind × Reply)). then_heard u (links device).faults (duty_on (map (λ device. duty.Free) (declared decls)) device)) (heard device)) ∙ is));
  settling = λ place it there h device b known named. absurd (none_there place it there);
  mending = λ device mender is. let no : duty.Free ≡ duty.Mends mender = sym (free_on decls device) ∙ is in cc;
}
  where
    no_worker : (device : ℕ) (worker : Worker) → duty_on (map (λ device. duty.Free) (declared decls)) device ≡ duty.Works worker → ⊥
    no_worker device worker is = let no : duty.Free ≡ duty.Works worker = sym (free_on decls device) ∙ is in cc

-- A run starts with a new hub over a journal that was opened, and each device at its base. Where the journal has no call,
-- devices may be in step.
pub record Begins {D : Type 0} (decls : Decls) (world : World D) : Type 0 where
  pub stale : List (Option Why)
  pub sized : length stale ≡ length decls.names
  pub hub : world.hub ≡ Some (new_hub (map (λ device. duty.Free) (declared decls)) stale)
  pub nodes : world.nodes ≡ base_node decls
  pub links : world.links ≡ new_link
  pub fresh : ((told_by (entries_read world.journal)).history ≡ []) ⊎ (stale ≡ map (λ device. Some why.Recovered) (declared decls))

module _ (decls : Decls) (kinds : ℕ → DeviceKind) (lawful : (device : ℕ) → IsLawful (kinds device) (over decls device))
    (planning : Planning (over decls) (StandsAt decls) (FitAt decls) (ValidAt decls)) (entries : List Entry) (stale : List (Option Why)) where
  abbrev first_hub : Hub
  first_hub = new_hub (map (λ device. duty.Free) (declared decls)) stale

  -- over a journal without a call each device runs what is due
  fresh_kept : (told_by entries).history ≡ [] → NetworkKept decls (network_of decls fresh_shadow entries (Some first_hub) (base_node decls) new_link)
  fresh_kept none =
      let k = start_kept (over decls) (StandsAt decls) (FitAt decls) (ValidAt decls) (told_by entries).history (told_by entries).place (told_by entries).intents false (λ e. none) in
      record {
        each = λ device. let i = k.each device in
            record {
              locks = i.locks;
              at = i.at;
              kept_at = i.kept_at;
              known = i.known;
              number = i.number;
              placed = i.placed;
              role = subst (RoleFacts (over decls device) (cell_of (over decls) (network_of decls fresh_shadow entries (Some first_hub) (base_node decls) new_link) device
                  (local_of decls fresh_shadow entries (Some first_hub) device (base_node decls device) (new_link device)))) (sym (free_role device)) (λ e. i.role refl);
            };
        stands = λ t p e. cc;
        fit = λ t u p q e f ne. cc;
        noted = λ t p e. absurd cc;
        working = λ device o at e h. absurd (let both : ◌≡◌ {A = DeviceRole Call} Free (Works o at) = sym (free_role device) ∙ e in cc);
      }
    where
      free_role : (device : ℕ) → role_on decls fresh_shadow entries (Some first_hub) device (new_link device) ≡ Free
      free_role device = ap (λ (d : Duty). role_of (over decls device) (told_by entries) device d) (free_on decls device)

  started_kept : ((told_by entries).history ≡ []) ⊎ (stale ≡ map (λ device. Some why.Recovered) (declared decls))
      → NetworkKept decls (network_of decls fresh_shadow entries (Some first_hub) (base_node decls) new_link)
  started_kept (inl none) = fresh_kept none
  started_kept (inr all) =
      subst (λ (s : List (Option Why)). NetworkKept decls (network_of decls fresh_shadow entries (Some (new_hub (map (λ device. duty.Free) (declared decls)) s)) (base_node decls) new_link)) (sym all)
      (opened_devices decls kinds lawful planning entries)

-- what is kept of devices is so as a run starts
pub begins_devices : {D : Type 0} (decls : Decls) (kinds : ℕ → DeviceKind) → ((device : ℕ) → IsLawful (kinds device) (over decls device))
    → Planning (over decls) (StandsAt decls) (FitAt decls) (ValidAt decls) → (world : World D) → Begins decls world → DevicesKept decls world
begins_devices decls kinds lawful planning world begins = record {
  shadow = fresh_shadow;
  kept = subst (λ (h : Option Hub). NetworkKept decls (network_of decls fresh_shadow (entries_read world.journal) h world.nodes world.links)) (sym begins.hub)
      (subst (λ (n : ℕ → NodeState). NetworkKept decls (network_of decls fresh_shadow (entries_read world.journal) (Some first) n world.links)) (sym begins.nodes)
      (subst (λ (l : ℕ → Link). NetworkKept decls (network_of decls fresh_shadow (entries_read world.journal) (Some first) (base_node decls) l)) (sym begins.links)
      (started_kept decls kinds lawful planning (entries_read world.journal) begins.stale begins.fresh)));
  silent = λ none device. heard device;
  under = λ hub e. subst (λ (h : Hub). Attends decls fresh_shadow (entries_read world.journal) h world.links) (same_Some first hub (sym begins.hub ∙ e))
      (new_under decls fresh_shadow (entries_read world.journal) begins.stale world.links begins.sized heard);
  rests = λ device past. ap (λ (n : ℕ → NodeState). (n device).pending) begins.nodes ∙ base_rests device;
}
  where
    first : Hub
    first = new_hub (map (λ device. duty.Free) (declared decls)) begins.stale

    unheard_new : (device : ℕ) → (new_link device).unheard ≡ None
    unheard_new device = refl

    heard : (device : ℕ) → (world.links device).unheard ≡ None
    heard device = ap (λ (l : ℕ → Link). (l device).unheard) begins.links ∙ unheard_new device

    base_rests : (device : ℕ) → (base_node decls device).pending ≡ None
    base_rests device = refl

-- and no device has come anywhere yet
pub begins_at : {D : Type 0} (decls : Decls) (kinds : ℕ → DeviceKind) (lawful : (device : ℕ) → IsLawful (kinds device) (over decls device))
    (planning : Planning (over decls) (StandsAt decls) (FitAt decls) (ValidAt decls)) (world : World D) (begins : Begins decls world) (device : ℕ)
    → ((begins_devices decls kinds lawful planning world begins).shadow device).at ≡ 0
unfolding begins_devices
begins_at decls kinds lawful planning world begins device = refl
