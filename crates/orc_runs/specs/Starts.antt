-- How a run begins.
use Rattle.std.specs.Prelude.{Bool, true, false, [], ◌≡◌, ◌↔◌, ℕ, Option, Some, None, List, IsTrue, map}
use Rattle.orc_call.specs.declared.answer.Why.{Why}
use Rattle.orc_call.specs.declared.answer.Why.TheVariants as why
use Rattle.orc_datastore.specs.Legal.{IsLegal}
use Rattle.orc_decls.specs.declared.declarations.Decls.{Decls}
use Rattle.orc_device.specs.Nodes.{DeviceKind, NodeState}
use Rattle.orc_journal.specs.Committed.{history_of}
use Rattle.orc_journal.specs.Opening.{AreEntriesOf}
use Rattle.orc_journal.specs.Orders.{is_ordered}
use Rattle.orc_rules.specs.Acceptance.{IsOfSchema}
use Rattle.orc_rules.specs.Journals.{HoldsEntries, IsReadBack}
use Rattle.orc_rules.specs.UnderHub.{IsOfHub}
use Rattle.orc_rules.specs.Worlds.{Link, Setting, World, declared, new_hub, over}
use Rattle.orc_rules.specs.declared.duty.Duty.TheVariants as duty

-- Devices such as these declarations speak of: each compares trees, and finds the way from one to another, as the hub
-- does; it takes exactly the changes that its declared schema types; and it accepts its base.
pub record AreDevicesOf (decls : Decls) (kinds : ℕ → DeviceKind) : Type 0 where
  pub of_hub : (device : ℕ) → IsOfHub (kinds device)
  pub of_schema : (device : ℕ) → IsOfSchema decls device (kinds device)
  pub accept_base : (device : ℕ) → (kinds device).accepts (over decls device []) ≡ true

-- a device that runs its base: nothing is pending there, and no session lives
abbrev pub node_at_base : Decls → ℕ → NodeState
node_at_base decls device = record {
  running = over decls device [];
  candidate = over decls device [];
  running_lock = None;
  candidate_lock = None;
  pending = None;
  live = [];
  last = 0;
}

-- a link that had no session yet, and no fault, of which none is listed
abbrev pub link_at_first : Link
link_at_first = record { session = 0; listed = []; faults = 0; unheard = None }

-- each device is stale for this cause, if for one
abbrev pub each_stale : Decls → Option Why → List (Option Why)
each_stale decls cause = map (λ device. cause) (declared decls)

-- why each device is stale as a run begins: the hub recovered, and not where the disk was empty
abbrev pub cause_at_first : Bool → Option Why
cause_at_first true = None
cause_at_first false = Some why.Recovered

-- A run begins with a new hub over a journal that was opened. The disk gave these bytes as it was opened: they are the
-- journal of a legal history, or there are none, and the journal was begun. Nothing of it is at stake, and no stop is
-- armed. What a recovery reads is what was written, since the disk reports what it holds, or by what is granted. Each
-- device runs its base. No device is stale where the disk was empty, and else each is, since the hub recovered.
pub record StartsRun {D : Type 0} (here : Setting D) (world : World D) : Type 0 where
  pub holds : HoldsEntries here.disk here.decls.text here.limit world.journal
  pub uncut : world.journal.cut ≡ []
  pub unarmed : world.journal.armed ≡ 0
  pub read_back : IsReadBack here.disk here.decls.text here.limit here.granted world.journal.disk
  pub ordered : IsTrue (is_ordered world.journal.synced)
  pub legal : IsLegal here.decls (history_of world.journal.synced)
  pub file : List ℕ
  pub opened : AreEntriesOf file here.decls.text world.journal.synced
  pub fresh : Bool
  pub empty : (fresh ≡ true) ↔ (file ≡ [])
  pub hub : world.hub ≡ Some (new_hub (map (λ device. duty.Free) (declared here.decls))
      (each_stale here.decls (cause_at_first fresh)))
  pub snapshots : (caller : List ℕ) → world.snapshots caller ≡ None
  pub nodes : (device : ℕ) → world.nodes device ≡ node_at_base here.decls device
  pub links : (device : ℕ) → world.links device ≡ link_at_first
