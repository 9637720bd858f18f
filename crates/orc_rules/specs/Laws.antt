-- What each event keeps.
use Rattle.std.specs.Prelude.{◌≡◌, ◌<◌, ◌≤◌, ℕ, Bool, true, false, Option, Some, None, [], Err, slice_get}
use Rattle.orc_call.specs.declared.answer.RecFault.TheVariants as fault
use Rattle.orc_call.specs.declared.answer.Tag.{Tag}
use Rattle.orc_device.specs.Nodes.{DeviceKind}
use Rattle.orc_disk.specs.Meanings.{DiskMeaning}
use Rattle.orc_decls.specs.Declarations.{AreDecls}
use Rattle.orc_decls.specs.Calls.{schema_named}
use Rattle.orc_decls.specs.Devices.{name_of}
use Rattle.orc_decls.specs.Openings.{declared_base}
use Rattle.orc_decls.specs.declared.declarations.Decls.{Decls}
use Rattle.orc_decls.specs.declared.declarations.Device.{Device}
use Rattle.orc_node.specs.Laws.{IsTypedTree}
use Rattle.orc_path.specs.Configurations.{Config, IsConfig}
use Rattle.orc_rules.specs.Acceptance.{FrontsKept, IsOfSchema, RepliesKept, declared_kind}
use Rattle.orc_rules.specs.Events.{Steps}
use Rattle.orc_rules.specs.Hubs.{Hub}
use Rattle.orc_rules.specs.Kept.{HistoryKept}
use Rattle.orc_rules.specs.Turns.{is_of_round, turns_at_most, turns_left}
use Rattle.orc_rules.specs.UnderHub.{DevicesKept, IsOfHub}
use Rattle.orc_rules.specs.Worlds.{Setting, World, over}
use Rattle.orc_rules.specs.declared.event.Event.{Event}
use Rattle.orc_rules.specs.declared.event.Event.TheVariants as event

-- a setting of these parts
abbrev pub setting : {D : Type 0} → DiskMeaning D → Decls → (ℕ → DeviceKind) → ℕ → Bool → Setting D
setting disk decls kinds limit granted =
    record { disk = disk; decls = decls; kinds = kinds; limit = limit; granted = granted }

-- Each event, however its append comes out, keeps the journal one of a legal history, in every image and as it is read,
-- and the hub knows it.
abbrev pub HistoryIsKept : {D : Type 0} → DiskMeaning D → Type 0
HistoryIsKept {D} disk =
    (decls : Decls) (kinds : ℕ → DeviceKind) (limit : ℕ) (granted : Bool) (old new : World D)
    (meant : Event) (seen : Option Event)
    → AreDecls decls → HistoryKept (setting disk decls kinds limit granted) old
    → Steps (setting disk decls kinds limit granted) old meant seen new
    → HistoryKept (setting disk decls kinds limit granted) new

-- And it keeps the devices: of each that isn't stale, and for which nobody works, what it runs is what is due; what is
-- pending there is of an unsettled intent; and it would come back to the tree of a prefix of the history.
abbrev pub DevicesAreKept : {D : Type 0} → DiskMeaning D → Type 0
DevicesAreKept {D} disk =
    (decls : Decls) (kinds : ℕ → DeviceKind) (limit : ℕ) (granted : Bool) (old new : World D)
    (meant : Event) (seen : Option Event)
    → AreDecls decls → ((device : ℕ) → IsOfHub (kinds device))
    → HistoryKept (setting disk decls kinds limit granted) old
    → DevicesKept decls old
    → Steps (setting disk decls kinds limit granted) old meant seen new → DevicesKept decls new

-- It keeps what is known of replies. Each device accepts what it runs and what it would come back to. A device that
-- prepared a call accepts the tree that is due with it; one that refused it said operation-failed and doesn't accept
-- that tree. A reply counts as a fault of the link only where it is one.
abbrev pub RepliesAreKept : {D : Type 0} → DiskMeaning D → Type 0
RepliesAreKept {D} disk =
    (decls : Decls) (kinds : ℕ → DeviceKind) (limit : ℕ) (granted : Bool) (old new : World D)
    (meant : Event) (seen : Option Event)
    → AreDecls decls → ((device : ℕ) → IsOfHub (kinds device)) → ((device : ℕ) → IsOfSchema decls device (kinds device))
    → HistoryKept (setting disk decls kinds limit granted) old → DevicesKept decls old
    → RepliesKept (setting disk decls kinds limit granted) old
    → Steps (setting disk decls kinds limit granted) old meant seen new
    → RepliesKept (setting disk decls kinds limit granted) new

-- Where each device accepts the tree due after each prefix of the history it is so after each event, and no
-- reconciliation is refused.
abbrev pub FrontsAreKept : {D : Type 0} → DiskMeaning D → Type 0
FrontsAreKept {D} disk =
    (decls : Decls) (kinds : ℕ → DeviceKind) (limit : ℕ) (granted : Bool) (old new : World D)
    (meant : Event) (seen : Option Event)
    → AreDecls decls → ((device : ℕ) → IsOfHub (kinds device)) → ((device : ℕ) → IsOfSchema decls device (kinds device))
    → HistoryKept (setting disk decls kinds limit granted) old → DevicesKept decls old
    → RepliesKept (setting disk decls kinds limit granted) old → FrontsKept (setting disk decls kinds limit granted) old
    → Steps (setting disk decls kinds limit granted) old meant seen new
    → FrontsKept (setting disk decls kinds limit granted) new
    × ((device : ℕ) (tag : Tag) → seen ≡ Some (event.Reconcile (Some (Err (fault.Refused device tag)))) → ⊥)

-- Each event of a round after which a hub is up leaves fewer turns under it.
abbrev pub TurnsLessen : {D : Type 0} → DiskMeaning D → Type 0
TurnsLessen {D} disk =
    (decls : Decls) (kinds : ℕ → DeviceKind) (limit : ℕ) (granted : Bool) (old new : World D)
    (meant : Event) (seen : Option Event)
    (hub next : Hub) → DevicesKept decls old → old.hub ≡ Some hub → new.hub ≡ Some next → is_of_round meant ≡ true
    → Steps (setting disk decls kinds limit granted) old meant seen new
    → turns_left next new.links < turns_left hub old.links

-- Where no reconciliation is begun, they are at most 24 for each device of a call that waits or is under way, and 4 for
-- it.
abbrev pub TurnsAreBounded : (D : Type 0) → Type 0
TurnsAreBounded D =
    (decls : Decls) (world : World D) (hub : Hub) → DevicesKept decls world → world.hub ≡ Some hub → hub.mends ≡ None
    → turns_left hub world.links ≤ turns_at_most hub

-- Devices as they are declared are of the hub's kinds and of their declared schemas, and each accepts what is due before
-- any call, which is its declared base.
abbrev pub DevicesAreAsDeclared : Type 0
DevicesAreAsDeclared =
    (decls : Decls) (device : ℕ) → AreDecls decls
    → IsOfHub (declared_kind decls device) × IsOfSchema decls device (declared_kind decls device)
    × ((declared_kind decls device).accepts (over decls device []) ≡ true)
    × ((one : Device) → slice_get decls.devices device ≡ Some one → over decls device [] ≡ declared_base one)

-- Whatever a device accepts, as each does that it runs, is typed by its schema, where that is one of modules.
abbrev pub AcceptedIsTyped : Type 0
AcceptedIsTyped =
    (decls : Decls) (device : ℕ) (config : Config) → AreDecls decls
    → (schema_named decls.schemas decls.devices (name_of decls.names device)).plain ≡ false → IsConfig config
    → (declared_kind decls device).accepts config ≡ true
    → IsTypedTree (schema_named decls.schemas decls.devices (name_of decls.names device)) config
