-- What living services write on one device, and the law that a store is their overlay.
use Rattle.std.specs.Prelude.{◌≡◌, ℕ, Bool, true, not, ◌&&◌, List, [], ◌∷◌, map, Option, IsTrue, if◌then◌else◌}
use Rattle.std.specs.declared.option.Option.TheVariants.{None, Some}
use Rattle.std.specs.List.{list_any}
use Rattle.std.specs.FinMap.{get}
use Rattle.orc_path.specs.Steps.{PathStep}
use Rattle.orc_path.specs.Configurations.{Config, overlay}
use Rattle.orc_path.specs.declared.item.Item.{Item}
use Rattle.orc_refs.specs.Ids.{is_id, holds_id}
use Rattle.orc_refs.specs.Stores.{Store, IsStore, ids_at, written_by}

-- a living service, and what it writes on the device
pub record Living : Type 0 where
  pub id : List ℕ
  pub items : Config

-- what the service of an id writes at a path
abbrev pub live_writes : List Living → List ℕ → List PathStep → Option Item
live_writes [] id path = None
live_writes (service ∷ live) id path =
    if is_id service.id id then get service.items path else live_writes live id path

-- no two of them have one id
abbrev pub are_apart : List Living → Bool
are_apart [] = true
are_apart (service ∷ live) = not (list_any (λ other. is_id other.id service.id) live) && are_apart live

-- the base overlaid with the items that services write, one after the other
abbrev pub overlaid : List Config → Config → Config
overlaid [] base = base
overlaid (top ∷ tops) base = overlaid tops (overlay top base)

-- the store is exactly what these services write over this base
pub record IsStoreOf (live : List Living) (base : Config) (store : Store) : Type 0 where
  pub over : store.base ≡ base
  pub writers : (id : List ℕ) (path : List PathStep) → written_by store id path ≡ live_writes live id path

-- The tree of a store is its base overlaid with what its services write, and the back pointers of a path are exactly
-- the services that write it.
abbrev pub StoreIsOverlay : Type 0
StoreIsOverlay =
    (live : List Living) (base : Config) (store : Store) → IsStore store → IsStoreOf live base store
    → IsTrue (are_apart live)
    → (store.tree ≡ overlaid (map (λ service. service.items) live) base)
    × ((id : List ℕ) (path : List PathStep) → IsTrue (holds_id id (ids_at store path))
    → (item : Item) × (live_writes live id path ≡ Some item))
    × ((id : List ℕ) (path : List PathStep) (item : Item) → live_writes live id path ≡ Some item
    → IsTrue (holds_id id (ids_at store path)))
