-- The store of one device: what no service wrote, the tree that the device should have, and who writes what.
use Rattle.std.specs.Prelude.{◌≡◌, ◌≢◌, ℕ, List, [], Option, IsTrue, IsSome, if◌then◌else◌, refl}
use Rattle.std.specs.declared.option.Option.TheVariants.{None, Some}
use Rattle.std.specs.Option.{option_map_or}
use Rattle.std.specs.Coded.{Coded, code_by, coded×, coded_ℕ, coded_list}
use Rattle.std.specs.FinMap.{FinMap, code, empty, get, from_sorted}
use Rattle.orc_path.specs.Codes.{path_code, config_code}
use Rattle.orc_path.specs.Steps.{PathStep}
use Rattle.orc_path.specs.Order.{path_cmp}
use Rattle.orc_path.specs.Configurations.{Config, IsConfig, IsWay}
use Rattle.orc_path.specs.declared.item.Item.{Item}
use Rattle.orc_refs.specs.Ids.{holds_id, are_rising}

-- the ids of the services that write a path, for each path that some service writes
abbrev pub Backs : Type 0
Backs = FinMap path_cmp (List (List ℕ))

-- the base, which no service wrote; the tree, which is the base overlaid with all that services write; and the back
-- pointers
pub record Store : Type 0 where
  pub base : Config
  pub tree : Config
  pub backs : Backs

abbrev pub store_code : Coded Store
store_code =
    code_by (Config × (Config × Backs))
    (coded× config_code (coded× config_code (code path_code (coded_list (coded_list coded_ℕ)))))
    (λ store. (store.base, (store.tree, store.backs)))
    (λ parts. record { base = parts.0; tree = parts.1.0; backs = parts.1.1 }) (λ store. refl)

-- the ids of the services that write a path
abbrev pub ids_in : Backs → List PathStep → List (List ℕ)
ids_in backs path = option_map_or (λ ids. ids) (get backs path) []

abbrev pub ids_at : Store → List PathStep → List (List ℕ)
ids_at store path = ids_in store.backs path

-- what the service of an id writes at a path
abbrev pub written_by : Store → List ℕ → List PathStep → Option Item
written_by store id path = if holds_id id (ids_at store path) then get store.tree path else None

-- no service writes anything
abbrev pub empty_store : Config → Store
empty_store base = record { base = base; tree = base; backs = empty }

-- The tree has what services write, and elsewhere the base's items; back pointers are ids in byte order; each service
-- writes a configuration.
pub record IsStore (store : Store) : Type 0 where
  pub base : IsConfig store.base
  pub tree : IsConfig store.tree
  pub some : (path : List PathStep) → get store.backs path ≢ Some []
  pub rising : (path : List PathStep) → IsTrue (are_rising (ids_at store path))
  pub covered : (path : List PathStep) → ids_at store path ≢ [] → IsSome (get store.tree path)
  pub uncovered : (path : List PathStep) → ids_at store path ≡ [] → get store.tree path ≡ get store.base path
  pub ways : (id : List ℕ) (path way : List PathStep) → IsTrue (holds_id id (ids_at store path)) → IsWay way path
      → IsTrue (holds_id id (ids_at store way))

-- the store that a base, a tree and rows of back pointers stand for
abbrev pub store_of : Config → Config → List (List PathStep × List (List ℕ)) → Store
store_of base tree rows = record { base = base; tree = tree; backs = from_sorted rows }
