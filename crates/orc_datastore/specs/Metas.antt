-- What is known of a path of a device: who writes it, and what stands there in the device's base.
use Rattle.std.specs.Prelude.{◌≡◌, ◌≢◌, ℕ, List, [], length, is_some, Option, IsTrue}
use Rattle.std.specs.declared.option.Option.TheVariants.{None, Some}
use Rattle.std.specs.List.{filter, list_any}
use Rattle.std.specs.Option.{option_copied}
use Rattle.std.specs.FinMap.{get}
use Rattle.orc_path.specs.Steps.{PathStep}
use Rattle.orc_refs.specs.Ids.{are_rising, holds_id}
use Rattle.orc_refs.specs.declared.moves.Meta.{Meta}
use Rattle.orc_datastore.specs.States.{Datastore, config_of, has_id, part}
use Rattle.orc_datastore.specs.declared.service.Service.{Service}

-- the living services that write an item at a path of a device
abbrev pub writers : Datastore → ℕ → List PathStep → List Service
writers state device path = filter (λ service. is_some (get (part service device) path)) state.live

-- these are the names of these services, each once, in the order of their bytes
pub record AreNamesOf (services : List Service) (ids : List (List ℕ)) : Type 0 where
  pub rising : IsTrue (are_rising ids)
  pub exact : (id : List ℕ) → holds_id id ids ≡ list_any (has_id id) services

-- What is known of a path: nothing where no living service writes it; else how many do, their names in byte order, and
-- the item that stands there in the base, if one does.
abbrev pub IsMeta : Datastore → ℕ → List PathStep → Option Meta → Type 0
IsMeta state device path None = writers state device path ≡ []
IsMeta state device path (Some meta) =
    (writers state device path ≢ []) × (meta.count ≡ length (writers state device path))
    × AreNamesOf (writers state device path) meta.back.now
    × (option_copied meta.original ≡ get (config_of state.bases device) path)
