-- Which devices are declared.
use Rattle.std.proofs.Common.{◌≡◌, ℕ, Bool, true, false, ◌||◌, List, [], ◌∷◌, is_some, Some, refl}
use Rattle.std.specs.Prelude.{if◌then◌else◌}
use Rattle.std.specs.List.{list_all, list_any}
use Rattle.std.specs.Cmp.{first_so, second_so}
use Rattle.std.proofs.lemmas.Bool.{and_from}
use Rattle.orc_schema_nodes.specs.Schemas.{SchemaTable}
use Rattle.orc_decls.specs.Devices.{is_same_text, names_of}
use Rattle.orc_decls.specs.Calls.{device_named, is_device, is_lawful_name}
use Rattle.orc_decls.specs.declared.declarations.Device.{Device}
use Rattle.orc_decls.proofs.Fits.{device-name}

-- there is a device of a name exactly where that is among the names of the devices
pub declared-named : (devices : List Device) (name : List ℕ) → is_some (device_named devices name) ≡ list_any (is_same_text name) (names_of devices)
declared-named [] name = refl
declared-named (device ∷ devices) name = on (declared-named devices name) (is_same_text name device.name)
  where
    on : is_some (device_named devices name) ≡ list_any (is_same_text name) (names_of devices) → (t : Bool)
        → is_some (if t then Some device else device_named devices name) ≡ (t || list_any (is_same_text name) (names_of devices))
    on later true = refl
    on later false = later

-- the names of declared devices are lawful
pub names-lawful : (schemas : List SchemaTable) (devices : List Device) → list_all (is_device schemas) devices ≡ true → list_all is_lawful_name (names_of devices) ≡ true
names-lawful schemas [] h = refl
names-lawful schemas (d ∷ ds) h =
    let device = first_so (is_device schemas d) (list_all (is_device schemas) ds) h in
    and_from (is_lawful_name d.name) (list_all is_lawful_name (names_of ds)) (device-name schemas d device)
    (names-lawful schemas ds (second_so (is_device schemas d) (list_all (is_device schemas) ds) h))
