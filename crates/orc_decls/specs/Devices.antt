-- Names of declared devices, and where the data has them.
use Rattle.std.specs.Prelude.{ℕ, Bool, nat_eq, List, [], ◌∷◌, codes, map}
use Rattle.std.specs.List.{slice_get}
use Rattle.std.specs.Option.{option_map_or}
use Rattle.std.specs.Cmp.Lexicographic.{pointwise}
use Rattle.orc_path.specs.Steps.{PathStep}
use Rattle.orc_decls.specs.declared.declarations.Device.{Device}

-- whether two texts are equal
abbrev pub is_same_text : List ℕ → List ℕ → Bool
is_same_text = pointwise nat_eq

-- the names of devices
abbrev pub names_of : List Device → List (List ℕ)
names_of devices = map (λ device. device.name) devices

-- the name of the device of a number
abbrev pub name_of : List (List ℕ) → ℕ → List ℕ
name_of names device = option_map_or (λ name. name) (slice_get names device) []

-- the list of the devices in the data, and the entry of the device of a name
abbrev pub device_list_path : List PathStep
device_list_path = record { node = codes "orc:device"; keys = [] } ∷ []

abbrev pub device_entry : List ℕ → List PathStep
device_entry name = record { node = codes "orc:device"; keys = name ∷ [] } ∷ []
