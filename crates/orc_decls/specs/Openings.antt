-- What is declared of data and bases, before any call.
use Rattle.std.specs.Prelude.{ℕ, Bool, List, [], ◌∷◌}
use Rattle.std.specs.List.{list_all}
use Rattle.std.specs.FinMap.{empty}
use Rattle.orc_path.specs.Items.{fits}
use Rattle.orc_path.specs.Configurations.{Config, put_item}
use Rattle.orc_path.specs.declared.item.Item.TheVariants.{Entry}
use Rattle.orc_call.specs.declared.call.Put.{Put}
use Rattle.orc_decls.specs.Devices.{device_entry}
use Rattle.orc_decls.specs.declared.declarations.Device.{Device}

-- the items and the entries on their way; of two items at one path the later one counts
abbrev pub put_all : List Put → Config → Config
put_all [] config = config
put_all (put ∷ puts) config = put_all puts (put_item config put.path put.item)

-- each item fits its path
abbrev pub fits_puts : List Put → Bool
fits_puts puts = list_all (λ put. fits put.path put.item) puts

-- with an entry for each of the devices of these names
abbrev pub enter_devices : List (List ℕ) → Config → Config
enter_devices [] config = config
enter_devices (name ∷ names) config = enter_devices names (put_item config (device_entry name) Entry)

-- the declared data: these items, and an entry for each of the devices of these names
abbrev pub opening_data : List (List ℕ) → List Put → Config
opening_data names puts = enter_devices names (put_all puts empty)

-- the declared base of a device
abbrev pub declared_base : Device → Config
declared_base device = put_all device.base empty
