-- What writes add to numbered configurations.
use Rattle.std.specs.Prelude.{◌≡◌, ℕ, ◌<◌, ◌==◌, List, length, if◌then◌else◌}
use Rattle.orc_path.specs.Steps.{PathStep}
use Rattle.orc_path.specs.Configurations.{Config, put_item}
use Rattle.orc_path.specs.declared.item.Item.{Item}
use Rattle.orc_call.specs.declared.call.DevicePut.{DevicePut}
use Rattle.orc_decls.specs.Devices.{is_same_text, name_of}
use Rattle.orc_datastore.specs.Services.{written_on}

-- the item is put into the configuration of a number, and those of other numbers are as before
abbrev pub AddsItem : ℕ → List PathStep → Item → List (ℕ × Config) → List (ℕ × Config) → Type 0
AddsItem device path item written written' =
    (d : ℕ)
    → written_on written' d
    ≡ (if device == d then put_item (written_on written d) path item else written_on written d)

-- what the write writes is put into the configuration of the device of its name, if there is one
abbrev pub TakesWrite : List (List ℕ) → DevicePut → List (ℕ × Config) → List (ℕ × Config) → Type 0
TakesWrite names write written written' =
    (d : ℕ) → d < length names → written_on written' d
    ≡ (if is_same_text write.device (name_of names d)
    then put_item (written_on written d) write.path write.item
    else written_on written d)
