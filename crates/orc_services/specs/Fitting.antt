-- Items that fit their paths.
use Rattle.std.specs.Prelude.{ℕ, Bool, true, ◌&&◌, List, All, IsTrue}
use Rattle.std.specs.Option.{option_map_or}
use Rattle.orc_path.specs.Reading.{path_of}
use Rattle.orc_path.specs.declared.item.Item.TheVariants.{Entry}
use Rattle.std.specs.List.{list_all}
use Rattle.orc_path.specs.Items.{fits}
use Rattle.orc_call.specs.declared.call.Action.{Action}
use Rattle.orc_call.specs.declared.call.Action.TheVariants.{Create, Modify, Literal, Set, BasePut}
use Rattle.orc_call.specs.declared.call.DevicePut.{DevicePut}
use Rattle.orc_call.specs.declared.call.Put.{Put}

-- each item fits its path
abbrev pub fits_body : List Put → Bool
fits_body body = list_all (λ put. fits put.path put.item) body

abbrev pub fits_writes : List DevicePut → Bool
fits_writes writes = list_all (λ write. fits write.path write.item) writes

-- the path of which it is the text, if it is one, is that of an entry
abbrev pub is_entry_id : List ℕ → Bool
is_entry_id id = option_map_or (λ path. fits path Entry) (path_of id) true

-- each item that the action sets fits its path
abbrev pub fits_action : Action → Bool
fits_action (Create id body) = is_entry_id id && fits_body body
fits_action (Modify id body) = is_entry_id id && fits_body body
fits_action (Literal id writes) = fits_writes writes
fits_action (Set put) = fits put.path put.item
fits_action (BasePut put) = fits put.path put.item
fits_action other = true

abbrev pub FitActions : List Action → Type 0
FitActions actions = All (λ action. IsTrue (fits_action action)) actions
