-- What touches a device: edits of it by its name, and the services that are taken away.
use Rattle.std.specs.Prelude.{ℕ, Bool, false, ◌==◌, not, List, Option}
use Rattle.std.specs.declared.option.Option.TheVariants.{None}
use Rattle.std.specs.FinMap.{len}
use Rattle.std.specs.List.{find}
use Rattle.orc_call.specs.declared.call.Action.{Action}
use Rattle.orc_call.specs.declared.call.Action.TheVariants.{Literal, Delete, BasePut, BaseRemove}
use Rattle.orc_datastore.specs.States.{has_id, part}
use Rattle.orc_decls.specs.Devices.{is_same_text}
use Rattle.orc_datastore.specs.Touched.{is_written_by}
use Rattle.orc_datastore.specs.declared.service.Service.{Service}

-- the action makes a service that writes on the device of this name, or edits its base
abbrev pub is_edited_by : List ℕ → Action → Bool
is_edited_by name (Literal id writes) = is_written_by writes name
is_edited_by name (BasePut put) = is_same_text put.device name
is_edited_by name (BaseRemove device path) = is_same_text device name
is_edited_by name other = false

-- the living service that an expanded action takes away: it is made anew, or deleted
abbrev pub taken_by : List Service → Action → Option Service
taken_by live (Literal id writes) = find (has_id id) live
taken_by live (Delete id) = find (has_id id) live
taken_by live other = None

-- the service has an item on the device
abbrev pub is_on : ℕ → Service → Bool
is_on device service = not (len (part service device) == 0)
