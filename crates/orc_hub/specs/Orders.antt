-- The operation due on a device.
use Rattle.std.specs.Prelude.{◌≡◌, ℕ, Bool, false, Some, slice_get}
use Rattle.std.specs.Option.{option_map_or}
use Rattle.orc_device.specs.declared.op.Op.TheVariants as op
use Rattle.orc_rules.specs.Duties.{is_busy}
use Rattle.orc_rules.specs.Hubs.{Hub, due_on}
use Rattle.orc_tree.specs.declared.change.ChangeSet.{ChangeSet}

-- the operation due on the device is an edit
abbrev pub IsEditDue : Hub → ℕ → Type 0
IsEditDue hub device = (changes : ChangeSet) × (due_on hub device ≡ Some (op.Edit changes))

-- an operation was due on the device, and its reply is to come
abbrev pub is_awaited : Hub → ℕ → Bool
is_awaited hub device = option_map_or is_busy (slice_get hub.duties device) false
