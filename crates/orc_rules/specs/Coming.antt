-- How far along the history each device has come.
use Rattle.std.specs.Prelude.{ℕ, nat_eq, Option, Some, None, List, length, if◌then◌else◌}
use Rattle.std.specs.Option.{option_map_or}
use Rattle.orc_device.specs.Links.{took_effect}
use Rattle.orc_device.specs.declared.op.Op.{Op}
use Rattle.orc_device.specs.declared.op.Op.TheVariants.{Commit, Confirm}
use Rattle.orc_rules.specs.Cells.{place_or}
use Rattle.orc_rules.specs.Events.{told_now, way_due}
use Rattle.orc_rules.specs.Hubs.{due_on}
use Rattle.orc_rules.specs.Told.{Told}
use Rattle.orc_rules.specs.Worlds.{Setting, World}
use Rattle.orc_rules.specs.declared.event.Event.{Event}
use Rattle.orc_rules.specs.declared.event.Event.TheVariants.{Perform}

-- So many of the history's first calls a device has come to by an operation that took effect there: a Confirm brings it
-- to the entry of the transaction that it names, and a Commit to the whole history.
abbrev pub came_to : Told → ℕ → Op → ℕ
came_to told at (Confirm t) = place_or (told.place t) at
came_to told at Commit = length told.history
came_to told at other = at

module _ {D : Type 0} (here : Setting D) (world : World D) (device : ℕ) where
  -- and by the operation that is due there in this world, if one is: it moves the device only where it takes effect
  abbrev pub came_by_due : ℕ → Option Op → ℕ
  came_by_due at None = at
  came_by_due at (Some op) =
      if took_effect (way_due here world device op) then came_to (told_now here world) at op else at

  -- and by what is seen in this world: an operation that is performed there, and nothing else
  abbrev pub came_by : ℕ → Option Event → ℕ
  came_by at (Some (Perform other op reply count)) =
      if nat_eq other device then option_map_or (λ hub. came_by_due at (due_on hub device)) world.hub at else at
  came_by at other = at
