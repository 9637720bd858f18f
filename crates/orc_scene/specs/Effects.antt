-- The hub of a scene, a stop that is armed in it, and a text that is printed.
use Rattle.std.specs.Prelude.{◌≡◌, ◌++◌, ℕ, Option, Some, None, List, Result, MatchResult, IfErr, OnOk}
use Rattle.std.specs.Global.{Vec}
use Rattle.orc_disk.specs.Stops.{Stopping}
use Rattle.orc_hub.specs.declared.hub.Hub.{Hub}
use Rattle.orc_hub_laws.specs.Turns.{armed_with}
use Rattle.orc_scene.specs.declared.stop.WorldStop.{WorldStop}
use Rattle.orc_scene.specs.declared.stop.WorldStop.TheVariants as stop
use Rattle.orc_scene.specs.declared.scene.Place.{Place}
use Rattle.orc_scene.specs.declared.scene.Place.TheVariants.{Up}

-- the hub that is up, if one is
abbrev pub hub_in : {D : Type 0} → Place D → Option (Hub (Stopping D))
hub_in (Up hub) = Some hub
hub_in other = None

-- the place with a stop armed in the journal's disk, where a hub is up
abbrev pub armed_place : {D : Type 0} → ℕ → ℕ → Place D → Place D
armed_place operation bytes (Up hub) = Up (armed_with operation bytes hub)
armed_place operation bytes other = other

-- a text is printed, whole, or not at all where memory ran out
abbrev pub PrintsText : {M : Type 0} → Result (Vec ℕ) M → List ℕ → Result (Unit {0}) WorldStop → List ℕ → Type 0
PrintsText text before result after =
    OnOk result (MatchResult text (λ bytes. after ≡ before ++ bytes.items) (λ memory. ⊥))
    × IfErr result (λ why. (why ≡ stop.Memory) × (after ≡ before))
