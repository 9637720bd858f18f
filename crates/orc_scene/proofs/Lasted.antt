-- Loops over events and over rounds, whatever the rules see.
use Rattle.std.proofs.Common.{[], ◌≡◌, ◌≤◌, ◌<◌, ◌+◌, ℕ, Bool, ◌||◌, List, ◌∷◌, refl, ◌∙◌}
use Rattle.std.specs.Prelude.{Result, Ok, Err}
use Rattle.std.proofs.lemmas.Bool.{false≢true}
use Rattle.orc_rules.specs.Worlds.{Setting, World as Seen}
use Rattle.orc_scene.specs.Courses.{EndsAtOnce}
use Rattle.orc_scene.specs.Stands.{IsSeenAs}
use Rattle.orc_scene.specs.declared.stop.WorldStop.{WorldStop}
use Rattle.orc_scene.specs.declared.stop.WorldStop.TheVariants as stop
use Rattle.orc_scene.specs.declared.scene.Scene.{Scene}
use Rattle.orc_scene.proofs.Seeing.{place_disk}

abbrev pub went : Bool → Result Bool WorldStop
went came = Ok came

abbrev pub stopped : WorldStop → Result Bool WorldStop
stopped why = Err why

abbrev pub done : Unit {0} → Result (Unit {0}) WorldStop
done value = Ok value

abbrev pub ended : WorldStop → Result (Unit {0}) WorldStop
ended why = Err why

-- memory ran out before more came
pub wanting_at : {D : Type 0} (here : Setting D) (seen : Seen D) (world : Scene D) (now : List ℕ) → IsSeenAs here seen world → EndsAtOnce here seen world world now now stop.Memory
wanting_at here seen world now is = record { memory = refl; disk = place_disk here seen world.place is.place; events = refl; printed = refl }
