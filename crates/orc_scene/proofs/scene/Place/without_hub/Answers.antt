use Rattle.std.proofs.Common.{ap, sym, ◌∙◌}
use Rattle.orc_scene.specs.inside.Effects.{place_without}
use Rattle.orc_scene.proofs.scene.Place.without_hub.Goals as goal

pub returns-in-Up : goal.returns-in-Up
returns-in-Up g c = c.place_of.ensures ∙ ap (λ p. place_without p) (sym c.in-Up.is)

pub returns-in-Down : goal.returns-in-Down
returns-in-Down g c = ap (λ p. place_without p) (sym c.in-Down.is)

pub returns-in-Ended : goal.returns-in-Ended
returns-in-Ended g c = ap (λ p. place_without p) (sym c.in-Ended.is)

pub returns-in-Moved : goal.returns-in-Moved
returns-in-Moved g c = ap (λ p. place_without p) (sym c.in-Moved.is)
