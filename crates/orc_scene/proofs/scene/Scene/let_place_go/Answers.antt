use Rattle.std.proofs.Common.{ap, ◌∙◌}
use Rattle.orc_scene.specs.inside.Effects.{place_without}
use Rattle.orc_scene.proofs.scene.Scene.let_place_go.Goals as goal

pub returns : goal.returns
returns g c = ap (λ p. record c.args.self.now { place = p }) (c.replace.ensures.after ∙ c.without_hub.ensures ∙ ap (λ p. place_without p) c.replace-place.ensures.value)
