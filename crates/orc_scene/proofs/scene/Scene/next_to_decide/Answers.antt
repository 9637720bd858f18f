use Rattle.std.proofs.Common.{◌≡◌, None, refl, subst, sym}
use Rattle.std.specs.Prelude.{MatchOption, if◌then◌else◌}
use Rattle.orc_rules.specs.Due.{least_due}
use Rattle.orc_scene.specs.Effects.{hub_in}
use Rattle.orc_scene.proofs.Turning.{none_else}
use Rattle.orc_scene.proofs.scene.Scene.next_to_decide.Goals as goal

pub returns-in-Up : goal.returns-in-Up
returns-in-Up g c =
    subst (λ p. MatchOption (hub_in p) (c.next_to_decide.result ≡ None) (λ hub. c.next_to_decide.result ≡ (if hub.down then None else least_due hub.duties hub.active)))
    (sym c.in-Up.is) c.next_to_decide.ensures

pub returns-in_default : goal.returns-in_default
returns-in_default g c = none_else c.args.self.now.place c.in_default.not-Up _ _ refl
