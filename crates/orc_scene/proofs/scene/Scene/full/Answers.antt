use Rattle.std.proofs.Common.{refl}
use Rattle.orc_scene.proofs.scene.Scene.full.Goals as goal

pub returns-clause-state : goal.returns-clause-state
returns-clause-state g c = c.let_go.ensures

pub returns-clause-why : goal.returns-clause-why
returns-clause-why g c = refl
