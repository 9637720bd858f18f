use Rattle.std.proofs.Common.{inl, inr, sym, ◌∙◌}
use Rattle.orc_scene.proofs.scene.Scene.conclude.Goals as goal

pub returns-then-is_down : goal.returns-then-is_down
returns-then-is_down g c = inl (sym c.is_down.ensures ∙ c.if-is_down.true, c.failed.ensures)

pub returns : goal.returns
returns g c = inr (sym c.is_down.ensures ∙ c.if-is_down.false, c.answered.ensures.state, c.answered.ensures.said)
