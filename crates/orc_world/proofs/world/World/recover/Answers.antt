use Rattle.std.proofs.Common.{sym, ◌∙◌}
use Rattle.orc_world.proofs.world.World.recover.Goals as goal

pub recover_only-requires-clause-down : goal.recover_only-requires-clause-down
recover_only-requires-clause-down g c = sym c.is_up.ensures ∙ c.if-not-is_up.true

pub returns-then-not-is_up : goal.returns-then-not-is_up
returns-then-not-is_up g c = c.recover_only.ensures

pub recover_up-requires-clause-up : goal.recover_up-requires-clause-up
recover_up-requires-clause-up g c = sym c.is_up.ensures ∙ c.if-not-is_up.false

pub returns : goal.returns
returns g c = c.recover_up.ensures
