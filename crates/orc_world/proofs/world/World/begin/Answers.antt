use Rattle.std.proofs.Common.{sym, ◌∙◌}
use Rattle.orc_world.proofs.Firsts.{begin_down, begin_line}
use Rattle.orc_world.proofs.world.World.begin.Goals as goal

pub returns-then-not-is_up : goal.returns-then-not-is_up
returns-then-not-is_up g c =
    begin_down g.D.Disk.disk c.scene_is_carried.ensures c.args.self.now.scene c.args.out.now c.args.caller.now c.requires.sound (sym c.is_up.ensures ∙ c.if-not-is_up.true)

pub take_new-requires-clause-up : goal.take_new-requires-clause-up
take_new-requires-clause-up g c = sym c.is_up.ensures ∙ c.if-not-is_up.false

pub returns : goal.returns
returns g c =
    begin_line g.D.Disk.disk c.scene_is_carried.ensures c.args.self.now.scene c.args.out.now c.args.caller.now c.take_new.new.self c.requires.sound c.take_new.result c.take_new.ensures.turn
