use Rattle.std.proofs.Common.{false}
use Rattle.orc_world.proofs.LinesDone.{goes_on_after}
use Rattle.orc_world.proofs.world.World.run_step.Goals as goal

pub do_line-requires-clause-sound : goal.do_line-requires-clause-sound
do_line-requires-clause-sound g c = ((c.requires.sound.0, false, c.requires.sound.1, c.requires.sound.2), c.requires.sound.3)

pub returns-clause-after : goal.returns-clause-after
returns-clause-after g c =
    goes_on_after g.D.Disk.disk c.args.step.now c.args.self.now.scene c.do_line.new.self.scene c.args.out.now c.do_line.new.out c.do_line.result c.requires.sound c.do_line.ensures
