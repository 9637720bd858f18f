use Rattle.orc_world.proofs.Turning.{admit_line, admit_line_ended}
use Rattle.orc_world.proofs.world.World.admit.Goals as goal

pub admit_next-requires : goal.admit_next-requires
admit_next-requires g c = c.requires.sound

pub returns-in-Ok : goal.returns-in-Ok
returns-in-Ok g c =
    admit_line g.D.Disk.disk c.scene_is_carried.ensures c.args.self.now.scene c.admit_next.new.self c.args.out.now c.admit_next.new.out c.requires.sound c.in-Ok._came c.in-Ok.ensures

pub returns-in-Err : goal.returns-in-Err
returns-in-Err g c =
    admit_line_ended g.D.Disk.disk c.scene_is_carried.ensures c.args.self.now.scene c.admit_next.new.self c.args.out.now c.admit_next.new.out c.in-Err.stop c.in-Err.ensures
