use Rattle.orc_world.proofs.Turning.{decide_line, decide_line_ended}
use Rattle.orc_world.proofs.world.World.decide.Goals as goal

pub decide_all-requires : goal.decide_all-requires
decide_all-requires g c = c.requires.sound

pub returns-in-Ok : goal.returns-in-Ok
returns-in-Ok g c =
    decide_line g.D.Disk.disk c.scene_is_carried.ensures c.args.self.now.scene c.decide_all.new.self.scene c.args.out.now c.decide_all.new.out c.requires.sound c.in-Ok._came c.in-Ok.ensures.row

pub returns-in-Err : goal.returns-in-Err
returns-in-Err g c =
    decide_line_ended g.D.Disk.disk c.scene_is_carried.ensures c.args.self.now.scene c.decide_all.new.self.scene c.args.out.now c.decide_all.new.out c.in-Err.stop c.in-Err.ensures.row
