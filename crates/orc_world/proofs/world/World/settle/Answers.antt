use Rattle.orc_world.proofs.Lined.{settle_line}
use Rattle.orc_world.proofs.world.World.settle.Goals as goal

pub returns : goal.returns
returns g c =
    settle_line g.D.Disk.disk c.args.self.now.scene c.settle_all.new.self.scene c.args.out.now c.settle_all.new.out c.settle_all.result
    c.settle_all.ensures.row c.settle_all.ensures.unmended
