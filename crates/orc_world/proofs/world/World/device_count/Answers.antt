use Rattle.std.proofs.Common.{◌≤◌, List, arith, length, subst, sym}
use Rattle.orc_node.specs.LinkStates.{LinkState}
use Rattle.orc_world.proofs.Lasted.{few_devices}
use Rattle.orc_world.proofs.world.World.device_count.Goals as goal

pub overflow_cast-count : goal.overflow_cast-count
overflow_cast-count g c =
    omega (arith, subst (λ (links : List LinkState). length links ≤ 256) (sym c.as_slice.ensures) (few_devices g.D.Disk.disk c.args.self.now.scene c.requires))
