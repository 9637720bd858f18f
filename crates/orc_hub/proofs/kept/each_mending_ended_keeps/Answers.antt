use Rattle.orc_hub.proofs.Ending.{ended_kept}
use Rattle.orc_hub.proofs.kept.each_mending_ended_keeps.Goals as goal

pub returns : goal.returns
returns g c = ended_kept g.D.Disk.disk c.keeps_order.ensures c.mending_ended_keeps.ensures
