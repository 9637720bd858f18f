use Rattle.orc_hub.proofs.Wholly.{mending_begun_kept}
use Rattle.orc_hub.proofs.kept.each_mending_begun_keeps.Goals as goal

pub returns : goal.returns
returns g c = mending_begun_kept g.D.Disk.disk c.mending_begun_keeps.ensures
