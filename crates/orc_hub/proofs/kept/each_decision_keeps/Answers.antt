use Rattle.orc_hub.proofs.Wholly.{decides_kept}
use Rattle.orc_hub.proofs.kept.each_decision_keeps.Goals as goal

pub returns : goal.returns
returns g c = decides_kept g.D.Disk.disk c.commit_keeps.ensures c.abort_keeps.ensures c.settle_keeps.ensures
