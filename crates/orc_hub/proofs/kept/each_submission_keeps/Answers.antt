use Rattle.orc_hub.proofs.Wholly.{submits_kept}
use Rattle.orc_hub.proofs.kept.each_submission_keeps.Goals as goal

pub returns : goal.returns
returns g c = submits_kept g.D.Disk.disk c.submit_keeps.ensures
