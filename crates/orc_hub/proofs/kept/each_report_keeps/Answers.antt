use Rattle.orc_hub.proofs.Wholly.{report_kept}
use Rattle.orc_hub.proofs.kept.each_report_keeps.Goals as goal

pub returns : goal.returns
returns g c = report_kept g.D.Disk.disk c.report_keeps.ensures
