use Rattle.orc_hub.proofs.Keeping.{report_so}
use Rattle.orc_hub.proofs.kept.report_keeps.Goals as goal

pub returns : goal.returns
returns g c = report_so g.D.Disk.disk
