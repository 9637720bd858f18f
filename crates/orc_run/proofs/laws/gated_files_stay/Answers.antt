use Rattle.orc_run.proofs.Histories.{gated_stays}
use Rattle.orc_run.proofs.laws.gated_files_stay.Goals as goal

pub returns : goal.returns
returns g c = gated_stays g.D.Disk.disk
