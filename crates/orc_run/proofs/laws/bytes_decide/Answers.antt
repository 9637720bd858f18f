use Rattle.orc_run.proofs.FirstBytes.{bytes_decide}
use Rattle.orc_run.proofs.laws.bytes_decide.Goals as goal

pub returns : goal.returns
returns g c = bytes_decide g.D.Disk.disk
