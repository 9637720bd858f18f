use Rattle.orc_run.proofs.Recovering.{none_recovers}
use Rattle.orc_run.proofs.laws.recoveries_need_their_line.Goals as goal

pub returns : goal.returns
returns g c = none_recovers g.D.Disk.disk
