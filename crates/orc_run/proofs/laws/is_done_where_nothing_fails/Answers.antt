use Rattle.orc_run.proofs.Complete.{done_where_nothing_fails}
use Rattle.orc_run.proofs.laws.is_done_where_nothing_fails.Goals as goal

pub returns : goal.returns
returns g c = done_where_nothing_fails g.D.Disk.disk
