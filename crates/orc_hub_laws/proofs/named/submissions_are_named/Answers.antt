use Rattle.orc_hub_laws.proofs.Naming.{submissions_named}
use Rattle.orc_hub_laws.proofs.named.submissions_are_named.Goals as goal

pub returns : goal.returns
returns g c = submissions_named g.D.Disk.disk c.faults_are_named.ensures
