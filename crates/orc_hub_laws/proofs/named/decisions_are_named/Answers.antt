use Rattle.orc_hub_laws.proofs.Naming.{decisions_named}
use Rattle.orc_hub_laws.proofs.named.decisions_are_named.Goals as goal

pub returns : goal.returns
returns g c = decisions_named g.D.Disk.disk
