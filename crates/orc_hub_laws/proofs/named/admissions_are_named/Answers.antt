use Rattle.orc_hub_laws.proofs.Naming.{admissions_named}
use Rattle.orc_hub_laws.proofs.named.admissions_are_named.Goals as goal

pub returns : goal.returns
returns g c = admissions_named g.D.Disk.disk
