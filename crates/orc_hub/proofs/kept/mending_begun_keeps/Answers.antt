use Rattle.orc_hub.proofs.Wholly.{begun_so}
use Rattle.orc_hub.proofs.kept.mending_begun_keeps.Goals as goal

pub returns : goal.returns
returns g c = begun_so g.D.Disk.disk
