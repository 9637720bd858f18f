use Rattle.std.proofs.Common.{arith}
use Rattle.orc_disk.proofs.laws.only_now.Goals as goal

pub returns : goal.returns
returns g c = λ at file. (
  g.met.D.Disk.only_now at file,
  g.met.D.Disk.counts_now at (g.D.Disk.disk.moment at) file (omega arith),
)
