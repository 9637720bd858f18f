use Rattle.std.proofs.Common.{arith}
use Rattle.std.proofs.lemmas.List.{length-take}
use Rattle.orc_disk.proofs.Inside.{TearsAt-inside}
use Rattle.orc_disk.proofs.stop.StopDisk.put_front.Goals as goal

pub returns-clause-crash : goal.returns-clause-crash
returns-clause-crash g c =
    TearsAt-inside g.D.Disk.disk _ _ _ _ _ _ c.self.view_is (omega (arith, length-take c.min-count.result c.args.bytes.now)) c.write_at.ensures.crash
