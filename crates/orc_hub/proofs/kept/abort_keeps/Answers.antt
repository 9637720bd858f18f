use Rattle.std.specs.Cmp.{first_so}
use Rattle.orc_hub.proofs.Keeping.{gives_up_so}
use Rattle.orc_hub.proofs.kept.abort_keeps.Goals as goal

pub returns : goal.returns
returns g c = λ hub new entries place it result own is due so up.
    gives_up_so g.D.Disk.disk hub entries own place it is (first_so _ _ due) c.keeps_order.ensures so.given result new so.written up
