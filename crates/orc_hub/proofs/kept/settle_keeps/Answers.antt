use Rattle.orc_hub.proofs.Keeping.{settles_so}
use Rattle.orc_hub.proofs.kept.settle_keeps.Goals as goal

pub returns : goal.returns
returns g c = λ hub new entries place it result own is due so up.
    settles_so g.D.Disk.disk hub entries own place it is due c.keeps_order.ensures result new so up
