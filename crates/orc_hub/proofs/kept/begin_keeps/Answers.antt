use Rattle.orc_hub.proofs.Coming.{begins_so}
use Rattle.orc_hub.proofs.kept.begin_keeps.Goals as goal

pub returns : goal.returns
returns g c = λ hub new entries place it sets result own mended there first passes w up.
    begins_so g.D.Disk.disk hub entries own place it there c.keeps_order.ensures mended first sets passes result new w up
