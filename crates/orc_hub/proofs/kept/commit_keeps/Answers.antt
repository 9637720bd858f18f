use Rattle.std.specs.Cmp.{first_so}
use Rattle.orc_hub.proofs.Keeping.{commits_so}
use Rattle.orc_hub.proofs.kept.commit_keeps.Goals as goal

pub returns : goal.returns
returns g c = λ hub new entries place it result own is due so up.
    commits_so g.D.Disk.disk hub entries own place it is (first_so _ _ due) c.keeps_order.ensures c.plan_stands.ensures so.behind _ so.committed result new so.written up
