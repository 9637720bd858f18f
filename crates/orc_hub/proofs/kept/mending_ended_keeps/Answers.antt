use Rattle.orc_hub.proofs.Ending.{ended_so}
use Rattle.orc_hub.proofs.kept.mending_ended_keeps.Goals as goal

pub returns : goal.returns
returns g c = λ old new entries result own so up. ended_so g.D.Disk.disk c.keeps_order.ensures old new entries result own so up
