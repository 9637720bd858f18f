use Rattle.orc_hub.proofs.Coming.{turns_away_so}
use Rattle.orc_hub.proofs.kept.turn_away_keeps.Goals as goal

pub returns : goal.returns
returns g c = λ hub new entries place it given result own there w. turns_away_so g.D.Disk.disk hub entries own place it there given result new w
