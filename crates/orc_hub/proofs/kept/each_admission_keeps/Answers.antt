use Rattle.orc_hub.proofs.Wholly.{admits_kept}
use Rattle.orc_hub.proofs.kept.each_admission_keeps.Goals as goal

pub returns : goal.returns
returns g c = admits_kept g.D.Disk.disk c.turn_away_keeps.ensures c.begin_keeps.ensures
