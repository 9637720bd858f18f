-- By the outcomes.
use Rattle.orc_journal.proofs.Armed.{only, always}
use Rattle.orc_journal.proofs.laws.stops_where_armed.Goals as goal

pub returns : goal.returns
returns g c = record { only = only g.D.Disk.disk; always = always g.D.Disk.disk }
