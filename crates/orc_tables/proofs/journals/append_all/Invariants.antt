use Rattle.orc_journal.specs.Opened.{IsReady}
use Rattle.orc_tables.proofs.journals.append_all.Given as goal

abbrev pub invariant-loop-entry : goal.invariant-loop-entry
invariant-loop-entry g l = IsReady g.D.Disk.disk l.journal
