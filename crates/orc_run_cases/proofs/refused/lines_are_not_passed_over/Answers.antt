use Rattle.orc_rules.specs.Laws.{setting}
use Rattle.orc_run_cases.proofs.WrongLines.{recovers_come, restarts_come, ticks_come}
use Rattle.orc_run_cases.proofs.refused.lines_are_not_passed_over.Goals as goal

pub returns-clause-ticks : goal.returns-clause-ticks
returns-clause-ticks g c = λ decls kinds limit granted. ticks_come (setting g.D.Disk.disk decls kinds limit granted)

pub returns-clause-restarts : goal.returns-clause-restarts
returns-clause-restarts g c = λ decls kinds limit granted. restarts_come (setting g.D.Disk.disk decls kinds limit granted)

pub returns-clause-recovers : goal.returns-clause-recovers
returns-clause-recovers g c = λ decls kinds limit granted. recovers_come (setting g.D.Disk.disk decls kinds limit granted)
