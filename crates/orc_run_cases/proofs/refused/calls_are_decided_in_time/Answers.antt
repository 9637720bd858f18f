use Rattle.orc_rules.specs.Laws.{setting}
use Rattle.orc_run_cases.proofs.WrongTurns.{admits_fresh, commits_next, commits_synced, commits_when_ready}
use Rattle.orc_run_cases.proofs.refused.calls_are_decided_in_time.Goals as goal

pub returns-clause-ready : goal.returns-clause-ready
returns-clause-ready g c = λ decls kinds limit granted. commits_when_ready (setting g.D.Disk.disk decls kinds limit granted)

pub returns-clause-numbered : goal.returns-clause-numbered
returns-clause-numbered g c = λ decls kinds limit granted. commits_next (setting g.D.Disk.disk decls kinds limit granted)

pub returns-clause-synced : goal.returns-clause-synced
returns-clause-synced g c = λ decls kinds limit granted. commits_synced (setting g.D.Disk.disk decls kinds limit granted)

pub returns-clause-fresh : goal.returns-clause-fresh
returns-clause-fresh g c = λ decls kinds limit granted. admits_fresh (setting g.D.Disk.disk decls kinds limit granted)
