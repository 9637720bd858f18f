use Rattle.orc_rules.proofs.Bounding.{bounded}
use Rattle.orc_rules.proofs.Ranking.{steps_lessen}
use Rattle.orc_rules.specs.Journals.{entries_read}
use Rattle.orc_rules.specs.Laws.{setting}
use Rattle.orc_rules.proofs.kept.rounds_end.Goals as goal

pub returns-clause-lessen : goal.returns-clause-lessen
returns-clause-lessen g c = λ decls kinds limit granted old new meant seen hub after own up then_up round steps.
    steps_lessen (setting g.D.Disk.disk decls kinds limit granted) old new meant seen hub after own up then_up round steps

pub returns-clause-bounded : goal.returns-clause-bounded
returns-clause-bounded g c = λ decls world hub own up idle.
    bounded decls own.shadow (entries_read world.journal) hub world.links (own.under hub up) idle
