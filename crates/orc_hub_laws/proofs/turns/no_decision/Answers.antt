use Rattle.orc_rules.specs.Laws.{setting}
use Rattle.orc_hub_laws.proofs.Nowhere.{no_decision_so}
use Rattle.orc_hub_laws.proofs.turns.no_decision.Goals as goal

pub returns : goal.returns
returns g c = λ decls kinds limit granted. no_decision_so (setting g.D.Disk.disk decls kinds limit granted)
