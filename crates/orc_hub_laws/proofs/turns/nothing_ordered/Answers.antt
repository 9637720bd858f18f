use Rattle.orc_rules.specs.Laws.{setting}
use Rattle.orc_hub_laws.proofs.Nowhere.{nothing_ordered_so}
use Rattle.orc_hub_laws.proofs.turns.nothing_ordered.Goals as goal

pub returns : goal.returns
returns g c = λ decls kinds limit granted. nothing_ordered_so (setting g.D.Disk.disk decls kinds limit granted)
