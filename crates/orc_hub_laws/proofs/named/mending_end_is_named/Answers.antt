use Rattle.orc_rules.specs.Laws.{setting}
use Rattle.orc_hub_laws.proofs.Naming.{mending_end_named}
use Rattle.orc_hub_laws.proofs.named.mending_end_is_named.Goals as goal

pub returns : goal.returns
returns g c = λ decls kinds limit granted. mending_end_named (setting g.D.Disk.disk decls kinds limit granted)
