use Rattle.orc_rules.proofs.KindLaws.{kind_is_lawful}
use Rattle.orc_rules.proofs.Planned.{planning}
use Rattle.orc_rules.proofs.Schemas.{kind_fits}
use Rattle.orc_rules.specs.Laws.{setting}
use Rattle.orc_runs.proofs.Carried.{carried}
use Rattle.orc_runs.proofs.claim.runs_are_carried.Goals as goal

pub returns : goal.returns
returns g c = λ decls kinds limit granted are devices.
    carried (setting g.D.Disk.disk decls kinds limit granted) are c.plan_stands.ensures c.legal_stands.ensures c.keeps_order.ensures devices.of_hub
    (λ device. kind_is_lawful c.equal_configs_are_one.ensures c.difference_leads.ensures c.tree_is_configuration.ensures decls are (kinds device) (devices.of_hub device) device)
    (planning decls are c.plan_stands.ensures c.planned_stands.ensures c.planned_tree_is_stable.ensures c.unheld_stay.ensures)
    (λ device. kind_fits c.equal_configs_are_one.ensures c.tree_is_configuration.ensures c.tree_is_typed.ensures c.changes_are_taken.ensures decls are (kinds device) (devices.of_hub device) device (devices.of_schema device))
    devices.accept_base
