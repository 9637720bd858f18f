use Rattle.orc_rules.proofs.KindLaws.{kind_is_lawful}
use Rattle.orc_rules.proofs.Planned.{planning}
use Rattle.orc_rules.proofs.Schemas.{kind_fits}
use Rattle.orc_rules.specs.Laws.{setting}
use Rattle.orc_runs.proofs.Whole.{has_headline}
use Rattle.orc_runs.proofs.claim.runs_have_the_headline.Goals as goal

pub returns : goal.returns
returns g c = λ decls kinds limit granted script first last run are devices starts.
    has_headline (setting g.D.Disk.disk decls kinds limit granted) g.met.D.Disk.only_now are c.plan_stands.ensures c.legal_stands.ensures c.keeps_order.ensures c.has_one_verdict.ensures devices.of_hub
    (λ device. kind_is_lawful c.equal_configs_are_one.ensures c.difference_leads.ensures c.tree_is_configuration.ensures decls are (kinds device) (devices.of_hub device) device)
    (planning decls are c.plan_stands.ensures c.planned_stands.ensures c.planned_tree_is_stable.ensures c.unheld_stay.ensures)
    (λ device. kind_fits c.equal_configs_are_one.ensures c.tree_is_configuration.ensures c.tree_is_typed.ensures c.changes_are_taken.ensures decls are (kinds device) (devices.of_hub device) device (devices.of_schema device))
    devices.accept_base
    script first last run starts
