use Rattle.orc_rules.proofs.KindLaws.{kind_is_lawful}
use Rattle.orc_rules.proofs.Planned.{planning}
use Rattle.orc_rules.specs.Laws.{setting}
use Rattle.orc_runs.proofs.Whole.{starts_devices, starts_kept, starts_replies}
use Rattle.orc_runs.proofs.claim.starts_are_kept.Goals as goal

pub returns : goal.returns
returns g c = λ decls kinds limit granted first are devices starts. (
  starts_kept (setting g.D.Disk.disk decls kinds limit granted) first starts are c.plan_stands.ensures c.legal_stands.ensures c.keeps_order.ensures,
  starts_devices (setting g.D.Disk.disk decls kinds limit granted) first starts
      (λ device. kind_is_lawful c.equal_configs_are_one.ensures c.difference_leads.ensures c.tree_is_configuration.ensures decls are (kinds device) (devices.of_hub device) device)
      (planning decls are c.plan_stands.ensures c.planned_stands.ensures c.planned_tree_is_stable.ensures c.unheld_stay.ensures),
  starts_replies (setting g.D.Disk.disk decls kinds limit granted) first starts devices.accept_base,
)
