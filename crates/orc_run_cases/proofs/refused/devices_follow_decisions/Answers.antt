use Rattle.orc_rules.proofs.KindLaws.{kind_is_lawful}
use Rattle.orc_rules.proofs.Planned.{planning}
use Rattle.orc_rules.specs.Laws.{setting}
use Rattle.orc_run_cases.proofs.Followed.{follows}
use Rattle.orc_run_cases.proofs.refused.devices_follow_decisions.Goals as goal

pub returns : goal.returns
returns g c = λ decls kinds limit granted script first last run are of_hub starts turn among.
    follows (setting g.D.Disk.disk decls kinds limit granted) g.met.D.Disk.only_now are c.plan_stands.ensures c.legal_stands.ensures c.keeps_order.ensures of_hub
    (λ device. kind_is_lawful c.equal_configs_are_one.ensures c.difference_leads.ensures c.tree_is_configuration.ensures decls are (kinds device) (of_hub device) device)
    (planning decls are c.plan_stands.ensures c.planned_stands.ensures c.planned_tree_is_stable.ensures c.unheld_stay.ensures)
    script first last run starts turn among
