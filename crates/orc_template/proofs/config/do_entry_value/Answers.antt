use Rattle.std.proofs.Common.{[], List, sym, ap, subst, ◌∙◌}
use Rattle.std.specs.Prelude.{IsTrue}
use Rattle.orc_path.specs.Items.{fits}
use Rattle.orc_path.specs.Steps.{PathStep}
use Rattle.orc_path.specs.declared.item.Item.TheVariants.{Entry}
use Rattle.orc_json.specs.Findings.{below}
use Rattle.orc_json.proofs.Found.{entry_fits}
use Rattle.orc_template.proofs.config.do_entry_value.Goals as goal

pub write-requires : goal.write-requires
write-requires g c =
    let at = c.args.at.now in
    let name = c.args.name.now in
    subst (λ (path : List PathStep). IsTrue (fits path Entry)) (sym (c.in_ok-path.ensures ∙ ap (below at name) c.in_ok-one_key.ensures)) (entry_fits at name c.in_ok-text.text [])
