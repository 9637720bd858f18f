use Rattle.std.proofs.Common.{ℕ, List, ap, sym, ◌∙◌}
use Rattle.orc_lines.specs.Names.{is_among}
use Rattle.orc_declarations.proofs.ServiceLists.{template_added}
use Rattle.orc_declarations.proofs.TemplateTexts.{template_holds, template_missed}
use Rattle.orc_declarations.proofs.templates.add_template.Goals as goal

pub returns-clause-lawful : goal.returns-clause-lawful
returns-clause-lawful c = λ declared.
    let d = c.args.declared.now in
    let template = c.in_ok-template.template in
    template_added d c.args.list template c.args.count c.add.new.self c.push.new.self declared
    (sym c.if-not-may_be_served.ensures) (sym c.if-is_listed_already.ensures)
    (template_holds d.data_schema c.args.list c.args.text.now template c.in_ok-template.ensures) c.in_ok-push.ensures.ok

pub returns-in_err-template-clause-takes : goal.returns-in_err-template-clause-takes
returns-in_err-template-clause-takes c =
    let d = c.args.declared.now in
    template_missed d c.args.name.now c.args.count c.args.list c.args.text.now c.from_residual-in_err-template.result c.in_err-template.field-0.0 _
    c.from_residual-in_err-template.ensures.1 (sym c.if-not-may_be_served.ensures)
    (ap (λ (name : List ℕ). is_among d.templates name) (sym c.in_ok-name.ensures) ∙ sym c.if-has.ensures) (sym c.if-is_listed_already.ensures)
    c.in_err-template.ensures
