use Rattle.std.proofs.Common.{◌≡◌, sym, ap, subst, ◌∙◌}
use Rattle.std.proofs.lemmas.Result.{err_from_is_err_and}
use Rattle.serde_json.specs.View.{view}
use Rattle.orc_schema_nodes.specs.Schemas.{shape_at}
use Rattle.orc_json.specs.Readings.{IsJson}
use Rattle.orc_template.specs.Said.{json_value, template_json}
use Rattle.orc_template.specs.Templates.{template_fault}
use Rattle.orc_template.specs.inside.Machine.{site}
use Rattle.orc_template.proofs.Texts.{value_is, json_is}
use Rattle.orc_template.proofs.Faulty.{fault_reads}
use Rattle.orc_template.proofs.template.Template.checked.Goals as goal

pub returns-in-Some-clause-reads : goal.returns-in-Some-clause-reads
returns-in-Some-clause-reads c =
    fault_reads (site (shape_at c.args.schema.now) c.args.list.now) c.args.bytes.now (view c.args.json) c.in-Some.fault c.requires (sym c.in_ok-fault.ensures ∙ c.in-Some.is)

pub returns-in_err-fault-clause-reads : goal.returns-in_err-fault-clause-reads
returns-in_err-fault-clause-reads c =
    let p = err_from_is_err_and c.from_residual.result c.from_residual.ensures.1 in
    rw (p.1, p.2) tt

pub invariant_of-result : goal.invariant_of-result
invariant_of-result c =
    ap json_value c.in_ok-text_of-in-None.ensures ∙ value_is c.args.bytes.now (view c.args.json) c.requires

pub returns-in_ok-text_of-in-None-clause-reads : goal.returns-in_ok-text_of-in-None-clause-reads
returns-in_ok-text_of-in-None-clause-reads c =
    let bytes = c.args.bytes.now in
    let d = view c.args.json in
    let same : template_json c.in_ok-text_of-in-None.field-0 ≡ d =
    ap template_json c.in_ok-text_of-in-None.ensures ∙ json_is bytes d (value_is bytes d c.requires) in
    (subst (IsJson bytes) (sym same) c.requires, ap (template_fault (site (shape_at c.args.schema.now) c.args.list.now)) same ∙ sym c.in_ok-fault.ensures ∙ c.in-None.is)
