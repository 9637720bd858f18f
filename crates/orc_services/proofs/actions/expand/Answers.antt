use Rattle.std.proofs.Common.{subst}
use Rattle.std.specs.declared.result.Result.TheVariants.{Err}
use Rattle.orc_path.specs.Views.{Viewed}
use Rattle.orc_schema_nodes.specs.Schemas.{shape_at}
use Rattle.orc_template.specs.Expansions.{AnswersWriting, expanded}
use Rattle.orc_template.specs.Said.{template_json}
use Rattle.orc_template.specs.TheReaders.{the_readers}
use Rattle.orc_template.specs.declared.fault.ExpandFault.{ExpandFault}
use Rattle.orc_services.proofs.actions.expand.Goals as goal

pub returns-in-Err-At : goal.returns-in-Err-At
returns-in-Err-At c =
    let view : Viewed = record { items = c.args.view.now.tree.now; shapes = shape_at c.args.view.now.schema.now } in
    let due = expanded the_readers c.args.devices.now c.args.instance.now (template_json c.args.template.now) view in
    subst (λ (fault : ExpandFault). AnswersWriting due c.args.reads.now.reads c.written.new.reads.reads (Err fault)) c.in-Err-At.field-0-is
    (c.in-Err-At.ensures.answer the_readers c.the_readers_read_back.ensures)
