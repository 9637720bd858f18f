use Rattle.std.proofs.Common.{Err, subst, sym}
use Rattle.orc_template.specs.TheReaders.{the_readers}
use Rattle.orc_lines.specs.Answers.{ReadsLine}
use Rattle.orc_lines.specs.declared.fault.LineFault.{LineFault}
use Rattle.orc_declarations.specs.inside.Templates.{template_of}
use Rattle.orc_declarations.proofs.TemplateTexts.{template_read, template_refused}
use Rattle.orc_declarations.proofs.templates.read_template.Goals as goal

pub returns-in-Ok : goal.returns-in-Ok
returns-in-Ok c =
    template_read c.args.schema.now c.args.list.now c.args.text.now c.in-Ok.template c.in-Ok.ensures.text
    (c.in-Ok.ensures.reads the_readers c.the_readers_read_back.ensures)

pub returns-in_ok-detail-in-Err : goal.returns-in_ok-detail-in-Err
returns-in_ok-detail-in-Err c =
    subst (λ (fault : LineFault). ReadsLine (template_of c.args.schema.now c.args.list.now c.args.text.now) (Err fault)) (sym c.of_template.ensures)
    (template_refused c.args.schema.now c.args.list.now c.args.text.now c.in-Err.fault c.in_ok-detail-in-Err.detail
    (c.in-Err.ensures.reads the_readers c.the_readers_read_back.ensures))
