use Rattle.orc_template.specs.Expansions.{expanded}
use Rattle.orc_template.specs.Said.{template_json}
use Rattle.orc_template.specs.inside.Machine.{the_readers}
use Rattle.orc_template.proofs.Adding.{adds_writing}
use Rattle.orc_template.proofs.template.Template.write_adding.Goals as goal

pub returns : goal.returns
returns g c =
    adds_writing (expanded the_readers c.args.devices.now c.args.instance.now (template_json c.args.self.now) (g.V.DataView.viewed c.args.view.now))
    c.args.reads.now.reads c.write_alone-answer.new.reads.reads c.with_reads.new.reads.reads c.write_alone-answer.result c.with_reads.result c.write_alone-answer.ensures c.with_reads.ensures
