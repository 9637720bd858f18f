use Rattle.std.proofs.Common.{subst}
use Rattle.orc_template.specs.Readers.{Readers}
use Rattle.orc_template.specs.Expansions.{expanded, AnswersExpansion}
use Rattle.orc_template.specs.Said.{template_json, parts_result}
use Rattle.orc_template.specs.inside.Machine.{the_readers}
use Rattle.orc_template.proofs.Fixed.{expansion_sound}
use Rattle.orc_template.proofs.ReadBack.{readers_read, readers_same}
use Rattle.orc_template.proofs.template.Template.expand.Goals as goal

pub returns-clause-answer : goal.returns-clause-answer
returns-clause-answer g c = λ readers are.
    subst (λ (r : Readers). AnswersExpansion (expanded r c.args.devices.now c.args.instance.now (template_json c.args.self.now) (g.V.DataView.viewed c.args.view.now))
    c.args.reads.now.reads c.expand_adding.new.reads.reads (parts_result c.expand_adding.result))
    (readers_same the_readers readers readers_read are) c.expand_adding.ensures

pub returns-clause-sound : goal.returns-clause-sound
returns-clause-sound g c = λ readers.
    expansion_sound readers c.args.devices.now c.args.instance.now (template_json c.args.self.now) (g.V.DataView.viewed c.args.view.now)
