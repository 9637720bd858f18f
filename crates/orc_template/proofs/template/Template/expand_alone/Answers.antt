use Rattle.std.proofs.Common.{ap, ◌∙◌}
use Rattle.orc_template.specs.Expansions.{expanded, device_parts}
use Rattle.orc_template.specs.Said.{template_json}
use Rattle.orc_template.specs.inside.Machine.{the_readers}
use Rattle.orc_template.proofs.Adding.{gathers, gathers_none}
use Rattle.orc_template.proofs.template.Template.expand_alone.Goals as goal

pub returns-in_ok-gathered-in-Ok : goal.returns-in_ok-gathered-in-Ok
returns-in_ok-gathered-in-Ok g c =
    let due = expanded the_readers c.args.devices.now c.args.instance.now (template_json c.args.self.now) (g.V.DataView.viewed c.args.view.now) in
    gathers due c.write_alone.new.reads.reads c.in-Ok.written c.in_ok-gathered-in-Ok.field-0.parts c.in-Ok.ensures (c.in_ok-gathered-in-Ok.ensures ∙ ap (device_parts 0) c.as_slice.ensures)

pub returns-in-Err : goal.returns-in-Err
returns-in-Err g c =
    let due = expanded the_readers c.args.devices.now c.args.instance.now (template_json c.args.self.now) (g.V.DataView.viewed c.args.view.now) in
    gathers_none due c.write_alone.new.reads.reads c.in-Err.fault c.in-Err.ensures
