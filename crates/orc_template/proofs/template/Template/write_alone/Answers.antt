use Rattle.std.proofs.Common.{ℕ, List, Err, map, sym, ap, ◌∙◌}
use Rattle.std.specs.FinMap.{empty}
use Rattle.serde_json.specs.View.{items_view}
use Rattle.orc_template.specs.Blocks.{blocks_of, blocks_inside}
use Rattle.orc_template.specs.Devices.{DeviceTable}
use Rattle.orc_template.specs.Expansions.{expanded, blocks_expanded}
use Rattle.orc_template.specs.Said.{template_json}
use Rattle.orc_template.specs.inside.Machine.{the_readers, ground}
use Rattle.orc_template.specs.inside.Expanding.{expanding_of}
use Rattle.orc_template.proofs.Answered.{begins}
use Rattle.orc_template.proofs.Handed.{expands_so}
use Rattle.orc_template.proofs.Adding.{writes_done, writes_failed}
use Rattle.orc_template.proofs.template.Template.write_alone.Goals as goal

pub returns-in-Ok : goal.returns-in-Ok
returns-in-Ok g c =
    let devices = c.args.devices.now in
    let here = c.args.instance.now in
    let json = template_json c.args.self.now in
    let v = g.V.DataView.viewed c.args.view.now in
    let start = expanding_of (record { written = c.in_ok-nothing_written.field-0; reads = c.new.result }) in
    let whole = begins the_readers devices here json v (blocks_of (items_view c.blocks_inside.result.now)) start (c.blocks_inside.ensures ∙ ap blocks_inside c.json.ensures)
    (c.in_ok-nothing_written.ensures ∙ ap (map (λ (name : List ℕ). empty)) (c.as_slice.ensures ∙ ap (λ (t : DeviceTable). t.names) c.devices.view_is)) c.new.ensures in
    writes_done (expanded the_readers devices here json v) (expanding_of c.do_blocks-done.new.expanding) c.from_vec.result c.from_vec.ensures (sym whole ∙ c.in-Ok.ensures)

pub returns-in-Err : goal.returns-in-Err
returns-in-Err g c =
    let devices = c.args.devices.now in
    let here = c.args.instance.now in
    let json = template_json c.args.self.now in
    let v = g.V.DataView.viewed c.args.view.now in
    let start = expanding_of (record { written = c.in_ok-nothing_written.field-0; reads = c.new.result }) in
    let whole = begins the_readers devices here json v (blocks_of (items_view c.blocks_inside.result.now)) start (c.blocks_inside.ensures ∙ ap blocks_inside c.json.ensures)
    (c.in_ok-nothing_written.ensures ∙ ap (map (λ (name : List ℕ). empty)) (c.as_slice.ensures ∙ ap (λ (t : DeviceTable). t.names) c.devices.view_is)) c.new.ensures in
    writes_failed (expanded the_readers devices here json v) (expanding_of c.do_blocks-done.new.expanding) c.in-Err.fault
    (expands_so (blocks_expanded (ground v devices) here 1 (blocks_of (items_view c.blocks_inside.result.now)) start) (expanded the_readers devices here json v) (expanding_of c.do_blocks-done.new.expanding) (Err c.in-Err.fault) whole
    c.in-Err.ensures)
