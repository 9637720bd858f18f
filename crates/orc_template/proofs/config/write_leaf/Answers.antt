use Rattle.std.proofs.Common.{ℕ, List}
use Rattle.serde_json.specs.View.{view}
use Rattle.orc_path.specs.declared.item.Item.TheVariants.{Leaf}
use Rattle.orc_template.specs.Values.{value_done}
use Rattle.orc_template.specs.Writing.{write_at}
use Rattle.orc_template.specs.inside.Machine.{scene}
use Rattle.orc_template.proofs.Handed.{with_on, with_then}
use Rattle.orc_template.proofs.config.write_leaf.Goals as goal

pub returns-in_err-text : goal.returns-in_err-text
returns-in_err-text g c =
    let w = c.args.writing.now in
    with_on (value_done (scene (g.V.DataView.viewed c.args.view.now) c.args.here.now) c.args.kind.now (view c.args.value.now) w.reads.reads) w.tree (λ (text : List ℕ). write_at c.args.path (Leaf text))
    c.from_residual.result c.in_err-text.field-0.0 (record { tree = w.tree; reads = c.value_text.new.reads }) c.from_residual.ensures.1 c.in_err-text.ensures.does

pub returns : goal.returns
returns g c =
    let w = c.args.writing.now in
    with_then (value_done (scene (g.V.DataView.viewed c.args.view.now) c.args.here.now) c.args.kind.now (view c.args.value.now) w.reads.reads) w.tree (λ (text : List ℕ). write_at c.args.path (Leaf text))
    c.in_ok-text.text c.value_text.new.reads.reads c.write.new.self c.write.result c.in_ok-text.ensures.does c.write.ensures
