use Rattle.std.proofs.Common.{List, ◌∷◌, ◌+◌, drop, sym, ap, ◌∙◌}
use Rattle.std.proofs.lemmas.List.{at_drop_more}
use Rattle.serde_json.specs.View.{view, items_view}
use Rattle.serde_json.specs.declared.value.Value.{Value}
use Rattle.orc_template.specs.Writing.{entry_value_done, values_done}
use Rattle.orc_template.specs.inside.Machine.{scene}
use Rattle.orc_template.proofs.Handed.{wrote_more, stops_whole}
use Rattle.orc_template.proofs.config.do_values.Goals as goal

pub loop-item-preserved : goal.loop-item-preserved
loop-item-preserved g c =
    let l = c.loop-item in
    let sc = scene (g.V.DataView.viewed c.args.view.now) c.args.here.now in
    let kind = c.args.kind.now in
    let at = c.args.at.now in
    let name = c.args.name.now in
    let xs = c.args.items.now in
    let later = drop (l.item-index + 1) xs in
    let rest = λ (vs : List Value). values_done sc kind at name (items_view vs) l.writing in
    let front = ap (λ (x : Value). rest (x ∷ later)) c.item-item.is ∙ sym (at_drop_more rest xs l.item-index _ c.loop-item-test.true) ∙ l.invariant in
    wrote_more (entry_value_done sc kind at name (view c.item-item.result) l.writing) (values_done sc kind at name (items_view later)) c.do_entry_value.new.writing
    (values_done sc kind at name (items_view xs) c.args.writing.now) tt front c.in_ok-do_entry_value.ensures

pub returns-in_err-do_entry_value : goal.returns-in_err-do_entry_value
returns-in_err-do_entry_value g c =
    let l = c.loop-item in
    let sc = scene (g.V.DataView.viewed c.args.view.now) c.args.here.now in
    let kind = c.args.kind.now in
    let at = c.args.at.now in
    let name = c.args.name.now in
    let xs = c.args.items.now in
    let later = drop (l.item-index + 1) xs in
    let rest = λ (vs : List Value). values_done sc kind at name (items_view vs) l.writing in
    let front = ap (λ (x : Value). rest (x ∷ later)) c.item-item.is ∙ sym (at_drop_more rest xs l.item-index _ c.loop-item-test.true) ∙ l.invariant in
    stops_whole (entry_value_done sc kind at name (view c.item-item.result) l.writing) (values_done sc kind at name (items_view later)) c.do_entry_value.new.writing
    (values_done sc kind at name (items_view xs) c.args.writing.now) c.from_residual.result c.in_err-do_entry_value.field-0.0 front c.from_residual.ensures.1 c.in_err-do_entry_value.ensures
