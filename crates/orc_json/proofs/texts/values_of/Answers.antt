use Rattle.std.proofs.Common.{◌≡◌, ◌+◌, List, ◌∷◌, drop, drop_of_length-le, sym, ap, subst, ◌∙◌}
use Rattle.std.proofs.lemmas.List.{at_drop_more}
use Rattle.serde_json.specs.View.{items_view}
use Rattle.serde_json.specs.declared.value.Value.{Value}
use Rattle.orc_json.specs.Written.{Rows}
use Rattle.orc_json.proofs.Keyed.{ValuesGoOn, value_made, values_made}
use Rattle.orc_json.proofs.texts.values_of.Goals as goal

pub loop-row-preserved : goal.loop-row-preserved
loop-row-preserved c =
    let rows = c.args.rows.now in
    let i = c.loop-row.row-index in
    let next : drop i rows ≡ c.row-item.result ∷ drop (i + 1) rows =
    at_drop_more (λ (xs : Rows). xs) rows i c.row-item.result c.loop-row-test.true ∙ ap (λ x. x ∷ drop (i + 1) rows) (sym c.row-item.is) in
    subst (λ (xs : List Value). ValuesGoOn c.args.kind.now c.args.depth rows (drop (i + 1) rows) (items_view xs)) (sym c.in_ok-push.ensures.items)
    (value_made c.args.kind.now c.args.depth rows (drop i rows) c.row-item.result (drop (i + 1) rows) c.loop-row.values.items c.in_ok-key_value.field-0 next
    c.in_ok-key_value.ensures c.loop-row.invariant)

pub returns : goal.returns
returns c =
    values_made c.args.kind.now c.args.depth c.args.rows.now (drop c.loop-row.row-index c.args.rows.now) (items_view c.loop-row.values.items)
    (drop_of_length-le c.args.rows.now c.loop-row-test.false) c.loop-row.invariant
