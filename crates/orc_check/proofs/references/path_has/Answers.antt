use Rattle.std.proofs.Common.{sym, ◌∙◌}
use Rattle.orc_typed.specs.Typed.{is_in_schema}
use Rattle.orc_check.specs.Validity.{is_value_of, item_values}
use Rattle.orc_check.proofs.Folds.{any_if, none_if}
use Rattle.orc_check.proofs.references.path_has.Goals as goal

pub returns-then-item_has : goal.returns-then-item_has
returns-then-item_has c =
    let s = c.args.schema.now in
    let path = c.args.path.now in
    let it = c.args.item.now in
    c.is_in_schema.ensures
    ∙ any_if (is_value_of c.args.names.now c.args.text.now) (item_values s path it) (is_in_schema s path it) (sym c.item_has.ensures ∙ c.if-item_has.true)

pub returns-else-item_has : goal.returns-else-item_has
returns-else-item_has c =
    let s = c.args.schema.now in
    let path = c.args.path.now in
    let it = c.args.item.now in
    c.if-item_has.false
    ∙ none_if (is_value_of c.args.names.now c.args.text.now) (item_values s path it) (is_in_schema s path it) (sym c.item_has.ensures ∙ c.if-item_has.false)
