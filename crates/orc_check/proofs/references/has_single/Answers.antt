use Rattle.std.proofs.Common.{◌≡◌, ℕ, true, false, List, ap, sym, ◌∙◌}
use Rattle.orc_schema_nodes.specs.Schemas.{node_at}
use Rattle.orc_check.specs.inside.Named.{is_leaf_list}
use Rattle.orc_check.proofs.Single.{at_leaf_is, at_value_is}
use Rattle.orc_check.proofs.references.has_single.Goals as goal

pub returns-then-is_leaf_list : goal.returns-then-is_leaf_list
returns-then-is_leaf_list c =
    let s = c.args.schema.now in
    let target = c.args.target.now in
    let own = c.args.own.now in
    let values : is_leaf_list (node_at s target.names) ≡ true =
    ap (λ (ns : List (List ℕ)). is_leaf_list (node_at s ns)) (sym c.as_slice.ensures) ∙ ap is_leaf_list (sym c.node_of_names.ensures)
    ∙ sym c.is_leaf_list.ensures ∙ c.if-is_leaf_list.true in
    c.has_entry.ensures ∙ sym (at_value_is s c.args.tree.now target own.before.now own.list.now c.args.text.now c.requires c.args.path.now values)

pub returns : goal.returns
returns c =
    let s = c.args.schema.now in
    let target = c.args.target.now in
    let own = c.args.own.now in
    let leaf : is_leaf_list (node_at s target.names) ≡ false =
    ap (λ (ns : List (List ℕ)). is_leaf_list (node_at s ns)) (sym c.as_slice.ensures) ∙ ap is_leaf_list (sym c.node_of_names.ensures)
    ∙ sym c.is_leaf_list.ensures ∙ c.if-is_leaf_list.false in
    c.has_at_leaf.ensures ∙ sym (at_leaf_is s c.args.tree.now target own.before.now own.list.now c.args.text.now c.requires c.args.path.now leaf)
