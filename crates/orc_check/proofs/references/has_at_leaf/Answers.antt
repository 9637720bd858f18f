use Rattle.std.proofs.Common.{◌&&◌, ◌∙◌}
use Rattle.orc_check.specs.Validity.{row_has, has_default}
use Rattle.orc_check.specs.inside.Named.{is_lacked_above}
use Rattle.orc_check.proofs.Alone.{here, nothing, leaf_path_is}
use Rattle.orc_check.proofs.references.has_at_leaf.Goals as goal

pub returns-in-Some : goal.returns-in-Some
returns-in-Some c =
    let s = c.args.schema.now in
    let target = c.args.target.now in
    c.row_has.ensures
    ∙ here (has_default s target.names c.args.text.now && is_lacked_above s c.args.tree.now target c.args.path.now target.shared) (row_has s target c.args.text.now c.args.path.now)
    (leaf_path_is target c.args.path.now c.first_steps.ensures c.as_slice-names.ensures) c.args.tree.now c.in-Some.row.now c.in-Some.ensures

pub returns-in-None : goal.returns-in-None
returns-in-None c =
    c.is_default_above.ensures
    ∙ nothing _ (row_has c.args.schema.now c.args.target.now c.args.text.now c.args.path.now)
    (leaf_path_is c.args.target.now c.args.path.now c.first_steps.ensures c.as_slice-names.ensures) c.args.tree.now c.in-None.ensures
