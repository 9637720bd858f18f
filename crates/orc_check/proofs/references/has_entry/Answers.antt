use Rattle.std.proofs.Common.{false, ◌∙◌}
use Rattle.orc_check.specs.Validity.{row_has}
use Rattle.orc_check.proofs.Alone.{here, nothing, named_path_is}
use Rattle.orc_check.proofs.references.has_entry.Goals as goal

pub returns-in-Some : goal.returns-in-Some
returns-in-Some c =
    let own = c.args.own.now in
    c.row_has.ensures
    ∙ here false (row_has c.args.schema.now c.args.target.now c.args.text.now c.args.path.now)
    (named_path_is c.args.target.now own.before.now own.list.now c.args.text.now c.args.path.now c.first_steps.ensures) c.args.tree.now c.in-Some.row.now c.in-Some.ensures

pub returns-in-None : goal.returns-in-None
returns-in-None c =
    let own = c.args.own.now in
    nothing false (row_has c.args.schema.now c.args.target.now c.args.text.now c.args.path.now)
    (named_path_is c.args.target.now own.before.now own.list.now c.args.text.now c.args.path.now c.first_steps.ensures) c.args.tree.now c.in-None.ensures
