use Rattle.std.proofs.Common.{false, refl, ◌∙◌}
use Rattle.orc_check.specs.Validity.{row_has}
use Rattle.orc_check.proofs.Alone.{here, nothing}
use Rattle.orc_check.proofs.references.has_at.Goals as goal

pub returns-in-Some : goal.returns-in-Some
returns-in-Some c =
    c.row_has.ensures
    ∙ here false (row_has c.args.schema.now c.args.target.now c.args.text.now c.args.path.now) refl c.args.tree.now c.in-Some.row.now c.in-Some.ensures

pub returns-in-None : goal.returns-in-None
returns-in-None c = nothing false (row_has c.args.schema.now c.args.target.now c.args.text.now c.args.path.now) refl c.args.tree.now c.in-None.ensures
