use Rattle.std.proofs.Common.{false, refl, ◌∙◌}
use Rattle.orc_check.specs.Validity.{is_place}
use Rattle.orc_check.proofs.Alone.{here, nothing}
use Rattle.orc_check.proofs.references.is_present.Goals as goal

pub returns-in-Some : goal.returns-in-Some
returns-in-Some c = c.is_place.ensures ∙ here false (is_place c.args.schema.now) refl c.args.tree.now c.in-Some.row.now c.in-Some.ensures

pub returns-in-None : goal.returns-in-None
returns-in-None c = nothing false (is_place c.args.schema.now) refl c.args.tree.now c.in-None.ensures
