use Rattle.std.proofs.Common.{sym, ◌∙◌}
use Rattle.orc_check.proofs.Listed.{listed}
use Rattle.orc_check.proofs.references.has_listed.Goals as goal

pub returns-in-Some : goal.returns-in-Some
returns-in-Some c = λ h.
    listed c.args.schema.now c.args.tree.now c.args.target.now c.args.text.now c.args.path.now c.in-Some.steps.now (sym c.is_instance_at.ensures ∙ h)
