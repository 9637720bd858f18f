use Rattle.std.proofs.Common.{IsTrue, sym, subst, ◌∙◌}
use Rattle.orc_path.specs.Steps.{is_path}
use Rattle.orc_typed.proofs.Kept.{path_kept}
use Rattle.orc_typed.proofs.canonical.canonical_path.Goals as goal

pub invariant_of-result : goal.invariant_of-result
invariant_of-result c =
    path_kept c.args.schema.now c.as_slice.result.now c.in-Some.steps (sym c.in-Some.is ∙ c.in_ok-steps.ensures)
    (subst (λ steps. IsTrue (is_path steps)) (sym c.as_slice.ensures) c.path.invariant)
