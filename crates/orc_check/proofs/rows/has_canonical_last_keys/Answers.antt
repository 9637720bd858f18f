use Rattle.std.proofs.Common.{List, ℕ, sym, ap, ◌∙◌}
use Rattle.orc_schema_nodes.specs.Schemas.{path_names}
use Rattle.orc_typed.specs.Typed.{kinds_at, are_canonical_keys}
use Rattle.orc_check.specs.Validity.{last_keys}
use Rattle.orc_check.proofs.Folds.{last_keys-last}
use Rattle.orc_check.proofs.rows.has_canonical_last_keys.Goals as goal

pub returns-in-Some : goal.returns-in-Some
returns-in-Some c =
    let steps = c.args.steps.now in
    c.has_canonical_keys.ensures
    ∙ ap (λ (keys : List (List ℕ)). are_canonical_keys (kinds_at c.args.schema.now (path_names steps)) keys)
    (sym (last_keys-last c.in-Some.parts.1.now c.in-Some.parts.0.now) ∙ ap last_keys (sym c.in-Some.ensures.cases.0))
