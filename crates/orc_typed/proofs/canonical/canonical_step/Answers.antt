use Rattle.std.proofs.Common.{sym, ◌∙◌}
use Rattle.orc_schema_nodes.specs.Schemas.{path_names}
use Rattle.orc_typed.specs.Typed.{kinds_at}
use Rattle.orc_typed.proofs.Kept.{keys_plain}
use Rattle.orc_typed.proofs.canonical.canonical_step.Goals as goal

pub invariant_of-result : goal.invariant_of-result
invariant_of-result c =
    keys_plain (kinds_at c.args.schema.now (path_names c.args.steps.now)) c.as_slice.result.now c.in-Some.keys (sym c.in-Some.is ∙ c.in_ok-keys.ensures)
