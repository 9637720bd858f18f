use Rattle.orc_schema_nodes.proofs.Ordered.{none_ascends}
use Rattle.orc_schema_nodes.proofs.schema.Schema.plain.Goals as goal

pub invariant_of-result : goal.invariant_of-result
invariant_of-result c = none_ascends
