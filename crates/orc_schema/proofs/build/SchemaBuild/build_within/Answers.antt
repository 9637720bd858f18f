use Rattle.orc_schema.proofs.InOrder.{builds-schema}
use Rattle.orc_schema.proofs.build.SchemaBuild.build_within.Goals as goal

pub returns-clause-value : goal.returns-clause-value
returns-clause-value c = builds-schema c.args.modules.now _ c.schema_of.ensures.builds
