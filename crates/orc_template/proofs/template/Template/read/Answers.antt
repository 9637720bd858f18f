use Rattle.std.proofs.Common.{subst}
use Rattle.orc_schema_nodes.specs.Schemas.{shape_at}
use Rattle.orc_template.specs.Readers.{Readers}
use Rattle.orc_template.specs.Templates.{ReadsTemplate}
use Rattle.orc_template.specs.Said.{read_result}
use Rattle.orc_template.specs.inside.Machine.{the_readers}
use Rattle.orc_template.proofs.ReadBack.{readers_read, readers_same}
use Rattle.orc_template.proofs.template.Template.read.Goals as goal

pub returns-clause-reads : goal.returns-clause-reads
returns-clause-reads c = λ readers are.
    subst (λ (r : Readers). ReadsTemplate (record { readers = r; shapes = shape_at c.args.schema.now; node = c.args.list.now }) c.args.bytes.now (read_result c.read_bytes.result))
    (readers_same the_readers readers readers_read are) c.read_bytes.ensures.reads
