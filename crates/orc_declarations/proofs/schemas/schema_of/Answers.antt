use Rattle.std.proofs.Common.{subst, sym}
use Rattle.orc_schema_nodes.specs.Schemas.{SchemaTable}
use Rattle.orc_lines.specs.Answers.{ReadsLine}
use Rattle.orc_lines.specs.declared.fault.LineFault.{LineFault}
use Rattle.orc_lines.proofs.Rules.{err}
use Rattle.orc_declarations.specs.Schemas.{schema_or_rule}
use Rattle.orc_declarations.proofs.SchemaFaults.{schema_missed}
use Rattle.orc_declarations.proofs.schemas.schema_of.Goals as goal

pub returns-in-Err-clause-reads : goal.returns-in-Err-clause-reads
returns-in-Err-clause-reads c =
    subst (λ (f : LineFault). ReadsLine (schema_or_rule c.args.modules) (err SchemaTable LineFault f)) (sym c.of_schema.ensures)
    (schema_missed c.args.modules c.as_slice.result.now c.in-Err.fault c.place_of.result c.as_slice.ensures c.in-Err.ensures.value)
