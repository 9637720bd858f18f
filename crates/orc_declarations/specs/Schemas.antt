-- The schema of modules that a line names.
use Rattle.std.specs.Prelude.{List, Result}
use Rattle.std.specs.declared.result.Result.TheVariants.{Ok, Err}
use Rattle.orc_yang.specs.declared.statement.Stmt.{Stmt}
use Rattle.orc_schema_nodes.specs.Schemas.{SchemaTable}
use Rattle.orc_schema.specs.Schemas.{schema_of}
use Rattle.orc_statements.specs.declared.fault.SchemaFault.{SchemaFault}
use Rattle.orc_decls.specs.declared.rule.Rule.{Rule}
use Rattle.orc_decls.specs.declared.rule.Rule.TheVariants as rule

abbrev pub with_rule : Result SchemaTable SchemaFault → Result SchemaTable Rule
with_rule (Ok schema) = Ok schema
with_rule (Err fault) = Err rule.Schema

-- the schema of modules, where none of them is at fault
unfoldable pub schema_or_rule : List Stmt → Result SchemaTable Rule
schema_or_rule modules = with_rule (schema_of modules)
