-- What is answered of modules that make no schema.
use Rattle.std.proofs.Common.{◌≡◌, List, Result, Err, ap, subst}
use Rattle.orc_yang.specs.declared.statement.Stmt.{Stmt}
use Rattle.orc_schema_nodes.specs.Schemas.{SchemaTable}
use Rattle.orc_schema.specs.Schemas.{GivesSchema, schema_of}
use Rattle.orc_statements.specs.declared.fault.SchemaFault.{SchemaFault}
use Rattle.orc_statements.specs.declared.fault.SchemaFault.TheVariants as schema
use Rattle.orc_lines.specs.Answers.{ReadsLine}
use Rattle.orc_lines.specs.declared.detail.BuildPlace.{BuildPlace}
use Rattle.orc_lines.specs.declared.fault.LineFault.{LineFault}
use Rattle.orc_lines.proofs.Rules.{err}
use Rattle.orc_declarations.specs.Schemas.{schema_or_rule, with_rule}
use Rattle.orc_declarations.specs.inside.Faults.{of_schema}

pub schema_missed : (modules seen : List Stmt) (fault : SchemaFault) (place : BuildPlace) → seen ≡ modules
    → GivesSchema (schema_of seen) (err SchemaTable SchemaFault fault)
    → ReadsLine (schema_or_rule modules) (err SchemaTable LineFault (of_schema fault place))
unfolding schema_or_rule
schema_missed modules seen fault place same h =
    subst (λ (ms : List Stmt). ReadsLine (schema_or_rule ms) (err SchemaTable LineFault (of_schema fault place))) same (on fault h) where
      on : (f : SchemaFault) → GivesSchema (schema_of seen) (err SchemaTable SchemaFault f)
          → ReadsLine (schema_or_rule seen) (err SchemaTable LineFault (of_schema f place))
      on schema.Memory h = tt
      on (schema.Unsupported keyword) h = ap (λ (r : Result SchemaTable SchemaFault). with_rule r) h
      on (schema.Unknown name) h = ap (λ (r : Result SchemaTable SchemaFault). with_rule r) h
      on (schema.Duplicate name) h = ap (λ (r : Result SchemaTable SchemaFault). with_rule r) h
      on (schema.BadArgument keyword) h = ap (λ (r : Result SchemaTable SchemaFault). with_rule r) h
      on (schema.NoKey list) h = ap (λ (r : Result SchemaTable SchemaFault). with_rule r) h
      on (schema.Loop name) h = ap (λ (r : Result SchemaTable SchemaFault). with_rule r) h
