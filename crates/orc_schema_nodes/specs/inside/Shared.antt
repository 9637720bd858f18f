-- The lines of a schema, which its copies share.
use Rattle.std.specs.Prelude.{false, List, Option}
use Rattle.std.specs.declared.option.Option.TheVariants.{None, Some}
use Rattle.std.specs.Arc.{arc_value}
use Rattle.std.specs.declared.alloc.Global.{Global}
use Rattle.std.specs.declared.sync.Arc.{Arc}
use Rattle.orc_schema_nodes.specs.declared.line.SchemaLine.{SchemaLine}
use Rattle.orc_schema_nodes.specs.Schemas.{SchemaTable, plain_table}

-- the schema of these lines; the plain one where there are none
abbrev pub shared_table : Option (Arc (List SchemaLine) Global) → SchemaTable
shared_table None = plain_table
shared_table (Some lines) = record { plain = false; lines = arc_value lines }
