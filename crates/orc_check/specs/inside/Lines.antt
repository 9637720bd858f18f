-- The lines of a schema that lead on from a place.
use Rattle.std.specs.Prelude.{Bool, List, is_some}
use Rattle.std.specs.Ordering.{is_lt}
use Rattle.orc_path.specs.Steps.{PathStep}
use Rattle.orc_schema_nodes.specs.Names.{names_cmp}
use Rattle.orc_schema_nodes.specs.Schemas.{path_names}
use Rattle.orc_schema_nodes.specs.declared.line.SchemaLine.{SchemaLine}
use Rattle.orc_check.specs.Validity.{behind}

-- the names of a line begin with those of a place
abbrev pub leads_on : List PathStep → SchemaLine → Bool
leads_on place line = is_some (behind place line.names)

-- they are less than those
abbrev pub is_before : List PathStep → SchemaLine → Bool
is_before place line = is_lt (names_cmp line.names (path_names place))
