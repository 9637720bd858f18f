-- The schema of modules, or their first fault.
use Rattle.std.specs.Prelude.{ℕ, Bool, false, ◌&&◌, not, List, [], ◌∷◌, ◌≡◌, map, Option, Some, None, Result, Ok, Err, is_some, if◌then◌else◌}
use Rattle.std.specs.Ordering.{is_lt}
use Rattle.std.specs.List.{list_any}
use Rattle.std.specs.List.Sorted.{IsPermutation}
use Rattle.std.specs.Option.{option_map_or, option_or}
use Rattle.orc_yang.specs.declared.statement.Stmt.{Stmt}
use Rattle.orc_modules.specs.Scopes.{Modules, the_modules}
use Rattle.orc_modules.specs.Children.{is_deeper}
use Rattle.orc_statements.specs.declared.fault.SchemaFault.{SchemaFault}
use Rattle.orc_statements.specs.declared.fault.SchemaFault.TheVariants.{Memory}
use Rattle.orc_schema.specs.declared.draft.Draft.{Draft}
use Rattle.orc_schema.specs.declared.draft.DraftNode.{DraftNode}
use Rattle.orc_schema.specs.declared.draft.DraftNode.TheVariants as draft
use Rattle.orc_schema_nodes.specs.declared.line.SchemaLine.{SchemaLine}
use Rattle.orc_schema_nodes.specs.declared.line.Node.{Node}
use Rattle.orc_schema_nodes.specs.declared.line.Node.TheVariants.{Container, List as ListOf, Leaf, LeafList}
use Rattle.orc_statements.specs.Faults.{module_fault}
use Rattle.orc_schema.specs.Drafts.{drafts_of}
use Rattle.orc_schema_nodes.specs.Names.{names_cmp}
use Rattle.orc_schema_nodes.specs.Schemas.{SchemaTable, Ascends}
use Rattle.orc_schema.specs.Links.{Lookup, chain, node_in, value_type, end_kind, first_link_fault, kind_at, target_at}

abbrev pub drafts : List Stmt → List Draft
drafts modules = drafts_of (the_modules modules) modules

abbrev pub node_of : ℕ → Lookup → Draft → DraftNode → Node
node_of most look drafted draft.Container = Container
node_of most look drafted (draft.List list) = ListOf list
node_of most look drafted (draft.Leaf leaf) = Leaf (record {
  kind = kind_at most look drafted;
  target = target_at drafted;
  default = leaf.default;
  mandatory = leaf.mandatory;
  key = leaf.key;
})
node_of most look drafted (draft.LeafList leaf_list) = LeafList (record {
  kind = kind_at most look drafted;
  target = target_at drafted;
  least = leaf_list.least;
  most = leaf_list.most;
})

abbrev pub schema_line : ℕ → Lookup → Draft → SchemaLine
schema_line most look drafted = record { names = drafted.names; node = node_of most look drafted drafted.node }

-- the lines of nodes, in the order of the text
abbrev pub schema_lines : List Draft → List SchemaLine
schema_lines nodes = map (schema_line chain (node_in nodes)) nodes

-- lines in the order of their names: each is put in before the first whose names aren't less
abbrev pub put_in : SchemaLine → List SchemaLine → List SchemaLine
put_in line [] = line ∷ []
put_in line (first ∷ later) = if is_lt (names_cmp first.names line.names)
    then first ∷ put_in line later else line ∷ first ∷ later

abbrev pub in_order : List SchemaLine → List SchemaLine
in_order [] = []
in_order (line ∷ lines) = put_in line (in_order lines)

-- The first fault of modules: of the statements, and then of the leafrefs.
abbrev pub fault_of : List Stmt → Option SchemaFault
fault_of modules = option_or (module_fault modules) (first_link_fault (drafts modules))

-- the lines of these nodes, each once, in the order of their names
pub record IsTableOf (nodes : List Draft) (schema : SchemaTable) : Type 0 where
  pub typed : schema.plain ≡ false
  pub lines : IsPermutation (schema_lines nodes) schema.lines
  pub order : Ascends schema.lines

-- the one such schema, where there is one
abbrev pub table_of : List Draft → SchemaTable
table_of nodes = record { plain = false; lines = in_order (schema_lines nodes) }

-- Ok where no fault is due, with the schema of these nodes; else that fault; or memory runs out
abbrev pub GivesTable : Option SchemaFault → List Draft → Result SchemaTable SchemaFault → Type 0
GivesTable due nodes (Ok schema) = (due ≡ None) × IsTableOf nodes schema
GivesTable due nodes (Err Memory) = Unit {0}
GivesTable due nodes (Err fault) = due ≡ Some fault

-- Modules have either a first fault or a schema.
abbrev pub Builds : List Stmt → Result SchemaTable SchemaFault → Type 0
Builds modules answer = GivesTable (fault_of modules) (drafts modules) answer

-- the schema of modules that are not at fault
abbrev pub schema_of : List Stmt → Result SchemaTable SchemaFault
schema_of modules = option_map_or Err (fault_of modules) (Ok (table_of (drafts modules)))

-- that schema or that fault; or memory runs out
abbrev pub GivesSchema : Result SchemaTable SchemaFault → Result SchemaTable SchemaFault → Type 0
GivesSchema due (Ok schema) = due ≡ Ok schema
GivesSchema due (Err Memory) = Unit {0}
GivesSchema due (Err fault) = due ≡ Err fault

-- Nothing was cut off ------------------------------------------------------------------------------------------------

-- nodes and groupings below a module stand in one another deeper than is looked at
abbrev pub is_deep_module : Modules → Stmt → Bool
is_deep_module modules the_module = is_deeper modules.most modules.all (the_module ∷ []) the_module

-- the kind of a leaf or a leaf-list is reached only through more leafrefs than are followed
abbrev pub is_cut : ℕ → Lookup → Draft → Bool
is_cut most look drafted = is_some (value_type drafted.node) && not (is_some (end_kind most look drafted))

-- each node of the modules is found, and the kind of each
pub record IsWhole (modules : List Stmt) : Type 0 where
  pub nodes : list_any (is_deep_module (the_modules modules)) modules ≡ false
  pub kinds : list_any (is_cut chain (node_in (drafts modules))) (drafts modules) ≡ false
