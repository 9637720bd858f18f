-- What the definitions make sure of.
use Rattle.std.specs.Prelude.{ℕ, suc, ◌≡◌, false, List, [], ◌∷◌, ◌++◌, map, Contains, Some, None, Ok}
use Rattle.std.specs.List.{All, IsDistinct}
use Rattle.std.specs.List.Sorted.{IsPermutation}
use Rattle.orc_yang.specs.declared.statement.Stmt.{Stmt}
use Rattle.orc_types.specs.Statements.{subs}
use Rattle.orc_modules.specs.declared.parts.Part.TheVariants.{Node}
use Rattle.orc_modules.specs.Statements.{Place, module_places}
use Rattle.orc_modules.specs.Scopes.{Modules, the_modules}
use Rattle.orc_modules.specs.Children.{block_part, is_deeper}
use Rattle.orc_statements.specs.declared.fault.SchemaFault.{SchemaFault}
use Rattle.orc_schema.specs.declared.draft.Draft.{Draft}
use Rattle.orc_statements.specs.Faults.{fault_here, module_fault}
use Rattle.orc_schema.specs.Drafts.{Where, draft, drafts_in, drafts_below, drafts_of}
use Rattle.orc_schema_nodes.specs.Names.{same_names}
use Rattle.orc_schema.specs.Links.{chain, node_in, link_fault, first_link_fault}
use Rattle.orc_schema_nodes.specs.Schemas.{SchemaTable, Ascends, plain_table}
use Rattle.orc_schema_nodes.specs.Sound.{IsSound}
use Rattle.orc_schema.specs.Schemas.{IsTableOf, Builds, IsWhole}

-- no statement of the list is at fault
abbrev pub AreFaultless : List Stmt → List Place → Type 0
AreFaultless all [] = Unit {0}
AreFaultless all (place ∷ places) = (fault_here (the_modules all) place ≡ None) × AreFaultless all places

-- the fault is that of a statement, and no statement before it in the text is at fault
pub record IsFirstFault (all : List Stmt) (the_fault : SchemaFault) : Type 0 where
  pub front : List Place
  pub place : Place
  pub back : List Place
  pub places : module_places [] all ≡ front ++ place ∷ back
  pub before : AreFaultless all front
  pub fault : fault_here (the_modules all) place ≡ Some the_fault

-- The fault of modules is that of their first faulty statement in the order of the text.
abbrev pub FirstFaultIsLeast : Type 0
FirstFaultIsLeast = (all : List Stmt) (fault : SchemaFault) → module_fault all ≡ Some fault → IsFirstFault all fault

-- the fault is that of a leafref, and no leafref among the nodes before it is at fault
pub record IsFirstLinkFault (all : List Draft) (the_fault : SchemaFault) : Type 0 where
  pub front : List Draft
  pub node : Draft
  pub back : List Draft
  pub nodes : all ≡ front ++ node ∷ back
  pub before : All (λ earlier. link_fault chain (node_in all) earlier ≡ None) front
  pub fault : link_fault chain (node_in all) node ≡ Some the_fault

-- The fault of leafrefs is that of the first faulty one, in the order of the nodes (in `drafts` that of the text, with
-- each `uses` replaced by what its grouping defines).
abbrev pub FirstLinkFaultIsLeast : Type 0
FirstLinkFaultIsLeast = (all : List Draft) (fault : SchemaFault) → first_link_fault all ≡ Some fault
    → IsFirstLinkFault all fault

-- the statement stands in the modules, with these statements around it, the innermost first: it is one of the modules,
-- or stands in the block of the first of these, which itself stands in the modules with the others around it
abbrev pub StandsIn : List Stmt → List Stmt → Stmt → Type 0
StandsIn modules [] statement = Contains modules statement
StandsIn modules (innermost ∷ above) statement =
    Contains (subs innermost) statement × StandsIn modules above innermost

-- a node is what one statement for a node, which stands in the modules, makes of it where it comes to stand
pub record StandsFor (modules : Modules) (node : Draft) : Type 0 where
  pub at : Where
  pub statement : Stmt
  pub stands : StandsIn modules.all at.above statement
  pub is_node : block_part statement ≡ Node
  pub made : node ≡ draft modules at statement

-- Each node of modules stands for one of their statements.
abbrev pub NodesStandForStatements : Type 0
NodesStandForStatements = (modules : Modules) → All (StandsFor modules) (drafts_of modules modules.all)

-- Where nodes and groupings stand in one another no deeper than `depth`, a greater depth finds nothing more.
abbrev pub DepthIsNoLimit : Type 0
DepthIsNoLimit = (depth : ℕ) (modules : Modules) (at : Where) (statement : Stmt)
    → is_deeper depth modules.all at.above statement ≡ false
    → drafts_below (suc depth) modules at statement ≡ drafts_below depth modules at statement

-- No two lines of a schema have the same names.
abbrev pub NamesDiffer : Type 0
NamesDiffer = (schema : SchemaTable) → Ascends schema.lines
    → IsDistinct same_names (map (λ line. line.names) schema.lines)

-- The order of a block's statements is free, with what names mean held fast: where two of them that stand beside one
-- another change places, while each name is looked up in the statements around (`at.above`) and in the modules as they
-- were, the same nodes come of the block.
abbrev pub OrderIsFree : Type 0
OrderIsFree = (depth : ℕ) (modules : Modules) (at : Where) (front : List Stmt) (one other : Stmt) (back : List Stmt)
    → IsPermutation (drafts_in modules (drafts_below depth modules) at (front ++ one ∷ other ∷ back))
    (drafts_in modules (drafts_below depth modules) at (front ++ other ∷ one ∷ back))

-- The order in which nodes come makes no other schema.
abbrev pub NodesMakeOneTable : Type 0
NodesMakeOneTable = (nodes others : List Draft) (schema : SchemaTable) → IsPermutation nodes others
    → IsTableOf nodes schema → IsTableOf others schema

-- Modules of which nothing was cut off make a sound schema.
abbrev pub SchemasAreSound : Type 0
SchemasAreSound = (modules : List Stmt) (schema : SchemaTable) → Builds modules (Ok schema) → IsWhole modules
    → IsSound schema

-- A plain schema is sound, since it has no node.
abbrev pub PlainIsSound : Type 0
PlainIsSound = IsSound plain_table
