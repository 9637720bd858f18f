-- Which JSON is a template of a list, and the first fault of what is none.
use Rattle.std.specs.Prelude.{◌≡◌, ℕ, ◌+◌, Bool, true, false, ◌&&◌, List, codes, Option, Result, if◌then◌else◌}
use Rattle.std.specs.declared.option.Option.TheVariants.{None, Some}
use Rattle.std.specs.declared.result.Result.TheVariants.{Ok, Err}
use Rattle.std.specs.Option.{option_and_then, option_map_or, option_or, is_some}
use Rattle.std.specs.List.{list_all}
use Rattle.serde_json.specs.Data.{Data, null, boolean, number, string, array, object, Items, no_items, item, Members, no_members, member}
use Rattle.serde_json.specs.Find.{get, as_str, as_array, as_object}
use Rattle.orc_path.specs.Steps.{PathStep}
use Rattle.orc_value.specs.Canon.{same_text}
use Rattle.orc_expr.specs.Resolved.{Shapes, resolved}
use Rattle.orc_json.specs.Readings.{IsJson, IsNoJson}
use Rattle.orc_template.specs.Readers.{Readers}
use Rattle.orc_template.specs.Strings.{cut_parts}
use Rattle.orc_template.specs.Blocks.{Blocks, no_block, block, block_count, blocks_inside, text_of_member}
use Rattle.orc_template.specs.declared.strings.Part.{Part}
use Rattle.orc_template.specs.declared.strings.Part.TheVariants.{Written, Braced}
use Rattle.orc_template.specs.declared.fault.TemplateFault.{TemplateFault}
use Rattle.orc_template.specs.declared.fault.TemplateFault.TheVariants.{NotJson, BadMember, BadExpr, Memory}

-- Members ------------------------------------------------------------------------------------------------------------

-- a block has these members, each of its kind: `for`, `when` and `device` are strings, `config` is an object, and
-- `blocks` an array
abbrev pub member_fits : List ℕ → Data → Bool
member_fits name json =
    if same_text name (codes "blocks") then is_some (as_array json) else
    if same_text name (codes "config") then is_some (as_object json) else
    if same_text name (codes "device") then is_some (as_str json) else
    if same_text name (codes "for") then is_some (as_str json) else
    if same_text name (codes "when") then is_some (as_str json) else false

abbrev pub members_fit : Members → Bool
members_fit no_members = true
members_fit (member name json pairs) = member_fits name json && members_fit pairs

-- `device` and `config` come together
abbrev pub come_together : Option Data → Option Data → Bool
come_together None None = true
come_together None (Some other) = false
come_together (Some one) None = false
come_together (Some one) (Some other) = true

abbrev pub are_paired : Data → Bool
are_paired json = come_together (get (codes "device") json) (get (codes "config") json)

abbrev pub is_block : Data → Bool
is_block json = option_map_or members_fit (as_object json) false && are_paired json

-- a template is an object with the member `blocks`, an array, and no other
abbrev pub only_blocks : Members → Bool
only_blocks no_members = true
only_blocks (member name json pairs) =
    (same_text name (codes "blocks") && is_some (as_array json)) && only_blocks pairs

abbrev pub is_template : Data → Bool
is_template json = option_map_or only_blocks (as_object json) false && is_some (get (codes "blocks") json)

-- Expressions --------------------------------------------------------------------------------------------------------

-- How texts are read, what the schema of the data says, and a node of it.
pub record Site : Type 0 where
  pub readers : Readers
  pub shapes : Shapes
  pub node : List PathStep

-- the node to which the expression of a text leads
abbrev pub node_of_text : Site → List ℕ → Option (List PathStep)
node_of_text place text = option_and_then (resolved place.shapes place.node) (place.readers.expression text)

-- the text is that of a condition whose expression leads to a node
abbrev pub condition_resolves : Site → List ℕ → Bool
condition_resolves place text =
    option_map_or (λ condition. is_some (resolved place.shapes place.node condition.look))
    (place.readers.condition text) false

abbrev pub part_resolves : Site → Part → Bool
part_resolves place (Written text) = true
part_resolves place (Braced text) = is_some (node_of_text place text)

-- the text is a string whose expressions lead to nodes
abbrev pub string_resolves : Site → List ℕ → Bool
string_resolves place text = option_map_or (list_all (part_resolves place)) (cut_parts text) false

abbrev mutual
  -- each string in a JSON value, but for the names of members, is one whose expressions lead to nodes
  pub data_resolves : Site → Data → Bool
  data_resolves place null = true
  data_resolves place (boolean truth) = true
  data_resolves place (number amount) = true
  data_resolves place (string text) = string_resolves place text
  data_resolves place (array items) = items_resolve place items
  data_resolves place (object pairs) = members_resolve place pairs

  pub items_resolve : Site → Items → Bool
  items_resolve place no_items = true
  items_resolve place (item json items) = data_resolves place json && items_resolve place items

  pub members_resolve : Site → Members → Bool
  members_resolve place no_members = true
  members_resolve place (member name json pairs) = data_resolves place json && members_resolve place pairs

-- the node at which a block is done: that of `for`, else the one around it
abbrev pub block_node : Site → Option (List ℕ) → Option (List PathStep)
block_node place None = Some place.node
block_node place (Some text) = node_of_text place text

-- what a block says at its node resolves
abbrev pub block_resolves : Site → Data → Bool
block_resolves place json =
    option_map_or (condition_resolves place) (text_of_member (codes "when") json) true
    && (option_map_or (data_resolves place) (get (codes "device") json) true
    && option_map_or (data_resolves place) (get (codes "config") json) true)

-- Faults -------------------------------------------------------------------------------------------------------------

abbrev pub node_fault : Site → ℕ → Data → (Site → Option TemplateFault) → Option (List PathStep)
    → Option TemplateFault
node_fault place block_number json inside None = Some (BadExpr block_number)
node_fault place block_number json inside (Some node) =
    if block_resolves (record place { node = node }) json then inside (record place { node = node })
    else Some (BadExpr block_number)

-- the first fault of a block: of its members, of its expressions, and then of the blocks inside
abbrev pub block_fault : Site → ℕ → Data → (Site → Option TemplateFault) → Option TemplateFault
block_fault place block_number json inside =
    if is_block json
    then node_fault place block_number json inside (block_node place (text_of_member (codes "for") json))
    else Some (BadMember block_number)

-- of blocks, numbered in the order of the text from `first` on, the outer before the inner: so the least block's fault
-- is the first
abbrev pub blocks_fault : Site → ℕ → Blocks → Option TemplateFault
blocks_fault place first no_block = None
blocks_fault place first (block json inner later) = option_or
    (block_fault place first json (λ inside. blocks_fault inside (first + 1) inner))
    (blocks_fault place (first + 1 + block_count inner) later)

-- of a JSON value as a template
abbrev pub template_fault : Site → Data → Option TemplateFault
template_fault place json = if is_template json then blocks_fault place 1 (blocks_inside json) else Some (BadMember 0)

-- The answer for bytes: their JSON, where it is a template of the list, or its first fault, or that they are no JSON;
-- nothing is said where memory runs out.
abbrev pub ReadsTemplate : Site → List ℕ → Result Data TemplateFault → Type 0
ReadsTemplate place bytes (Ok template) = IsJson bytes template × (template_fault place template ≡ None)
ReadsTemplate place bytes (Err NotJson) = IsNoJson bytes
ReadsTemplate place bytes (Err (BadMember block_number)) =
    (json : Data) × IsJson bytes json × (template_fault place json ≡ Some (BadMember block_number))
ReadsTemplate place bytes (Err (BadExpr block_number)) =
    (json : Data) × IsJson bytes json × (template_fault place json ≡ Some (BadExpr block_number))
ReadsTemplate place bytes (Err Memory) = Unit {0}
