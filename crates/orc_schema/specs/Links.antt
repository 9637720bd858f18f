-- Where leafrefs lead: RFC 7950 section 9.9.
use Rattle.std.specs.Prelude.{ℕ, zero, suc, ◌-◌, Bool, true, false, ◌&&◌, ◌||◌, not, List, [], ◌∷◌, ◌++◌, length, take, nat_lt, Option, Some, None, codes, is_some, unwrap_or, slice_get, option_map, option_and_then, if◌then◌else◌}
use Rattle.std.specs.List.{find, before_first}
use Rattle.std.specs.Option.{option_map_or, option_or}
use Rattle.orc_value.specs.Canon.{same_text}
use Rattle.orc_schema_nodes.specs.Names.{same_names}
use Rattle.orc_value.specs.declared.kind.Kind.{Kind}
use Rattle.orc_value.specs.declared.kind.Kind.TheVariants as kind
use Rattle.orc_modules.specs.Scopes.{plain_name}
use Rattle.orc_modules.specs.declared.place.TheConstants.{MAX_CHAIN}
use Rattle.orc_statements.specs.declared.fault.SchemaFault.{SchemaFault}
use Rattle.orc_statements.specs.declared.fault.SchemaFault.TheVariants.{Unknown, BadArgument, Loop}
use Rattle.orc_statements.specs.declared.reference.Reference.{Reference}
use Rattle.orc_statements.specs.declared.reference.StepName.{StepName}
use Rattle.orc_schema.specs.declared.draft.Draft.{Draft}
use Rattle.orc_schema.specs.declared.draft.DraftType.{DraftType}
use Rattle.orc_schema.specs.declared.draft.DraftType.TheVariants.{Own, To}
use Rattle.orc_schema.specs.declared.draft.DraftNode.{DraftNode}
use Rattle.orc_schema.specs.declared.draft.DraftNode.TheVariants.{Container, List as ListOf, Leaf, LeafList}
use Rattle.orc_schema_nodes.specs.declared.line.Target.{Target}
use Rattle.orc_statements.specs.declared.cuts.Mark.TheVariants.{Colon}
use Rattle.orc_statements.specs.Cuts.{is_mark}
use Rattle.orc_statements.specs.Names.{fault_if}
use Rattle.orc_statements.specs.Faults.{first_some}

-- the module of a node: its first name has it, and all below are of that module
abbrev pub module_in : List (List ℕ) → List ℕ
module_in [] = []
module_in (first ∷ later) = before_first (is_mark Colon) first

-- one name further down from these; a name without a prefix is of the module `owner`
abbrev pub down : List ℕ → List (List ℕ) → StepName → Option (List (List ℕ))
down owner [] step = Some ((unwrap_or step.owner owner ++ (58 ∷ step.name)) ∷ [])
down owner (first ∷ later) step = if same_text (unwrap_or step.owner owner) (before_first (is_mark Colon) first)
    then Some ((first ∷ later) ++ step.name ∷ []) else None

abbrev pub walk : List ℕ → List (List ℕ) → List StepName → Option (List (List ℕ))
walk owner at [] = Some at
walk owner at (step ∷ steps) = option_and_then (λ next. walk owner next steps) (down owner at step)

-- how many names of the node stay where a path begins: none where it is absolute or goes up to the top
abbrev pub kept_names : Draft → Reference → ℕ
kept_names draft reference = if reference.absolute then 0 else length draft.names - reference.ups

-- a path goes up past the top
abbrev pub goes_past : Draft → Reference → Bool
goes_past draft reference = not reference.absolute && nat_lt (length draft.names) reference.ups

abbrev pub target_names : Draft → Reference → Option (List (List ℕ))
target_names draft reference = if goes_past draft reference then None
    else walk (module_in draft.names) (take (kept_names draft reference) draft.names) reference.names

abbrev pub has_names : List (List ℕ) → Draft → Bool
has_names names draft = same_names draft.names names

-- A look-up finds the node of its names, where there is one.
abbrev pub Lookup : Type 0
Lookup = List (List ℕ) → Option Draft

abbrev pub node_in : List Draft → Lookup
node_in drafts names = find (has_names names) drafts

-- the type of a leaf or a leaf-list
abbrev pub value_type : DraftNode → Option DraftType
value_type Container = None
value_type (ListOf list) = None
value_type (Leaf leaf) = Some leaf.of_type
value_type (LeafList leaf_list) = Some leaf_list.of_type

abbrev pub reference_in : DraftType → Option Reference
reference_in (Own of_kind) = None
reference_in (To reference) = Some reference

-- the leafref that a node is
abbrev pub reference_at : Draft → Option Reference
reference_at draft = option_and_then reference_in (value_type draft.node)

abbrev pub if_typed : Draft → Option Draft
if_typed draft = option_map (λ of_type. draft) (value_type draft.node)

-- the leaf or leaf-list to which a leafref leads
abbrev pub led_to : Lookup → Draft → Reference → Option Draft
led_to look draft reference = option_and_then if_typed (option_and_then look (target_names draft reference))

abbrev pub next : Lookup → Draft → Option Draft
next look draft = option_and_then (led_to look draft) (reference_at draft)

-- at most so many leafrefs on from a node, a leafref leads to the node of these names
abbrev pub leads_to : ℕ → Lookup → List (List ℕ) → Draft → Bool
leads_to zero look names draft = false
leads_to (suc most) look names draft = option_map_or
    (λ target. has_names names target || leads_to most look names target) (next look draft) false

-- the kind at the end of at most so many leafrefs
abbrev pub own_kind : Option DraftType → Option Kind
own_kind None = None
own_kind (Some (Own of_kind)) = Some of_kind
own_kind (Some (To reference)) = None

abbrev pub end_kind : ℕ → Lookup → Draft → Option Kind
end_kind zero look draft = None
end_kind (suc most) look draft = option_map_or
    (λ reference. option_and_then (end_kind most look) (led_to look draft reference)) (reference_at draft)
    (own_kind (value_type draft.node))

abbrev pub is_key_node : DraftNode → Bool
is_key_node (Leaf leaf) = is_some leaf.key
is_key_node _ = false

abbrev pub is_empty : Option Kind → Bool
is_empty (Some kind.Empty) = true
is_empty _ = false

-- a node's own name, without its module
abbrev pub own_name : Draft → List ℕ
own_name draft = plain_name (unwrap_or (slice_get draft.names (length draft.names - 1)) [])

-- 2: the path ends at no leaf or leaf-list; 4: a key of type empty; 6: it leads back to itself
abbrev pub lost : Lookup → Draft → Reference → Option SchemaFault
lost look draft reference = fault_if (not (is_some (led_to look draft reference))) (Unknown reference.text)

abbrev pub empty_key : ℕ → Lookup → Draft → Option SchemaFault
empty_key most look draft =
    fault_if (is_key_node draft.node && is_empty (end_kind most look draft)) (BadArgument (codes "key"))

abbrev pub leads_back : ℕ → Lookup → Draft → Option SchemaFault
leads_back most look draft = fault_if (leads_to most look draft.names draft) (Loop (own_name draft))

abbrev pub reference_fault : ℕ → Lookup → Draft → Reference → Option SchemaFault
reference_fault most look draft reference = option_or (lost look draft reference)
    (option_or (empty_key most look draft) (leads_back most look draft))

abbrev pub link_fault : ℕ → Lookup → Draft → Option SchemaFault
link_fault most look draft = option_and_then (reference_fault most look draft) (reference_at draft)

-- so many leafrefs may lead on to one another
unfoldable pub chain : ℕ
chain = MAX_CHAIN

-- the first fault of the leafrefs, in the order of the schema
abbrev pub first_link_fault : List Draft → Option SchemaFault
first_link_fault drafts = first_some (link_fault chain (node_in drafts)) drafts

-- Where a leafref leads: the names of its target, and how many of them are the node's own entries.
abbrev pub target_of : Draft → Reference → Target
target_of draft reference =
    record { names = unwrap_or (target_names draft reference) []; shared = kept_names draft reference }

abbrev pub target_at : Draft → Option Target
target_at draft = option_map (target_of draft) (reference_at draft)

abbrev pub kind_at : ℕ → Lookup → Draft → Kind
kind_at most look draft = unwrap_or (end_kind most look draft) kind.Empty
