-- Names that nothing has, and names that are there already: RFC 7950 sections 5.1, 5.5, 6.2.1, 7.3, 7.8.2, 7.12, 7.13.
use Rattle.std.specs.Prelude.{ℕ, Bool, true, false, ◌&&◌, ◌||◌, not, List, [], ◌∷◌, ◌++◌, Option, Some, None, codes, is_some, option_map, if◌then◌else◌}
use Rattle.std.specs.List.{list_any, find}
use Rattle.std.specs.Option.{option_map_or, option_or}
use Rattle.orc_path.specs.Alphabet.{is_identifier}
use Rattle.orc_value.specs.Canon.{same_text}
use Rattle.orc_yang.specs.declared.statement.Stmt.{Stmt}
use Rattle.orc_types.specs.Statements.{keyword, subs, argument, has}
use Rattle.orc_types.specs.BuiltIn.{built_in, is_left_out}
use Rattle.orc_types.specs.Paths.{is_reference}
use Rattle.orc_modules.specs.declared.word.Word.{Word}
use Rattle.orc_modules.specs.declared.word.Word.TheVariants.{Module, YangVersion, Namespace, Prefix, Import, Typedef, Grouping, Container, List as ListOf, Leaf, LeafList, Uses, TypeName, Default, Mandatory, Config, Key, MinElements, MaxElements, OrderedBy}
use Rattle.orc_modules.specs.Statements.{Place, defines, sub_text}
use Rattle.orc_modules.specs.Scopes.{Modules, Found, meaning, in_scope, module_around, is_own, imports_as}
use Rattle.orc_modules.specs.Children.{children, grouping, child_names, leaf_named}
use Rattle.orc_statements.specs.Gaps.{is_incomplete}
use Rattle.orc_statements.specs.declared.fault.SchemaFault.{SchemaFault}
use Rattle.orc_statements.specs.declared.fault.SchemaFault.TheVariants.{Unknown, Duplicate}
use Rattle.orc_statements.specs.Cuts.{words}

abbrev pub fault_if : Bool → SchemaFault → Option SchemaFault
fault_if true f = Some f
fault_if false f = None

abbrev pub contains_text : List (List ℕ) → List ℕ → Bool
contains_text texts text = list_any (λ t. same_text t text) texts

-- the statements around the innermost one
abbrev pub outer : List Stmt → List Stmt
outer [] = []
outer (s ∷ above) = above

-- Names that nothing has ---------------------------------------------------------------------------------------------

abbrev pub is_unknown_grouping : Modules → Place → Bool
is_unknown_grouping ms p = is_reference (argument p.here) && not (is_some (grouping ms.all p.above p.here))

-- the name is neither that of a built-in type nor that of a typedef
abbrev pub is_unknown_type : Modules → Place → Bool
is_unknown_type ms p = is_reference (argument p.here)
    && (not (is_some (built_in (argument p.here)))
    && not (is_some (meaning ms.all (codes "typedef") (argument p.here) p.above)))

-- the leaf of this name that the statement around has, also by its groupings
abbrev pub leaf_around : Modules → List Stmt → List ℕ → Option Found
leaf_around ms [] name = None
leaf_around ms (l ∷ above) name = leaf_named ms.most ms.all (l ∷ above) (subs l) name

abbrev pub is_unknown_key : Modules → List Stmt → List ℕ → Bool
is_unknown_key ms above name = is_identifier name && not (is_some (leaf_around ms above name))

-- each `uses` of the statement around, and of the groupings that it leads to, leads to a grouping, and none to itself
abbrev pub is_complete : Modules → List Stmt → Bool
is_complete ms [] = true
is_complete ms (l ∷ above) = not (is_incomplete ms.most ms.all (l ∷ above) l)

abbrev pub unknown_key : Modules → Place → Option (List ℕ)
unknown_key ms p = if is_complete ms p.above then find (is_unknown_key ms p.above) (words (argument p.here)) else None

abbrev pub unknown : Modules → Place → Word → Option SchemaFault
unknown ms p Uses = fault_if (is_unknown_grouping ms p) (Unknown (argument p.here))
unknown ms p TypeName = fault_if (is_unknown_type ms p) (Unknown (argument p.here))
unknown ms p Key = option_map Unknown (unknown_key ms p)
unknown ms p w = None

-- Names that are there already ---------------------------------------------------------------------------------------

-- statements of which a block has one at most
abbrev pub stands_once : Word → Bool
stands_once YangVersion = true
stands_once Namespace = true
stands_once Prefix = true
stands_once TypeName = true
stands_once Default = true
stands_once Mandatory = true
stands_once Config = true
stands_once Key = true
stands_once MinElements = true
stands_once MaxElements = true
stands_once OrderedBy = true
stands_once w = false

abbrev pub repeated : Place → Option SchemaFault
repeated p = fault_if (has (keyword p.here) p.before) (Duplicate (keyword p.here))

-- a definition of this keyword and name stands before in the block, or in a block around
abbrev pub is_defined : Place → Bool
is_defined p = list_any (defines (keyword p.here) (argument p.here)) p.before
    || is_some (in_scope (keyword p.here) (argument p.here) (outer p.above))

abbrev pub is_type_name_taken : Place → Bool
is_type_name_taken p = is_defined p || (is_some (built_in (argument p.here)) || is_left_out (argument p.here))

-- an import's prefix is neither the module's own nor that of an import before it
abbrev pub is_own_prefix : Place → List ℕ → Bool
is_own_prefix p prefix = option_map_or (is_own prefix) (module_around p.above) false

abbrev pub is_prefix_taken : Place → List ℕ → Bool
is_prefix_taken p prefix = is_own_prefix p prefix || list_any (imports_as prefix) p.before

-- a name that the statement gives to the block, and that the block has before it
abbrev pub names_before : Modules → Place → List (List ℕ)
names_before ms p = child_names (children ms.most ms.all p.above p.before)

abbrev pub repeated_node : Modules → Place → Option (List ℕ)
repeated_node ms p = find (contains_text (names_before ms p))
    (child_names (children ms.most ms.all p.above (p.here ∷ [])))

-- the first of the names that stands among those before it
abbrev pub repeated_among : List (List ℕ) → List (List ℕ) → Option (List ℕ)
repeated_among earlier [] = None
repeated_among earlier (name ∷ names) = if contains_text earlier name then Some name
    else repeated_among (earlier ++ name ∷ []) names

abbrev pub duplicate_key : Place → Option SchemaFault
duplicate_key p = option_or (repeated p) (option_map Duplicate (repeated_among [] (words (argument p.here))))

-- an import's prefix that is taken
abbrev pub duplicate_prefix : Place → Option SchemaFault
duplicate_prefix p = fault_if
    (has (codes "prefix") (subs p.here) && is_prefix_taken p (sub_text (codes "prefix") p.here))
    (Duplicate (sub_text (codes "prefix") p.here))

abbrev pub duplicate : Modules → Place → Word → Option SchemaFault
duplicate ms p Module = fault_if (list_any (defines (codes "module") (argument p.here)) p.before)
    (Duplicate (argument p.here))
duplicate ms p Import = duplicate_prefix p
duplicate ms p Typedef = fault_if (is_type_name_taken p) (Duplicate (argument p.here))
duplicate ms p Grouping = fault_if (is_defined p) (Duplicate (argument p.here))
duplicate ms p Container = option_map Duplicate (repeated_node ms p)
duplicate ms p ListOf = option_map Duplicate (repeated_node ms p)
duplicate ms p Leaf = option_map Duplicate (repeated_node ms p)
duplicate ms p LeafList = option_map Duplicate (repeated_node ms p)
duplicate ms p Uses = option_map Duplicate (repeated_node ms p)
duplicate ms p Key = duplicate_key p
duplicate ms p w = if stands_once w then repeated p else None
