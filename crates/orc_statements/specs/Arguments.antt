-- Arguments that are not of their statement's form, and statements that lack one they need: RFC 7950 sections 7 and 14.
use Rattle.std.specs.Prelude.{ℕ, ◌-◌, Bool, true, false, ◌&&◌, ◌||◌, not, ℤ, List, [], ◌∷◌, length, nat_lt, Option, Some, None, codes, is_some, option_and_then, unsigned_abs, if◌then◌else◌}
use Rattle.std.specs.List.{list_any, list_all, slice_index}
use Rattle.std.specs.Option.{option_map_or}
use Rattle.orc_path.specs.Alphabet.{is_identifier}
use Rattle.orc_value.specs.Canon.{same_text}
use Rattle.orc_value.specs.Integers.{int_value}
use Rattle.orc_yang.specs.declared.statement.Stmt.{Stmt}
use Rattle.orc_types.specs.declared.types.LeafType.{LeafType}
use Rattle.orc_types.specs.declared.types.LeafType.TheVariants.{Empty}
use Rattle.orc_types.specs.Statements.{keyword, subs, argument, is_a, has}
use Rattle.orc_types.specs.Numbers.{is_count}
use Rattle.orc_types.specs.Ranges.{is_length}
use Rattle.orc_types.specs.Paths.{is_reference}
use Rattle.orc_modules.specs.declared.word.Word.{Word}
use Rattle.orc_modules.specs.declared.word.Word.TheVariants.{Module, YangVersion, Namespace, Prefix, Import, Typedef, Grouping, Container, List as ListOf, Leaf, LeafList, Uses, TypeName, Default, Mandatory, Config, Key, MinElements, MaxElements, OrderedBy}
use Rattle.orc_modules.specs.Statements.{Place, has_argument, sub_text}
use Rattle.orc_modules.specs.Scopes.{Modules, Found}
use Rattle.orc_modules.specs.Bases.{type_in, takes_type}
use Rattle.orc_modules.specs.declared.meant.Typed.{Typed}
use Rattle.orc_statements.specs.declared.fault.SchemaFault.{SchemaFault}
use Rattle.orc_statements.specs.declared.fault.SchemaFault.TheVariants.{BadArgument}
use Rattle.orc_statements.specs.declared.cuts.Mark.TheVariants.{White}
use Rattle.orc_statements.specs.Cuts.{is_mark, words}
use Rattle.orc_statements.specs.Names.{fault_if, contains_text, leaf_around}

-- the type of the leaf, leaf-list or typedef s below these; none where that type is at fault itself
abbrev pub typed : Modules → List Stmt → Stmt → Option Typed
typed ms above s = type_in ms.most ms.all above s

abbrev pub typed_around : Modules → List Stmt → Option Typed
typed_around ms [] = None
typed_around ms (s ∷ above) = typed ms above s

-- a number of entries: an unsigned integer of 64 bits, without a leading zero
abbrev pub as_count : ℤ → Option ℕ
as_count z = if is_length z then Some (unsigned_abs z) else None

abbrev pub count_of : List ℕ → Option ℕ
count_of text = if is_count text then option_and_then as_count (int_value text) else None

abbrev pub is_unbounded : List ℕ → Bool
is_unbounded text = same_text text (codes "unbounded")

abbrev pub is_greatest : List ℕ → Bool
is_greatest text = is_unbounded text || option_map_or (λ n. nat_lt 0 n) (count_of text) false

abbrev pub is_flag : List ℕ → Bool
is_flag text = same_text text (codes "true") || same_text text (codes "false")

abbrev pub is_version : List ℕ → Bool
is_version text = same_text text (codes "1") || same_text text (codes "1.1")

abbrev pub is_mandatory : Stmt → Bool
is_mandatory s = same_text (sub_text (codes "mandatory") s) (codes "true")

-- the keys of a list
abbrev pub keys_of : Stmt → List (List ℕ)
keys_of l = words (sub_text (codes "key") l)

-- the statement around these is a list that names this leaf as a key
abbrev pub is_key_of : List Stmt → List ℕ → Bool
is_key_of [] name = false
is_key_of (l ∷ above) name = contains_text (keys_of l) name

abbrev pub is_key_leaf : List Stmt → Stmt → Bool
is_key_leaf above s = is_a (codes "leaf") s && is_key_of above (argument s)

-- the text is a value of the type; a type that is at fault itself takes any
abbrev pub takes : Option Typed → List ℕ → Bool
takes None text = true
takes (Some t) text = takes_type t.of_type text

-- a `default` below a leaf or a typedef: a value, and none of a mandatory leaf; that of a key has no effect
abbrev pub is_default_well : Modules → List Stmt → Stmt → Bool
is_default_well ms [] d = true
is_default_well ms (s ∷ above) d = is_key_leaf above s
    || (not (is_mandatory s) && takes (typed ms above s) (argument d))

-- the default of the typedefs is a value of the leaf's type, where it counts
abbrev pub fits_inherited : Option Typed → Bool
fits_inherited None = true
fits_inherited (Some t) = option_map_or (takes_type t.of_type) t.default true

abbrev pub inherits_well : Modules → Place → Bool
inherits_well ms p = has (codes "default") (subs p.here) || (is_mandatory p.here
    || (is_key_of p.above (argument p.here) || fits_inherited (typed ms p.above p.here)))

-- a key whose leaf has the type empty
abbrev pub is_empty_type : LeafType → Bool
is_empty_type Empty = true
is_empty_type _ = false

abbrev pub is_empty_typed : Option Typed → Bool
is_empty_typed None = false
is_empty_typed (Some t) = is_empty_type t.of_type

abbrev pub is_empty_leaf : Modules → Option Found → Bool
is_empty_leaf ms None = false
is_empty_leaf ms (Some leaf) = is_empty_typed (typed ms leaf.above leaf.here)

abbrev pub has_empty_key : Modules → Place → Bool
has_empty_key ms p = list_any (λ name. is_empty_leaf ms (leaf_around ms p.above name)) (words (argument p.here))

-- one identifier at least
abbrev pub are_identifiers : List (List ℕ) → Bool
are_identifiers names = nat_lt 0 (length names) && list_all is_identifier names

-- white space stands between the names alone
abbrev pub has_white_ends : List ℕ → Bool
has_white_ends text = is_mark White (slice_index text 0) || is_mark White (slice_index text (length text - 1))

abbrev pub is_module_well : Stmt → Bool
is_module_well m = is_identifier (argument m) && (has (codes "namespace") (subs m) && has (codes "prefix") (subs m))

abbrev pub is_typed_well : Stmt → Bool
is_typed_well s = is_identifier (argument s) && has (codes "type") (subs s)

-- the argument of a statement that looks at no other one
abbrev pub argument_has_form : Stmt → Word → Bool
argument_has_form s YangVersion = is_version (argument s)
argument_has_form s Namespace = has_argument s
argument_has_form s Prefix = is_identifier (argument s)
argument_has_form s Grouping = is_identifier (argument s)
argument_has_form s Container = is_identifier (argument s)
argument_has_form s ListOf = is_identifier (argument s)
argument_has_form s Uses = is_reference (argument s)
argument_has_form s TypeName = is_reference (argument s)
argument_has_form s Mandatory = is_flag (argument s)
argument_has_form s Config = is_flag (argument s)
argument_has_form s MinElements = is_some (count_of (argument s))
argument_has_form s MaxElements = is_greatest (argument s)
argument_has_form s OrderedBy = same_text (argument s) (codes "system")
argument_has_form s w = true

-- the statement has what it needs
abbrev pub is_well : Modules → Place → Word → Bool
is_well ms p Module = is_module_well p.here
is_well ms p Import = is_identifier (argument p.here) && has (codes "prefix") (subs p.here)
is_well ms p Typedef = is_typed_well p.here
is_well ms p Leaf = is_typed_well p.here && inherits_well ms p
is_well ms p LeafList = is_typed_well p.here
is_well ms p Default = has_argument p.here && is_default_well ms p.above p.here
is_well ms p Key = are_identifiers (words (argument p.here))
    && (not (has_white_ends (argument p.here)) && not (has_empty_key ms p))
is_well ms p w = argument_has_form p.here w

abbrev pub bad_argument : Modules → Place → Word → Option SchemaFault
bad_argument ms p w = fault_if (not (is_well ms p w)) (BadArgument (keyword p.here))
