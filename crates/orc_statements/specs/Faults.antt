-- What is at fault at one statement where it stands, and which fault of the modules counts.
use Rattle.std.specs.Prelude.{Bool, true, false, ◌&&◌, ◌||◌, not, List, [], ◌∷◌, ◌++◌, Option, Some, None, codes, option_map, if◌then◌else◌}
use Rattle.std.specs.List.{find}
use Rattle.std.specs.Option.{option_or}
use Rattle.orc_yang.specs.declared.statement.Stmt.{Stmt}
use Rattle.orc_types.specs.declared.types.LeafType.{LeafType}
use Rattle.orc_types.specs.declared.types.LeafType.TheVariants.{Leafref as AsLeafref}
use Rattle.orc_types.specs.declared.types.Base.{Base}
use Rattle.orc_types.specs.declared.types.Base.TheVariants.{Leafref}
use Rattle.orc_types.specs.declared.fault.TypeFault.{TypeFault}
use Rattle.orc_types.specs.declared.fault.TypeFault.TheVariants as of_type
use Rattle.orc_types.specs.Statements.{keyword, subs, argument, is_a, has, is_idle, none_below}
use Rattle.orc_types.specs.Paths.{is_leafref_path}
use Rattle.orc_types.specs.Types.{own_fault, fault_at, type_fault}
use Rattle.orc_modules.specs.declared.word.Word.{Word}
use Rattle.orc_modules.specs.declared.word.Word.TheVariants.{List as ListOf, Uses, TypeName, Default}
use Rattle.orc_modules.specs.Statements.{word, Place, module_places}
use Rattle.orc_modules.specs.Scopes.{Modules, the_modules, module_around}
use Rattle.orc_modules.specs.Bases.{base_of}
use Rattle.orc_modules.specs.declared.meant.Typed.{Typed}
use Rattle.orc_modules.specs.declared.meant.Named.{Named}
use Rattle.orc_modules.specs.declared.meant.Named.TheVariants.{Means, Endless, Unclear}
use Rattle.orc_modules.specs.Loops.{is_type_loop, is_uses_loop}
use Rattle.orc_statements.specs.declared.fault.SchemaFault.{SchemaFault}
use Rattle.orc_statements.specs.declared.fault.SchemaFault.TheVariants.{Unsupported, Unknown, Duplicate, BadArgument, NoKey, Loop, Memory}
use Rattle.orc_statements.specs.declared.cuts.Mark.TheVariants.{Slash}
use Rattle.orc_statements.specs.Cuts.{parts}
use Rattle.orc_statements.specs.References.{is_strange, reference_names}
use Rattle.orc_statements.specs.Placement.{stands_below}
use Rattle.orc_statements.specs.Names.{fault_if, unknown, duplicate}
use Rattle.orc_statements.specs.Arguments.{typed_around, bad_argument}

abbrev pub innermost : List Stmt → Option Stmt
innermost [] = None
innermost (s ∷ above) = Some s

abbrev pub is_leafref_type : LeafType → Bool
is_leafref_type (AsLeafref path) = true
is_leafref_type _ = false

-- 1: a statement that may not stand where it stands; a leafref has no default
abbrev pub is_leafref : Option Typed → Bool
is_leafref None = false
is_leafref (Some t) = is_leafref_type t.of_type

abbrev pub has_no_default : Modules → Place → Word → Bool
has_no_default ms p Default = is_leafref (typed_around ms p.above)
has_no_default ms p w = false

abbrev pub unsupported : Modules → Place → Word → Option SchemaFault
unsupported ms p w = fault_if (not (stands_below (innermost p.above) w) || has_no_default ms p w)
    (Unsupported (keyword p.here))

-- 2 and 3 stand in `Names`, 4 in `Arguments`

-- 5: a list without a key
abbrev pub no_key : Place → Word → Option SchemaFault
no_key p ListOf = fault_if (not (has (codes "key") (subs p.here))) (NoKey (argument p.here))
no_key p w = None

-- 6: the name of a `type` or of a `uses` that leads to the very typedef or grouping that it stands in
abbrev pub loops : Modules → Place → Word → Option SchemaFault
loops ms p Uses = fault_if (is_uses_loop ms p.above p.here) (Loop (argument p.here))
loops ms p TypeName = fault_if (is_type_loop ms p.above p.here) (Loop (argument p.here))
loops ms p w = None

-- the fault at a statement: the lowest number
abbrev pub own_fault_here : Modules → Place → Word → Option SchemaFault
own_fault_here ms p w = option_or (unsupported ms p w) (option_or (unknown ms p w) (option_or (duplicate ms p w)
    (option_or (bad_argument ms p w) (option_or (no_key p w) (loops ms p w)))))

-- What stands below `type` --------------------------------------------------------------------------------------------

abbrev pub of_type_fault : TypeFault → SchemaFault
of_type_fault (of_type.Unsupported keyword) = Unsupported keyword
of_type_fault (of_type.Unknown name) = Unknown name
of_type_fault (of_type.Duplicate name) = Duplicate name
of_type_fault (of_type.BadArgument keyword) = BadArgument keyword
of_type_fault of_type.Memory = Memory

-- a leafref's path with a prefix that no module has, where it stands
abbrev pub strange_prefix : Modules → List Stmt → Stmt → Option SchemaFault
strange_prefix ms above s = if is_a (codes "path") s && is_leafref_path (argument s)
    then option_map Unknown
    (find (is_strange ms.all (module_around above)) (reference_names (parts Slash (argument s))))
    else None

-- the first fault below `type leafref`, after these statements
abbrev pub leafref_fault_at : Modules → List Stmt → List Stmt → Stmt → Option SchemaFault
leafref_fault_at ms above before s = option_or (strange_prefix ms above s)
    (option_map of_type_fault (fault_at Leafref before s))

abbrev pub leafref_fault : Modules → List Stmt → List Stmt → List Stmt → Option SchemaFault
leafref_fault ms above before [] = None
leafref_fault ms above before (s ∷ ss) = option_or (leafref_fault_at ms above before s)
    (leafref_fault ms above (before ++ s ∷ []) ss)

-- what is at fault below an `enum`, whatever its type is: only `value` may stand there
abbrev pub below_enum : Stmt → Option SchemaFault
below_enum v = if is_idle (keyword v) then None
    else (if is_a (codes "value") v then option_map of_type_fault (none_below v) else Some (Unsupported (keyword v)))

abbrev pub first_below_enum : List Stmt → Option SchemaFault
first_below_enum [] = None
first_below_enum (v ∷ vs) = option_or (below_enum v) (first_below_enum vs)

-- what is at fault below a `type` whose typedef is at fault itself, or leads to one that is: any typedef may be
-- restricted by `range`, `length` and `enum` alone
abbrev pub unclear_at : Stmt → Option SchemaFault
unclear_at s = if is_idle (keyword s) then None
    else (if is_a (codes "range") s || is_a (codes "length") s then option_map of_type_fault (none_below s)
    else (if is_a (codes "enum") s then first_below_enum (subs s) else Some (Unsupported (keyword s))))

abbrev pub unclear_fault : List Stmt → Option SchemaFault
unclear_fault [] = None
unclear_fault (s ∷ ss) = option_or (unclear_at s) (unclear_fault ss)

-- the first fault of a `type` and below it, whose name stands for this base
abbrev pub base_fault : Modules → List Stmt → Stmt → Base → Option SchemaFault
base_fault ms above t Leafref = option_or (option_map of_type_fault (own_fault Leafref t))
    (leafref_fault ms above [] (subs t))
base_fault ms above t base = option_map of_type_fault (type_fault base t)

abbrev pub named_fault : Modules → List Stmt → Stmt → Named → Option SchemaFault
named_fault ms above t (Means m) = base_fault ms above t m.base
named_fault ms above t Endless = unclear_fault (subs t)
named_fault ms above t Unclear = unclear_fault (subs t)

abbrev pub type_fault_here : Modules → Place → Word → Option SchemaFault
type_fault_here ms p TypeName = named_fault ms p.above p.here (base_of ms.most ms.all p.above p.here)
type_fault_here ms p w = None

-- The first fault of the modules --------------------------------------------------------------------------------------

-- the fault at a statement, and below it where it is a `type`
abbrev pub fault_here : Modules → Place → Option SchemaFault
fault_here ms p = option_or (own_fault_here ms p (word p.here)) (type_fault_here ms p (word p.here))

abbrev pub first_some : {X Y : Type 0} → (X → Option Y) → List X → Option Y
first_some f [] = None
first_some f (x ∷ xs) = option_or (f x) (first_some f xs)

abbrev pub module_fault : List Stmt → Option SchemaFault
module_fault all = first_some (fault_here (the_modules all)) (module_places [] all)
