-- What this crate gives to the builder of a schema, who knows what the name of a `type` statement stands for, a
-- built-in type (`built_in`) or the type of a typedef, and asks what the whole statement makes of it.
--
--     built_in name            the built-in type of a name of RFC 7950, or none
--     is_left_out name         a built-in type of RFC 7950 that this profile does not have
--     type_of base statement   the type that the statement makes of its base, or its first fault
--     kind_of type             the type of orc_value whose values the leaf has; none for a leafref
--     default_of kind text     the canonical text of a default, or none where it is no value
--     is_leafref_path text     the form of a leafref's path; is_reference, that of a name with a prefix or none
--     is_idle keyword          a statement without effect, wherever it stands; argument, is_a, has and first_of of
--                              `Statements` read statements
--
-- `Base` is what a name stands for. `Known leaf_type` is a type that may be used as it is: each built-in type but
-- three, and the type of a typedef, which is what `type_of` gave for the `type` below it. `Decimal64`, `Enumeration`
-- and `Leafref` are the built-in types that have to say more. `LeafType` is the type of a leaf, with the values of an
-- enumeration's names, which a derived enumeration keeps, and with the path of a leafref as its text.
--
-- A fault is at the first faulty statement in the order of the text, the `type` statement first; at one statement the
-- variant of `TypeFault` that is listed first counts. What is not checked here: that the name is known, that only one
-- `type` stands below a leaf, and whether a leafref's path leads anywhere.
--
-- Each type has one statement that may restrict it, and no other may stand below `type`:
--
--     integer                  range                  parts as in `narrowed`
--     string                   length                 parts as in `narrowed_lengths`
--     enumeration              enum, any number       names and values as in `enums_of`; derived: a subset
--     decimal64                fraction-digits        1 to 18, required; derived: nothing
--     leafref                  path                   a form as in `is_leafref_path`, required; derived: nothing
--     boolean, empty           nothing
use Rattle.std.specs.Prelude.{ℕ, ◌≡◌, Bool, true, false, not, map, List, [], ◌∷◌, ◌++◌, Option, Some, None, Result, Ok, Err, codes, is_some, unwrap_or, option_map, if◌then◌else◌}
use Rattle.std.specs.Option.{option_or}
use Rattle.orc_value.specs.Canon.{same_text}
use Rattle.orc_value.specs.declared.kind.IntKind.{IntKind}
use Rattle.orc_value.specs.declared.kind.Kind.{Kind}
use Rattle.orc_value.specs.declared.kind.Kind.TheVariants as kind
use Rattle.orc_yang.specs.declared.statement.Stmt.{Stmt}
use Rattle.orc_types.specs.declared.types.EnumName.{EnumName}
use Rattle.orc_types.specs.declared.types.LeafType.{LeafType}
use Rattle.orc_types.specs.declared.types.LeafType.TheVariants.{Int, Decimal, Str, Bool as Boolean, Enum, Empty, Leafref as Reference}
use Rattle.orc_types.specs.declared.types.Base.{Base}
use Rattle.orc_types.specs.declared.types.Base.TheVariants.{Known, Decimal64, Enumeration, Leafref}
use Rattle.orc_types.specs.declared.fault.TypeFault.{TypeFault}
use Rattle.orc_types.specs.declared.fault.TypeFault.TheVariants.{Unsupported, Duplicate, BadArgument, Memory}
use Rattle.orc_types.specs.Numbers.{fraction_digits_of}
use Rattle.orc_types.specs.Ranges.{Range, narrowed, narrowed_lengths}
use Rattle.orc_types.specs.Statements.{keyword, subs, argument, has, first_of, is_idle, none_below}
use Rattle.orc_types.specs.Enums.{enums_of, enum_fault}
use Rattle.orc_types.specs.Paths.{is_leafref_path}

-- the statement that may restrict a type
abbrev pub restriction_of : LeafType → Option (List ℕ)
restriction_of (Int kind) = Some (codes "range")
restriction_of (Decimal digits) = None
restriction_of (Str lengths) = Some (codes "length")
restriction_of Boolean = None
restriction_of (Enum names) = Some (codes "enum")
restriction_of Empty = None
restriction_of (Reference path) = None

abbrev pub restriction : Base → Option (List ℕ)
restriction (Known leaf_type) = restriction_of leaf_type
restriction Decimal64 = Some (codes "fraction-digits")
restriction Enumeration = Some (codes "enum")
restriction Leafref = Some (codes "path")

abbrev pub may_stand : List ℕ → Option (List ℕ) → Bool
may_stand word None = false
may_stand word (Some allowed) = same_text word allowed

-- the statement that a built-in type needs
abbrev pub wanted : Base → Option (List ℕ)
wanted (Known leaf_type) = None
wanted base = restriction base

-- the names of an enumeration that may be restricted
abbrev pub enumerated_in : LeafType → Option (List EnumName)
enumerated_in (Enum names) = Some names
enumerated_in _ = None

abbrev pub enumerated : Base → Option (List EnumName)
enumerated (Known leaf_type) = enumerated_in leaf_type
enumerated _ = None

-- the argument of a restriction has its form
abbrev pub restricts : LeafType → List ℕ → Bool
restricts (Int kind) text = is_some (narrowed kind.ranges text)
restricts (Str lengths) text = is_some (narrowed_lengths lengths text)
restricts _ text = true

abbrev pub argument_fits : Base → List ℕ → Bool
argument_fits (Known leaf_type) text = restricts leaf_type text
argument_fits Decimal64 text = is_some (fraction_digits_of text)
argument_fits Enumeration text = true
argument_fits Leafref text = is_leafref_path text

-- what is at fault at the one restriction of a type and below it, after other statements
abbrev pub restriction_fault : Base → List Stmt → Stmt → Option TypeFault
restriction_fault base before statement = if has (keyword statement) before then Some (Duplicate (keyword statement))
    else (if argument_fits base (argument statement) then none_below statement
    else Some (BadArgument (keyword statement)))

-- what is at fault at a statement below `type` and below that one, after others
abbrev pub fault_at : Base → List Stmt → Stmt → Option TypeFault
fault_at base before statement = if is_idle (keyword statement) then None
    else (if not (may_stand (keyword statement) (restriction base)) then Some (Unsupported (keyword statement))
    else (if same_text (keyword statement) (codes "enum")
    then enum_fault (enumerated base) (enums_of (enumerated base) before) statement
    else restriction_fault base before statement))

-- the first fault below `type`
abbrev pub first_fault : Base → List Stmt → List Stmt → Option TypeFault
first_fault base before [] = None
first_fault base before (statement ∷ later) =
    option_or (fault_at base before statement) (first_fault base (before ++ statement ∷ []) later)

-- what is at fault at `type` itself: it lacks what its base needs
abbrev pub lacks : Option (List ℕ) → List Stmt → Bool
lacks None statements = false
lacks (Some word) statements = not (has word statements)

abbrev pub own_fault : Base → Stmt → Option TypeFault
own_fault base statement = if lacks (wanted base) (subs statement) then Some (BadArgument (keyword statement)) else None

abbrev pub type_fault : Base → Stmt → Option TypeFault
type_fault base statement = option_or (own_fault base statement) (first_fault base [] (subs statement))

-- the argument of the statement with this keyword, where there is one
abbrev pub argument_given : List ℕ → List Stmt → Option (List ℕ)
argument_given word statements = option_map argument (first_of word statements)

-- What statements without a fault make of a type. A default of `unwrap_or` stands where there is a fault.
abbrev pub ranges_left : List Range → Option (List ℕ) → List Range
ranges_left base None = base
ranges_left base (Some text) = unwrap_or (narrowed base text) base

abbrev pub lengths_left : List (ℕ × ℕ) → Option (List ℕ) → List (ℕ × ℕ)
lengths_left base None = base
lengths_left base (Some text) = unwrap_or (narrowed_lengths base text) base

abbrev pub ranged : IntKind → List Range → IntKind
ranged kind ranges = record { ranges = ranges; quoted = kind.quoted }

-- a derived enumeration without `enum` keeps all names
abbrev pub names_left : List EnumName → List EnumName → List Stmt → List EnumName
names_left base enums statements = if has (codes "enum") statements then enums else base

abbrev pub restricted : LeafType → List EnumName → List Stmt → LeafType
restricted (Int kind) enums statements =
    Int (ranged kind (ranges_left kind.ranges (argument_given (codes "range") statements)))
restricted (Str lengths) enums statements = Str (lengths_left lengths (argument_given (codes "length") statements))
restricted (Enum names) enums statements = Enum (names_left names enums statements)
restricted (Decimal digits) enums statements = Decimal digits
restricted Boolean enums statements = Boolean
restricted Empty enums statements = Empty
restricted (Reference path) enums statements = Reference path

abbrev pub digits_given : Option (List ℕ) → ℕ
digits_given None = 0
digits_given (Some text) = unwrap_or (fraction_digits_of text) 0

abbrev pub made : Base → List EnumName → List Stmt → LeafType
made (Known leaf_type) enums statements = restricted leaf_type enums statements
made Decimal64 enums statements = Decimal (digits_given (argument_given (codes "fraction-digits") statements))
made Enumeration enums statements = Enum enums
made Leafref enums statements = Reference (unwrap_or (argument_given (codes "path") statements) [])

abbrev pub fault_or : Option TypeFault → LeafType → Result LeafType TypeFault
fault_or None leaf_type = Ok leaf_type
fault_or (Some fault) leaf_type = Err fault

-- the type that a `type` statement makes of its base, or its first fault
unfoldable pub type_of : Base → Stmt → Result LeafType TypeFault
type_of base statement = fault_or (type_fault base statement)
    (made base (enums_of (enumerated base) (subs statement)) (subs statement))

-- that type or that fault; or memory runs out
abbrev pub GivesType : Result LeafType TypeFault → Result LeafType TypeFault → Type 0
GivesType verdict (Ok leaf_type) = verdict ≡ Ok leaf_type
GivesType verdict (Err Memory) = Unit {0}
GivesType verdict (Err fault) = verdict ≡ Err fault

-- the type of a leaf's values, where it is known without another leaf
abbrev pub kind_of : LeafType → Option Kind
kind_of (Int int_kind) = Some (kind.Int int_kind)
kind_of (Decimal digits) = Some (kind.Decimal digits)
kind_of (Str lengths) = Some (kind.Str lengths)
kind_of Boolean = Some kind.Bool
kind_of (Enum names) = Some (kind.Enum (map (λ enum. enum.name) names))
kind_of Empty = Some kind.Empty
kind_of (Reference path) = None
