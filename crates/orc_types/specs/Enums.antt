-- The names and values of an enumeration: RFC 7950 section 9.6.
use Rattle.std.specs.Prelude.{ℕ, ◌==◌, ℤ, pos, ◌+ℤ◌, Bool, true, false, ◌&&◌, ◌||◌, not, List, [], ◌∷◌, ◌++◌, length, Option, Some, None, codes, int_lt, is_some, unwrap_or, option_map, if◌then◌else◌}
use Rattle.std.specs.Option.{option_map_or, option_or}
use Rattle.std.specs.List.{list_any, find, fold}
use Rattle.std.specs.Ordering.{int_eq}
use Rattle.orc_value.specs.Canon.{same_text}
use Rattle.orc_yang.specs.declared.statement.Stmt.{Stmt}
use Rattle.orc_types.specs.declared.types.EnumName.{EnumName}
use Rattle.orc_types.specs.declared.fault.TypeFault.{TypeFault}
use Rattle.orc_types.specs.declared.fault.TypeFault.TheVariants.{Unsupported, Unknown, Duplicate, BadArgument}
use Rattle.orc_types.specs.Numbers.{only_if, is_int32, int32_of}
use Rattle.orc_types.specs.Ranges.{is_trimmed}
use Rattle.orc_types.specs.Statements.{keyword, subs, argument, is_a, has, first_of, is_idle, none_below}

-- not empty, and without white space at an end
abbrev pub is_enum_name : List ℕ → Bool
is_enum_name text = not (length text == 0) && is_trimmed text

abbrev pub has_name : List ℕ → EnumName → Bool
has_name name enum = same_text enum.name name

abbrev pub has_value : ℤ → EnumName → Bool
has_value value enum = int_eq enum.value value

-- the greatest of a value and those of the enums
abbrev pub greatest : ℤ → List EnumName → ℤ
greatest value [] = value
greatest value (enum ∷ enums) = greatest (if int_lt value enum.value then enum.value else value) enums

-- one more than the greatest value before, and 0 where there is none
abbrev pub next_value : List EnumName → ℤ
next_value [] = pos 0
next_value (enum ∷ enums) = greatest enum.value enums +ℤ pos 1

-- The value of an enum without `value`, after these: a derived enumeration, whose base has the names `base`, keeps the
-- base's value; in another one it is the next.
abbrev pub own_value : Option (List EnumName) → List EnumName → List ℕ → Option ℤ
own_value None before name = only_if is_int32 (next_value before)
own_value (Some base) before name = option_map (λ enum. enum.value) (find (has_name name) base)

-- the number of a `value` that has no fault
abbrev pub given_value : Stmt → ℤ
given_value statement = unwrap_or (int32_of (argument statement)) (pos 0)

-- the value of an enum after these
abbrev pub enum_value : Option (List EnumName) → List EnumName → Stmt → ℤ
enum_value base before statement = option_map_or given_value (first_of (codes "value") (subs statement))
    (unwrap_or (own_value base before (argument statement)) (pos 0))

-- an enum after these
abbrev pub add_enum : Option (List EnumName) → List EnumName → Stmt → List EnumName
add_enum base before statement = if is_a (codes "enum") statement
    then before ++ record { name = argument statement; value = enum_value base before statement } ∷ [] else before

-- the enums of a block, in the order of the text
abbrev pub enums_of : Option (List EnumName) → List Stmt → List EnumName
enums_of base statements = fold (add_enum base) [] statements

-- a derived enumeration has no names but its base's
abbrev pub is_new : Option (List EnumName) → List ℕ → Bool
is_new None name = false
is_new (Some base) name = not (list_any (has_name name) base)

-- a value is given, or one is left
abbrev pub is_valued : Option (List EnumName) → List EnumName → Stmt → Bool
is_valued base before statement =
    has (codes "value") (subs statement) || is_some (own_value base before (argument statement))

-- what is at fault at an `enum` after these: a new name in a derived enumeration, a name twice, a name out of form, or
-- no value that is left for it
abbrev pub name_fault : Option (List EnumName) → List EnumName → Stmt → Option TypeFault
name_fault base before statement = if is_new base (argument statement) then Some (Unknown (argument statement))
    else (if list_any (has_name (argument statement)) before then Some (Duplicate (argument statement))
    else (if is_enum_name (argument statement) && is_valued base before statement then None
    else Some (BadArgument (keyword statement))))

-- a derived enumeration gives no other value to a name
abbrev pub keeps : Option (List EnumName) → List ℕ → ℤ → Bool
keeps None name value = true
keeps (Some base) name value = list_any (λ enum. has_name name enum && has_value value enum) base

-- what is at fault at the number of a `value`: a value twice, or another one than the base's
abbrev pub number_fault : Option (List EnumName) → List EnumName → List ℕ → Stmt → Option ℤ → Option TypeFault
number_fault base before name statement None = Some (BadArgument (keyword statement))
number_fault base before name statement (Some number) = if list_any (has_value number) before
    then Some (Duplicate (argument statement))
    else (if keeps base name number then None else Some (BadArgument (keyword statement)))

-- what is at fault at a statement below an `enum`, after others: only one `value` may stand there
abbrev pub value_fault : Option (List EnumName) → List EnumName → List ℕ → List Stmt → Stmt → Option TypeFault
value_fault base before name earlier statement = if is_idle (keyword statement) then None
    else (if not (is_a (codes "value") statement) then Some (Unsupported (keyword statement))
    else (if has (codes "value") earlier then Some (Duplicate (keyword statement))
    else option_or (number_fault base before name statement (int32_of (argument statement))) (none_below statement)))

-- the first fault below an `enum`
abbrev pub values_fault : Option (List EnumName) → List EnumName → List ℕ → List Stmt → List Stmt → Option TypeFault
values_fault base before name earlier [] = None
values_fault base before name earlier (statement ∷ later) = option_or (value_fault base before name earlier statement)
    (values_fault base before name (earlier ++ statement ∷ []) later)

-- the first fault at an `enum` and below it
abbrev pub enum_fault : Option (List EnumName) → List EnumName → Stmt → Option TypeFault
enum_fault base before statement = option_or (name_fault base before statement)
    (values_fault base before (argument statement) [] (subs statement))
