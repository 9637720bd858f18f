-- What is kept beside the enums so far, so that no question goes through them.
use Rattle.std.specs.Prelude.{◌≡◌, ℕ, ℤ, pos, ◌+ℤ◌, Bool, true, cond, List, [], ◌∷◌, Option, Some, None, int_lt, option_map, if◌then◌else◌}
use Rattle.std.specs.List.{list_any, find}
use Rattle.std.specs.Ordering.{int_eq, nat_cmp}
use Rattle.std.specs.Cmp.Lexicographic.{slice_cmp}
use Rattle.std.specs.BTreeMap.{BTreeMap, get_by}
use denote.Ref.{Bor}
use Rattle.orc_types.specs.declared.types.EnumName.{EnumName}
use Rattle.orc_types.specs.Numbers.{only_if, is_int32}
use Rattle.orc_types.specs.Enums.{has_name, has_value, greatest}

-- the value that a map has under a name
abbrev pub by_name : BTreeMap (Bor (List ℕ)) ℤ → List ℕ → Option ℤ
by_name m name = get_by (λ k. slice_cmp nat_cmp name k.now) m

-- the value of the first enum of each name
abbrev pub HasFirsts : (List ℕ → Option ℤ) → List EnumName → Type 0
HasFirsts firsts es = (name : List ℕ) → firsts name ≡ option_map (λ e. e.value) (find (has_name name) es)

abbrev pub is_taken : List ℤ → ℤ → Bool
is_taken values z = list_any (int_eq z) values

-- the values now are those of before and this one
abbrev pub HasToo : List ℤ → ℤ → List ℤ → Type 0
HasToo before value now = (z : ℤ) → is_taken now z ≡ cond (int_eq value z) true (is_taken before z)

-- the values of the enums, however often each is there
abbrev pub HasValues : List ℤ → List EnumName → Type 0
HasValues values es = (z : ℤ) → is_taken values z ≡ list_any (has_value z) es

-- the greatest value, where there is an enum
abbrev pub greatest_of : List EnumName → Option ℤ
greatest_of [] = None
greatest_of (e ∷ es) = Some (greatest e.value es)

abbrev pub higher : Option ℤ → ℤ → Option ℤ
higher None value = Some value
higher (Some high) value = Some (if int_lt high value then value else high)

-- the value after the greatest, where it has 32 bits
abbrev pub one_behind : Option ℤ → ℤ
one_behind None = pos 0
one_behind (Some high) = high +ℤ pos 1

abbrev pub value_behind : Option ℤ → Option ℤ
value_behind high = only_if is_int32 (one_behind high)

-- what is kept beside these enums
pub record Knows (es : List EnumName) (names : List ℕ → Option ℤ) (values : List ℤ) (high : Option ℤ) : Type 0 where
  pub firsts : HasFirsts names es
  pub taken : HasValues values es
  pub top : high ≡ greatest_of es
