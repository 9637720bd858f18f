-- Names from the top down to a node: their order, and when they are the same.
use Rattle.std.specs.Prelude.{ℕ, Bool, List}
use Rattle.std.specs.Cmp.Lexicographic.{pointwise, slice_cmp}
use Rattle.std.specs.Ordering.{nat_cmp}
use Rattle.std.specs.declared.cmp.Ordering.{Ordering}
use Rattle.orc_value.specs.Canon.{same_text}

-- The order of names: one by one, by their bytes.
abbrev pub names_cmp : List (List ℕ) → List (List ℕ) → Ordering
names_cmp = slice_cmp (slice_cmp nat_cmp)

-- The same names: as many, and each the same text as the one beside it.
abbrev pub same_names : List (List ℕ) → List (List ℕ) → Bool
same_names = pointwise same_text
