-- Names in the order in which they came, and the number of each.
use Rattle.std.specs.Prelude.{◌≡◌, ℕ, List}
use Rattle.std.specs.List.{IsDistinct}
use Rattle.std.specs.Ordering.{nat_cmp}
use Rattle.std.specs.Cmp.Lexicographic.{slice_cmp}
use Rattle.std.specs.BTreeMap.{BTreeMap, get}
use Rattle.orc_decls.specs.Devices.{is_same_text}
use Rattle.orc_lines.specs.Names.{place_of}

-- under each name the map has its number, and no two of the names are equal
pub record HasPlaces (places : BTreeMap (List ℕ) ℕ) (names : List (List ℕ)) : Type 0 where
  pub place : (name : List ℕ) → get (slice_cmp nat_cmp) places name ≡ place_of names name
  pub distinct : IsDistinct is_same_text names
