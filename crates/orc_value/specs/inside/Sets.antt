-- A set of texts beside the list of them.
use Rattle.std.specs.Prelude.{◌≡◌, ℕ, List, String, nat_eq}
use Rattle.std.specs.List.{list_any}
use Rattle.std.specs.BTreeSet.{BTreeSet, contains_text}
use Rattle.std.specs.Cmp.Lexicographic.{pointwise}

-- the set has just the texts of the list
pub record HasAll {Y : Type 0} (set : BTreeSet (String Y)) (names : List (List ℕ)) : Type 0 where
  pub has : (text : List ℕ) → contains_text set text ≡ list_any (pointwise nat_eq text) names
