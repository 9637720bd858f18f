-- A path's place among rows in path order, each a path with a value, for tables in the crates above too.
use Rattle.std.specs.Prelude.{◌≡◌, ℕ, ◌<◌, ◌≤◌, List, length}
use Rattle.std.specs.List.{AllWithin, HoldsAt}
use Rattle.std.specs.declared.cmp.Ordering.TheVariants.{Less, Greater}
use Rattle.orc_path.specs.Steps.{PathStep}
use Rattle.orc_path.specs.Order.{path_cmp}

-- the row there is the path's
pub record IsRowOf {V : Type 0} (path : List PathStep) (rows : List (List PathStep × V)) (at : ℕ) : Type 0 where
  pub within : at < length rows
  pub here : HoldsAt (λ row. row.0 ≡ path) rows at

-- the rows up to there come before the path, and those from there on after it
pub record IsPlaceOf {V : Type 0} (path : List PathStep) (rows : List (List PathStep × V)) (at : ℕ) : Type 0 where
  pub within : at ≤ length rows
  pub before : AllWithin (λ row. path_cmp path row.0 ≡ Greater) rows 0 at
  pub behind : AllWithin (λ row. path_cmp path row.0 ≡ Less) rows at (length rows)
