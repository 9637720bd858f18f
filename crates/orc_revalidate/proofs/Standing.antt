-- What stands at steps, and the rows and places of a path's first steps.
use Rattle.std.proofs.Common.{◌≡◌, ℕ, zero, suc, true, false, ◌&&◌, ◌||◌, List, [], ◌∷◌, ◌++◌, take, Some, None, refl, sym, ap, subst, is_some}
use Rattle.std.specs.declared.option.Option.{Option}
use Rattle.std.specs.Prelude.{is_none, option_map, if◌then◌else◌}
use Rattle.std.specs.Option.{option_map_or}
use Rattle.std.specs.List.{fold}
use Rattle.std.specs.FinMap.{get}
use Rattle.std.proofs.lemmas.Bool.{false≢true}
use Rattle.std.proofs.lemmas.List.Sums.{fold-append}
use Rattle.std.proofs.lemmas.Option.{same_Some}
use Rattle.orc_path.specs.Steps.{ends_in_keys}
use Rattle.orc_path.specs.Configurations.{Config}
use Rattle.orc_path.specs.declared.item.Item.{Item}
use Rattle.orc_schema_nodes.specs.Schemas.{SchemaTable}
use Rattle.orc_schema_nodes.specs.declared.line.SchemaLine.{SchemaLine}
use Rattle.orc_check.specs.Validity.{Breach, is_place, line_breaches, lesser_breach}
use Rattle.orc_revalidate.specs.inside.Inside.{row_of, front_rows}
use Rattle.orc_revalidate.specs.inside.Looked.{standing_breaches, front_breaches}
use Rattle.orc_revalidate.specs.inside.Led.{is_cut_off}
use Rattle.orc_revalidate.proofs.Rowed.{Path, Row}

abbrev pub none_at : Option Row
none_at = None

abbrev pub no_rows : List Row
no_rows = []

abbrev pub no_breaches : List Breach
no_breaches = []

-- ---- items

pub is_there : (path : Path) (o : Option Item) (row : Row) → Some row ≡ option_map (λ (x : Item). (path, x)) o → false ≡ is_none o
is_there path None row e = absurd (false≢true (sym (ap is_some e)))
is_there path (Some x) row e = refl

pub is_nowhere : (path : Path) (o : Option Item) → none_at ≡ option_map (λ (x : Item). (path, x)) o → true ≡ is_none o
is_nowhere path None e = refl
is_nowhere path (Some x) e = absurd (false≢true (ap is_some e))

-- ---- rows

row_there_of : (path : Path) (o : Option Item) (row : Row) → Some row ≡ option_map (λ (x : Item). (path, x)) o
    → row ∷ [] ≡ option_map_or (λ (x : Item). (path, x) ∷ []) o []
row_there_of path None row e = absurd (false≢true (sym (ap is_some e)))
row_there_of path (Some x) row e = ap (λ (r : Row). r ∷ []) (same_Some row (path, x) e)

no_row_of : (path : Path) (o : Option Item) → none_at ≡ option_map (λ (x : Item). (path, x)) o → no_rows ≡ option_map_or (λ (x : Item). (path, x) ∷ []) o []
no_row_of path None e = refl
no_row_of path (Some x) e = absurd (false≢true (ap is_some e))

module _ (c : Config) (path : Path) where
  pub row_there : (row : Row) → Some row ≡ option_map (λ (x : Item). (path, x)) (get c path) → row ∷ [] ≡ row_of c path
  row_there row e = row_there_of path (get c path) row e

  pub row_none : none_at ≡ option_map (λ (x : Item). (path, x)) (get c path) → no_rows ≡ row_of c path
  row_none e = no_row_of path (get c path) e

  pub first_rows : (n : ℕ) → n ≡ zero → row_of c (take n path) ≡ front_rows c path n
  first_rows n e = subst (λ (k : ℕ). row_of c (take k path) ≡ front_rows c path k) (sym e) refl

  pub more_rows : (n m : ℕ) → n ≡ suc m → row_of c (take n path) ++ front_rows c path m ≡ front_rows c path n
  more_rows n m e = subst (λ (k : ℕ). row_of c (take k path) ++ front_rows c path m ≡ front_rows c path k) (sym e) refl

-- ---- entries that aren't there

module _ (c : Config) (path : Path) where
  -- one more of the path's first steps
  pub more_cut : (n m : ℕ) → n ≡ suc m → ((ends_in_keys (take n path) && is_none (get c (take n path))) || is_cut_off c path m) ≡ is_cut_off c path n
  more_cut n m e =
      subst (λ (k : ℕ). ((ends_in_keys (take k path) && is_none (get c (take k path))) || is_cut_off c path m) ≡ is_cut_off c path k) (sym e) refl

-- ---- places

module _ (s : SchemaTable) (c : Config) (line : SchemaLine) where
  below_of : (place : Path) (o : Option Item) (row : Row) → Some row ≡ option_map (λ (x : Item). (place, x)) o
      → (if is_place s row then line_breaches s c row.0 line else [])
      ≡ (if option_map_or (λ (x : Item). is_place s (place, x)) o false then line_breaches s c place line else [])
  below_of place None row e = absurd (false≢true (sym (ap is_some e)))
  below_of place (Some x) row e = ap (λ (r : Row). if is_place s r then line_breaches s c r.0 line else []) (same_Some row (place, x) e)

  pub below_there : (place : Path) (row : Row) → Some row ≡ option_map (λ (x : Item). (place, x)) (get c place)
      → (if is_place s row then line_breaches s c row.0 line else []) ≡ standing_breaches s c line place
  below_there place row e = below_of place (get c place) row e

  none_of : (place : Path) (o : Option Item) → none_at ≡ option_map (λ (x : Item). (place, x)) o
      → no_breaches ≡ (if option_map_or (λ (x : Item). is_place s (place, x)) o false then line_breaches s c place line else [])
  none_of place None e = refl
  none_of place (Some x) e = absurd (false≢true (ap is_some e))

  pub below_none : (place : Path) → none_at ≡ option_map (λ (x : Item). (place, x)) (get c place) → no_breaches ≡ standing_breaches s c line place
  below_none place e = none_of place (get c place) e

  pub more_fronts : (path : Path) (best : Option Breach) (n m : ℕ) → n ≡ suc m
      → fold lesser_breach (fold lesser_breach best (standing_breaches s c line (take n path))) (front_breaches s c line path m)
      ≡ fold lesser_breach best (front_breaches s c line path n)
  more_fronts path best n m e =
      subst (λ (k : ℕ). fold lesser_breach (fold lesser_breach best (standing_breaches s c line (take k path))) (front_breaches s c line path m)
      ≡ fold lesser_breach best (front_breaches s c line path k)) (sym e)
      (sym (fold-append lesser_breach best (standing_breaches s c line (take (suc m) path)) (front_breaches s c line path m)))
