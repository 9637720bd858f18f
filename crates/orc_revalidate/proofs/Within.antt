-- What is looked at inside targets has each row that came or went, where each change lies inside one of them.
use Rattle.std.proofs.Common.{◌≡◌, ◌⊎◌, ℕ, zero, suc, ◌<◌, ◌≤◌, inl, inr, Bool, false, not, ◌&&◌, List, [], ◌∷◌, ◌++◌, length, take, refl, sym, ap, subst, ◌∙◌, arith}
use Rattle.std.specs.declared.option.Option.{Option}
use Rattle.std.specs.Prelude.{if◌then◌else◌}
use Rattle.std.specs.Option.{option_map_or}
use Rattle.std.specs.List.{flat_map, list_any}
use Rattle.std.specs.FinMap.{entries}
use Rattle.std.proofs.lemmas.Bool.{or_parts, cases_lt}
use Rattle.std.proofs.lemmas.List.{take_all}
use Rattle.orc_path.specs.Order.{is_prefix}
use Rattle.orc_path.specs.Configurations.{Config}
use Rattle.orc_path.specs.declared.item.Item.{Item}
use Rattle.orc_schema_nodes.specs.Schemas.{SchemaTable}
use Rattle.orc_check.specs.Validity.{Breach, row_breaches}
use Rattle.orc_expr.specs.Touches.{IsInside}
use Rattle.orc_expr.specs.declared.read.Target.{Target}
use Rattle.orc_expr.specs.declared.read.Target.TheVariants.{One, Under}
use Rattle.orc_revalidate.specs.Changes.{DiffersInside}
use Rattle.orc_revalidate.specs.inside.Inside.{row_of, front_rows, rows_inside}
use Rattle.orc_revalidate.specs.inside.Looked.{has_row, own_breaches, node_breaches_on, came_breaches, went_breaches, target_breaches, change_breaches}
use Rattle.orc_revalidate.specs.inside.Led.{is_led_to, has_default_at, may_take, may_cover, target_takes, may_lose}
use Rattle.orc_revalidate.proofs.Members.{In, in_left, in_right, in_flat_map, in_filter, none_in, in_contains}
use Rattle.orc_revalidate.proofs.Rowed.{Path, Row, row_found, differs}
use Rattle.orc_revalidate.proofs.Instances.{TakesNone, CoversNone}
use Rattle.orc_revalidate.proofs.Seen.{Looks}

module _ (c : Config) where
  own_row : (row : Row) → In (entries c) row → In (row_of c row.0) row
  own_row row h = subst (λ (o : Option Item). In (option_map_or (λ x. (row.0, x) ∷ []) o []) row) (sym (row_found c row h)) (inl refl)

  front_there : (row : Row) → In (entries c) row → (path : Path) (n m : ℕ) → n ≤ m → take n path ≡ row.0 → In (front_rows c path m) row
  front_there row h path n zero within is =
      let none : n ≡ zero = omega (arith, within) in
      let root : row.0 ≡ [] = sym is ∙ ap (λ (k : ℕ). take k path) none in
      subst (λ (p : Path). In (row_of c p) row) root (own_row row h)
  front_there row h path n (suc m) within is = on (cases_lt m n) (λ less. front_there row h path n m less is)
    where
      on : (m < n) ⊎ (n ≤ m) → (n ≤ m → In (front_rows c path m) row) → In (front_rows c path (suc m)) row
      on (inl more) later =
          let same : n ≡ suc m = omega (arith, within, more) in
          in_left (row_of c (take (suc m) path)) (front_rows c path m) row
          (subst (λ (p : Path). In (row_of c p) row) (sym is ∙ ap (λ (k : ℕ). take k path) same) (own_row row h))
      on (inr less) later = in_right (row_of c (take (suc m) path)) (front_rows c path m) row (later less)

  -- a row at a path inside a target is one of the rows inside
  pub row_inside : (target : Target) (row : Row) → In (entries c) row → IsInside target row.0 → In (rows_inside c target) row
  row_inside (One path) row h (inl is) = front_there row h path (length path) (length path) (omega arith) (take_all (length path) path (omega arith) ∙ sym is)
  row_inside (One path) row h (inr way) =
      let shorter : length row.0 < length path = way.shorter in
      front_there row h path (length row.0) (length path) (omega (arith, shorter)) (sym way.begins)
  row_inside (Under path) row h begins = in_filter (λ (r : Row). is_prefix path r.0) (entries c) row h begins

module _ (s : SchemaTable) (old new : Config) (targets : List Target) (changed : DiffersInside targets old new) where
  came_at : (row : Row) → In (entries new) row → has_row old row ≡ false → (target : Target) × (In targets target × In (rows_inside new target) row)
  came_at row h lacks =
      let found = changed row.0 (differs old new row h lacks) in
      (found.0, (in_contains targets found.0 found.1, row_inside new found.0 row h found.2))

  went_at : (row : Row) → In (entries old) row → has_row new row ≡ false → (target : Target) × (In targets target × In (rows_inside old target) row)
  went_at row h lacks =
      let found = changed row.0 (λ same. differs new old row h lacks (sym same)) in
      (found.0, (in_contains targets found.0 found.1, row_inside old found.0 row h found.2))

  came_in : (row : Row) (b : Breach) → has_row old row ≡ false → In (row_breaches s new row ++ (own_breaches s new row ++ node_breaches_on s new row.0)) b
      → In (came_breaches s old new row) b
  came_in row b lacks there =
      subst (λ (t : Bool). In (if t then [] else row_breaches s new row ++ (own_breaches s new row ++ node_breaches_on s new row.0)) b) (sym lacks) there

  went_in : (row : Row) (b : Breach) → has_row new row ≡ false → In (node_breaches_on s new row.0) b → In (went_breaches s new row) b
  went_in row b lacks there = subst (λ (t : Bool). In (if t then [] else node_breaches_on s new row.0) b) (sym lacks) there

  -- each row that came or went is looked at
  pub target_looks : Looks s old new (change_breaches s old new targets)
  target_looks = record {
    came = λ row h lacks b there.
        let found = came_at row h lacks in
        in_flat_map (target_breaches s old new) targets found.0 b found.1.0
        (in_left (flat_map (came_breaches s old new) (rows_inside new found.0)) (flat_map (went_breaches s new) (rows_inside old found.0)) b
        (in_flat_map (came_breaches s old new) (rows_inside new found.0) row b found.1.1 (came_in row b lacks there)));
    went = λ row h lacks b there.
        let found = went_at row h lacks in
        in_flat_map (target_breaches s old new) targets found.0 b found.1.0
        (in_right (flat_map (came_breaches s old new) (rows_inside new found.0)) (flat_map (went_breaches s new) (rows_inside old found.0)) b
        (in_flat_map (went_breaches s new) (rows_inside old found.0) row b found.1.1 (went_in row b lacks there)));
  }

  -- ---- and where none inside them may lose an instance, none may

  module _ (none : may_lose s old new targets ≡ false) where
    then_false : (a b : Bool) → (not a && b) ≡ false → a ≡ false → b ≡ false
    then_false a b h is = ap (λ t. not t && b) (sym is) ∙ h

    target_none : (target : Target) → In targets target
        → (list_any (may_take s new) (rows_inside old target) ≡ false) × (list_any (may_cover s old new) (rows_inside new target) ≡ false)
    target_none target h =
        or_parts (list_any (may_take s new) (rows_inside old target)) (list_any (may_cover s old new) (rows_inside new target)) (none_in (target_takes s old new) targets target none h)

    pub takes_none : TakesNone s old new
    takes_none row h lacks =
        let found = went_at row h lacks in
        then_false (has_row new row) (is_led_to s new row.0) (none_in (may_take s new) (rows_inside old found.0) row (target_none found.0 found.1.0).0 found.1.1) lacks

    pub covers_none : CoversNone s old new
    covers_none row h lacks =
        let found = came_at row h lacks in
        then_false (has_row old row) (has_default_at s row.0 && is_led_to s new row.0)
        (none_in (may_cover s old new) (rows_inside new found.0) row (target_none found.0 found.1.0).1 found.1.1) lacks
