-- All that is looked at after a change is a breach of the new configuration.
use Rattle.std.proofs.Common.{◌≡◌, ◌⊎◌, ℕ, zero, suc, inl, inr, Bool, true, false, List, [], ◌∷◌, ◌++◌, length, take, Some, None, refl, subst}
use Rattle.std.specs.declared.option.Option.{Option}
use Rattle.std.specs.Prelude.{if◌then◌else◌}
use Rattle.std.specs.Option.{option_map_or}
use Rattle.std.specs.List.{filter, flat_map}
use Rattle.std.specs.FinMap.{get, entries}
use Rattle.orc_path.specs.Order.{is_prefix}
use Rattle.orc_path.specs.Configurations.{Config}
use Rattle.orc_path.specs.declared.item.Item.{Item}
use Rattle.orc_schema_nodes.specs.Schemas.{SchemaTable}
use Rattle.orc_check.specs.Validity.{Breach, is_place, places, row_breaches, place_breaches, breaches}
use Rattle.orc_expr.specs.declared.read.Target.{Target}
use Rattle.orc_expr.specs.declared.read.Target.TheVariants.{One, Under}
use Rattle.orc_revalidate.specs.inside.Inside.{row_of, front_rows, rows_inside}
use Rattle.orc_revalidate.specs.inside.Looked.{has_row, own_breaches, node_breaches_on, came_breaches, went_breaches, target_breaches, change_breaches}
use Rattle.orc_revalidate.proofs.Members.{In, in_left, in_right, in_parts, in_flat_map, from_flat_map, in_filter, from_filter, in_map}
use Rattle.orc_revalidate.proofs.Rowed.{Path, Row, row_in}
use Rattle.orc_revalidate.proofs.Fronted.{node_breach}

module _ (c : Config) where
  is_row : (path : Path) (row : Row) → In (row_of c path) row → In (entries c) row
  is_row path row h = on (get c path) refl h
    where
      on : (o : Option Item) → get c path ≡ o → In (option_map_or (λ x. (path, x) ∷ []) o []) row → In (entries c) row
      on None is h = absurd h
      on (Some x) is (inl same) = subst (In (entries c)) same (row_in c path x is)
      on (Some x) is (inr none) = absurd none

  front_row : (path : Path) (n : ℕ) (row : Row) → In (front_rows c path n) row → In (entries c) row
  front_row path zero row h = is_row [] row h
  front_row path (suc n) row h = on (in_parts (row_of c (take (suc n) path)) (front_rows c path n) row h) (front_row path n row)
    where
      on : In (row_of c (take (suc n) path)) row ⊎ In (front_rows c path n) row → (In (front_rows c path n) row → In (entries c) row) → In (entries c) row
      on (inl there) later = is_row (take (suc n) path) row there
      on (inr there) later = later there

  pub inside_row : (target : Target) (row : Row) → In (rows_inside c target) row → In (entries c) row
  inside_row (One path) row h = front_row path (length path) row h
  inside_row (Under path) row h = (from_filter (λ (r : Row). is_prefix path r.0) (entries c) row h).0

module _ (s : SchemaTable) (old new : Config) where
  of_row : (row : Row) (b : Breach) → In (entries new) row → In (row_breaches s new row) b → In (breaches s new) b
  of_row row b h there =
      in_left (flat_map (row_breaches s new) (entries new)) (flat_map (place_breaches s new) (places s new)) b (in_flat_map (row_breaches s new) (entries new) row b h there)

  of_places : (b : Breach) → In (flat_map (place_breaches s new) (places s new)) b → In (breaches s new) b
  of_places b there = in_right (flat_map (row_breaches s new) (entries new)) (flat_map (place_breaches s new) (places s new)) b there

  of_own : (row : Row) (b : Breach) → In (entries new) row → In (own_breaches s new row) b → In (breaches s new) b
  of_own row b h there = on (is_place s row) refl there
    where
      on : (t : Bool) → is_place s row ≡ t → In (if t then place_breaches s new row.0 else []) b → In (breaches s new) b
      on true is there =
          of_places b (in_flat_map (place_breaches s new) (places s new) row.0 b
          (inr (in_map (λ (r : Row). r.0) (filter (is_place s) (entries new)) row (in_filter (is_place s) (entries new) row h is))) there)
      on false is there = absurd there

  of_came : (row : Row) (b : Breach) → In (entries new) row → In (came_breaches s old new row) b → In (breaches s new) b
  of_came row b h there = on (has_row old row) there
    where
      parts : In (row_breaches s new row) b ⊎ In (own_breaches s new row ++ node_breaches_on s new row.0) b → In (breaches s new) b
      parts (inl there) = of_row row b h there
      parts (inr there) = more (in_parts (own_breaches s new row) (node_breaches_on s new row.0) b there)
        where
          more : In (own_breaches s new row) b ⊎ In (node_breaches_on s new row.0) b → In (breaches s new) b
          more (inl there) = of_own row b h there
          more (inr there) = of_places b (node_breach s new row.0 b there)

      on : (t : Bool) → In (if t then [] else row_breaches s new row ++ (own_breaches s new row ++ node_breaches_on s new row.0)) b → In (breaches s new) b
      on true there = absurd there
      on false there = parts (in_parts (row_breaches s new row) (own_breaches s new row ++ node_breaches_on s new row.0) b there)

  of_went : (row : Row) (b : Breach) → In (went_breaches s new row) b → In (breaches s new) b
  of_went row b there = on (has_row new row) there
    where
      on : (t : Bool) → In (if t then [] else node_breaches_on s new row.0) b → In (breaches s new) b
      on true there = absurd there
      on false there = of_places b (node_breach s new row.0 b there)

  of_target : (target : Target) (b : Breach) → In (target_breaches s old new target) b → In (breaches s new) b
  of_target target b h =
      on (in_parts (flat_map (came_breaches s old new) (rows_inside new target)) (flat_map (went_breaches s new) (rows_inside old target)) b h)
    where
      on : In (flat_map (came_breaches s old new) (rows_inside new target)) b ⊎ In (flat_map (went_breaches s new) (rows_inside old target)) b → In (breaches s new) b
      on (inl there) =
          let found = from_flat_map (came_breaches s old new) (rows_inside new target) b there in
          of_came found.from b (inside_row new target found.from found.among) found.there
      on (inr there) =
          let found = from_flat_map (went_breaches s new) (rows_inside old target) b there in
          of_went found.from b found.there

  pub genuine : (targets : List Target) (b : Breach) → In (change_breaches s old new targets) b → In (breaches s new) b
  genuine targets b h =
      let found = from_flat_map (target_breaches s old new) targets b h in
      of_target found.from b found.there
