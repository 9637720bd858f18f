-- What an index leads to, and the tree has, is an instance.
use Rattle.std.proofs.Common.{◌≡◌, ℕ, Bool, true, false, ◌&&◌, ◌||◌, List, [], refl, sym, ap, ◌∙◌}
use Rattle.std.specs.Prelude.{Option, Some, None}
use Rattle.std.specs.Option.{option_map_or}
use Rattle.std.specs.List.{list_any}
use Rattle.std.specs.FinMap.{get, entries, get-entries}
use Rattle.std.proofs.lemmas.Bool.{false≢true, and_parts, and_from}
use Rattle.orc_path.specs.Steps.{PathStep}
use Rattle.orc_path.specs.Configurations.{Config}
use Rattle.orc_path.specs.declared.item.Item.{Item}
use Rattle.orc_schema_nodes.specs.Schemas.{SchemaTable}
use Rattle.orc_schema_nodes.specs.declared.line.Target.{Target}
use Rattle.orc_check.specs.Validity.{is_place, places, row_has, has_default, place_lacks, has_instance}
use Rattle.orc_check.specs.inside.Named.{is_present, has_at, is_instance_at}
use Rattle.orc_check.proofs.Single.{any_found, any_places, or_true}

module _ (s : SchemaTable) (c : Config) (target : Target) (text : List ℕ) (path own : List PathStep) where
  -- what the row at the path passes, one of the rows does
  found : (f : (List PathStep × Item) → Bool) → option_map_or (λ item. f (own, item)) (get c own) false ≡ true → list_any f (entries c) ≡ true
  found f h = on (get c own) refl h
    where
      on : (o : Option Item) → get c own ≡ o → option_map_or (λ item. f (own, item)) o false ≡ true → list_any f (entries c) ≡ true
      on None e h = absurd (false≢true h)
      on (Some it) e h = any_found f own it (entries c) (sym (get-entries c own) ∙ e) h

  both : (o : Option Item) → option_map_or (λ item. is_place s (own, item)) o false ≡ true → place_lacks s c target path own ≡ true
      → option_map_or (λ item. is_place s (own, item) && place_lacks s c target path own) o false ≡ true
  both None h k = h
  both (Some it) h k = and_from (is_place s (own, it)) (place_lacks s c target path own) h k

  lacked : (is_present s c own && place_lacks s c target path own) ≡ true → list_any (place_lacks s c target path) (places s c) ≡ true
  lacked h =
      let parts = and_parts (is_present s c own) (place_lacks s c target path own) h in
      or_true (place_lacks s c target path []) _
      (any_places s (place_lacks s c target path) (entries c)
      ∙ found (λ row. is_place s row && place_lacks s c target path row.0) (both (get c own) parts.0 parts.1))

  pub listed : is_instance_at s c target text path own ≡ true → has_instance s c target text path ≡ true
  listed h = on (has_at s c target text path own) refl h
    where
      on : (b : Bool) → has_at s c target text path own ≡ b
          → (b || (has_default s target.names text && (is_present s c own && place_lacks s c target path own))) ≡ true
          → has_instance s c target text path ≡ true
      on true e h =
          ap (λ b. b || (has_default s target.names text && list_any (place_lacks s c target path) (places s c))) (found (row_has s target text path) e)
      on false e h =
          let parts = and_parts (has_default s target.names text) (is_present s c own && place_lacks s c target path own) h in
          or_true (list_any (row_has s target text path) (entries c)) _
          (and_from (has_default s target.names text) (list_any (place_lacks s c target path) (places s c)) parts.0 (lacked parts.1))
