-- The paths that are reported are those at which two configurations differ.
use Rattle.std.proofs.Common.{◌≡◌, ◌≢◌, ◌⊎◌, inl, inr, Bool, true, false, List, [], ◌∷◌, ◌++◌, Contains, None, Some, is_some, refl, sym, ap, subst, ◌∙◌}
use Rattle.std.specs.Prelude.{Option, if◌then◌else◌}
use Rattle.std.specs.List.{flat_map}
use Rattle.std.specs.FinMap.{entries, get}
use Rattle.std.proofs.lemmas.Bool.{false≢true}
use Rattle.orc_expr.specs.Touches.{IsInside}
use Rattle.orc_path.specs.Configurations.{Config}
use Rattle.orc_path.specs.declared.item.Item.{Item}
use Rattle.orc_change.proofs.Exact.{has_item_is}
use Rattle.orc_expr.specs.declared.read.Target.{Target}
use Rattle.orc_revalidate.specs.Changes.{ArePathsChanged, DiffersInside}
use Rattle.orc_revalidate.specs.inside.Changed.{changed_in, changed_paths, gone, lacking}
use Rattle.orc_revalidate.specs.inside.Inside.{rows_inside}
use Rattle.orc_revalidate.specs.inside.Looked.{has_row}
use Rattle.orc_revalidate.proofs.Genuine.{inside_row}
use Rattle.orc_revalidate.proofs.Members.{In, contains_in, from_flat_map, in_contains, in_flat_map, in_left, in_parts, in_right}
use Rattle.orc_revalidate.proofs.Rowed.{Path, Row, differs, row_found, row_in}
use Rattle.orc_revalidate.proofs.Within.{row_inside}

module _ (old new : Config) where
  -- what is reported of a row that came
  lacks : (row : Row) (path : Path) → In (lacking old row) path → (has_row old row ≡ false) × (row.0 ≡ path)
  lacks row path h = on (has_row old row) refl h
    where
      on : (b : Bool) → has_row old row ≡ b → In (if b then [] else row.0 ∷ []) path → (has_row old row ≡ false) × (row.0 ≡ path)
      on true is there = absurd there
      on false is (inl same) = (is, same)
      on false is (inr more) = absurd more

  -- and of one that went
  goes : (row : Row) (path : Path) → In (gone new row) path → (is_some (get new row.0) ≡ false) × (row.0 ≡ path)
  goes row path h = on (is_some (get new row.0)) refl h
    where
      on : (b : Bool) → is_some (get new row.0) ≡ b → In (if b then [] else row.0 ∷ []) path → (is_some (get new row.0) ≡ false) × (row.0 ≡ path)
      on true is there = absurd there
      on false is (inl same) = (is, same)
      on false is (inr more) = absurd more

  sound_in : (target : Target) (path : Path) → In (changed_in old new target) path → get old path ≢ get new path
  sound_in target path h = on (in_parts (flat_map (lacking old) (rows_inside new target)) (flat_map (gone new) (rows_inside old target)) path h)
    where
      on : In (flat_map (lacking old) (rows_inside new target)) path ⊎ In (flat_map (gone new) (rows_inside old target)) path → get old path ≢ get new path
      on (inl came) =
          let found = from_flat_map (lacking old) (rows_inside new target) path came in
          let one = lacks found.from path found.there in
          subst (λ (p : Path). get old p ≢ get new p) one.1 (differs old new found.from (inside_row new target found.from found.among) one.0)
      on (inr went) = λ same.
          let found = from_flat_map (gone new) (rows_inside old target) path went in
          let one = goes found.from path found.there in
          let there : get old found.from.0 ≡ Some found.from.1 = row_found old found.from (inside_row old target found.from found.among) in
          let here : get old path ≡ Some found.from.1 = ap (get old) (sym one.1) ∙ there in
          let none : is_some (get new path) ≡ false = ap (λ (p : Path). is_some (get new p)) (sym one.1) ∙ one.0 in
          false≢true (sym none ∙ ap is_some (sym same ∙ here))

  came_in : (target : Target) (path : Path) (item : Item) → IsInside target path → get new path ≡ Some item → get old path ≢ get new path
      → In (changed_in old new target) path
  came_in target path item inside is apart =
      in_left (flat_map (lacking old) (rows_inside new target)) (flat_map (gone new) (rows_inside old target)) path
      (in_flat_map (lacking old) (rows_inside new target) (path, item) path (row_inside new target (path, item) (row_in new path item is) inside)
      (on (has_row old (path, item)) refl))
    where
      on : (b : Bool) → has_row old (path, item) ≡ b → In (if b then [] else path ∷ []) path
      on true had = absurd (apart (has_item_is (get old path) item had ∙ sym is))
      on false had = inl refl

  went_in : (target : Target) (path : Path) (item : Item) → IsInside target path → get old path ≡ Some item → get new path ≡ None
      → In (changed_in old new target) path
  went_in target path item inside is none =
      in_right (flat_map (lacking old) (rows_inside new target)) (flat_map (gone new) (rows_inside old target)) path
      (in_flat_map (gone new) (rows_inside old target) (path, item) path (row_inside old target (path, item) (row_in old path item is) inside)
      (subst (λ (b : Bool). In (if b then [] else path ∷ []) path) (sym (ap is_some none)) (inl refl)))

  -- a path at which they differ is reported
  whole_in : (target : Target) (path : Path) → IsInside target path → get old path ≢ get new path → In (changed_in old new target) path
  whole_in target path inside apart = on (get new path) refl (get old path) refl
    where
      on : (n : Option Item) → get new path ≡ n → (o : Option Item) → get old path ≡ o → In (changed_in old new target) path
      on (Some item) is o was = came_in target path item inside is apart
      on None is (Some item) was = went_in target path item inside was is
      on None is None was = absurd (apart (was ∙ sym is))

  pub paths_are : (targets : List Target) (paths : List Path) → DiffersInside targets old new → paths ≡ changed_paths old new targets → ArePathsChanged old new paths
  paths_are targets paths inside is = record {
    sound = λ path h.
        let found = from_flat_map (changed_in old new) targets path (in_contains (changed_paths old new targets) path (subst (λ (l : List Path). Contains l path) is h)) in
        sound_in found.from path found.there;
    whole = λ path apart.
        let target = inside path apart in
        subst (λ (l : List Path). Contains l path) (sym is)
        (contains_in (changed_paths old new targets) path
        (in_flat_map (changed_in old new) targets target.0 path (in_contains targets target.0 target.1) (whole_in target.0 path target.2 apart)));
  }
