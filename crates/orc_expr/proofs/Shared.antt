-- What no differing path touches is shared.
use Rattle.std.proofs.Common.{◌≡◌, ◌≢◌, ◌⊎◌, inl, inr, ℕ, Bool, true, false, cond, List, [], ◌∷◌, Option, Some, None, map, refl, sym, ap, ◌∙◌}
use Rattle.std.specs.List.{All, filter}
use Rattle.std.specs.Bool.{Decides}
use Rattle.std.specs.FinMap.{get, find, entries, entries_sorted, get-entries}
use Rattle.std.specs.FinMap.Entries.{where_key, is_sorted-where_key, find-where_key, same_entries}
use Rattle.std.proofs.lemmas.Bool.{or_parts, false≢true}
use Rattle.std.proofs.lemmas.List.Elements.{All-nil, All-cons}
use Rattle.std.specs.declared.cmp.Ordering.TheVariants.{Equal}
use Rattle.orc_path.specs.Steps.{PathStep}
use Rattle.orc_path.specs.Order.{path_cmp}
use Rattle.orc_path.specs.Configurations.{Config, is_entry_of}
use Rattle.orc_path.specs.Views.{Viewed, entries_of}
use Rattle.orc_path.specs.declared.item.Item.{Item}
use Rattle.orc_path.specs.declared.item.Write.TheVariants as write
use Rattle.orc_path.specs.declared.shape.Shape.{Shape}
use Rattle.orc_path.proofs.Equality.{item_eq_decides}
use Rattle.orc_path.proofs.PathOrder.{path_cmp_total, path_cmp_exact}
use Rattle.orc_expr.specs.Reads.{SharesRead, Shares}
use Rattle.orc_expr.specs.Touches.{write_touches, write_touches_any}
use Rattle.orc_expr.specs.declared.read.Read.{Read}
use Rattle.orc_expr.specs.declared.read.Read.TheVariants.{Item as ItemAt, Keys, Service}
use Rattle.orc_expr.proofs.Covering.{same_path}

-- two items are equal or not
items_are : (a b : Option Item) → (a ≡ b) ⊎ (a ≢ b)
items_are None None = inl refl
items_are None (Some b) = inr (λ e. let never : ⊥ = cc in never)
items_are (Some a) None = inr (λ e. let never : ⊥ = cc in never)
items_are (Some a) (Some b) = by _ (item_eq_decides a b)
  where
    by : (t : Bool) → Decides t (a ≡ b) → (Some a ≡ Some b) ⊎ (Some a ≢ Some b)
    by true d = inl (ap Some (d.0 refl))
    by false d = inr (λ e. let same : a ≡ b = cc in false≢true (d.1 same))

abbrev path_at : List PathStep × Item → List PathStep
path_at row = row.0

keys_where : (test : List PathStep → Bool) (rows : List (List PathStep × Item)) → filter test (map path_at rows) ≡ map path_at (where_key path_cmp test rows)
keys_where test [] = refl
keys_where test (row ∷ rows) = ap (λ rest. cond (test row.0) (row.0 ∷ rest) rest) (keys_where test rows) ∙ sym (by (test row.0))
  where
    by : (t : Bool) → map path_at (cond t (row ∷ where_key path_cmp test rows) (where_key path_cmp test rows))
        ≡ cond t (row.0 ∷ map path_at (where_key path_cmp test rows)) (map path_at (where_key path_cmp test rows))
    by true = refl
    by false = refl

module _ (old new : Config) (shapes : List PathStep → List ℕ → Shape) where
  abbrev v : Viewed
  v = record { items = old; shapes = shapes }

  abbrev w : Viewed
  w = record { items = new; shapes = shapes }

  -- no path at which the two differ passes the test
  abbrev Untouched : (List PathStep → Bool) → Type 0
  Untouched touched = (path : List PathStep) → get old path ≢ get new path → touched path ≡ false

  item_shared : (path : List PathStep) → Untouched (λ other. write_touches (write.At other) (ItemAt path)) → get old path ≡ get new path
  item_shared path untouched = by (items_are (get old path) (get new path))
    where
      by : (get old path ≡ get new path) ⊎ (get old path ≢ get new path) → get old path ≡ get new path
      by (inl same) = same
      by (inr unlike) = absurd (false≢true (sym (untouched path unlike) ∙ same_path path))

  keys_shared : (list : List PathStep) → Untouched (is_entry_of list) → entries_of old list ≡ entries_of new list
  keys_shared list untouched =
      keys_where (is_entry_of list) (entries old) ∙ ap (map path_at) rows ∙ sym (keys_where (is_entry_of list) (entries new))
    where
      alike : (q x : List PathStep) → path_cmp q x ≡ Equal → is_entry_of list x ≡ is_entry_of list q
      alike q x tie = ap (is_entry_of list) (sym (path_cmp_exact q x tie))

      found : (q : List PathStep) → find path_cmp q (where_key path_cmp (is_entry_of list) (entries old)) ≡ find path_cmp q (where_key path_cmp (is_entry_of list) (entries new))
      found q =
          find-where_key path_cmp (is_entry_of list) q (alike q) (entries old) ∙ ap (λ o. cond (is_entry_of list q) o None) (sym (get-entries old q))
          ∙ by (is_entry_of list q) refl (items_are (get old q) (get new q))
          ∙ ap (λ o. cond (is_entry_of list q) o None) (get-entries new q) ∙ sym (find-where_key path_cmp (is_entry_of list) q (alike q) (entries new))
        where
          by : (t : Bool) → is_entry_of list q ≡ t → (get old q ≡ get new q) ⊎ (get old q ≢ get new q) → cond (is_entry_of list q) (get old q) None ≡ cond (is_entry_of list q) (get new q) None
          by t is (inl same) = ap (λ o. cond (is_entry_of list q) o None) same
          by true is (inr unlike) = absurd (false≢true (sym (untouched q unlike) ∙ is))
          by false is (inr unlike) = ap (λ u. cond u (get old q) None) is ∙ sym (ap (λ u. cond u (get new q) None) is)

      rows : where_key path_cmp (is_entry_of list) (entries old) ≡ where_key path_cmp (is_entry_of list) (entries new)
      rows =
          same_entries path_cmp path_cmp_total path_cmp_exact _ _
          (is_sorted-where_key path_cmp (is_entry_of list) (entries old) (entries_sorted old))
          (is_sorted-where_key path_cmp (is_entry_of list) (entries new) (entries_sorted new)) found

  one_shared : (r : Read) → Untouched (λ path. write_touches (write.At path) r) → SharesRead v w r
  one_shared (ItemAt path) untouched = item_shared path untouched
  one_shared (Keys list) untouched = keys_shared list untouched
  one_shared (Service id) untouched = tt

  all_shared : (reads : List Read) → Untouched (λ path. write_touches_any reads (write.At path)) → All (SharesRead v w) reads
  all_shared [] untouched = All-nil (SharesRead v w)
  all_shared (r ∷ reads) untouched =
      All-cons (SharesRead v w) r reads (one_shared r (λ path unlike. (or_parts _ _ (untouched path unlike)).0))
      (all_shared reads (λ path unlike. (or_parts _ _ (untouched path unlike)).1))

-- what no differing path touches is shared
pub untouched_is_shared : (old new : Config) (shapes : List PathStep → List ℕ → Shape) (reads : List Read)
    → ((path : List PathStep) → get old path ≢ get new path → write_touches_any reads (write.At path) ≡ false)
    → Shares (record { items = old; shapes = shapes }) (record { items = new; shapes = shapes }) reads
untouched_is_shared old new shapes reads untouched = record { shapes = λ parent name. refl; read = all_shared old new shapes reads untouched }
