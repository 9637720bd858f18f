-- How many entries a list has, where no entry came or went.
use Rattle.std.proofs.Common.{◌≡◌, suc, Bool, true, false, not, cond, ◌&&◌, List, [], ◌∷◌, length, map, Some, None, refl, sym, ap, ◌∙◌}
use Rattle.std.specs.declared.option.Option.{Option}
use Rattle.std.specs.List.{filter, list_any}
use Rattle.std.specs.FinMap.{get, entries, get-entries}
use Rattle.std.specs.FinMap.Entries.{where_key, find-where_key}
use Rattle.std.proofs.lemmas.Bool.{false≢true}
use Rattle.orc_path.specs.Order.{path_cmp}
use Rattle.orc_path.specs.Configurations.{Config, is_entry_of}
use Rattle.orc_path.specs.declared.item.Item.{Item}
use Rattle.orc_path.proofs.PathOrder.{path_cmp_exact}
use Rattle.orc_path.proofs.ConfigurationLaws.{same_config}
use Rattle.orc_tree.proofs.Maps.{map_of, get-of_rows, entries-of_rows, sorted-where_key}
use Rattle.orc_check.specs.Validity.{entry_count}
use Rattle.orc_revalidate.specs.inside.Looked.{has_row}
use Rattle.orc_revalidate.proofs.Members.{none_in}
use Rattle.orc_revalidate.proofs.Rowed.{Path, Row, in_order, row_in, row_found, has}

kept_paths : (p : Path → Bool) (rows : List Row) → length (filter p (map (λ (row : Row). row.0) rows)) ≡ length (where_key path_cmp p rows)
kept_paths p [] = refl
kept_paths p (row ∷ rows) = on (p row.0) (kept_paths p rows)
  where
    on : (b : Bool) → length (filter p (map (λ (r : Row). r.0) rows)) ≡ length (where_key path_cmp p rows)
        → length (cond b (row.0 ∷ filter p (map (λ (r : Row). r.0) rows)) (filter p (map (λ (r : Row). r.0) rows)))
        ≡ length (cond b (row ∷ where_key path_cmp p rows) (where_key path_cmp p rows))
    on true rest = ap suc rest
    on false rest = rest

module _ (p : Path → Bool) where
  get_kept : (c : Config) (q : Path) → get (map_of (where_key path_cmp p (entries c))) q ≡ cond (p q) (get c q) None
  get_kept c q =
      get-of_rows (where_key path_cmp p (entries c)) q (sorted-where_key p (entries c) (in_order c))
      ∙ find-where_key path_cmp p q (λ x t. ap p (sym (path_cmp_exact q x t))) (entries c)
      ∙ ap (λ o. cond (p q) o None) (sym (get-entries c q))

  same_at : (old new : Config) → ((q : Path) → p q ≡ true → get old q ≡ get new q) → (q : Path) (b : Bool) → p q ≡ b
      → cond b (get old q) None ≡ cond b (get new q) None
  same_at old new same q true is = same q is
  same_at old new same q false is = refl

  -- configurations with the same items at the paths that pass have the same rows there
  same_kept : (old new : Config) → ((q : Path) → p q ≡ true → get old q ≡ get new q)
      → where_key path_cmp p (entries old) ≡ where_key path_cmp p (entries new)
  same_kept old new same =
      sym (entries-of_rows (where_key path_cmp p (entries old)) (sorted-where_key p (entries old) (in_order old)))
      ∙ ap entries (same_config (map_of (where_key path_cmp p (entries old))) (map_of (where_key path_cmp p (entries new)))
      (λ q. get_kept old q ∙ same_at old new same q (p q) refl ∙ sym (get_kept new q)))
      ∙ entries-of_rows (where_key path_cmp p (entries new)) (sorted-where_key p (entries new) (in_order new))

-- a row of a list's entries that the other configuration hasn't
abbrev pub is_other_entry : Config → Path → Row → Bool
is_other_entry other list row = not (has_row other row) && is_entry_of list row.0

module _ (old new : Config) (list : Path) (went : list_any (is_other_entry new list) (entries old) ≡ false) (came : list_any (is_other_entry old list) (entries new) ≡ false) where
  not_other : (b : Bool) → (not b && true) ≡ false → b ≡ true
  not_other true h = refl
  not_other false h = absurd (false≢true (sym h))

  -- an entry that one has, the other has too
  still : (c other : Config) → list_any (is_other_entry other list) (entries c) ≡ false → (q : Path) (x : Item) → is_entry_of list q ≡ true → get c q ≡ Some x → get other q ≡ Some x
  still c other none q x is h =
      let lacks : is_other_entry other list (q, x) ≡ false = none_in (is_other_entry other list) (entries c) (q, x) none (row_in c q x h) in
      let kept : has_row other (q, x) ≡ true =
      not_other (has_row other (q, x)) (ap (λ b. not (has_row other (q, x)) && b) (sym is) ∙ lacks) in
      row_found other (q, x) (has other (q, x) kept)

  same_entry : (q : Path) → is_entry_of list q ≡ true → get old q ≡ get new q
  same_entry q is = on (get old q) refl
    where
      back : (o : Option Item) → get new q ≡ o → get old q ≡ None → None ≡ o
      back None e none = refl
      back (Some x) e none = sym none ∙ still new old came q x is e

      on : (o : Option Item) → get old q ≡ o → o ≡ get new q
      on None e = back (get new q) refl e
      on (Some x) e = sym (still old new went q x is e)

  pub same_count : entry_count old list ≡ entry_count new list
  same_count = kept_paths (is_entry_of list) (entries old)
      ∙ ap length (same_kept (is_entry_of list) old new same_entry)
      ∙ sym (kept_paths (is_entry_of list) (entries new))
