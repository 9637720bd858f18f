-- What removing a path takes of rows in order, and what it leaves.
use Rattle.std.proofs.Common.{◌≡◌, ℕ, suc, ◌+◌, ◌<◌, ◌≤◌, Bool, true, false, not, cond, List, [], ◌∷◌, ◌++◌, length, take, drop, get_or, refl, sym, ap, subst, ◌∙◌, arith}
use Rattle.std.specs.List.{slice_range, flat_map}
use Rattle.std.specs.Ordering.{is_lt, is_gt, eq_by_cmp}
use Rattle.std.specs.Cmp.{tied_itself}
use Rattle.std.specs.declared.cmp.Ordering.{Ordering}
use Rattle.std.specs.declared.cmp.Ordering.TheVariants.{Less, Equal, Greater}
use Rattle.std.specs.FinMap.{is_sorted}
use Rattle.std.specs.FinMap.Entries.{below_all}
use Rattle.std.proofs.lemmas.Bool.{false≢true, and_parts, and_from, cond-true}
use Rattle.std.proofs.lemmas.List.{drop_more}
use Rattle.std.proofs.lemmas.List.Folds.{drop_split}
use Rattle.std.proofs.lemmas.List.Elements.{filter-append}
use Rattle.orc_path.specs.Steps.{PathStep, ends_in_keys}
use Rattle.orc_path.specs.Order.{path_cmp, is_prefix}
use Rattle.orc_path.proofs.PathOrder.{path_cmp_total}
use Rattle.orc_path.specs.Configurations.{is_removed_with}
use Rattle.orc_path.proofs.ConfigurationLaws.{same_path}
use Rattle.orc_path.specs.declared.item.Item.{Item}
use Rattle.orc_path.proofs.Extensions.{path_cmp-extension}
use Rattle.orc_tree.specs.inside.Places.{IsPartFor, above_all}
use Rattle.orc_tree.specs.inside.Removal.{kept_of, all_kept, starts_taken}
use Rattle.orc_tree.proofs.InOrder.{turned_by}
use Rattle.orc_tree.proofs.Maps.{Rows}
use Rattle.orc_tree.proofs.Pieces.{lt_is, below_behind, sorted_behind, sorted_front}
use Rattle.orc_tree.proofs.Paged.{HaveRows, rows_of-append, rows_of-at, rows_of-cut}
use Rattle.orc_tree.proofs.Between.{prefix_between}

pub kept_all : (p : List PathStep) (rows : Rows) → all_kept p rows ≡ true → kept_of p rows ≡ rows
kept_all p [] h = refl
kept_all p (row ∷ rows) h =
    let parts = and_parts (not (is_removed_with p row.0)) (all_kept p rows) h in
    cond-true _ _ _ parts.0 ∙ ap (λ (r : Rows). row ∷ r) (kept_all p rows parts.1)

pub kept_of-append : (p : List PathStep) (xs ys : Rows) → kept_of p (xs ++ ys) ≡ kept_of p xs ++ kept_of p ys
kept_of-append p xs ys = filter-append (λ (row : List PathStep × Item). not (is_removed_with p row.0)) xs ys

-- what a path takes doesn't come before it
taken_behind : (p q : List PathStep) → is_removed_with p q ≡ true → is_gt (path_cmp p q) ≡ false
taken_behind p q h = on (ends_in_keys p) h
  where
    extension : (o : Ordering) → path_cmp p q ≡ o → is_prefix p q ≡ true → is_gt (path_cmp p q) ≡ false
    extension Less e t = ap is_gt e
    extension Equal e t = ap is_gt e
    extension Greater e t =
        ap is_gt (path_cmp-extension p q t (λ same. let not_so : ⊥ = apart (path_cmp p q) e (subst (λ (x : List PathStep). path_cmp p x ≡ Equal) same (tied_itself path_cmp_total p)) in not_so))
      where
        apart : (o : Ordering) → o ≡ Greater → o ≡ Equal → ⊥
        apart o g t = cc

    on : (b : Bool) → cond b (is_prefix p q) (eq_by_cmp path_cmp p q) ≡ true → is_gt (path_cmp p q) ≡ false
    on true t = extension (path_cmp p q) refl t
    on false t = ap is_gt (subst (λ (x : List PathStep). path_cmp p x ≡ Equal) (same_path p q t) (tied_itself path_cmp_total p))

not_taken : (b : Bool) → (b ≡ true → ⊥) → not b ≡ true
not_taken true f = absurd (f refl)
not_taken false f = refl

-- what comes before a path stays
kept_before : (p : List PathStep) (rows : Rows) → above_all p rows ≡ true → all_kept p rows ≡ true
kept_before p [] h = refl
kept_before p (row ∷ rows) h =
    let parts = and_parts (is_gt (path_cmp p row.0)) (above_all p rows) h in
    and_from _ _ (not_taken (is_removed_with p row.0) (λ t. false≢true (sym (taken_behind p row.0 t) ∙ parts.0))) (kept_before p rows parts.1)

-- what a path takes it takes together: where it leaves one after it, it leaves those further on
taken_between : (p r q : List PathStep) → path_cmp p r ≡ Less → path_cmp r q ≡ Less → is_removed_with p q ≡ true → is_removed_with p r ≡ true
taken_between p r q a b h = on (ends_in_keys p) h
  where
    apart : (o : Ordering) → o ≡ Less → o ≡ Greater → ⊥
    apart o l g = cc

    on : (b : Bool) → cond b (is_prefix p q) (eq_by_cmp path_cmp p q) ≡ true → cond b (is_prefix p r) (eq_by_cmp path_cmp p r) ≡ true
    on true t = prefix_between p r q t (ap is_gt a) (ap is_gt b)
    on false t = absurd (apart (path_cmp r q) b (subst (λ (x : List PathStep). path_cmp r x ≡ Greater) (same_path p q t) (turned_by path_cmp path_cmp_total p r Less a)))

kept_further : (p : List PathStep) (row : List PathStep × Item) (rows : Rows) → path_cmp p row.0 ≡ Less → is_removed_with p row.0 ≡ false → below_all path_cmp row.0 rows ≡ true → all_kept p rows ≡ true
kept_further p row [] l k h = refl
kept_further p row (next ∷ rows) l k h =
    let parts = and_parts (is_lt (path_cmp row.0 next.0)) (below_all path_cmp row.0 rows) h in
    and_from _ _ (not_taken (is_removed_with p next.0) (λ t. false≢true (sym k ∙ taken_between p row.0 next.0 l (lt_is _ parts.0) t))) (kept_further p row rows l k parts.1)

kept_behind : (p : List PathStep) (part rest : Rows) → is_sorted path_cmp (part ++ rest) ≡ true → below_all path_cmp p (part ++ rest) ≡ true → 1 ≤ length part → starts_taken p part ≡ false
    → all_kept p (part ++ rest) ≡ true
kept_behind p [] rest s b l t = absurd (omega arith)
kept_behind p (row ∷ part) rest s b l t =
    and_from _ _ (ap not t)
    (kept_further p row (part ++ rest) (lt_is _ (and_parts (is_lt (path_cmp p row.0)) _ b).0) t (and_parts (below_all path_cmp row.0 (part ++ rest)) _ s).0)

module _ {E : Type 0} (f : E → Rows) where
  pub all_kept-from : (p : List PathStep) (ps : List E) (i end : ℕ) (part : E) → IsPartFor f p ps i → is_sorted path_cmp (flat_map f ps) ≡ true → HaveRows f ps
      → i < end → end < length ps → part ≡ get_or ps end part → starts_taken p (f part) ≡ false → all_kept p (flat_map f (drop end ps)) ≡ true
  all_kept-from p ps i end part for s some more within is t =
      let parts : drop end ps ≡ part ∷ drop (end + 1) ps = drop_more ps end part within ∙ ap (λ (x : E). x ∷ drop (end + 1) ps) (sym is) in
      let sorted : is_sorted path_cmp (flat_map f (drop end ps)) ≡ true = sorted_behind path_cmp path_cmp_total (flat_map f (take end ps)) (flat_map f (drop end ps)) (ap (is_sorted path_cmp) (sym (rows_of-cut f ps end)) ∙ s) in
      let rest : flat_map f (drop (suc i) ps) ≡ flat_map f (slice_range ps (suc i) end) ++ flat_map f (drop end ps) =
      ap (λ (qs : List E). flat_map f qs) (drop_split ps (suc i) end (omega arith)) ∙ rows_of-append f (slice_range ps (suc i) end) (drop end ps) in
      let below : below_all path_cmp p (flat_map f (drop end ps)) ≡ true =
      below_behind path_cmp path_cmp_total p (flat_map f (slice_range ps (suc i) end)) (flat_map f (drop end ps)) (ap (below_all path_cmp p) (sym rest) ∙ for.behind) in
      let long : 1 ≤ length (f part) = subst (λ (x : E). 1 ≤ length (f x)) (sym is) (some end part within) in
      let cut_part : flat_map f (drop end ps) ≡ f part ++ flat_map f (drop (end + 1) ps) = ap (λ (qs : List E). flat_map f qs) parts in
      ap (all_kept p) cut_part
      ∙ kept_behind p (f part) (flat_map f (drop (end + 1) ps)) (ap (is_sorted path_cmp) (sym cut_part) ∙ sorted) (ap (below_all path_cmp p) (sym cut_part) ∙ below) long t

  pub rows_of-span : (ps : List E) (i end : ℕ) → i ≤ end → flat_map f ps ≡ flat_map f (take i ps) ++ (flat_map f (slice_range ps i end) ++ flat_map f (drop end ps))
  rows_of-span ps i end order =
      rows_of-cut f ps i
      ∙ ap (λ (r : Rows). flat_map f (take i ps) ++ r) (ap (λ (qs : List E). flat_map f qs) (drop_split ps i end order) ∙ rows_of-append f (slice_range ps i end) (drop end ps))

  -- parts of rows in order are in order
  pub sorted_span : (ps : List E) (i end : ℕ) → i ≤ end → is_sorted path_cmp (flat_map f ps) ≡ true → is_sorted path_cmp (flat_map f (slice_range ps i end)) ≡ true
  sorted_span ps i end order sorted =
      sorted_front path_cmp path_cmp_total (flat_map f (slice_range ps i end)) (flat_map f (drop end ps))
      (sorted_behind path_cmp path_cmp_total (flat_map f (take i ps)) _ (ap (is_sorted path_cmp) (sym (rows_of-span ps i end order)) ∙ sorted))

  -- the rows before a path's part and those after what it takes stay
  pub kept_span : (p : List PathStep) (ps : List E) (i end : ℕ) → above_all p (flat_map f (take i ps)) ≡ true → all_kept p (flat_map f (drop end ps)) ≡ true → i ≤ end
      → kept_of p (flat_map f ps) ≡ flat_map f (take i ps) ++ (kept_of p (flat_map f (slice_range ps i end)) ++ flat_map f (drop end ps))
  kept_span p ps i end before behind order =
      let front = flat_map f (take i ps) in
      let span = flat_map f (slice_range ps i end) in
      let rest = flat_map f (drop end ps) in
      ap (kept_of p) (rows_of-span ps i end order) ∙ kept_of-append p front (span ++ rest)
      ∙ ap (λ (r : Rows). r ++ kept_of p (span ++ rest)) (kept_all p front (kept_before p front before))
      ∙ ap (λ (r : Rows). front ++ r) (kept_of-append p span rest ∙ ap (λ (r : Rows). kept_of p span ++ r) (kept_all p rest behind))

  pub kept_in_part : (p : List PathStep) (ps : List E) (i : ℕ) (part : E) → IsPartFor f p ps i → part ≡ get_or ps i part → all_kept p (flat_map f (drop (suc i) ps)) ≡ true
      → kept_of p (flat_map f ps) ≡ flat_map f (take i ps) ++ (kept_of p (f part) ++ flat_map f (drop (suc i) ps))
  kept_in_part p ps i part for is behind =
      let front = flat_map f (take i ps) in
      let rest = flat_map f (drop (suc i) ps) in
      ap (kept_of p) (rows_of-at f ps i part for.within is) ∙ kept_of-append p front (f part ++ rest)
      ∙ ap (λ (r : Rows). r ++ kept_of p (f part ++ rest)) (kept_all p front (kept_before p front for.before))
      ∙ ap (λ (r : Rows). front ++ r) (kept_of-append p (f part) rest ∙ ap (λ (r : Rows). kept_of p (f part) ++ r) (kept_all p rest behind))

kept_short : (p : List PathStep) (rows : Rows) → length (kept_of p rows) ≤ length rows
kept_short p [] = omega arith
kept_short p (row ∷ rows) = less (is_removed_with p row.0) (kept_short p rows)
  where
    less : (b : Bool) → length (kept_of p rows) ≤ length rows → length (cond (not b) (row ∷ kept_of p rows) (kept_of p rows)) ≤ suc (length rows)
    less true l = omega arith
    less false l = omega arith

-- where as many rows stay as there are, all of them do
pub kept_whole : (p : List PathStep) (rows : Rows) → length (kept_of p rows) ≡ length rows → kept_of p rows ≡ rows
kept_whole p [] h = refl
kept_whole p (row ∷ rows) h = on (is_removed_with p row.0) (λ e. kept_whole p rows e) h
  where
    on : (b : Bool) → (length (kept_of p rows) ≡ length rows → kept_of p rows ≡ rows)
        → length (cond (not b) (row ∷ kept_of p rows) (kept_of p rows)) ≡ suc (length rows) → cond (not b) (row ∷ kept_of p rows) (kept_of p rows) ≡ row ∷ rows
    on true rest e = absurd (omega (arith, kept_short p rows))
    on false rest e = ap (λ (r : Rows). row ∷ r) (rest (omega arith))

pub kept_some : (p : List PathStep) (rows : Rows) (n : ℕ) → n ≡ length (kept_of p rows) → (n ≡ 0 → ⊥) → 1 ≤ length (kept_of p rows)
kept_some p rows n e none = omega arith

pub kept_at_most : (p : List PathStep) (rows : Rows) → length rows ≤ 8 → length (kept_of p rows) ≤ 8
kept_at_most p rows l = omega (arith, kept_short p rows)
