-- Nodes in the order of their names, and what a search among them finds.
use Rattle.std.proofs.Common.{◌≡◌, refl, sym, ◌∙◌, ap, subst, List, [], ◌∷◌, map, ℕ, ◌<◌, ◌≤◌, length, get_or, Bool, true, false, cond}
use Rattle.std.specs.Prelude.{option_map, Some, None, Ok, Err}
use Rattle.std.specs.List.{find}
use Rattle.std.specs.List.Sorted.{IsStrictlySortedBy, IsBinarySearchResult}
use Rattle.std.specs.Ordering.{is_lt}
use Rattle.std.specs.declared.cmp.Ordering.{Ordering}
use Rattle.std.specs.declared.cmp.Ordering.TheVariants.{Less, Equal, Greater}
use Rattle.std.proofs.lemmas.Map.Keys.{sorted_head}
use Rattle.std.proofs.lemmas.Bool.{false≢true}
use denote.Ref.{Bor}
use Rattle.orc_schema.specs.declared.draft.Draft.{Draft}
use Rattle.orc_schema_nodes.specs.Names.{names_cmp}
use Rattle.orc_schema.specs.Links.{node_in}
use Rattle.orc_schema.specs.inside.Indexes.{lent, names_of, IsIndex, climbs, climbs_behind}
use Rattle.orc_schema_nodes.proofs.Ordered.{Names, is_at, Sorted, searched, later_less}
use Rattle.orc_schema.proofs.SoundLists.{and_left, and_right}

-- what climbs is in order
lt_is : (o : Ordering) → is_lt o ≡ true → o ≡ Less
lt_is Less h = refl
lt_is Equal h = absurd (false≢true h)
lt_is Greater h = absurd (false≢true h)

behind_sorted : (x : Names) (more : List Names) → climbs_behind x more ≡ true → IsStrictlySortedBy names_cmp (x ∷ more)
unfolding IsStrictlySortedBy
behind_sorted x [] h = (tt, tt)
behind_sorted x (y ∷ ys) h =
    let less : names_cmp x y ≡ Less = lt_is (names_cmp x y) (and_left (is_lt (names_cmp x y)) (climbs_behind y ys) h) in
    let rest : IsStrictlySortedBy names_cmp (y ∷ ys) = behind_sorted y ys (and_right (is_lt (names_cmp x y)) (climbs_behind y ys) h) in
    ((less, later_less x y ys less (sorted_head names_cmp y ys rest)), rest)

pub climbs_sorted : (all : List Names) → climbs all ≡ true → IsStrictlySortedBy names_cmp all
unfolding IsStrictlySortedBy
climbs_sorted [] h = tt
climbs_sorted (x ∷ more) h = behind_sorted x more h

-- the names of the nodes are read through references to them
pub keys_lent : (ds : List (Bor Draft)) → map (λ (d : Bor Draft). d.now.names) ds ≡ names_of (lent ds)
keys_lent [] = refl
keys_lent (d ∷ ds) = ap (λ r. d.now.names ∷ r) (keys_lent ds)

pub find_lent : (k : Names) (ds : List (Bor Draft)) → node_in (lent ds) k ≡ option_map (λ d. d.now) (find (is_at (λ (d : Bor Draft). d.now.names) k) ds)
find_lent k [] = refl
find_lent k (d ∷ ds) = on (is_at (λ (d : Bor Draft). d.now.names) k d) refl (find_lent k ds)
  where
    on : (b : Bool) → is_at (λ (d : Bor Draft). d.now.names) k d ≡ b → node_in (lent ds) k ≡ option_map (λ d. d.now) (find (is_at (λ (d : Bor Draft). d.now.names) k) ds) → node_in (lent (d ∷ ds)) k ≡ option_map (λ d. d.now) (find (is_at (λ (d : Bor Draft). d.now.names) k) (d ∷ ds))
    on true is rest = ap (λ t. cond t (Some d.now) (node_in (lent ds) k)) is ∙ sym (ap (λ t. option_map (λ (d : Bor Draft). d.now) (cond t (Some d) (find (is_at (λ (d : Bor Draft). d.now.names) k) ds))) is)
    on false is rest = ap (λ t. cond t (Some d.now) (node_in (lent ds) k)) is ∙ rest ∙ sym (ap (λ t. option_map (λ (d : Bor Draft). d.now) (cond t (Some d) (find (is_at (λ (d : Bor Draft). d.now.names) k) ds))) is)

module _ (ds : List (Bor Draft)) (sorted : IsIndex ds) (k : Names) where
  abbrev in_order : Sorted (λ (d : Bor Draft). d.now.names) ds
  in_order = subst (IsStrictlySortedBy names_cmp) (sym (keys_lent ds)) sorted

  pub found_lent : (place : ℕ) (x : Bor Draft) → IsBinarySearchResult (λ (d : Bor Draft). names_cmp d.now.names k) ds (Ok place) → place < length ds → x ≡ get_or ds place x → Some x.now ≡ node_in (lent ds) k
  found_lent place x h within is = ap (λ (b : Bor Draft). Some b.now) is
      ∙ sym (find_lent k ds ∙ ap (option_map (λ d. d.now)) (searched (λ (d : Bor Draft). d.now.names) k ds (Ok place) in_order h within x))

  pub not_lent : (place : ℕ) → IsBinarySearchResult (λ (d : Bor Draft). names_cmp d.now.names k) ds (Err place) → place ≤ length ds → None ≡ node_in (lent ds) k
  not_lent place h within = sym (find_lent k ds ∙ ap (option_map (λ d. d.now)) (searched (λ (d : Bor Draft). d.now.names) k ds (Err place) in_order h within))
