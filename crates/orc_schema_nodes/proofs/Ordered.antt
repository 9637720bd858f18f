-- What a search finds in a list in the order of names.
use Rattle.std.proofs.Common.{◌≡◌, refl, sym, ◌∙◌, ap, subst, List, [], ◌∷◌, map, ℕ, zero, suc, ◌<◌, ◌≤◌, inl, inr, ⊎_elim, length, get_or, Bool, true, false, cond, arith}
use Rattle.std.specs.Prelude.{◌⊎◌, Option, Some, None, Result, Ok, Err, MatchResult}
use Rattle.std.specs.List.{find, AllByRecursion}
use Rattle.std.specs.Option.{option_map_or}
use Rattle.std.specs.List.Sorted.{IsStrictlySortedBy, IsBinarySearchResult, IsNonDecreasingBy, IsPartitionPoint, IsPermutation}
use Rattle.std.specs.Ordering.{ordering_index, ordering_reverse, eq_by_cmp, is_eq}
use Rattle.std.specs.declared.cmp.Ordering.{Ordering}
use Rattle.std.specs.declared.cmp.Ordering.TheVariants.{Less, Equal, Greater}
use Rattle.std.specs.Cmp.{IsTotalOrder}
use Rattle.std.specs.Cmp.Lexicographic.{slice_cmp, lists_total, lists_ties, nat_list_cmp_total, texts_ties}
use Rattle.std.specs.Ordering.{nat_cmp}
use Rattle.std.proofs.lemmas.Map.Keys.{sorted_head, sorted_tail}
use Rattle.std.proofs.lemmas.Bool.{cases_lt, false≢true}
use Rattle.std.proofs.lemmas.List.Elements.{All-from_recursion, recursion_from_All}
use Rattle.std.proofs.lemmas.List.Sorted.{All-permutation, IsPermutation-sym}
use Rattle.orc_schema_nodes.specs.Names.{names_cmp, same_names}
use Rattle.orc_schema_nodes.specs.Schemas.{Ascends}

abbrev pub Names : Type 0
Names = List (List ℕ)

pub names_total : IsTotalOrder names_cmp
names_total = lists_total nat_list_cmp_total

pub same_is : (x y : Names) → same_names x y ≡ eq_by_cmp names_cmp x y
same_is = lists_ties (slice_cmp nat_cmp) texts_ties

-- what is less than an equal one is less
pub less_before : (x y k : Names) → names_cmp x y ≡ Less → names_cmp y k ≡ Equal → names_cmp x k ≡ Less
less_before x y k less equal = names_total.antisymm x k
    ∙ ap ordering_reverse (sym (names_total.congr y k x equal) ∙ names_total.antisymm y x ∙ ap ordering_reverse less)

index_most : (o : Ordering) → ordering_index o ≤ 2
index_most Less = omega arith
index_most Equal = omega arith
index_most Greater = omega arith

module _ {X : Type 0} (key : X → Names) where
  abbrev pub Sorted : List X → Type 0
  Sorted xs = IsStrictlySortedBy names_cmp (map key xs)

  pub head_less : (x : X) (xs : List X) (i : ℕ) (d : X) → AllByRecursion (λ y. names_cmp (key x) y ≡ Less) (map key xs) → i < length xs → names_cmp (key x) (key (get_or xs i d)) ≡ Less
  head_less x [] i d all below = absurd (omega arith)
  head_less x (y ∷ ys) zero d all below = all.0
  head_less x (y ∷ ys) (suc i) d all below = head_less x ys i d all.1 (omega arith)

  module _ (k : Names) where
    abbrev pub is_at : X → Bool
    is_at x = same_names (key x) k

    abbrev pub order_at : X → Ordering
    order_at x = names_cmp (key x) k

    pub pick : (x : X) (xs : List X) (b : Bool) → is_at x ≡ b → find is_at (x ∷ xs) ≡ cond b (Some x) (find is_at xs)
    pick x xs b is = ap (λ t. cond t (Some x) (find is_at xs)) is

    pub found : (xs : List X) (i : ℕ) (d : X) → Sorted xs → i < length xs → order_at (get_or xs i d) ≡ Equal → find is_at xs ≡ Some (get_or xs i d)
    found [] i d s below equal = absurd (omega arith)
    found (x ∷ xs) zero d s below equal = pick x xs true (same_is (key x) k ∙ ap is_eq equal)
    found (x ∷ xs) (suc i) d s below equal =
        let b : i < length xs = omega arith in
        pick x xs false (same_is (key x) k ∙ ap is_eq (less_before (key x) (key (get_or xs i d)) k (head_less x xs i d (sorted_head names_cmp (key x) (map key xs) s) b) equal))
        ∙ found xs i d (sorted_tail names_cmp (key x) (map key xs) s) b equal

    pub not_found : (xs : List X) → ((i : ℕ) (d : X) → i < length xs → is_eq (order_at (get_or xs i d)) ≡ false) → find is_at xs ≡ None
    not_found [] h = refl
    not_found (x ∷ xs) h = pick x xs false (same_is (key x) k ∙ h 0 x (omega arith)) ∙ not_found xs (λ i d below. h (suc i) d (omega (arith, below)))

    -- the order of a key that stands before another
    first_rises : (x y : Names) (o : Ordering) → names_cmp y k ≡ o → names_cmp x y ≡ Less → ordering_index (names_cmp x k) ≤ ordering_index o
    first_rises x y Less is less = subst (λ a. ordering_index a ≤ 0) (sym (names_total.trans x y k less is)) (omega arith)
    first_rises x y Equal is less = subst (λ a. ordering_index a ≤ 1) (sym (less_before x y k less is)) (omega arith)
    first_rises x y Greater is less = index_most (names_cmp x k)

    pub rises : (xs : List X) → Sorted xs → IsNonDecreasingBy (λ x. ordering_index (order_at x)) xs
    rises [] s i j d le below = absurd (omega arith)
    rises (x ∷ xs) s zero zero d le below = omega arith
    rises (x ∷ xs) s zero (suc j) d le below =
        first_rises (key x) (key (get_or xs j d)) (order_at (get_or xs j d)) refl (head_less x xs j d (sorted_head names_cmp (key x) (map key xs) s) (omega arith))
    rises (x ∷ xs) s (suc i) zero d le below = absurd (omega arith)
    rises (x ∷ xs) s (suc i) (suc j) d le below = rises xs (sorted_tail names_cmp (key x) (map key xs) s) i j d (omega arith) (omega arith)

    apart : (o : Ordering) → (o ≡ Less) ⊎ (o ≡ Greater) → is_eq o ≡ false
    apart o (inl less) = ap is_eq less
    apart o (inr greater) = ap is_eq greater

    on_a_side : (xs : List X) (i : ℕ) → IsPartitionPoint (λ y. order_at y ≡ Less) (λ y. order_at y ≡ Greater) xs i
        → (j : ℕ) (d : X) → j < length xs → (j < i) ⊎ (i ≤ j) → (order_at (get_or xs j d) ≡ Less) ⊎ (order_at (get_or xs j d) ≡ Greater)
    on_a_side xs i parts j d below (inl before) = inl (parts.0 j d (omega arith) before)
    on_a_side xs i parts j d below (inr behind) = inr (parts.1 j d behind below)

    pub searched : (xs : List X) (r : Result ℕ ℕ) → Sorted xs → IsBinarySearchResult order_at xs r → MatchResult r (λ i. i < length xs) (λ i. i ≤ length xs)
        → MatchResult r (λ i. (d : X) → find is_at xs ≡ Some (get_or xs i d)) (λ i. find is_at xs ≡ None)
    searched xs (Ok i) s h within = λ d. found xs i d s within (h d)
    searched xs (Err i) s h within =
        not_found xs (λ j d below. apart (order_at (get_or xs j d)) (on_a_side xs i (h (rises xs s)) j d below (cases_lt j i)))

pub some_is : {X : Type 0} (d x y : X) → Some x ≡ Some y → x ≡ y
some_is d x y h = ap (λ (o : Option _). option_map_or (λ z. z) o d) h

abbrev pub is_none : {X : Type 0} → Option X → Bool
is_none None = true
is_none (Some x) = false

-- what a test finds, alone
module _ {X : Type 0} (p : X → Bool) where
  abbrev Fail : List X → Type 0
  Fail xs = AllByRecursion (λ x. p x ≡ false) xs

  pub all_fail : (xs : List X) → Fail xs → find p xs ≡ None
  all_fail [] h = refl
  all_fail (x ∷ xs) h = ap (λ t. cond t (Some x) (find p xs)) h.0 ∙ all_fail xs h.1

  pub fail_all : (xs : List X) → find p xs ≡ None → Fail xs
  fail_all [] h = tt
  fail_all (x ∷ xs) h = on (p x) refl h (fail_all xs)
    where
      on : (b : Bool) → p x ≡ b → cond b (Some x) (find p xs) ≡ None → (find p xs ≡ None → Fail xs) → Fail (x ∷ xs)
      on true is h rest = absurd (false≢true (ap is_none h))
      on false is h rest = (is, rest h)

  abbrev Alone : X → List X → Type 0
  Alone y xs = AllByRecursion (λ x. p x ≡ true → x ≡ y) xs

  pub alone_or_none : (y : X) (xs : List X) → Alone y xs → (find p xs ≡ None) ⊎ (find p xs ≡ Some y)
  alone_or_none y [] h = inl refl
  alone_or_none y (x ∷ xs) h = on (p x) refl (alone_or_none y xs h.1)
    where
      on : (b : Bool) → p x ≡ b → (find p xs ≡ None) ⊎ (find p xs ≡ Some y) → (find p (x ∷ xs) ≡ None) ⊎ (find p (x ∷ xs) ≡ Some y)
      on true is rest = inr (ap (λ t. cond t (Some x) (find p xs)) is ∙ ap Some (h.0 is))
      on false is (inl none) = inl (ap (λ t. cond t (Some x) (find p xs)) is ∙ none)
      on false is (inr some) = inr (ap (λ t. cond t (Some x) (find p xs)) is ∙ some)

  pub fail_alone : (y : X) (xs : List X) → Fail xs → Alone y xs
  fail_alone y [] h = tt
  fail_alone y (x ∷ xs) h = ((λ is. absurd (false≢true (sym h.0 ∙ is))), fail_alone y xs h.1)

  -- lists with the same elements, of which the second has one at most that passes
  pub find_shuffled : (xs ys : List X) → IsPermutation xs ys → ((y : X) → find p ys ≡ Some y → Alone y ys) → find p xs ≡ find p ys
  find_shuffled xs ys shuffled alone = on (find p ys) refl
    where
      on : (o : Option X) → find p ys ≡ o → find p xs ≡ o
      on None is = all_fail xs (recursion_from_All (λ x. p x ≡ false) xs (All-permutation (λ x. p x ≡ false) ys xs (IsPermutation-sym xs ys shuffled) (All-from_recursion (λ x. p x ≡ false) ys (fail_all ys is))))
      on (Some y) is = ⊎_elim (λ none. absurd (false≢true (ap is_none (sym is ∙ all_fail ys (recursion_from_All (λ x. p x ≡ false) ys (All-permutation (λ x. p x ≡ false) xs ys shuffled (All-from_recursion (λ x. p x ≡ false) xs (fail_all xs none)))))))) (λ some. some)
          (alone_or_none y xs (recursion_from_All (λ x. p x ≡ true → x ≡ y) xs (All-permutation (λ x. p x ≡ true → x ≡ y) ys xs (IsPermutation-sym xs ys shuffled) (All-from_recursion (λ x. p x ≡ true → x ≡ y) ys (alone y is)))))

module _ {X : Type 0} (key : X → Names) (k : Names) where
  greater_behind : (x y : Names) → names_cmp x y ≡ Less → names_cmp x k ≡ Equal → is_eq (names_cmp y k) ≡ false
  greater_behind x y less equal = ap is_eq (names_total.antisymm y k ∙ ap ordering_reverse (sym (names_total.congr x k y equal) ∙ less))

  pub others_fail : (x : X) (xs : List X) → AllByRecursion (λ y. names_cmp (key x) y ≡ Less) (map key xs) → names_cmp (key x) k ≡ Equal → AllByRecursion (λ y. is_at key k y ≡ false) xs
  others_fail x [] all equal = tt
  others_fail x (y ∷ ys) all equal = (same_is (key y) k ∙ greater_behind (key x) (key y) all.0 equal, others_fail x ys all.1 equal)

  pub equal_is : (o : Ordering) → is_eq o ≡ true → o ≡ Equal
  equal_is Less h = absurd (false≢true h)
  equal_is Equal h = refl
  equal_is Greater h = absurd (false≢true h)

  pub sorted_alone : (xs : List X) → Sorted key xs → (y : X) → find (is_at key k) xs ≡ Some y → AllByRecursion (λ x. is_at key k x ≡ true → x ≡ y) xs
  sorted_alone [] s y h = tt
  sorted_alone (x ∷ xs) s y h = on (is_at key k x) refl h (sorted_alone xs (sorted_tail names_cmp (key x) (map key xs) s) y)
    where
      on : (b : Bool) → is_at key k x ≡ b → cond b (Some x) (find (is_at key k) xs) ≡ Some y
          → (find (is_at key k) xs ≡ Some y → AllByRecursion (λ z. is_at key k z ≡ true → z ≡ y) xs) → AllByRecursion (λ z. is_at key k z ≡ true → z ≡ y) (x ∷ xs)
      on true is h rest = ((λ t. some_is x x y h), fail_alone (is_at key k) y xs (others_fail x xs (sorted_head names_cmp (key x) (map key xs) s) (equal_is (names_cmp (key x) k) (sym (same_is (key x) k) ∙ is))))
      on false is h rest = ((λ t. absurd (false≢true (sym is ∙ t))), rest h)

  pub find_sorted : (xs ys : List X) → IsPermutation xs ys → Sorted key ys → find (is_at key k) xs ≡ find (is_at key k) ys
  find_sorted xs ys shuffled s = find_shuffled (is_at key k) xs ys shuffled (sorted_alone ys s)

-- what is less than a first one is less than all after it
pub later_less : (x y : Names) (more : List Names) → names_cmp x y ≡ Less → AllByRecursion (λ z. names_cmp y z ≡ Less) more → AllByRecursion (λ z. names_cmp x z ≡ Less) more
later_less x y [] less all = tt
later_less x y (z ∷ zs) less all = (names_total.trans x y z less all.0, later_less x y zs less all.1)

pub none_ascends : Ascends []
unfolding IsStrictlySortedBy
none_ascends = tt
