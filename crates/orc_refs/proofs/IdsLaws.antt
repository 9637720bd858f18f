-- Ids that are entered and filtered.
use Rattle.std.proofs.Common.{◌≡◌, ℕ, ◌+◌, ◌<◌, Bool, true, false, cond, ◌&&◌, ◌||◌, List, [], ◌∷◌, ◌++◌, length, take, drop, get_or, refl, sym, ap, subst, ◌∙◌}
use Rattle.std.specs.declared.cmp.Ordering.{Ordering}
use Rattle.std.specs.declared.cmp.Ordering.TheVariants.{Less, Equal, Greater}
use Rattle.std.specs.Ordering.{is_lt, ordering_reverse}
use Rattle.std.specs.List.{filter}
use Rattle.std.specs.Cmp.{first_so, second_so}
use Rattle.std.specs.Cmp.Lexicographic.{bytes_decides, nat_list_cmp_total}
use Rattle.std.specs.FinMap.{nat_cmp-IsAntisymmetric, slice_cmp-IsAntisymmetric}
use Rattle.std.specs.FinMap.Entries.{by_order}
use Rattle.std.proofs.lemmas.List.{append_assoc, drop_more, take_more}
use Rattle.std.proofs.lemmas.Map.Views.{any-filter_same}
use Rattle.orc_path.specs.Order.{text_cmp}
use Rattle.orc_tree.proofs.Pieces.{lt_is}
use Rattle.orc_refs.specs.Ids.{is_id, holds_id, comes_before, are_rising}
use Rattle.orc_refs.specs.inside.Settling.{enter_id}

-- ids that tie are equal
pub same_id : (a b : List ℕ) → text_cmp a b ≡ Equal → a ≡ b
same_id = slice_cmp-IsAntisymmetric nat_cmp-IsAntisymmetric

pub both : (a b : Bool) → a ≡ true → b ≡ true → (a && b) ≡ true
both true b p q = q
both false b p q = p

or_twice : (a b : Bool) → (a || b) ≡ (a || (a || b))
or_twice true b = refl
or_twice false b = refl

or_turned : (a b c : Bool) → (a || (b || c)) ≡ (b || (a || c))
or_turned true true c = refl
or_turned true false c = refl
or_turned false b c = refl

-- an id is among those with one more where it is that one or was among them
pub holds_id-enter : (y id : List ℕ) (xs : List (List ℕ)) → holds_id y (enter_id id xs) ≡ (is_id id y || holds_id y xs)
holds_id-enter y id [] = refl
holds_id-enter y id (x ∷ xs) = by (holds_id-enter y id xs) (text_cmp id x) refl
  where
    by : holds_id y (enter_id id xs) ≡ (is_id id y || holds_id y xs) → (o : Ordering) → text_cmp id x ≡ o
        → holds_id y (by_order o (id ∷ x ∷ xs) (x ∷ xs) (x ∷ enter_id id xs)) ≡ (is_id id y || (is_id x y || holds_id y xs))
    by rest Less is = refl
    by rest Equal is = or_twice (is_id x y) (holds_id y xs) ∙ ap (λ (z : List ℕ). is_id z y || (is_id x y || holds_id y xs)) (sym (same_id id x is))
    by rest Greater is = ap (λ b. is_id x y || b) rest ∙ or_turned (is_id x y) (is_id id y) (holds_id y xs)

before-less : (x y : List ℕ) (xs : List (List ℕ)) → text_cmp x y ≡ Less → comes_before y xs ≡ true → comes_before x xs ≡ true
before-less x y [] l h = refl
before-less x y (z ∷ zs) l h =
    both _ _ (ap is_lt (nat_list_cmp_total.trans x y z l (lt_is (text_cmp y z) (first_so _ _ h)))) (before-less x y zs l (second_so _ _ h))

before-enter : (x id : List ℕ) (xs : List (List ℕ)) → text_cmp x id ≡ Less → comes_before x xs ≡ true → comes_before x (enter_id id xs) ≡ true
before-enter x id [] l h = both _ _ (ap is_lt l) refl
before-enter x id (y ∷ ys) l h = by (before-enter x id ys l (second_so _ _ h)) (text_cmp id y)
  where
    by : comes_before x (enter_id id ys) ≡ true → (o : Ordering) → comes_before x (by_order o (id ∷ y ∷ ys) (y ∷ ys) (y ∷ enter_id id ys)) ≡ true
    by rest Less = both _ _ (ap is_lt l) h
    by rest Equal = h
    by rest Greater = both _ _ (first_so _ _ h) rest

-- they stay in order
pub rising-enter : (id : List ℕ) (xs : List (List ℕ)) → are_rising xs ≡ true → are_rising (enter_id id xs) ≡ true
rising-enter id [] h = refl
rising-enter id (x ∷ xs) h = by (rising-enter id xs (second_so _ _ h)) (text_cmp id x) refl
  where
    by : are_rising (enter_id id xs) ≡ true → (o : Ordering) → text_cmp id x ≡ o → are_rising (by_order o (id ∷ x ∷ xs) (x ∷ xs) (x ∷ enter_id id xs)) ≡ true
    by rest Less is = both _ _ (both _ _ (ap is_lt is) (before-less id x xs is (first_so _ _ h))) h
    by rest Equal is = h
    by rest Greater is =
        both _ _ (before-enter x id xs (nat_list_cmp_total.antisymm x id ∙ ap ordering_reverse is) (first_so _ _ h)) rest

before-filter : (p : List ℕ → Bool) (x : List ℕ) (xs : List (List ℕ)) → comes_before x xs ≡ true → comes_before x (filter p xs) ≡ true
before-filter p x [] h = refl
before-filter p x (y ∷ ys) h =
    let rest = before-filter p x ys (second_so _ _ h) in
    elim (p y) as (λ b. comes_before x (cond b (y ∷ filter p ys) (filter p ys)) ≡ true) [ true ↦ both _ _ (first_so _ _ h) rest | false ↦ rest ]

pub rising-filter : (p : List ℕ → Bool) (xs : List (List ℕ)) → are_rising xs ≡ true → are_rising (filter p xs) ≡ true
rising-filter p [] h = refl
rising-filter p (x ∷ xs) h =
    let rest = rising-filter p xs (second_so _ _ h) in
    elim (p x) as (λ b. are_rising (cond b (x ∷ filter p xs) (filter p xs)) ≡ true) [ true ↦ both _ _ (before-filter p x xs (first_so _ _ h)) rest | false ↦ rest ]

-- an id is among those that pass a test where it passes and was among them
pub holds_id-filter : (p : List ℕ → Bool) (y : List ℕ) (xs : List (List ℕ)) → holds_id y (filter p xs) ≡ (p y && holds_id y xs)
holds_id-filter p y xs = any-filter_same (λ x. is_id x y) p (p y) (λ k e. ap p ((bytes_decides k y).0 e)) xs

-- something is entered
pub enters_some : (id : List ℕ) (xs : List (List ℕ)) → enter_id id xs ≡ [] → ⊥
enters_some id [] e = let not_so : ⊥ = cc in not_so
enters_some id (x ∷ xs) e = by (text_cmp id x) e
  where
    by : (o : Ordering) → by_order o (id ∷ x ∷ xs) (x ∷ xs) (x ∷ enter_id id xs) ≡ [] → ⊥
    by Less e = let not_so : ⊥ = cc in not_so
    by Equal e = let not_so : ⊥ = cc in not_so
    by Greater e = let not_so : ⊥ = cc in not_so

first_left : (ids : List (List ℕ)) (at : ℕ) (x : List ℕ) → at < length ids → x ≡ get_or ids at x → drop at ids ≡ x ∷ drop (at + 1) ids
first_left ids at x l is = drop_more ids at x l ∙ ap (λ (y : List ℕ). y ∷ drop (at + 1) ids) (sym is)

-- the id at a place of ids that are the same
pub same_at : (held ids : List (List ℕ)) (at : ℕ) (x : List ℕ) → held ≡ ids → at < length held → x ≡ get_or held at x → (at < length ids) × (x ≡ get_or ids at x)
same_at held ids at x same l is = (subst (λ (r : List (List ℕ)). at < length r) same l, subst (λ (r : List (List ℕ)). x ≡ get_or r at x) same is)

-- an id that comes before the one at a place is entered there
pub enter_less : (ids : List (List ℕ)) (at : ℕ) (id x : List ℕ) → at < length ids → x ≡ get_or ids at x → text_cmp id x ≡ Less → enter_id id (drop at ids) ≡ id ∷ drop at ids
enter_less ids at id x l is less =
    ap (enter_id id) (first_left ids at x l is)
    ∙ ap (λ o. by_order o (id ∷ x ∷ drop (at + 1) ids) (x ∷ drop (at + 1) ids) (x ∷ enter_id id (drop (at + 1) ids))) less
    ∙ ap (λ l. id ∷ l) (sym (first_left ids at x l is))

-- one that ties with it is there
pub enter_equal : (ids : List (List ℕ)) (at : ℕ) (id x : List ℕ) → at < length ids → x ≡ get_or ids at x → text_cmp id x ≡ Equal → enter_id id (drop at ids) ≡ drop at ids
enter_equal ids at id x l is equal =
    ap (enter_id id) (first_left ids at x l is)
    ∙ ap (λ o. by_order o (id ∷ x ∷ drop (at + 1) ids) (x ∷ drop (at + 1) ids) (x ∷ enter_id id (drop (at + 1) ids))) equal
    ∙ sym (first_left ids at x l is)

-- and one that comes after it is entered further on
pub enter_greater : (ids : List (List ℕ)) (at : ℕ) (id x : List ℕ) → at < length ids → x ≡ get_or ids at x → text_cmp id x ≡ Greater
    → take at ids ++ enter_id id (drop at ids) ≡ take (at + 1) ids ++ enter_id id (drop (at + 1) ids)
enter_greater ids at id x l is greater =
    ap (λ r. take at ids ++ r)
    (ap (enter_id id) (first_left ids at x l is)
    ∙ ap (λ o. by_order o (id ∷ x ∷ drop (at + 1) ids) (x ∷ drop (at + 1) ids) (x ∷ enter_id id (drop (at + 1) ids))) greater)
    ∙ sym (append_assoc (take at ids) (x ∷ []) (enter_id id (drop (at + 1) ids)))
    ∙ ap (λ t. t ++ enter_id id (drop (at + 1) ids)) (ap (λ (y : List ℕ). take at ids ++ y ∷ []) is ∙ sym (take_more ids at x l))
