-- Filters and tests of lists.
use Rattle.std.proofs.Common.{◌≡◌, Bool, true, false, cond, not, ◌||◌, List, [], ◌∷◌, All, refl, sym, ap, ◌∙◌, arith}
use Rattle.std.specs.List.{filter, fold, list_any, Contains}
use Rattle.std.proofs.lemmas.List.Elements.{All-nil, All-cons, All-tail, All-contains, All-contains_itself, All-filter}

pub or_first : (a b : Bool) → (a || b) ≡ false → a ≡ false
or_first true b e = e
or_first false b e = refl

pub or_true : (a b : Bool) → b ≡ true → (a || b) ≡ true
or_true true b h = refl
or_true false b h = h

pub or_second : (a b : Bool) → (a || b) ≡ false → b ≡ false
or_second true b e = absurd cc
or_second false b e = e

pub not_true : (b : Bool) → not b ≡ true → b ≡ false
not_true true e = cc
not_true false e = refl

pub true_not_false : true ≡ false → ⊥
true_not_false e = cc

-- of what fails one test, what fails another
pub filter_neither : {X : Type 0} (p q : X → Bool) (xs : List X)
    → filter (λ x. not (q x)) (filter (λ x. not (p x)) xs) ≡ filter (λ x. not (p x || q x)) xs
filter_neither p q [] = refl
filter_neither p q (x ∷ xs) = on (filter_neither p q xs) (p x)
  where
    on : filter (λ y. not (q y)) (filter (λ y. not (p y)) xs) ≡ filter (λ y. not (p y || q y)) xs → (t : Bool)
        → filter (λ y. not (q y)) (cond (not t) (x ∷ filter (λ y. not (p y)) xs) (filter (λ y. not (p y)) xs))
        ≡ cond (not (t || q x)) (x ∷ filter (λ y. not (p y || q y)) xs) (filter (λ y. not (p y || q y)) xs)
    on rest true = rest
    on rest false = ap (λ l. cond (not (q x)) (x ∷ l) l) rest

-- two tests in either order
pub filter-filter : {X : Type 0} (p q : X → Bool) (xs : List X) → filter p (filter q xs) ≡ filter q (filter p xs)
filter-filter p q [] = refl
filter-filter p q (x ∷ xs) = on (filter-filter p q xs) (p x) (q x) refl refl
  where
    on : filter p (filter q xs) ≡ filter q (filter p xs) → (a b : Bool) → p x ≡ a → q x ≡ b
        → filter p (cond b (x ∷ filter q xs) (filter q xs)) ≡ filter q (cond a (x ∷ filter p xs) (filter p xs))
    on h true true e f =
        ap (λ t. cond t (x ∷ filter p (filter q xs)) (filter p (filter q xs))) e ∙ ap (λ l. x ∷ l) h
        ∙ ap (λ t. cond t (x ∷ filter q (filter p xs)) (filter q (filter p xs))) (sym f)
    on h true false e f = h ∙ ap (λ t. cond t (x ∷ filter q (filter p xs)) (filter q (filter p xs))) (sym f)
    on h false true e f = ap (λ t. cond t (x ∷ filter p (filter q xs)) (filter p (filter q xs))) e ∙ h
    on h false false e f = h

-- tests that agree on a list
pub filter_agree : {X : Type 0} (p q : X → Bool) (xs : List X) → All (λ x. p x ≡ q x) xs → filter p xs ≡ filter q xs
filter_agree p q [] h = refl
filter_agree p q (x ∷ xs) h =
    ap (λ t. cond t (x ∷ filter p xs) (filter p xs)) (h 0 x (omega arith))
    ∙ ap (λ l. cond (q x) (x ∷ l) l) (filter_agree p q xs (All-tail (λ y. p y ≡ q y) x xs h))

-- what all pass
pub filter_all : {X : Type 0} (p : X → Bool) (xs : List X) → All (λ x. p x ≡ true) xs → filter p xs ≡ xs
filter_all p [] h = refl
filter_all p (x ∷ xs) h =
    ap (λ t. cond t (x ∷ filter p xs) (filter p xs)) (h 0 x (omega arith))
    ∙ ap (λ l. x ∷ l) (filter_all p xs (All-tail (λ y. p y ≡ true) x xs h))

-- what none passes
pub filter_none : {X : Type 0} (p : X → Bool) (xs : List X) → All (λ x. p x ≡ false) xs → filter p xs ≡ []
filter_none p [] h = refl
filter_none p (x ∷ xs) h =
    ap (λ t. cond t (x ∷ filter p xs) (filter p xs)) (h 0 x (omega arith))
    ∙ filter_none p xs (All-tail (λ y. p y ≡ false) x xs h)

pub filter_nil : {X : Type 0} (p : X → Bool) (xs : List X) → filter p xs ≡ [] → All (λ x. p x ≡ false) xs
filter_nil p [] h = All-nil (λ x. p x ≡ false)
filter_nil p (x ∷ xs) h = on (filter_nil p xs) (p x) refl
  where
    on : (filter p xs ≡ [] → All (λ y. p y ≡ false) xs) → (t : Bool) → p x ≡ t → All (λ y. p y ≡ false) (x ∷ xs)
    on rest true e = let kept : x ∷ filter p xs ≡ [] = sym (ap (λ t. cond t (x ∷ filter p xs) (filter p xs)) e) ∙ h in cc
    on rest false e = All-cons (λ y. p y ≡ false) x xs e (rest (sym (ap (λ t. cond t (x ∷ filter p xs) (filter p xs)) e) ∙ h))

pub filter_passes : {X : Type 0} (p : X → Bool) (xs : List X) → All (λ x. p x ≡ true) (filter p xs)
filter_passes p [] = All-nil (λ x. p x ≡ true)
filter_passes p (x ∷ xs) = on (filter_passes p xs) (p x) refl
  where
    on : All (λ y. p y ≡ true) (filter p xs) → (t : Bool) → p x ≡ t → All (λ y. p y ≡ true) (cond t (x ∷ filter p xs) (filter p xs))
    on rest true is = All-cons (λ y. p y ≡ true) x (filter p xs) is rest
    on rest false is = rest

-- what passes is in the list
pub filter_from : {X : Type 0} (p : X → Bool) (xs : List X) (x : X) → Contains (filter p xs) x → Contains xs x
filter_from p xs x c = All-contains (Contains xs) (filter p xs) x (All-filter p (Contains xs) xs (All-contains_itself xs)) c

pub passes : {X : Type 0} (p : X → Bool) (xs : List X) (x : X) → Contains (filter p xs) x → p x ≡ true
passes p xs x c = All-contains (λ y. p y ≡ true) (filter p xs) x (filter_passes p xs) c

pub any_none : {X : Type 0} (p : X → Bool) (xs : List X) → list_any p xs ≡ false → All (λ x. p x ≡ false) xs
any_none p [] h = All-nil (λ x. p x ≡ false)
any_none p (x ∷ xs) h =
    All-cons (λ y. p y ≡ false) x xs (or_first (p x) (list_any p xs) h) (any_none p xs (or_second (p x) (list_any p xs) h))

-- two folds whose steps agree
pub fold_agree : {A B : Type 0} (f g : B → A → B) (b : B) (xs : List A) → ((y : B) (x : A) → f y x ≡ g y x) → fold f b xs ≡ fold g b xs
fold_agree f g b [] h = refl
fold_agree f g b (x ∷ xs) h = ap (λ y. fold f y xs) (h b x) ∙ fold_agree f g (g b x) xs h
