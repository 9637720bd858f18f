-- The first place at which a test passes.
use Rattle.std.proofs.Common.{◌≡◌, ℕ, ◌+◌, ◌<◌, ◌≤◌, Bool, true, false, cond, nat_lt, List, [], ◌∷◌, ◌++◌, Option, None, Some, length, get_or, set, refl, sym, ap, subst, ◌∙◌, arith, length-set, lt-ltb, ltb-true, ltb-false}
use Rattle.std.specs.List.{position, position_or_len}
use Rattle.std.proofs.lemmas.List.{get_or_append_left, get_or_default, get_or_push, length-append}
use Rattle.std.proofs.lemmas.List.Folds.{position_or_len-set}
use Rattle.std.proofs.lemmas.List.Quantifiers.{position-Some}
use Rattle.std.proofs.lemmas.List.Sums.{fails_before_first, position_or_len_is}
use Rattle.std.proofs.lemmas.Option.{none-some}

module _ {X : Type 0} (p : X → Bool) where
  -- where a loop that looks for it ends
  pub first_at : (xs : List X) (i : ℕ) (x : X) → i < length xs → x ≡ get_or xs i x → p x ≡ true
      → ((k : ℕ) (d : X) → k < i → p (get_or xs k d) ≡ false) → i ≡ position_or_len p xs
  first_at xs i x within is passes fails =
      sym (position_or_len_is p xs i x (omega (arith, within)) (λ k below. fails k x below) (λ _. ap p (sym is) ∙ passes))

  pub none_at : (xs : List X) (i : ℕ) → length xs ≤ i → ((k : ℕ) (d : X) → k < i → p (get_or xs k d) ≡ false) → length xs ≡ position_or_len p xs
  none_at [] i end fails = refl
  none_at (x ∷ xs) i end fails =
      sym (position_or_len_is p (x ∷ xs) (length (x ∷ xs)) x (omega arith) (λ k below. fails k x (omega (arith, below, end))) (λ below. absurd (omega (arith, below))))

  at : (xs : List X) (i : ℕ) → i ≡ position_or_len p xs → i < length xs → position p xs ≡ Some i
  at xs i is within =
      subst (λ (n : ℕ). cond (nat_lt n (length xs)) (Some n) None ≡ Some i) is (ap (λ (b : Bool). cond b (Some i) None) (lt-ltb i (length xs) within))

  nowhere : (xs : List X) → length xs ≡ position_or_len p xs → position p xs ≡ None
  nowhere xs is = subst (λ (n : ℕ). cond (nat_lt n (length xs)) (Some n) None ≡ None) is (on (nat_lt (length xs) (length xs)) refl)
    where
      on : (b : Bool) → nat_lt (length xs) (length xs) ≡ b → cond b (Some (length xs)) None ≡ None
      on true e = absurd (let lt = ltb-true (length xs) (length xs) e in omega (arith, lt))
      on false e = refl

  pub found : (xs : List X) (i : ℕ) (x : X) → i < length xs → x ≡ get_or xs i x → p x ≡ true
      → ((k : ℕ) (d : X) → k < i → p (get_or xs k d) ≡ false) → Some i ≡ position p xs
  found xs i x within is passes fails = sym (at xs i (first_at xs i x within is passes fails) within)

  pub not_found : (xs : List X) (i : ℕ) → length xs ≤ i → ((k : ℕ) (d : X) → k < i → p (get_or xs k d) ≡ false) → None ≡ position p xs
  not_found xs i end fails = sym (nowhere xs (none_at xs i end fails))

  -- another element in its place that passes
  pub found_again : (xs : List X) (i : ℕ) (y : X) → position p xs ≡ Some i → p y ≡ true → position p (set xs i y) ≡ Some i
  found_again xs i y is passes = at (set xs i y) i (first ∙ sym (position_or_len-set p xs i y y (passes ∙ sym here.1))) (subst (λ (n : ℕ). i < n) (sym (simp length-set)) here.0)
    where
      here : (i < length xs) × (p (get_or xs i y) ≡ true) × ((k : ℕ) → k < i → p (get_or xs k y) ≡ false)
      here = position-Some p xs i y is

      first : i ≡ position_or_len p xs
      first = sym (position_or_len_is p xs i y (omega (arith, here.0)) here.2 (λ _. here.1))

  pub none_before : (xs : List X) → position p xs ≡ None → length xs ≤ position_or_len p xs
  none_before xs none = on (nat_lt (position_or_len p xs) (length xs)) refl
    where
      on : (b : Bool) → nat_lt (position_or_len p xs) (length xs) ≡ b → length xs ≤ position_or_len p xs
      on true e = absurd (none-some (position_or_len p xs) (sym none ∙ ap (λ (b : Bool). cond b (Some (position_or_len p xs)) None) e))
      on false e = ltb-false (position_or_len p xs) (length xs) e

  -- one more element that passes, where none did
  pub found_last : (xs : List X) (y : X) → position p xs ≡ None → p y ≡ true → position p (xs ++ y ∷ []) ≡ Some (length xs)
  found_last xs y none passes =
      at (xs ++ y ∷ []) (length xs)
      (first_at (xs ++ y ∷ []) (length xs) y (simp length-append (omega arith)) (sym (get_or_push xs y y (length xs) refl)) passes
      (λ k d below. ap p (get_or_append_left xs (y ∷ []) d k below)
      ∙ fails_before_first p xs k d (let long = none_before xs none in omega (arith, below, long))))
      (simp length-append (omega arith))

  -- one more element that doesn't pass
  pub found_before_last : (xs : List X) (y : X) → p y ≡ false → position p (xs ++ y ∷ []) ≡ position p xs
  found_before_last xs y fails = on (position p xs) refl
    where
      longer : length (xs ++ y ∷ []) ≡ length xs + 1
      longer = length-append xs (y ∷ [])

      left : (k : ℕ) (d : X) → k < length xs → get_or (xs ++ y ∷ []) k d ≡ get_or xs k d
      left k d below = get_or_append_left xs (y ∷ []) d k below

      on : (o : Option ℕ) → position p xs ≡ o → position p (xs ++ y ∷ []) ≡ o
      on (Some i) is = sym (found (xs ++ y ∷ []) i (get_or xs i y) (let more = longer in let within = here.0 in omega (arith, more, within))
          (sym (left i (get_or xs i y) here.0 ∙ get_or_default xs i (get_or xs i y) y here.0)) here.1
          (λ k d below. ap p (left k d (inside k below) ∙ get_or_default xs k d y (inside k below)) ∙ here.2 k below))
        where
          here : (i < length xs) × (p (get_or xs i y) ≡ true) × ((k : ℕ) → k < i → p (get_or xs k y) ≡ false)
          here = position-Some p xs i y is

          inside : (k : ℕ) → k < i → k < length xs
          inside k below = let within = here.0 in omega (arith, below, within)
      on None is = sym (not_found (xs ++ y ∷ []) (length (xs ++ y ∷ [])) (omega arith) (λ k d below. each k d below (nat_lt k (length xs)) refl))
        where
          each : (k : ℕ) (d : X) → k < length (xs ++ y ∷ []) → (b : Bool) → nat_lt k (length xs) ≡ b → p (get_or (xs ++ y ∷ []) k d) ≡ false
          each k d below true e = ap p (left k d (ltb-true k (length xs) e))
              ∙ fails_before_first p xs k d (let long = none_before xs is in let low = ltb-true k (length xs) e in omega (arith, low, long))
          each k d below false e =
              let more = longer in
              let high = ltb-false k (length xs) e in
              let end : length xs ≡ k = omega (arith, below, more, high) in
              ap p (get_or_push xs y d k end) ∙ fails
