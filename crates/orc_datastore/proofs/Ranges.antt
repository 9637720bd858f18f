-- The numbers from 0 on that pass a test.
use Rattle.std.proofs.Common.{◌≡◌, ℕ, zero, suc, ◌+◌, ◌<◌, Bool, true, false, cond, List, [], ◌∷◌, ◌++◌, refl, sym, ap, ◌∙◌, append-nil, arith}
use Rattle.std.specs.List.{filter, range_with_len}
use Rattle.std.proofs.lemmas.List.Elements.{filter-append}

range_more : (a n b : ℕ) → a + n ≡ b → range_with_len a (suc n) ≡ range_with_len a n ++ b ∷ []
range_more a zero b e = let same : a ≡ b = omega arith in ap (λ x. x ∷ []) same
range_more a (suc n) b e = ap (λ (l : List ℕ). a ∷ l) (range_more (a + 1) n b (omega arith))

kept : (p : ℕ → Bool) (d : ℕ) → filter p (d ∷ []) ≡ cond (p d) (d ∷ []) []
kept p d = refl

filter-more : (p : ℕ → Bool) (d : ℕ) → filter p (range_with_len 0 (d + 1)) ≡ filter p (range_with_len 0 d) ++ cond (p d) (d ∷ []) []
filter-more p d =
    let on : d + 1 ≡ suc d = omega arith in
    ap (λ n. filter p (range_with_len 0 n)) on ∙ ap (filter p) (range_more 0 d d (omega arith)) ∙ filter-append p (range_with_len 0 d) (d ∷ [])

-- one number more, which passes
pub filter-more_yes : (p : ℕ → Bool) (d : ℕ) (test : Bool) (list new : List ℕ) → test ≡ p d → test ≡ true → list ≡ filter p (range_with_len 0 d)
    → new ≡ list ++ d ∷ [] → new ≡ filter p (range_with_len 0 (d + 1))
filter-more_yes p d test list new is passes so more =
    more ∙ ap (λ (l : List ℕ). l ++ d ∷ []) so
    ∙ ap (λ b. filter p (range_with_len 0 d) ++ cond b (d ∷ []) []) (sym passes ∙ is) ∙ sym (filter-more p d)

-- one number more, which does not
pub filter-more_no : (p : ℕ → Bool) (d : ℕ) (test : Bool) (list : List ℕ) → test ≡ p d → test ≡ false → list ≡ filter p (range_with_len 0 d)
    → list ≡ filter p (range_with_len 0 (d + 1))
filter-more_no p d test list is fails so =
    so ∙ sym (append-nil (filter p (range_with_len 0 d)))
    ∙ ap (λ b. filter p (range_with_len 0 d) ++ cond b (d ∷ []) []) (sym fails ∙ is) ∙ sym (filter-more p d)

-- where two tests agree on all of them
pub filter_in : (p q : ℕ → Bool) (k n : ℕ) → ((d : ℕ) → d < k + n → p d ≡ q d) → filter p (range_with_len k n) ≡ filter q (range_with_len k n)
filter_in p q k zero h = refl
filter_in p q k (suc n) h =
    ap (λ t. cond t (k ∷ filter p (range_with_len (k + 1) n)) (filter p (range_with_len (k + 1) n))) (h k (omega arith))
    ∙ ap (λ l. cond (q k) (k ∷ l) l) (filter_in p q (k + 1) n (λ d less. h d (omega (arith, less))))
