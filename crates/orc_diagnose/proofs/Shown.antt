-- The first characters of a text, one more and at the end.
use Rattle.std.proofs.Common.{◌≡◌, ℕ, zero, suc, ◌+◌, ◌-◌, ◌<◌, List, ◌++◌, length, get_or, drop, codes, sym, ap, refl, ◌≤◌, ◌∙◌, append_assoc, append-nil, arith}
use Rattle.std.proofs.lemmas.List.{at_drop_more, at_drop_all}
use Rattle.orc_diagnose.specs.Quoted.{first_shown, shown_character}

pub first_shown-more : (cs : List ℕ) (n c k : ℕ) → (n < length cs) × (c ≡ get_or cs n c)
    → first_shown (suc k) (drop n cs) ≡ shown_character c ++ first_shown k (drop (n + 1) cs)
first_shown-more cs n c k h =
    at_drop_more (first_shown (suc k)) cs n c h.0 ∙ ap (λ x. shown_character x ++ first_shown k (drop (n + 1) cs)) (sym h.1)

pub first_shown-cut : (cs : List ℕ) (n c : ℕ) → (n < length cs) × (c ≡ get_or cs n c) → first_shown 0 (drop n cs) ≡ codes ".."
first_shown-cut cs n c h = at_drop_more (first_shown 0) cs n c h.0

-- one character more is written
pub one_more : (cs out written whole : List ℕ) (n c left : ℕ) → (n < length cs) × (c ≡ get_or cs n c) → (left ≡ 0 → ⊥)
    → out ++ first_shown left (drop n cs) ≡ whole → written ≡ out ++ shown_character c
    → written ++ first_shown (left - 1) (drop (n + 1) cs) ≡ whole
one_more cs out written whole n c zero h some so_far is = absurd (some refl)
one_more cs out written whole n c (suc k) h some so_far is =
    let less : suc k - 1 ≡ k = omega arith in
    ap (λ j. written ++ first_shown j (drop (n + 1) cs)) less
    ∙ ap (λ x. x ++ first_shown k (drop (n + 1) cs)) is
    ∙ append_assoc out (shown_character c) (first_shown k (drop (n + 1) cs))
    ∙ ap (λ x. out ++ x) (sym (first_shown-more cs n c k h))
    ∙ so_far

-- all characters are written
pub all_written : (cs out whole : List ℕ) (n left : ℕ) → length cs ≤ n → out ++ first_shown left (drop n cs) ≡ whole → out ≡ whole
all_written cs out whole n left end so_far =
    sym (append-nil out) ∙ ap (λ x. out ++ x) (sym (at_drop_all (first_shown left) cs n end)) ∙ so_far

-- more characters are there than are shown
pub last_written : (cs out written whole : List ℕ) (n c left : ℕ) → (n < length cs) × (c ≡ get_or cs n c) → left ≡ 0
    → out ++ first_shown left (drop n cs) ≡ whole → written ≡ out ++ codes ".." → written ≡ whole
last_written cs out written whole n c left h none so_far is =
    is ∙ ap (λ x. out ++ x) (sym (ap (λ k. first_shown k (drop n cs)) none ∙ first_shown-cut cs n c h)) ∙ so_far
