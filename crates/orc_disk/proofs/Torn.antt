-- Writes inside one range, one after the other, tear no more than the range.
use Rattle.std.specs.Prelude.{◌≡◌, ℕ, ◌+◌, ◌-◌, ◌≤◌, List, length, take, drop}
use Rattle.std.proofs.Common.{sym, ap, ◌∙◌, arith, ⊎_elim}
use Rattle.std.proofs.lemmas.Bool.{cases_lt}
use Rattle.std.proofs.lemmas.List.{take-take, drop-drop, take_all, length-take}
use Rattle.orc_disk.specs.Torn.{Torn}
use Rattle.orc_disk.specs.laws.Torn.{drop-take_same}

-- a file is one that a write may leave
pub Torn-refl : (at n : ℕ) (file : List ℕ) → Torn at n file file
Torn-refl at n file = record {
  no_shorter = omega arith;
  front = ap (take at) (take_all (length file) file (omega arith));
  back = ap (drop (at + n)) (take_all (length file) file (omega arith));
}

fewer : (i j : ℕ) (xs ys : List ℕ) → i ≤ j → take j xs ≡ take j ys → take i xs ≡ take i ys
fewer i j xs ys le same = sym (take-take i j xs le) ∙ ap (take i) same ∙ take-take i j ys le

later : (i j : ℕ) (xs ys : List ℕ) → i ≤ j → drop i xs ≡ drop i ys → drop j xs ≡ drop j ys
later i j xs ys le same =
    let e : i + (j - i) ≡ j = omega (arith, le) in
    ap (λ k. drop k xs) (sym e) ∙ sym (drop-drop (j - i) i xs) ∙ ap (drop (j - i)) same ∙ drop-drop (j - i) i ys ∙ ap (λ k. drop k ys) e

-- a write inside a wider range tears no more than one of the whole range
pub Torn-within : (at n from m : ℕ) (a b : List ℕ) → at ≤ from → from + m ≤ at + n → Torn from m a b → Torn at n a b
Torn-within at n from m a b after before torn = record {
  no_shorter = torn.no_shorter;
  front = fewer at from _ _ after torn.front;
  back = later (from + m) (at + n) _ _ before torn.back;
}

swap_take : (i j : ℕ) (xs : List ℕ) → take i (take j xs) ≡ take j (take i xs)
swap_take i j xs = ⊎_elim
    (λ lt. take-take i j xs (omega (arith, lt)) ∙ sym (take_all j (take i xs) (omega (arith, lt, length-take i xs))))
    (λ le. take_all i (take j xs) (omega (arith, le, length-take j xs)) ∙ sym (take-take j i xs le))
    (cases_lt i j)

-- two writes inside one range
pub Torn-trans : (at n : ℕ) (a b c : List ℕ) → Torn at n a b → Torn at n b c → Torn at n a c
Torn-trans at n a b c p q =
    let both : take (length a) (take (length b) c) ≡ take (length a) c = take-take (length a) (length b) c p.no_shorter in
    record {
      no_shorter = omega (arith, p.no_shorter, q.no_shorter);
      front = sym (ap (take at) both) ∙ swap_take at (length a) _ ∙ ap (take (length a)) q.front ∙ sym (swap_take at (length a) b) ∙ p.front;
      back = sym (ap (drop (at + n)) both) ∙ drop-take_same (at + n) (length a) _ _ q.back ∙ p.back;
    }
