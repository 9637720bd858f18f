-- What a mender has left.
use Rattle.std.proofs.Common.{ℕ, zero, suc, ◌+◌, ◌≡◌, Bool, true, false, List, [], ◌∷◌, length, nat_lt, ◌<◌, ◌≤◌, drop, refl, sym, ◌∙◌, ap, arith}
use Rattle.std.proofs.lemmas.Bool.{ltb-true, ltb-false}
use Rattle.std.proofs.Math.Seq.{drop-nil}
use Rattle.std.proofs.Math.Numerals.{suc-eq-add-one}
use Rattle.orc_recover.specs.Menders.{is_any, behind_first}

abbrev Intents : Type 0
Intents = List (ℕ × Bool)

some_drop : (xs : Intents) (n : ℕ) → n < length xs → is_any (drop n xs) ≡ true
some_drop [] n h = absurd (omega arith)
some_drop (x ∷ xs) zero h = refl
some_drop (x ∷ xs) (suc n) h = some_drop xs n (omega arith)

none_drop : (xs : Intents) (n : ℕ) → length xs ≤ n → is_any (drop n xs) ≡ false
none_drop [] n h = ap is_any (drop-nil n)
none_drop (x ∷ xs) zero h = absurd (omega arith)
none_drop (x ∷ xs) (suc n) h = none_drop xs n (omega arith)

pub any_left : (xs : Intents) (n : ℕ) → nat_lt n (length xs) ≡ is_any (drop n xs)
any_left xs n = go (nat_lt n (length xs)) refl
  where
    go : (b : Bool) → nat_lt n (length xs) ≡ b → b ≡ is_any (drop n xs)
    go true e = sym (some_drop xs n (ltb-true n (length xs) e))
    go false e = sym (none_drop xs n (omega (arith, ltb-false n (length xs) e)))

drop_suc : (xs : Intents) (n : ℕ) → drop (suc n) xs ≡ behind_first (drop n xs)
drop_suc [] zero = refl
drop_suc [] (suc n) = refl
drop_suc (x ∷ xs) zero = refl
drop_suc (x ∷ xs) (suc n) = drop_suc xs n

pub drop_next : (xs : Intents) (n : ℕ) → drop (n + 1) xs ≡ behind_first (drop n xs)
drop_next xs n = ap (λ k. drop k xs) (sym (suc-eq-add-one n)) ∙ drop_suc xs n
