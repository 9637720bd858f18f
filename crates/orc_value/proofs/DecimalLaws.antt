-- The digits after the point.
use Rattle.std.proofs.Common.{◌≡◌, ℕ, ◌+◌, ◌-◌, ◌*◌, ◌/◌, ◌%◌, ◌<◌, ◌^◌, Bool, false, List, [], ◌∷◌, ap, arith, zero, suc, cond, eqb}
use Rattle.std.proofs.Math.Nat.{pow-suc}
use Rattle.std.proofs.lemmas.Nat.{div_below}
use Rattle.std.proofs.lemmas.Bool.Decides.{nat_tests}
use Rattle.orc_value.specs.Decimals.{fraction_digits}

pub ten_pow_pos : (k : ℕ) → 0 < 10 ^ k
ten_pow_pos zero = omega arith
ten_pow_pos (suc k) = rw pow-suc (omega (arith, ten_pow_pos k))

-- the first of them is below ten
pub fraction-below_ten : (p r : ℕ) → r < 10 ^ p → 0 < r → r / 10 ^ (p - 1) < 10
fraction-below_ten zero r below some = absurd (omega arith)
fraction-below_ten (suc k) r below some =
    let e : suc k - 1 ≡ k = omega arith in
    let bound : r < 10 * 10 ^ k = omega (arith, pow-suc 10 k) in
    rw e (div_below r (10 ^ k) 10 (ten_pow_pos k) bound)

pub fraction_digits-step : (p r : ℕ) → r < 10 ^ p → 0 < r → fraction_digits p r ≡ (48 + r / 10 ^ (p - 1)) ∷ fraction_digits (p - 1) (r % 10 ^ (p - 1))
fraction_digits-step zero r below some = absurd (omega arith)
fraction_digits-step (suc k) r below some =
    let e : suc k - 1 ≡ k = omega arith in
    let not_none : eqb r 0 ≡ false = grind (arith, nat_tests) in
    let pick : Bool → List ℕ = λ b. cond b [] ((48 + r / 10 ^ k) ∷ fraction_digits k (r % 10 ^ k)) in
    rw e (ap pick not_none)
