-- The least number that is free.
use Rattle.std.proofs.Common.{◌≡◌, ◌⊎◌, inl, inr, ℕ, ◌+◌, ◌<◌, ◌≤◌, ◌^◌, Bool, true, false, not, ◌&&◌, max, nat_lt, refl, sym, ap, ◌∙◌, arith, lt-ltb, ltb-false}
use Rattle.orc_hub_parts.specs.declared.numbers.Numbers.{Numbers}
use Rattle.orc_hub_parts.specs.Numbered.{IsLeastFree, is_given, is_noted}

module _ (numbers : Numbers) (t : ℕ) (first : max numbers.next 1 ≤ t) (small : t < 18446744073709551615) (free : is_noted numbers t ≡ false)
    (before : (u : ℕ) → numbers.next ≤ u → 1 ≤ u → u < t → is_noted numbers u ≡ true) where
  lower_one : (lower : ℕ) → 1 ≤ lower → lower < t → (is_given numbers lower ≡ true) ⊎ (is_noted numbers lower ≡ true)
  lower_one lower positive below = on (nat_lt lower numbers.next) refl (is_noted numbers lower) refl
    where
      on : (b : Bool) → nat_lt lower numbers.next ≡ b → (c : Bool) → is_noted numbers lower ≡ c → (is_given numbers lower ≡ true) ⊎ (is_noted numbers lower ≡ true)
      on b e true is = inr is
      on true e false is =
          inl (ap (λ (c : Bool). not c && nat_lt 0 lower && nat_lt lower numbers.next) is
          ∙ ap (λ (c : Bool). c && nat_lt lower numbers.next) (lt-ltb 0 lower (omega (arith, positive))) ∙ e)
      on false e false is = inr (before lower (ltb-false lower numbers.next e) positive below)

  pub least_free : IsLeastFree numbers t
  least_free = record {
    small = omega (arith, small);
    positive = omega (arith, first);
    behind = omega (arith, first);
    unnoted = free;
    least = lower_one;
  }
