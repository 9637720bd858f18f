-- A range of the base type that ends before a range can't hold it.
use Rattle.std.proofs.Common.{◌≡◌, ℕ, zero, suc, ℤ, Bool, true, false, List, [], ◌∷◌, refl, sym, ap, ◌∙◌, arith}
use Rattle.std.specs.Prelude.{◌&&◌, ◌||◌, int_le, int_lt, take, drop}
use Rattle.std.specs.List.{list_all}
use Rattle.std.proofs.lemmas.Int.{ints}
use Rattle.std.proofs.lemmas.Bool.{false≢true}
use Rattle.orc_types.specs.Ranges.{Range, lies_within}
use Rattle.orc_types.specs.inside.Behind.{ends_before}
use Rattle.orc_value.proofs.IntegerLaws.{and_left, and_right}

too_low : (b r : Range) → int_lt b.1 r.0 ≡ true → int_le r.0 r.1 ≡ true → (int_le b.0 r.0 && int_le r.1 b.1) ≡ false
too_low b r low proper = no_more (int_le b.0 r.0) (int_le r.1 b.1) (short b.1 r.0 r.1 low proper)
  where
    short : (end from to : ℤ) → int_lt end from ≡ true → int_le from to ≡ true → int_le to end ≡ false
    short end from to h k = grind (arith, ints)

    no_more : (p q : Bool) → q ≡ false → (p && q) ≡ false
    no_more true q is = is
    no_more false q is = refl

-- so only those after such ones are looked at
pub behind : (base : List Range) (at : ℕ) (r : Range) → list_all (ends_before r.0) (take at base) ≡ true → int_le r.0 r.1 ≡ true → lies_within (drop at base) r ≡ lies_within base r
behind base zero r low proper = refl
behind [] (suc at) r low proper = refl
behind (b ∷ base) (suc at) r low proper =
    behind base at r (and_right (ends_before r.0 b) (list_all (ends_before r.0) (take at base)) low) proper
    ∙ sym (ap (λ t. t || lies_within base r) (too_low b r (and_left (ends_before r.0 b) (list_all (ends_before r.0) (take at base)) low) proper))

-- what ends before a number ends before a greater one
pub lower : (bs : List Range) (low high : ℤ) → int_le low high ≡ true → list_all (ends_before low) bs ≡ true → list_all (ends_before high) bs ≡ true
lower [] low high up h = refl
lower (b ∷ bs) low high up h = both (ends_before high b) (list_all (ends_before high) bs) (further b.1 low high up (and_left (ends_before low b) (list_all (ends_before low) bs) h)) (lower bs low high up (and_right (ends_before low b) (list_all (ends_before low) bs) h))
  where
    further : (end l h : ℤ) → int_le l h ≡ true → int_lt end l ≡ true → int_lt end h ≡ true
    further end l h up low = grind (arith, ints)

    both : (p q : Bool) → p ≡ true → q ≡ true → (p && q) ≡ true
    both true q h k = k
    both false q h k = absurd (false≢true h)
