-- The first steps of a path.
use Rattle.std.proofs.Common.{◌≡◌, ℕ, zero, suc, ◌<◌, Bool, true, List, [], ◌∷◌, length, take, refl, arith}
use Rattle.std.specs.List.{list_all}
use Rattle.std.proofs.lemmas.Bool.{and_parts, and_from, false≢true}
use Rattle.orc_path.specs.Steps.{PathStep, is_later_step, is_path, ends_in_keys}
use Rattle.orc_path.specs.Order.{is_prefix}
use Rattle.orc_path.specs.Configurations.{has_keys_at}

list_all-take : {X : Type 0} (p : X → Bool) (xs : List X) (n : ℕ) → list_all p xs ≡ true → list_all p (take n xs) ≡ true
list_all-take p xs zero h = refl
list_all-take p [] (suc n) h = refl
list_all-take p (x ∷ xs) (suc n) h = let parts = and_parts _ _ h in and_from _ _ parts.0 (list_all-take p xs n parts.1)

-- the first steps of a path are a path
pub is_path-take : (p : List PathStep) (n : ℕ) → is_path p ≡ true → is_path (take n p) ≡ true
is_path-take p zero h = refl
is_path-take [] (suc n) h = refl
is_path-take (s ∷ ss) (suc n) h = let parts = and_parts _ _ h in and_from _ _ parts.0 (list_all-take is_later_step ss n parts.1)

-- they end in keys where the last of them has some
pub ends_in_keys-take : (p : List PathStep) (n : ℕ) → n < length p → ends_in_keys (take (suc n) p) ≡ has_keys_at p n
ends_in_keys-take [] n h = absurd (omega arith)
ends_in_keys-take (s ∷ ss) zero h = refl
ends_in_keys-take (s ∷ []) (suc n) h = absurd (omega arith)
ends_in_keys-take (s ∷ t ∷ ss) (suc n) h = ends_in_keys-take (t ∷ ss) n (omega arith)

-- what begins the first steps of a path begins the path
pub is_prefix-from_take : (p q : List PathStep) (n : ℕ) → is_prefix p (take n q) ≡ true → is_prefix p q ≡ true
is_prefix-from_take [] q n h = refl
is_prefix-from_take (s ∷ ss) [] zero h = h
is_prefix-from_take (s ∷ ss) [] (suc n) h = h
is_prefix-from_take (s ∷ ss) (t ∷ ts) zero h = absurd (false≢true h)
is_prefix-from_take (s ∷ ss) (t ∷ ts) (suc n) h = let parts = and_parts _ _ h in and_from _ _ parts.0 (is_prefix-from_take ss ts n parts.1)
