-- The element at a place of a list.
use Rattle.std.proofs.Common.{◌≡◌, ℕ, ◌<◌, List, Option, None, Some, length, get_or, All, refl, sym, ap, subst, ◌∙◌}
use Rattle.std.specs.Prelude.{MatchOption, slice_get}
use Rattle.std.proofs.lemmas.Option.{slice_get_read, slice_get_within, get_or_from_slice_get}

module _ {X : Type 0} (xs : List X) (i : ℕ) (x : X) where
  pub there : i < length xs → x ≡ get_or xs i x → slice_get xs i ≡ Some x
  there within is = slice_get_read xs (length xs) i x refl within is

  pub at_there : (P : X → Type 0) → slice_get xs i ≡ Some x → P x → MatchOption (slice_get xs i) ⊥ P
  at_there P is p = subst (λ (o : Option X). MatchOption o ⊥ P) (sym is) p

  pub of_there : (P : X → Type 0) → slice_get xs i ≡ Some x → MatchOption (slice_get xs i) ⊥ P → P x
  of_there P is h = subst (λ (o : Option X). MatchOption o ⊥ P) is h

  -- what was read there is the element
  pub read_there : (P : X → Type 0) → x ≡ get_or xs i x → MatchOption (slice_get xs i) ⊥ P → (slice_get xs i ≡ Some x) × P x
  read_there P is h = on (slice_get xs i) refl h
    where
      on : (o : Option X) → slice_get xs i ≡ o → MatchOption o ⊥ P → (slice_get xs i ≡ Some x) × P x
      on None none never = absurd never
      on (Some y) some p =
          let same : x ≡ y = is ∙ get_or_from_slice_get xs i y x some in
          (some ∙ ap Some (sym same), subst P (sym same) p)
