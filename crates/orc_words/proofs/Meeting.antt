-- The subcommand that the parser met, and what it found for it.
use Rattle.std.proofs.Common.{◌≡◌, Option, Some, None, refl, sym, ap, ◌∙◌}
use Rattle.std.specs.Option.{option_map}

module _ {S A B : Type 0} (one : S → A) (two : S → B) where
  -- the two parts of what is there
  abbrev pub both_of : S → A × B
  both_of s = (one s, two s)

  abbrev pub second_of : A × B → B
  second_of p = p.1

  -- what is there is known by its two parts
  pub some_is : (x : Option S) (a : A) (b : B) → Some a ≡ option_map one x → Some b ≡ option_map second_of (option_map both_of x)
      → option_map both_of x ≡ Some (a, b)
  some_is None a b first second = absurd cc
  some_is (Some s) a b first second =
      let here : a ≡ one s = cc in
      let there : b ≡ two s = cc in
      ap (λ (x : A). Some (x, two s)) (sym here) ∙ ap (λ (y : B). Some (a, y)) (sym there)

  pub none_is : (x : Option S) → None ≡ option_map one x → option_map both_of x ≡ None
  none_is None first = refl
  none_is (Some s) first = absurd cc
