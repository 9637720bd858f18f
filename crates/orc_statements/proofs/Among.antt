-- The first of some names that stands among those before it.
use Rattle.std.proofs.Common.{◌≡◌, sym, ◌∙◌, ap, List, [], ◌∷◌, ◌++◌, ℕ, suc, ◌+◌, ◌<◌, false, cond, length, get_or, arith}
use Rattle.std.specs.Prelude.{take, drop, Some}
use Rattle.std.proofs.Math.Seq.{take-suc}
use Rattle.std.proofs.lemmas.List.{drop_more}
use Rattle.orc_statements.specs.Names.{contains_text, repeated_among}

module _ (names : List (List ℕ)) (i : ℕ) (x : List ℕ) (below : i < length names) (is : get_or names i x ≡ x) where
  opened : drop i names ≡ x ∷ drop (i + 1) names
  opened = drop_more names i x below ∙ ap (λ y. y ∷ drop (i + 1) names) is

  pub grown : take i names ++ x ∷ [] ≡ take (i + 1) names
  grown = ap (λ y. take i names ++ y ∷ []) (sym is) ∙ sym (let e : i + 1 ≡ suc i = omega arith in ap (λ n. take n names) e ∙ take-suc names i x below)

  pub among-past : contains_text (take i names) x ≡ false → repeated_among (take i names) (drop i names) ≡ repeated_among (take (i + 1) names) (drop (i + 1) names)
  among-past h = ap (repeated_among (take i names)) opened ∙ ap (λ b. cond b (Some x) (repeated_among (take i names ++ x ∷ []) (drop (i + 1) names))) h
      ∙ ap (λ b. repeated_among b (drop (i + 1) names)) grown
