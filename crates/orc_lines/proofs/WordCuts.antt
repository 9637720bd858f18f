-- Texts that are cut at their first space.
use Rattle.std.proofs.Common.{◌≡◌, ℕ, ◌<◌, ◌+◌, Bool, true, false, not, ◌==◌, eqb, List, [], ◌∷◌, length, get_or, Option, Some, None, refl, sym, subst, arith, length-drop, MatchOption, Bor}
use Rattle.std.specs.List.{position_or_len, before_first, after_first}
use Rattle.std.specs.Str.{IsUtf8}
use Rattle.std.proofs.lemmas.Bool.{false≢true}
use Rattle.std.proofs.lemmas.Bool.Decides.{nat_tests}
use Rattle.std.proofs.lemmas.List.Sums.{prefix_len_stops, fails_before_first}
use Rattle.std.proofs.lemmas.Str.{IsUtf8-drop, IsCharBoundary-after_ascii}
use Rattle.std.proofs.lemmas.List.Splits.{slice_split_none, slice_split_first}
use Rattle.std.proofs.lemmas.Str.Pattern.{IsSplitOnceResult, split_once_first}
use Rattle.orc_lines.specs.Words.{words_of}
use Rattle.orc_lines.specs.inside.Words.{CutsWord}

abbrev is_space : ℕ → Bool
is_space b = b == 32

space_ascii : (b : ℕ) → is_space b ≡ true → b < 128
space_ascii b h = grind (arith, nat_tests)

test_is : (t : Bool) → not t ≡ false → t ≡ true
test_is true h = refl
test_is false h = absurd (false≢true (sym h))

module _ (bs : List ℕ) (below : position_or_len is_space bs < length bs) where
  abbrev place : ℕ
  place = position_or_len is_space bs

  small : get_or bs place 0 < 128
  small = space_ascii (get_or bs place 0) (test_is (is_space (get_or bs place 0)) (prefix_len_stops (λ (x : ℕ). not (is_space x)) bs 0 below))

  cuts_at : IsUtf8 bs → CutsWord bs (before_first is_space bs) (after_first is_space bs)
  cuts_at text = record {
    words = slice_split_first is_space bs 0 below;
    shorter = omega (arith, length-drop (place + 1) bs);
    utf8 = IsUtf8-drop bs (place + 1) text (IsCharBoundary-after_ascii bs place text below small);
  }

pub cut_words : (text : List ℕ) (r : Option (Bor (List ℕ) × Bor (List ℕ))) → IsUtf8 text → IsSplitOnceResult 32 text r
    → MatchOption r (words_of text ≡ text ∷ []) (λ parts. CutsWord text parts.0.now parts.1.now)
cut_words text r utf8 h = on r (split_once_first 32 text r h (omega arith)) where
  on : (r : Option (Bor (List ℕ) × Bor (List ℕ)))
      → MatchOption r (position_or_len (λ b. eqb b 32) text ≡ length text) (λ x. (position_or_len (λ b. eqb b 32) text < length text)
      × (x.0.now ≡ before_first (λ b. eqb b 32) text) × (x.1.now ≡ after_first (λ b. eqb b 32) text))
      → MatchOption r (words_of text ≡ text ∷ []) (λ parts. CutsWord text parts.0.now parts.1.now)
  on None none = slice_split_none is_space text (λ k d below. fails_before_first is_space text k d (omega (arith, none, below)))
  on (Some x) found =
      subst (λ (t : List ℕ). CutsWord text t x.1.now) (sym found.1)
      (subst (λ (t : List ℕ). CutsWord text (before_first is_space text) t) (sym found.2) (cuts_at text found.0 utf8))
