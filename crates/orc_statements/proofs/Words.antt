-- Whether a text is one of the words of another, piece by piece.
use Rattle.std.proofs.Common.{◌≡◌, refl, ◌∙◌, List, [], ◌∷◌, ℕ, Bool, true, false, cond}
use Rattle.std.specs.Prelude.{◌&&◌, ◌||◌}
use Rattle.std.specs.List.{filter}
use Rattle.orc_value.specs.Canon.{same_text}
use Rattle.orc_statements.specs.Cuts.{is_word}
use Rattle.orc_statements.specs.Names.{contains_text}

-- the word is one of these pieces
abbrev pub has : List ℕ → List (List ℕ) → Bool
has word pieces = contains_text (filter is_word pieces) word

pub has_next : (word piece : List ℕ) (pieces : List (List ℕ)) → has word (piece ∷ pieces) ≡ ((is_word piece && same_text piece word) || has word pieces)
has_next word piece pieces = on (is_word piece)
  where
    on : (b : Bool) → contains_text (cond b (piece ∷ filter is_word pieces) (filter is_word pieces)) word ≡ ((b && same_text piece word) || has word pieces)
    on true = refl
    on false = refl

pub has_last : (word piece : List ℕ) → has word (piece ∷ []) ≡ (is_word piece && same_text piece word)
has_last word piece = has_next word piece [] ∙ or_false (is_word piece && same_text piece word)
  where
    or_false : (b : Bool) → (b || false) ≡ b
    or_false true = refl
    or_false false = refl
