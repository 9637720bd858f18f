-- Whether the characters of a text are plain.
use Rattle.std.proofs.Common.{◌≡◌, ℕ, ◌<◌, true, false, List, [], ◌∷◌, ◌++◌, length, get_or, map, chars, IsUtf8, refl, sym, ap, ◌∙◌}
use Rattle.std.specs.List.{list_all}
use Rattle.std.proofs.lemmas.Bool.{and_from}
use Rattle.std.proofs.lemmas.List.Folds.{list_all-append, list_all-map, list_all_at}
use Rattle.orc_text.specs.Characters.{is_plain_character, is_plain_text}
use Rattle.orc_text.proofs.Plain.{is_plain_text-utf8, plain_from}

-- one plain character more
pub plain_more : (cs : List ℕ) (c : ℕ) → list_all is_plain_character cs ≡ true → true ≡ is_plain_character c → list_all is_plain_character (cs ++ c ∷ []) ≡ true
plain_more cs c h is = list_all-append is_plain_character cs (c ∷ []) ∙ and_from _ _ h (and_from _ _ (sym is) refl)

module _ (text : List ℕ) (u : IsUtf8 text) where
  -- a character stands in it that isn't plain
  pub not_plain_at : (n c : ℕ) → n < length (chars text) → c ≡ get_or (chars text) n c → is_plain_character c ≡ false → is_plain_text text ≡ false
  not_plain_at n c lt at h = is_plain_text-utf8 text u ∙ list_all_at is_plain_character (chars text) n c lt (ap is_plain_character (sym at) ∙ h)

  -- all its characters are plain
  pub plain_all : (cs : List ℕ) → map (λ c. c) cs ≡ chars text → list_all is_plain_character cs ≡ true → is_plain_text text ≡ true
  plain_all cs all h = plain_from text u (ap (list_all is_plain_character) (sym all) ∙ list_all-map is_plain_character (λ c. c) cs ∙ h)
