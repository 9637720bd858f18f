-- Texts of plain characters.
use Rattle.std.proofs.Common.{◌≡◌, ℕ, true, ◌&&◌, List, [], ◌∷◌, ◌++◌, IsUtf8, encode_utf8, encode_utf8_all, chars, refl, ap, subst, ◌∙◌, append-nil}
use Rattle.std.specs.Str.{is_utf8, all_scalars}
use Rattle.std.specs.Char.{IsScalar}
use Rattle.std.specs.List.{list_all}
use Rattle.std.proofs.lemmas.Bool.{and_parts, and_from}
use Rattle.std.proofs.lemmas.List.Folds.{list_all-append}
use Rattle.std.proofs.lemmas.Str.{IsUtf8-nil, IsUtf8-append, IsUtf8-from_is_utf8, is_utf8-from_IsUtf8, chars-nil, chars-append, chars-encodes, encodes-chars, scalars-chars}
use Rattle.orc_text.specs.Characters.{is_plain_character, is_plain_text}

-- of a text in UTF-8 the characters alone decide
pub is_plain_text-utf8 : (xs : List ℕ) → IsUtf8 xs → is_plain_text xs ≡ list_all is_plain_character (chars xs)
unfolding is_plain_text
is_plain_text-utf8 xs u = ap (λ t. t && list_all is_plain_character (chars xs)) (is_utf8-from_IsUtf8 xs u)

-- what a plain text is
pub plain_parts : (xs : List ℕ) → is_plain_text xs ≡ true → IsUtf8 xs × (list_all is_plain_character (chars xs) ≡ true)
unfolding is_plain_text
plain_parts xs h = let parts = and_parts (is_utf8 xs) (list_all is_plain_character (chars xs)) h in (IsUtf8-from_is_utf8 xs parts.0, parts.1)

pub plain_from : (xs : List ℕ) → IsUtf8 xs → list_all is_plain_character (chars xs) ≡ true → is_plain_text xs ≡ true
plain_from xs u h = is_plain_text-utf8 xs u ∙ h

pub is_plain_text-nil : is_plain_text [] ≡ true
is_plain_text-nil = plain_from [] IsUtf8-nil (ap (list_all is_plain_character) chars-nil)

-- two texts, one after the other
pub is_plain_text-append : (xs ys : List ℕ) → is_plain_text xs ≡ true → is_plain_text ys ≡ true → is_plain_text (xs ++ ys) ≡ true
is_plain_text-append xs ys h k =
    let left = plain_parts xs h in
    let right = plain_parts ys k in
    plain_from (xs ++ ys) (IsUtf8-append xs ys left.0 right.0)
    (ap (list_all is_plain_character) (chars-append xs ys left.0) ∙ list_all-append is_plain_character (chars xs) (chars ys) ∙ and_from _ _ left.1 right.1)

-- the characters of a plain text, and the text that they make
pub record IsSpelled (cs xs : List ℕ) : Type 0 where
  pub scalars : all_scalars cs ≡ true
  pub plain : list_all is_plain_character cs ≡ true
  pub text : encode_utf8_all cs ≡ xs

pub spelled : (xs : List ℕ) → is_plain_text xs ≡ true → IsSpelled (chars xs) xs
spelled xs h =
    let parts = plain_parts xs h in
    record { scalars = scalars-chars xs parts.0; plain = parts.1; text = encodes-chars xs parts.0 }

pub is_plain_text-encodes : (cs : List ℕ) → all_scalars cs ≡ true → list_all is_plain_character cs ≡ true → is_plain_text (encode_utf8_all cs) ≡ true
is_plain_text-encodes cs s h = plain_from (encode_utf8_all cs) (cs, (s, refl)) (ap (list_all is_plain_character) (chars-encodes cs s) ∙ h)

pub is_plain_text-encode : (c : ℕ) → IsScalar c → is_plain_character c ≡ true → is_plain_text (encode_utf8 c) ≡ true
is_plain_text-encode c s h =
    subst (λ xs. is_plain_text xs ≡ true) (append-nil (encode_utf8 c)) (is_plain_text-encodes (c ∷ []) (and_from _ _ s refl) (and_from _ _ h refl))
