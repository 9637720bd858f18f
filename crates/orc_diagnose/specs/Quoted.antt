-- How a text of a bundle is shown.
use Rattle.std.specs.Prelude.{ℕ, zero, suc, Bool, true, ◌&&◌, ◌||◌, nat_le, List, [], ◌∷◌, ◌++◌, codes, if◌then◌else◌}
use Rattle.std.specs.Char.{encode_utf8}
use Rattle.std.specs.Fmt.{digits}
use Rattle.std.specs.Str.{chars}
use Rattle.orc_diagnose.specs.declared.quoted.TheConstants.{SHOWN}

-- printable ASCII, and blocks of which most characters are seen; no control character, no noncharacter
abbrev pub is_visible : ℕ → Bool
is_visible c =
    (nat_le 32 c && nat_le c 126)
    || (nat_le 174 c && nat_le c 8191)
    || (nat_le 8304 c && nat_le c 12287)
    || (nat_le 12289 c && nat_le c 55295)

-- a character as it is shown: itself, or its number
abbrev pub shown_character : ℕ → List ℕ
shown_character c = if is_visible c then encode_utf8 c else codes "<U+" ++ digits 16 true c ++ codes ">"

-- the first of these characters as they are shown
abbrev pub first_shown : ℕ → List ℕ → List ℕ
first_shown n [] = []
first_shown zero (c ∷ cs) = codes ".."
first_shown (suc n) (c ∷ cs) = shown_character c ++ first_shown n cs

-- a text as it is shown
abbrev pub quoted : List ℕ → List ℕ
quoted text = first_shown SHOWN (chars text)
