-- A text that is cut at the first place of a character.
use Rattle.std.specs.Prelude.{◌≡◌, ◌<◌, ℕ, List, ◌∷◌, length}
use Rattle.std.specs.List.{slice_split}
use Rattle.std.specs.Str.{IsUtf8}
use Rattle.orc_types.specs.Texts.{is_char}

-- `front` stands before the first c, and `rest`, which is text, after it
pub record SplitsAt (c : ℕ) (text front rest : List ℕ) : Type 0 where
  pub parts : slice_split (is_char c) text ≡ front ∷ slice_split (is_char c) rest
  pub shorter : length rest < length text
  pub utf8 : IsUtf8 rest
