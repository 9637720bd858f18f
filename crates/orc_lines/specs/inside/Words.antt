-- A text that is cut at its first space; and what the code carries along.
use Rattle.std.specs.Prelude.{◌≡◌, ◌<◌, ℕ, List, ◌∷◌, length}
use Rattle.std.specs.Str.{IsUtf8}
use Rattle.orc_lines.specs.Words.{words_of}

-- `word` stands before the first space, and `rest`, which is text, after it
pub record CutsWord (text word rest : List ℕ) : Type 0 where
  pub words : words_of text ≡ word ∷ words_of rest
  pub shorter : length rest < length text
  pub utf8 : IsUtf8 rest
