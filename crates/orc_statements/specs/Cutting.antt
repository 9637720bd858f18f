-- A text that is cut at its first mark; and what the code carries along.
use Rattle.std.specs.Prelude.{◌≡◌, ◌<◌, ℕ, List, ◌∷◌, length}
use Rattle.std.specs.Str.{IsUtf8}
use Rattle.orc_statements.specs.declared.cuts.Mark.{Mark}
use Rattle.orc_statements.specs.Cuts.{parts}

-- `front` stands before the first mark, and `rest`, which is text, after it
pub record CutsAt (mark : Mark) (text front rest : List ℕ) : Type 0 where
  pub parts : parts mark text ≡ front ∷ parts mark rest
  pub shorter : length rest < length text
  pub utf8 : IsUtf8 rest
