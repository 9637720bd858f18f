-- Texts that are cut at a character.
use Rattle.std.specs.Prelude.{ℕ, ◌==◌, Bool}

abbrev pub is_char : ℕ → ℕ → Bool
is_char character byte = byte == character
