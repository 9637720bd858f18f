-- The bytes of lines.
use Rattle.std.proofs.Common.{◌≡◌, ℕ, suc, ◌+◌, Bool, true, false, ◌==◌, cond, List, [], ◌∷◌, ◌++◌, length, ap, ◌∙◌, arith}
use Rattle.orc_lines.specs.Lines.{led_by, lines_of}

abbrev pub bytes_of : List (List ℕ) → ℕ
bytes_of [] = 0
bytes_of (l ∷ ls) = length l + bytes_of ls

pub bytes_behind : (a b : List (List ℕ)) → bytes_of (a ++ b) ≡ bytes_of a + bytes_of b
bytes_behind [] b = omega arith
bytes_behind (l ∷ ls) b = let more = bytes_behind ls b in omega arith

led_bytes : (b : ℕ) (lines : List (List ℕ)) → bytes_of (led_by b lines) ≡ suc (bytes_of lines)
led_bytes b [] = omega arith
led_bytes b (line ∷ later) = omega arith

-- the lines of bytes have all of them
pub all_bytes : (bytes : List ℕ) → bytes_of (lines_of bytes) ≡ length bytes
all_bytes [] = omega arith
all_bytes (b ∷ bs) = on (b == 10) (all_bytes bs) where
  on : (t : Bool) → bytes_of (lines_of bs) ≡ length bs → bytes_of (cond t ((10 ∷ []) ∷ lines_of bs) (led_by b (lines_of bs))) ≡ suc (length bs)
  on true more = omega arith
  on false more = led_bytes b (lines_of bs) ∙ ap suc more
