-- The bytes of a text.
use Rattle.std.specs.Prelude.{ℕ, List}
use Rattle.std.specs.String.{string_bytes}
use Rattle.orc_text.specs.declared.text.Held.{Held}
use Rattle.orc_text.specs.declared.text.Held.TheVariants.{Short, Long}

-- the bytes of a text, wherever they are
abbrev pub held_bytes : Held → List ℕ
held_bytes (Short _ short) = short.bytes
held_bytes (Long string) = string_bytes string
