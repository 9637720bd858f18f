-- The characters of a text with their places, and the statements that characters and bytes spell.
use Rattle.std.specs.Prelude.{ℕ, true, ◌≡◌, ◌==◌, ◌+◌, ◌-◌, length, List, [], ◌∷◌, encode_utf8, if◌then◌else◌}
use Rattle.std.specs.Str.{encode_utf8_all, all_scalars}
use Rattle.orc_yang.specs.declared.statement.Stmt.{Stmt}
use Rattle.orc_yang.specs.declared.character.Character.{Character}
use Rattle.orc_yang.specs.Grammar.{Statements}

-- the column after a character: a line feed begins a line, and a tab counts as eight columns
abbrev pub next_column : ℕ → ℕ → ℕ
next_column c column = if c == 10 then 1 else (if c == 9 then column + 8 else column + 1)

-- a character that stands in this place and column
abbrev pub character : ℕ → ℕ → ℕ → Character
character at column c =
    record { code = c; at = at; last = at + length (encode_utf8 c) - 1; column = column }

-- the characters of a text that begins in this place and column
abbrev pub placed : ℕ → ℕ → List ℕ → List Character
placed at column [] = []
placed at column (c ∷ cs) =
    character at column c ∷ placed (at + length (encode_utf8 c)) (next_column c column) cs

-- The characters spell these statements.
abbrev pub ReadsAs : List ℕ → List Stmt → Type 0
ReadsAs text list = Statements 0 (placed 0 1 text) list []

-- The bytes are UTF-8, and the characters spell these statements.
abbrev pub IsTextOf : List ℕ → List Stmt → Type 0
IsTextOf bytes list =
    (text : List ℕ) × (all_scalars text ≡ true) × (encode_utf8_all text ≡ bytes) × ReadsAs text list
