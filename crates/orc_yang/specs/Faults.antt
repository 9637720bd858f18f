-- What a fault means, apart from the program that finds it: which characters can follow what stands
-- before them.
use Rattle.std.specs.Prelude.{ℕ, ◌≡◌, ◌+◌, ◌-◌, ◌||◌, ◌⊎◌, Bool, true, false, length, List, [], ◌∷◌, ◌++◌, codes, encode_utf8}
use Rattle.std.specs.Str.{encode_utf8_all, all_scalars, IsValidUpTo}
use Rattle.orc_yang.specs.declared.character.Sort.{Sort}
use Rattle.orc_yang.specs.declared.character.Sort.TheVariants.{OpenBrace, SingleQuote, DoubleQuote, Backslash, Star, Slash, Start, Forbidden}
use Rattle.orc_yang.specs.declared.fault.YangFault.{YangFault}
use Rattle.orc_yang.specs.declared.fault.YangFault.TheVariants.{NotUtf8, BadToken, BadEscape, OpenString, OpenBlock, Depth, Memory}
use Rattle.orc_yang.specs.declared.statement.Stmt.{Stmt}
use Rattle.orc_yang.specs.Sorts.{sort_of}
use Rattle.orc_yang.specs.declared.character.Character.{Character}
use Rattle.orc_yang.specs.Grammar.{Is, Gap}
use Rattle.orc_yang.specs.Text.{placed, ReadsAs}

-- The characters can open a text of statements.
abbrev pub CanOpen : List ℕ → Type 0
CanOpen front = (more : List ℕ) × (list : List Stmt) × (all_scalars more ≡ true) × ReadsAs (front ++ more) list

-- these characters can follow
abbrev pub CanGoOn : List ℕ → List ℕ → Type 0
CanGoOn front more = CanOpen (front ++ more)

-- this character can follow
abbrev pub CanFollow : List ℕ → ℕ → Type 0
CanFollow front c = CanOpen (front ++ c ∷ [])

-- The characters that distinguish the places in a text.
abbrev pub double_quote : ℕ
double_quote = 34

abbrev pub single_quote : ℕ
single_quote = 39

abbrev pub semicolon : ℕ
semicolon = 59

abbrev pub letter_a : ℕ
letter_a = 97

abbrev pub letter_n : ℕ
letter_n = 110

abbrev pub closing_brace : ℕ
closing_brace = 125

-- the least character of two bytes
abbrev pub two_bytes : ℕ
two_bytes = 128

-- After a backslash of a double-quoted string: `n` and `"` can follow, but `a` can't.
abbrev pub IsEscaping : List ℕ → Type 0
IsEscaping front = CanFollow front letter_n × CanFollow front double_quote × ¬ CanFollow front letter_a

-- A string may begin here: either quote can follow, but a closing brace can't, as it can in a
-- string or a comment.
abbrev pub TakesString : List ℕ → Type 0
TakesString front =
    CanFollow front double_quote × CanFollow front single_quote × ¬ CanFollow front closing_brace

-- A comment may begin here: `/**/` can follow, but `/}` can't, as it can in a string or a comment.
abbrev pub TakesComment : List ℕ → Type 0
TakesComment front = CanGoOn front (codes "/**/") × ¬ CanGoOn front (codes "/}")

-- A statement may end here: a `;` can follow. Where a `{` can't, only the depth forbids it.
abbrev pub TakesEnd : List ℕ → Type 0
TakesEnd front = CanFollow front semicolon

-- A forbidden character shares its first bytes with one that can follow: one of two bytes or more can.
abbrev pub TakesLonger : List ℕ → Type 0
TakesLonger front = CanFollow front two_bytes

abbrev pub is_quote : Sort → Bool
is_quote SingleQuote = true
is_quote _ = false

abbrev pub is_double_quote : Sort → Bool
is_double_quote DoubleQuote = true
is_double_quote _ = false

abbrev pub is_backslash : Sort → Bool
is_backslash Backslash = true
is_backslash _ = false

abbrev pub is_star : Sort → Bool
is_star Star = true
is_star _ = false

abbrev pub is_slash : Sort → Bool
is_slash Slash = true
is_slash _ = false

-- after an opening single quote: the closing one comes
abbrev pub ends_single : List ℕ → Bool
ends_single [] = false
ends_single (c ∷ cs) = is_quote (sort_of c) || ends_single cs

-- after an opening double quote, or after a backslash in the string: the closing one comes
abbrev pub ends_double : Bool → List ℕ → Bool
ends_double true [] = false
ends_double false [] = false
ends_double true (c ∷ cs) = ends_double false cs
ends_double false (c ∷ cs) = is_double_quote (sort_of c) || ends_double (is_backslash (sort_of c)) cs

-- after `/*`, or after a `*` in the comment: `*/` comes
abbrev pub ends_comment : Bool → List ℕ → Bool
ends_comment true [] = false
ends_comment false [] = false
ends_comment true (c ∷ cs) = is_slash (sort_of c) || ends_comment (is_star (sort_of c)) cs
ends_comment false (c ∷ cs) = ends_comment (is_star (sort_of c)) cs

-- A single-quoted string begins after these characters, and has no end in those that follow.
abbrev pub IsUnclosedSingle : List ℕ → List ℕ → Type 0
IsUnclosedSingle front rest = (quote : ℕ) × (after : List ℕ) × (rest ≡ quote ∷ after) × (sort_of quote ≡ SingleQuote)
    × TakesString front × (ends_single after ≡ false)

-- So does a double-quoted one.
abbrev pub IsUnclosedDouble : List ℕ → List ℕ → Type 0
IsUnclosedDouble front rest = (quote : ℕ) × (after : List ℕ) × (rest ≡ quote ∷ after) × (sort_of quote ≡ DoubleQuote)
    × TakesString front × (ends_double false after ≡ false)

-- So does a comment in `/*` and `*/`.
abbrev pub IsUnclosedComment : List ℕ → List ℕ → Type 0
IsUnclosedComment front rest = (slash star : ℕ) × (after : List ℕ) × (rest ≡ slash ∷ star ∷ after)
    × (sort_of slash ≡ Slash) × (sort_of star ≡ Star) × TakesComment front × (ends_comment false after ≡ false)

-- A string or a comment begins after these characters, and has no end in those that follow.
abbrev pub IsUnclosed : List ℕ → List ℕ → Type 0
IsUnclosed front rest =
    IsUnclosedSingle front rest ⊎ (IsUnclosedDouble front rest ⊎ IsUnclosedComment front rest)

-- c is the first character of a text that can't follow what stands before it
pub record IsFirstMisfit (text front : List ℕ) (c : ℕ) : Type 0 where
  pub after : List ℕ
  pub is : text ≡ front ++ c ∷ after
  pub opens : CanOpen front
  pub misfits : ¬ CanFollow front c

-- how many bytes these characters have
abbrev pub byte_count : List ℕ → ℕ
byte_count text = length (encode_utf8_all text)

-- The first byte that can't follow, of a character that can't: its first, but of a forbidden
-- character its last where other characters of two bytes or more can follow, which share the bytes
-- before.
abbrev pub IsPlace : List ℕ → ℕ → ℕ → Type 0
IsPlace front c at = ((at ≡ byte_count front) × (sort_of c ≡ Forbidden → ¬ TakesLonger front))
    ⊎ ((at + 1 ≡ byte_count front + length (encode_utf8 c)) × (sort_of c ≡ Forbidden) × TakesLonger front)

-- What a fault means for a text. Memory is wanted only where a statement is read: white space and
-- comments stand before the first character of its keyword.
abbrev pub FaultOf : List ℕ → YangFault → Type 0
FaultOf text (NotUtf8 at) = ⊥
FaultOf text (BadToken at) = (front : List ℕ) × (c : ℕ) × IsFirstMisfit text front c × IsPlace front c at
    × ¬ IsEscaping front × (sort_of c ≡ OpenBrace → ¬ TakesEnd front)
FaultOf text (BadEscape at) = (front : List ℕ) × (c : ℕ) × IsFirstMisfit text front c × IsEscaping front
    × (at ≡ byte_count front - 1)
FaultOf text (OpenString at) = (front rest : List ℕ) × (text ≡ front ++ rest) × (at ≡ byte_count front)
    × IsUnclosed front rest
FaultOf text (OpenBlock at) = (at ≡ byte_count text) × CanOpen text × ((list : List Stmt) → ReadsAs text list → ⊥)
FaultOf text (Depth at) = (front : List ℕ) × (c : ℕ) × IsFirstMisfit text front c × (sort_of c ≡ OpenBrace)
    × TakesEnd front × (at ≡ byte_count front)
FaultOf text Memory =
    (x : Character) × (rest : List Character) × Gap (placed 0 1 text) (x ∷ rest) × Is Start x

-- what a fault means for bytes
abbrev pub IsFault : List ℕ → YangFault → Type 0
IsFault bytes (NotUtf8 at) = IsValidUpTo bytes at
IsFault bytes fault =
    (text : List ℕ) × (all_scalars text ≡ true) × (encode_utf8_all text ≡ bytes) × FaultOf text fault
