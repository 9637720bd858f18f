-- What bytes are parsed as, as a function: their statements, or their fault. A machine over the characters computes
-- it, which nobody needs to read: the law `FollowsGrammar` says by the grammar and the meaning of faults what it gives.
use Rattle.std.specs.Prelude.{ℕ, ◌≡◌, ◌⊎◌, ◌++◌, true, List, Result, Ok, Err, MatchResult, Vec, length, if◌then◌else◌}
use Rattle.std.specs.Str.{chars, is_utf8, all_scalars, encode_utf8_all}
use Rattle.std.specs.Str.Lossy.{utf8_valid_len}
use Rattle.orc_yang.specs.declared.fault.YangFault.{YangFault}
use Rattle.orc_yang.specs.declared.fault.YangFault.TheVariants.{NotUtf8, BadToken, BadEscape, OpenString, OpenBlock, Depth, Memory}
use Rattle.orc_yang.specs.declared.statement.Stmt.{Stmt}
use Rattle.orc_yang.specs.Text.{placed, IsTextOf}
use Rattle.orc_yang.specs.Faults.{IsUnclosed, byte_count}
use Rattle.orc_yang.specs.Machine.{run, start}

-- the statements that the bytes are the text of, or their fault
unfoldable pub statements_of : List ℕ → Result (List Stmt) YangFault
statements_of bytes = if is_utf8 bytes
    then run (placed 0 1 (chars bytes)) start (length bytes)
    else Err (NotUtf8 (utf8_valid_len bytes))

-- the answer is this fault, unless memory ran out
abbrev pub FailsWith : {A : Type 0} → Result A YangFault → YangFault → Type 0
FailsWith answer Memory = Unit {0}
FailsWith answer (NotUtf8 at) = answer ≡ Err (NotUtf8 at)
FailsWith answer (BadToken at) = answer ≡ Err (BadToken at)
FailsWith answer (BadEscape at) = answer ≡ Err (BadEscape at)
FailsWith answer (OpenString at) = answer ≡ Err (OpenString at)
FailsWith answer (OpenBlock at) = answer ≡ Err (OpenBlock at)
FailsWith answer (Depth at) = answer ≡ Err (Depth at)

-- the one answer: the statements or the fault of the bytes, unless memory ran out
abbrev pub IsParseOf : {Z : Type 0} → List ℕ → Result (Vec Stmt Z) YangFault → Type 0
IsParseOf bytes result = MatchResult result
    (λ list. statements_of bytes ≡ Ok list.items)
    (FailsWith (statements_of bytes))

-- statements that the bytes spell are read, unless memory ran out, and as no other list
abbrev pub ReadsNoOther : {Z : Type 0} → List ℕ → Result (Vec Stmt Z) YangFault → Type 0
ReadsNoOther bytes result = (list : List Stmt) → IsTextOf bytes list
    → MatchResult result (λ read. read.items ≡ list) (λ fault. fault ≡ Memory)

-- a string or a comment without end is the fault, whatever stands in it, unless memory ran out
abbrev pub TellsUnclosed : {A : Type 0} → List ℕ → Result A YangFault → Type 0
TellsUnclosed bytes result = (front rest : List ℕ) → all_scalars (front ++ rest) ≡ true
    → encode_utf8_all (front ++ rest) ≡ bytes → IsUnclosed front rest
    → MatchResult result (λ _. ⊥) (λ fault. (fault ≡ OpenString (byte_count front)) ⊎ (fault ≡ Memory))
