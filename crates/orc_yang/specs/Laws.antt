-- Laws: a text has one fault, and what is parsed follows the grammar.
use Rattle.std.specs.Prelude.{ℕ, ◌≡◌, ◌≢◌, ◌↔◌, true, List, ◌++◌, Ok, Err}
use Rattle.std.specs.Str.{encode_utf8_all, all_scalars}
use Rattle.orc_yang.specs.declared.fault.YangFault.{YangFault}
use Rattle.orc_yang.specs.declared.fault.YangFault.TheVariants.{OpenString, Memory}
use Rattle.orc_yang.specs.declared.statement.Stmt.{Stmt}
use Rattle.orc_yang.specs.Text.{IsTextOf}
use Rattle.orc_yang.specs.Faults.{IsFault, IsUnclosed, byte_count}
use Rattle.orc_yang.specs.Parsing.{statements_of}

-- A string or a comment without end goes before what is at fault in it, or at the text's end.
abbrev pub GoesFirst : List ℕ → YangFault → Type 0
GoesFirst bytes fault = (front rest : List ℕ) → all_scalars (front ++ rest) ≡ true
    → encode_utf8_all (front ++ rest) ≡ bytes → IsUnclosed front rest → fault ≡ OpenString (byte_count front)

-- Bytes have one fault at most, apart from running out of memory.
abbrev pub HasOneFault : Type 0
HasOneFault = (bytes : List ℕ) (fault other : YangFault) → IsFault bytes fault → IsFault bytes other
    → GoesFirst bytes fault → GoesFirst bytes other → fault ≢ Memory → other ≢ Memory → fault ≡ other

-- Bytes are parsed as statements exactly where they are the text of these; else as their fault, which no other goes
-- before, and which is never that memory runs out.
pub record FollowsGrammar : Type 0 where
  pub statements : (bytes : List ℕ) (list : List Stmt) → (statements_of bytes ≡ Ok list) ↔ IsTextOf bytes list
  pub fault : (bytes : List ℕ) (fault : YangFault) → statements_of bytes ≡ Err fault → IsFault bytes fault
  pub first : (bytes : List ℕ) (fault : YangFault) → statements_of bytes ≡ Err fault → GoesFirst bytes fault
  pub no_memory : (bytes : List ℕ) → statements_of bytes ≢ Err Memory
