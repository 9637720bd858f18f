-- What the bytes of a file are as a journal.
use Rattle.std.specs.Prelude.{◌≡◌, ℕ, ◌+◌, ◌<◌, Bool, true, not, ◌==◌, List, [], ◌∷◌, ◌++◌, length, take, drop, All, IsTrue, if◌then◌else◌}
use Rattle.std.specs.Int.{w32, to_be_bytes, from_be_bytes}
use Rattle.std.specs.List.{flat_map}
use Rattle.orc_journal.specs.Entries.{entry_bytes, IsWritable}
use Rattle.orc_journal.specs.Orders.{is_ordered, follows}
use Rattle.orc_journal.specs.declared.entry.Entry.{Entry}
use Rattle.orc_journal.specs.declared.gate.TheConstants.{OPEN, CLOSED}
use Rattle.orc_journal.specs.declared.header.TheConstants.{MAGIC, HEADER_LEN}

-- the first bytes of each journal
abbrev pub magic : List ℕ
magic = MAGIC.now

-- the header: the first bytes, the length of the declarations, and the declarations
abbrev pub header : List ℕ → List ℕ
header decls = magic ++ to_be_bytes w32 (length decls) ++ decls

-- an open gate and the entry after it
abbrev pub gated : Entry → List ℕ
gated entry = OPEN ∷ entry_bytes entry

-- the header, and each entry after its gate
abbrev pub journal_bytes : List ℕ → List Entry → List ℕ
journal_bytes decls entries = header decls ++ flat_map gated entries

-- every value but one is closed
abbrev pub is_closed : ℕ → Bool
is_closed gate = not (gate == OPEN)

-- and this one is written
abbrev pub closing_gate : ℕ
closing_gate = CLOSED

-- the end of the file in the gate's place, or a closed gate and whatever follows
abbrev pub is_ending : List ℕ → Bool
is_ending [] = true
is_ending (gate ∷ rest) = is_closed gate

-- the file is a journal of these declarations and these entries
pub record IsJournal (file decls : List ℕ) (entries : List Entry) : Type 0 where
  pub rest : List ℕ
  pub bytes : file ≡ journal_bytes decls entries ++ rest
  pub ending : IsTrue (is_ending rest)
  pub writable : All IsWritable entries

-- the file is a journal of these declarations and these entries, and its ending gate is there
pub record IsGated (file decls : List ℕ) (entries : List Entry) : Type 0 where
  pub gate : ℕ
  pub rest : List ℕ
  pub bytes : file ≡ journal_bytes decls entries ++ gate ∷ rest
  pub closed : IsTrue (is_closed gate)
  pub writable : All IsWritable entries

-- the length of the journal up to and with its ending gate
abbrev pub journal_length : List ℕ → List Entry → ℕ
journal_length decls entries = length (journal_bytes decls entries) + 1

-- why a file is no journal of these declarations, by the first cause that holds

-- it isn't empty and doesn't begin as journals do
pub record IsNotJournal (file : List ℕ) : Type 0 where
  pub some : 0 < length file
  pub other : take (length magic) file ≡ magic → ⊥

-- the declarations that it holds, as far as they are there
abbrev pub stored : List ℕ → List ℕ
stored file = take (from_be_bytes w32 (take 4 (drop (length magic) file))) (drop HEADER_LEN file)

-- the length of the longest prefix that two texts have in common
abbrev pub common : List ℕ → List ℕ → ℕ
common [] ys = 0
common (x ∷ xs) [] = 0
common (x ∷ xs) (y ∷ ys) = if x == y then 1 + common xs ys else 0

-- it is a journal of other declarations, which differ first at this offset in them; a text that ended counts as
-- different
pub record IsForeign (file decls : List ℕ) (at : ℕ) : Type 0 where
  pub begins : take (length magic) file ≡ magic
  pub other : (rest : List ℕ) → file ≡ header decls ++ rest → ⊥
  pub place : at ≡ common (stored file) decls

-- an open gate stands before this offset, and after it no entry, or one that may not follow those before it
pub record IsDamaged (file decls : List ℕ) (at : ℕ) : Type 0 where
  pub before : List Entry
  pub rest : List ℕ
  pub bytes : file ≡ journal_bytes decls before ++ OPEN ∷ rest
  pub place : at ≡ length (journal_bytes decls before) + 1
  pub writable : All IsWritable before
  pub ordered : IsTrue (is_ordered before)
  pub none : (entry : Entry) (more : List ℕ) → rest ≡ entry_bytes entry ++ more → IsWritable entry
      → IsTrue (follows before entry) → ⊥
