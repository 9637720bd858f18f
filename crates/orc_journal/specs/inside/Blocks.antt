-- What an append puts where.
use Rattle.std.specs.Prelude.{◌≡◌, ◌⊎◌, ℕ, ◌+◌, ◌-◌, false, List, [], ◌∷◌, ◌++◌, Option, IfSome}
use Rattle.std.specs.Option.{option_map}
use Rattle.orc_disk.specs.Files.{written}
use Rattle.orc_disk.specs.Meanings.{DiskMeaning}
use Rattle.orc_disk.specs.Rows.{row}
use Rattle.orc_disk.specs.Torn.{Torn}
use Rattle.orc_journal.specs.Entries.{IsEntry, IsWritable}
use Rattle.orc_journal.specs.Journals.{journal_length, IsGated}
use Rattle.orc_journal.specs.Appends.{block_bytes, opens_gate, IsLeftBehind, FailsToSync}
use Rattle.orc_journal.specs.declared.entry.Entry.{Entry}
use Rattle.orc_journal.specs.declared.gate.TheConstants.{OPEN}

-- a file is one of these images, torn by a write of n bytes at this offset
abbrev pub IsTornFrom : (List ℕ → Type 0) → ℕ → ℕ → List ℕ → Type 0
IsTornFrom images at n file = (before : List ℕ) × images before × Torn at n before file

-- the bytes are those of an entry, and a closed gate
pub record IsBlock (block : List ℕ) (entry : Entry) : Type 0 where
  pub bytes : block ≡ block_bytes entry
  pub fields : IsEntry entry

-- what is so of the entry whose they are
abbrev pub WhereIsBlock : List ℕ → (Entry → Type 0) → Type 0
WhereIsBlock block P = (entry : Entry) → IsBlock block entry → P entry

-- at this place, after the ending gate, these bytes put an entry and a closed gate after it
pub record PutsEntry (content : Option (List ℕ)) (at : ℕ) (block decls : List ℕ) (entries : List Entry) (entry : Entry)
    : Type 0 where
  pub file : IfSome content (λ file. IsGated file decls entries)
  pub place : at ≡ journal_length decls entries
  pub bytes : block ≡ block_bytes entry
  pub fits : IsWritable entry

-- what is so of the declarations, entries and entry for which they do
abbrev pub WherePuts : Option (List ℕ) → ℕ → List ℕ → (List ℕ → List Entry → Entry → Type 0) → Type 0
WherePuts content at block P =
    (decls : List ℕ) (entries : List Entry) (entry : Entry) → PutsEntry content at block decls entries entry
    → P decls entries entry

module _ {D : Type 0} (disk : DiskMeaning D) where
  -- Of a write and its sync one failed, after so many that were done. Where that is the write, none came before it,
  -- and where it is the sync, the bytes are there.
  pub record IsPutShort (at : ℕ) (bytes : List ℕ) (old new : D) (done : ℕ) : Type 0 where
    pub cut : done ≡ 0 → disk.cut at bytes old new
    pub put : done ≡ 1 → disk.content new ≡ option_map (written at bytes) (disk.content old)
    pub syncing : done ≡ 1 → FailsToSync disk 1 old new

  -- The entry was put with a closed gate after it, and then the write failed that opens the gate before it.
  pub record IsOpenedShort (at : ℕ) (block : List ℕ) (old new : D) : Type 0 where
    pub before : D
    pub ran : disk.leads (row 2 false) old before
    pub put : disk.content before ≡ option_map (written at block) (disk.content old)
    pub closed : WherePuts (disk.content old) at block (λ decls entries entry.
        IfSome (disk.content before) (λ file. IsGated file decls entries))
    pub opened : WherePuts (disk.content old) at block (λ decls entries entry.
        IfSome (option_map (written (at - 1) (OPEN ∷ [])) (disk.content before))
        (λ file. IsGated file decls (entries ++ entry ∷ [])))
    pub cut : disk.cut (at - 1) (OPEN ∷ []) before new

  -- Of the four writes and syncs of an append one failed, after so many that were done.
  pub record IsAppendedShort (at : ℕ) (block : List ℕ) (old new : D) (done : ℕ) : Type 0 where
    pub left : WherePuts (disk.content old) at block (λ decls entries entry.
        IfSome (disk.content new) (IsLeftBehind done decls entries entry))
    pub cut : done ≡ 0 → disk.cut at block old new
    pub syncing : (done ≡ 1) ⊎ (done ≡ opens_gate) → FailsToSync disk done old new
    pub put : done ≡ 1 → disk.content new ≡ option_map (written at block) (disk.content old)
    pub opening : done + 1 ≡ opens_gate → IsOpenedShort at block old new
    pub opened : done ≡ opens_gate → disk.content new
        ≡ option_map (written (at - 1) (OPEN ∷ [])) (option_map (written at block) (disk.content old))
