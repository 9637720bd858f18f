-- A file is one journal only, and is refused for one reason only; what the order rules ask.
use Rattle.std.specs.Prelude.{◌≡◌, ◌↔◌, ℕ, ◌<◌, ◌^◌, Bool, true, false, List, [], ◌∷◌, ◌++◌, length, All, Contains, IsTrue}
use Rattle.orc_call.specs.declared.call.Call.{Call}
use Rattle.orc_journal.specs.Entries.{entry_kind, number_of}
use Rattle.orc_journal.specs.Orders.{follows, is_ordered}
use Rattle.orc_journal.specs.Journals.{IsJournal, IsNotJournal, IsForeign, IsDamaged}
use Rattle.orc_journal.specs.declared.entry.Entry.{Entry}
use Rattle.orc_journal.specs.declared.entry.Entry.TheVariants.{Intent, Decide, Abort, Settled}
use Rattle.orc_journal.specs.declared.kind.TheConstants.{INTENT}

-- A file is the journal of one list of entries only.
abbrev pub HasOneListOfEntries : Type 0
HasOneListOfEntries =
    (file decls : List ℕ) (entries others : List Entry)
    → IsJournal file decls entries → IsJournal file decls others → entries ≡ others

-- It is the journal of one text of declarations only.
abbrev pub HasOneTextOfDeclarations : Type 0
HasOneTextOfDeclarations =
    (file decls text : List ℕ) (entries others : List Entry) → length decls < 2 ^ 32 → length text < 2 ^ 32
    → IsJournal file decls entries → IsJournal file text others → decls ≡ text

-- what a file may be for a reader with declarations of its own
pub data Verdict : Type 0 where
  a_journal : List Entry → Verdict
  not_a_journal : Verdict
  foreign : ℕ → Verdict
  damaged : ℕ → Verdict

abbrev pub Deserves : List ℕ → List ℕ → Verdict → Type 0
Deserves file decls (a_journal entries) = IsJournal file decls entries × IsTrue (is_ordered entries)
Deserves file decls not_a_journal = IsNotJournal file
Deserves file decls (foreign at) = IsForeign file decls at
Deserves file decls (damaged at) = IsDamaged file decls at

-- A file deserves one verdict only. So where a cause of refusal holds, nothing else is answered, unless memory or the
-- disk fails.
abbrev pub HasOneVerdict : Type 0
HasOneVerdict =
    (file decls : List ℕ) (verdict other : Verdict)
    → Deserves file decls verdict → Deserves file decls other → verdict ≡ other

-- what an intent needs: no earlier entry names its transaction
abbrev pub IsUnnamed : List Entry → ℕ → Type 0
IsUnnamed before t = All (λ entry. number_of entry ≡ t → ⊥) before

-- the intent of a transaction is there
abbrev pub HasIntent : List Entry → ℕ → Type 0
HasIntent before t = (call : Call) × (devices : List ℕ) × Contains before (Intent t call devices)

-- and nothing else of it
abbrev pub HasOnlyIntents : List Entry → ℕ → Type 0
HasOnlyIntents before t = All (λ entry. number_of entry ≡ t → entry_kind entry ≡ INTENT) before

-- it is not settled
abbrev pub IsUnsettled : List Entry → ℕ → Type 0
IsUnsettled before t = All (λ entry. entry ≡ Settled t → ⊥) before

-- what each entry asks of those before it
abbrev pub MayFollow : List Entry → Entry → Type 0
MayFollow before (Intent t call devices) = IsUnnamed before t
MayFollow before (Decide t) = HasIntent before t × HasOnlyIntents before t
MayFollow before (Abort t) = HasIntent before t × HasOnlyIntents before t
MayFollow before (Settled t) = HasIntent before t × IsUnsettled before t

-- After entries in order another one may stand exactly where it finds what it asks: an intent is the first entry of
-- its transaction, a Decide or Abort comes after the intent and nothing else, and a Settled after the intent, once.
abbrev pub KeepsOrder : Type 0
KeepsOrder =
    (before : List Entry) (entry : Entry) → IsTrue (is_ordered before)
    → (IsTrue (follows before entry) ↔ MayFollow before entry)

-- what may come after an entry of the same transaction: Decide, Abort or Settled after an intent, and Settled after a
-- Decide or an Abort
abbrev pub may_be_next : Entry → Entry → Bool
may_be_next (Intent t call devices) (Intent number other others) = false
may_be_next (Intent t call devices) (Decide number) = true
may_be_next (Intent t call devices) (Abort number) = true
may_be_next (Intent t call devices) (Settled number) = true
may_be_next (Decide t) (Settled number) = true
may_be_next (Abort t) (Settled number) = true
may_be_next earlier entry = false

-- What one entry more changes for the next one: nothing where that is of another transaction; and where it is of the
-- same, the entry that may stand there says what may come next.
abbrev pub EntryMoreKeepsOrder : Type 0
EntryMoreKeepsOrder =
    (before : List Entry) (more entry : Entry)
    → ((number_of more ≡ number_of entry → ⊥) → (MayFollow (before ++ more ∷ []) entry ↔ MayFollow before entry))
    × (number_of more ≡ number_of entry → MayFollow before more
    → (MayFollow (before ++ more ∷ []) entry ↔ IsTrue (may_be_next more entry)))
