-- What the two writes of an append leave, the entry after the gate and then the gate.
use Rattle.std.specs.Prelude.{◌≡◌, ℕ, ◌+◌, ◌-◌, List, [], ◌∷◌, ◌++◌, length, Option, Some, None, IfSome}
use Rattle.std.specs.Option.{option_map}
use Rattle.std.proofs.Common.{inl, refl, sym, ap, ◌∙◌, subst, arith, length-append}
use Rattle.std.proofs.lemmas.Option.{MatchOption-at_some}
use Rattle.orc_disk.specs.Files.{written}
use Rattle.orc_disk.specs.Torn.{Torn}
use Rattle.orc_disk.specs.Crashes.{LeavesAsRead}
use Rattle.orc_journal.specs.Entries.{entry_bytes}
use Rattle.orc_journal.specs.Journals.{gated, journal_bytes, journal_length, IsGated}
use Rattle.orc_journal.specs.Appends.{block_bytes, with_entry, IsBeforeOrAfter}
use Rattle.orc_journal.specs.inside.Blocks.{IsTornFrom, PutsEntry}
use Rattle.orc_journal.specs.declared.entry.Entry.{Entry}
use Rattle.orc_journal.proofs.TornFiles.{IsStaged, journal_push, torn_behind, written_behind, torn_gate, written_gate}

-- one entry more with its gate
pub journal_length-push : (decls : List ℕ) (entries : List Entry) (entry : Entry) → journal_length decls (entries ++ entry ∷ []) ≡ journal_length decls entries + length (entry_bytes entry) + 1
journal_length-push decls entries entry = omega (arith, ap length (journal_push decls entries entry), length-append (journal_bytes decls entries) (gated entry))

-- what is so of the file after a write, where the disk reports it
pub IfSome-mapped : (old new : Option (List ℕ)) (f : List ℕ → List ℕ) (P Q : List ℕ → Type 0) → new ≡ option_map f old → IfSome old P → ((file : List ℕ) → P file → Q (f file)) → IfSome new Q
IfSome-mapped None new f P Q is holds step = subst (λ (o : Option (List ℕ)). IfSome o Q) (sym is) tt
IfSome-mapped (Some file) new f P Q is holds step = subst (λ (o : Option (List ℕ)). IfSome o Q) (sym is) (step file holds)

-- and of a file that it reports
pub IfSome-some : (content : Option (List ℕ)) (P : List ℕ → Type 0) (file : List ℕ) → content ≡ Some file → IfSome content P → P file
IfSome-some content P file is holds = MatchOption-at_some _ P file is holds

-- both writes, one after the other
pub with_entry-done : (old mid new : Option (List ℕ)) (at : ℕ) (block : List ℕ) (entry : Entry) → block ≡ block_bytes entry
    → mid ≡ option_map (written at block) old → new ≡ option_map (written (at - 1) (1 ∷ [])) mid → new ≡ option_map (with_entry at entry) old
with_entry-done old mid new at block entry is first second =
    second ∙ ap (option_map (written (at - 1) (1 ∷ []))) (first ∙ ap (λ (b : List ℕ). option_map (written at b) old) is) ∙ twice old
  where
    twice : (o : Option (List ℕ)) → option_map (written (at - 1) (1 ∷ [])) (option_map (written at (block_bytes entry)) o) ≡ option_map (with_entry at entry) o
    twice None = refl
    twice (Some file) = refl

-- with the entry after its ending gate the file is still the journal of those before
pub staged_closed : (decls : List ℕ) (entries : List Entry) (entry : Entry) (file : List ℕ) → IsStaged decls entries entry file → IsGated file decls entries
staged_closed decls entries entry file is = record {
  gate = is.gate;
  rest = entry_bytes entry ++ 0 ∷ is.rest;
  bytes = is.bytes;
  closed = is.closed;
  writable = is.writable;
}

module _ (decls : List ℕ) (entries : List Entry) (entry : Entry) (at : ℕ) (block : List ℕ) where
  module _ (content : Option (List ℕ)) (puts : PutsEntry content at block decls entries entry) where
    pub first_torn : (images : List ℕ → Type 0) → LeavesAsRead content images → (c : List ℕ) → IsTornFrom images at (length block) c
        → IsBeforeOrAfter decls entries entry c
    first_torn images as_read c torn =
        let before = IfSome-some content (λ file. IsGated file decls entries) torn.0 (as_read torn.0 torn.1) puts.file in
        inl (torn_behind decls entries (length block) torn.0 c before (subst (λ (k : ℕ). Torn k (length block) torn.0 c) puts.place torn.2))

    staged : (file : List ℕ) → IsGated file decls entries → IsStaged decls entries entry (written at block file)
    staged file before =
        let whole = written_behind decls entries entry file before puts.fits in
        let placed = subst (λ (k : ℕ). IsStaged decls entries entry (written k (entry_bytes entry ++ 0 ∷ []) file)) (sym puts.place) whole in
        subst (λ (b : List ℕ). IsStaged decls entries entry (written at b file)) (sym puts.bytes) placed

    pub first_written : (mid : Option (List ℕ)) → mid ≡ option_map (written at block) content → IfSome mid (IsStaged decls entries entry)
    first_written mid is = IfSome-mapped content mid (written at block) (λ file. IsGated file decls entries) (IsStaged decls entries entry) is puts.file staged

    at_gate : at - 1 ≡ length (journal_bytes decls entries)
    at_gate = omega (arith, puts.place)

    pub second_torn : (mid : Option (List ℕ)) (images : List ℕ → Type 0) → LeavesAsRead mid images → IfSome mid (IsStaged decls entries entry)
        → (c : List ℕ) → IsTornFrom images (at - 1) 1 c → IsBeforeOrAfter decls entries entry c
    second_torn mid images as_read is c torn =
        let before = IfSome-some mid (IsStaged decls entries entry) torn.0 (as_read torn.0 torn.1) is in
        torn_gate decls entries entry torn.0 c before (subst (λ (k : ℕ). Torn k 1 torn.0 c) at_gate torn.2)

    opened : (file : List ℕ) → IsStaged decls entries entry file → IsGated (written (at - 1) (1 ∷ []) file) decls (entries ++ entry ∷ [])
    opened file is = subst (λ (k : ℕ). IsGated (written k (1 ∷ []) file) decls (entries ++ entry ∷ [])) (sym at_gate) (written_gate decls entries entry file is)

    pub second_written : (mid new : Option (List ℕ)) → IfSome mid (IsStaged decls entries entry) → new ≡ option_map (written (at - 1) (1 ∷ [])) mid
        → IfSome new (λ file. IsGated file decls (entries ++ entry ∷ []))
    second_written mid new before is =
        IfSome-mapped mid new (written (at - 1) (1 ∷ [])) (IsStaged decls entries entry) (λ file. IsGated file decls (entries ++ entry ∷ [])) is before opened
