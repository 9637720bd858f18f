-- What an open journal is once the block of an entry was put after it.
use Rattle.std.specs.Prelude.{◌≡◌, ℕ, ◌+◌, ◌<◌, ◌≤◌, ◌^◌, true, false, List, [], ◌∷◌, ◌++◌, length, IfSome, is_some}
use Rattle.std.specs.Option.{option_map}
use Rattle.std.specs.Int.{w32, to_be_bytes}
use Rattle.std.proofs.Common.{ap, refl, subst, ◌∙◌, arith, length-append}
use Rattle.orc_io.specs.Counts.{Rose}
use Rattle.orc_disk.specs.Files.{written}
use Rattle.orc_disk.specs.Meanings.{DiskMeaning}
use Rattle.orc_disk.specs.Moments.{LeavesOnly}
use Rattle.orc_disk.specs.Crashes.{LeavesAsRead}
use Rattle.orc_disk.specs.Rows.{row}
use Rattle.orc_disk.specs.Course.{FailsAmong}
use Rattle.orc_journal.specs.Entries.{entry_kind, payload, entry_bytes}
use Rattle.orc_journal.specs.Opened.{OpenJournal, IsReady, WhereHolds}
use Rattle.orc_journal.specs.Journals.{gated, journal_bytes, IsGated}
use Rattle.orc_journal.specs.Appends.{block_bytes, with_entry, IsBeforeOrAfter, LeavesBeforeOrAfter, HasAppended, HasFailed}
use Rattle.orc_journal.specs.inside.Blocks.{IsBlock, PutsEntry, WherePuts, IsAppendedShort}
use Rattle.orc_journal.specs.declared.entry.Entry.{Entry}
use Rattle.orc_journal.proofs.Puts.{with_entry-done}
use Rattle.orc_journal.proofs.TornFiles.{journal_push}

length_entry : (entry : Entry) → length (entry_bytes entry) ≡ length (payload entry) + 5
length_entry entry = omega (arith, length-append (entry_kind entry ∷ to_be_bytes w32 (length (payload entry))) (payload entry))

module _ {D : Type 0} (disk : DiskMeaning D) (old new : OpenJournal D) (entry : Entry) (block : List ℕ) (is : IsBlock block entry)
    (fits : old.limit < 2 ^ 32 → old.len + length block ≤ old.limit) where
  -- the block is put where the journal ends
  puts : WhereHolds disk old (λ decls entries. PutsEntry (disk.content old.disk) old.len block decls entries entry)
  puts decls entries holds = record {
    file = holds.file;
    place = holds.len;
    bytes = is.bytes;
    fits = record {
      fields = is.fields;
      length = omega (arith, fits holds.limit, holds.limit, ap length is.bytes, length-append (entry_bytes entry) (0 ∷ []), length_entry entry);
    };
  }

  -- so what its two writes leave is what an append leaves
  pub leaves_either : is_some (disk.content new.disk) ≡ is_some (disk.content old.disk)
      → WherePuts (disk.content old.disk) old.len block (λ decls entries entry. LeavesOnly disk old.disk new.disk (IsBeforeOrAfter decls entries entry))
      → WherePuts (disk.content old.disk) old.len block (λ decls entries entry. IfSome (disk.content new.disk) (IsBeforeOrAfter decls entries entry))
      → LeavesBeforeOrAfter disk old new entry
  leaves_either tells row left = record {
    still_tells = tells;
    any_moment = λ decls entries holds. row decls entries entry (puts decls entries holds);
    left = λ decls entries holds. left decls entries entry (puts decls entries holds);
  }

  -- also where one of them failed
  pub has_failed : Rose (disk.faults old.disk) (disk.faults new.disk) → new ≡ record old { disk = new.disk; spent = true }
      → FailsAmong disk 4 old.disk new.disk (IsAppendedShort disk old.len block old.disk new.disk) → HasFailed disk old new entry
  has_failed rose spent fails = record {
    rose = rose;
    spent = spent;
    course = record {
      done = fails.done;
      fewer = fails.fewer;
      failed = fails.failed;
      known = λ decls entries holds. fails.known.left decls entries entry (puts decls entries holds);
    };
    puts = record {
      cut = λ none. subst (λ (b : List ℕ). disk.cut old.len b old.disk new.disk) is.bytes (fails.known.cut none);
      syncing = fails.known.syncing;
      put = λ one. fails.known.put one ∙ ap (λ (b : List ℕ). option_map (written old.len b) (disk.content old.disk)) is.bytes;
      opened = λ three. with_entry-done (disk.content old.disk) (option_map (written old.len block) (disk.content old.disk)) (disk.content new.disk) old.len block entry is.bytes refl
          (fails.known.opened three);
      opening = λ third.
          let short = fails.known.opening third in
          record {
            before = short.before;
            ran = short.ran;
            put = short.put ∙ ap (λ (b : List ℕ). option_map (written old.len b) (disk.content old.disk)) is.bytes;
            cut = short.cut;
          };
    };
    behind = λ third.
        let short = fails.known.opening third in
        record {
          closed = λ decls entries holds. short.closed decls entries entry (puts decls entries holds);
          opened = λ decls entries holds. short.opened decls entries entry (puts decls entries holds);
        };
  }

-- it was put
pub has_appended : {D : Type 0} (disk : DiskMeaning D) (old : OpenJournal D) (at : D) (entry : Entry) (block : List ℕ) → IsBlock block entry → IsReady disk old
    → (old.limit < 2 ^ 32 → old.len + length block ≤ old.limit)
    → WherePuts (disk.content old.disk) old.len block (λ decls entries entry. IfSome (disk.content at) (λ file. IsGated file decls (entries ++ entry ∷ [])))
    → ((entry : Entry) → block ≡ block_bytes entry → disk.content at ≡ option_map (with_entry old.len entry) (disk.content old.disk))
    → LeavesAsRead (disk.content at) (disk.may_leave at) → disk.leads (row 4 false) old.disk at
    → HasAppended disk old (record old { disk = at; len = old.len + length block; fresh = false }) entry
has_appended {D} disk old at entry block is ready fits done becomes durable course =
    let new : OpenJournal D = record old { disk = at; len = old.len + length block; fresh = false } in
    let longer : length block ≡ length (entry_bytes entry) + 1 = omega (arith, ap length is.bytes, length-append (entry_bytes entry) (0 ∷ [])) in
    let count : old.len + length block ≡ old.len + length (entry_bytes entry) + 1 = omega (arith, longer) in
    record {
      holds = λ decls entries holds. record {
        unspent = holds.unspent;
        start = holds.start;
        len = omega (arith, holds.len, longer, ap length (journal_push decls entries entry), length-append (journal_bytes decls entries) (gated entry));
        limit = holds.limit;
        file = done decls entries entry (puts disk old new entry block is fits decls entries holds);
        durable = durable;
      };
      becomes = becomes entry is.bytes;
      state = ap (λ (n : ℕ). record old { disk = at; len = n; fresh = false }) count;
      fits = fits ready.2.limit;
      course = course;
    }
