-- What is left of an append of which some writes and syncs were done and the next one failed.
use Rattle.std.specs.Prelude.{◌≡◌, ℕ, ◌+◌, ◌-◌, ◌<◌, false, List, [], ◌∷◌, ◌++◌, length, Option, Some, None, IfSome}
use Rattle.std.specs.Option.{option_map}
use Rattle.std.proofs.Common.{refl, subst, ap, ◌∙◌, ⊎_elim, arith}
use Rattle.std.proofs.lemmas.Option.{IfSome_then}
use Rattle.orc_disk.specs.Files.{written}
use Rattle.orc_disk.specs.Meanings.{DiskMeaning}
use Rattle.orc_disk.specs.Rows.{Course, joined, row}
use Rattle.orc_disk.specs.Torn.{Torn}
use Rattle.orc_disk.specs.Crashes.{LeavesAsRead}
use Rattle.orc_journal.specs.Journals.{IsGated}
use Rattle.orc_journal.specs.Appends.{IsLeftBehind}
use Rattle.orc_journal.specs.inside.Blocks.{IsTornFrom, PutsEntry, IsPutShort, IsAppendedShort}
use Rattle.orc_journal.specs.declared.entry.Entry.{Entry}
use Rattle.orc_journal.proofs.Puts.{IfSome-some, first_written, second_written, staged_closed}
use Rattle.orc_journal.proofs.TornFiles.{torn_behind}

module _ (decls : List ℕ) (entries : List Entry) (entry : Entry) (done : ℕ) where
  -- the write of the entry failed, or its sync
  pub left_by_first : (at : ℕ) (block : List ℕ) (content : Option (List ℕ)) (images : List ℕ → Type 0) → LeavesAsRead content images
      → PutsEntry content at block decls entries entry → done < 2
      → (c : List ℕ) → IsTornFrom images at (length block) c → IsLeftBehind done decls entries entry c
  left_by_first at block content images as_read puts early c torn =
      let gated = IfSome-some content (λ file. IsGated file decls entries) torn.0 (as_read torn.0 torn.1) puts.file in
      record {
        before = λ e. torn_behind decls entries (length block) torn.0 c gated (subst (λ (k : ℕ). Torn k (length block) torn.0 c) puts.place torn.2);
        after = λ e. absurd (omega (arith, early, e));
      }

  -- the write of the gate failed, or its sync
  pub left_by_second : (content : Option (List ℕ)) → done < 2
      → (done ≡ 1 → IfSome content (λ file. IsGated file decls (entries ++ entry ∷ [])))
      → IfSome content (IsLeftBehind (2 + done) decls entries entry)
  left_by_second None fewer opened = tt
  left_by_second (Some file) fewer opened = record {
    before = λ e. absurd (omega (arith, e));
    after = λ e. opened (omega (arith, e, fewer));
  }

-- the block was put and synced, and of the gate's byte and its sync one failed
pub appended_short : {D : Type 0} (disk : DiskMeaning D)
    → ((first second : Course) (a b c : D) → disk.leads first a b → disk.leads second b c → disk.leads (joined first second) a c)
    → (at : ℕ) (block : List ℕ) (old mid new : D) (done : ℕ) → disk.leads (row 2 false) old mid
    → disk.content mid ≡ option_map (written at block) (disk.content old) → done < 2 → IsPutShort disk (at - 1) (1 ∷ []) mid new done
    → IsAppendedShort disk at block old new (2 + done)
appended_short disk goes_on at block old mid new done ran put fewer short = record {
  left = λ decls entries entry puts.
      let staged = first_written decls entries entry at block (disk.content old) puts (disk.content mid) put in
      left_by_second decls entries entry done (disk.content new) fewer
      (λ one. second_written decls entries entry at block (disk.content old) puts (disk.content mid) (disk.content new) staged (short.put one));
  cut = λ none. absurd (omega (arith, none));
  put = λ one. absurd (omega (arith, one));
  syncing = λ which.
      let one : done ≡ 1 = ⊎_elim (λ one. absurd (omega (arith, one))) (λ three. omega (arith, three)) which in
      let sync = short.syncing one in
      let three : 2 + 1 ≡ 2 + done = omega (arith, one) in
      record {
        before = sync.before;
        ran = subst (λ (n : ℕ). disk.leads (row n false) old sync.before) three (goes_on (row 2 false) (row 1 false) old mid sync.before ran sync.ran);
        cut = sync.cut;
      };
  opened = λ three. short.put (omega (arith, three)) ∙ ap (option_map (written (at - 1) (1 ∷ []))) put;
  opening = λ third. record {
    before = mid;
    ran = ran;
    put = put;
    closed = λ decls entries entry puts.
        IfSome_then (disk.content mid) (first_written decls entries entry at block (disk.content old) puts (disk.content mid) put) (staged_closed decls entries entry);
    opened = λ decls entries entry puts.
        let staged = first_written decls entries entry at block (disk.content old) puts (disk.content mid) put in
        second_written decls entries entry at block (disk.content old) puts (disk.content mid) (option_map (written (at - 1) (1 ∷ [])) (disk.content mid)) staged refl;
    cut = short.cut (omega (arith, third));
  };
}
