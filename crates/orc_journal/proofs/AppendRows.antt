-- Entries that are appended in turn, and what a row of them adds up to.
use Rattle.std.specs.Prelude.{◌≡◌, ℕ, ◌+◌, ◌-◌, ◌*◌, min, Bool, true, false, ◌||◌, List, [], ◌∷◌, ◌++◌, length, IfSome}
use Rattle.std.proofs.Common.{arith, refl, sym, subst, ap, ◌∙◌, inl, inr, ⊎_elim, length-append}
use Rattle.std.proofs.lemmas.List.{append_assoc, append-nil}
use Rattle.orc_text.specs.Counts.{capped}
use Rattle.orc_disk.specs.Rows.{Course, joined}
use Rattle.orc_disk.specs.Course.{Counted}
use Rattle.orc_disk.specs.Meanings.{DiskMeaning}
use Rattle.orc_disk.specs.Moments.{LeavesOnly}
use Rattle.orc_disk.proofs.Courses.{row-trans}
use Rattle.orc_disk.proofs.Moments as moments
use Rattle.orc_journal.specs.Journals.{IsGated, journal_length}
use Rattle.orc_journal.specs.Appends.{IsBeforeOrAfter}
use Rattle.orc_journal.specs.declared.entry.Entry.{Entry}
use Rattle.orc_journal.proofs.Puts.{journal_length-push}
use Rattle.orc_journal.specs.Views.{JournalView}
use Rattle.orc_journal.specs.Outcomes.{ops_to_append, ComesNearer, Did, LeavesOldOrNew, IsAppendedTo, StopsAppend, FailsAppend}
use Rattle.orc_journal.specs.Rows.{HasSomeOf, AppendsEach}
use Rattle.orc_journal.proofs.AppendOutcomes.{did}

-- a file that an append may leave has some of the entries that it appends
one_of : (decls : List ℕ) (entries : List Entry) (entry : Entry) (file : List ℕ) → IsBeforeOrAfter decls entries entry file → HasSomeOf decls entries (entry ∷ []) file
one_of decls entries entry file is = ⊎_elim
    (λ before. record { front = []; rest = entry ∷ []; parts = refl; gated = subst (λ (l : List Entry). IsGated file decls l) (sym (append-nil entries)) before })
    (λ after. record { front = entry ∷ []; rest = []; parts = refl; gated = after })
    is

-- and so it has after other appends
more_of : (decls : List ℕ) (entries added : List Entry) (entry : Entry) (file : List ℕ) → HasSomeOf decls entries added file → HasSomeOf decls entries (added ++ entry ∷ []) file
more_of decls entries added entry file some = record {
  front = some.front;
  rest = some.rest ++ entry ∷ [];
  parts = ap (λ (l : List Entry). l ++ entry ∷ []) some.parts ∙ append_assoc some.front some.rest (entry ∷ []);
  gated = some.gated;
}

next_of : (decls : List ℕ) (entries added known : List Entry) (entry : Entry) (file : List ℕ) → known ≡ entries ++ added → IsBeforeOrAfter decls known entry file
    → HasSomeOf decls entries (added ++ entry ∷ []) file
next_of decls entries added known entry file is either = ⊎_elim
    (λ before. record { front = added; rest = entry ∷ []; parts = refl; gated = subst (λ (l : List Entry). IsGated file decls l) is before })
    (λ after. record {
      front = added ++ entry ∷ [];
      rest = [];
      parts = sym (append-nil (added ++ entry ∷ []));
      gated = subst (λ (l : List Entry). IsGated file decls l) (ap (λ (l : List Entry). l ++ entry ∷ []) is ∙ append_assoc entries added (entry ∷ [])) after;
    })
    either

-- so many operations, and then so many more
pub ComesNearer-trans : {D : Type 0} (m n : ℕ) (a b c : JournalView D) → ComesNearer m a b → ComesNearer n b c → ComesNearer (m + n) a c
ComesNearer-trans m n a b c first second = record {
  later = ⊎_elim (λ none. inl none) (λ more. ⊎_elim (λ none. absurd (omega (arith, none, more, first.armed))) (λ later. inr (omega (arith, later, first.armed, more))) second.later) first.later;
  armed = omega (arith, first.armed, second.armed);
  bytes = second.bytes ∙ first.bytes;
}

module _ {D : Type 0} (disk : DiskMeaning D)
    (goes_on : (first second : Course) (a b c : D) → disk.leads first a b → disk.leads second b c → disk.leads (joined first second) a c)
    (counts : (course : Course) (a b : D) → disk.leads course a b → Counted course.failed (disk.faults a) (disk.faults b))
    (counts_ops : (course : Course) (a b : D) → disk.leads course a b → disk.ops b ≡ capped (disk.ops a + course.operations)) where
  -- a disk did so much and then so much more
  pub Did-trans : (m n : ℕ) (x y : Bool) (a b c : D) → Did disk m x a b → Did disk n y b c → Did disk (m + n) (x || y) a c
  Did-trans m n x y a b c first second = did disk goes_on counts counts_ops (m + n) (x || y) a c (row-trans disk goes_on m n x y a b c first.course second.course)

-- the images of a row of appends and of one more, whatever came of that
pub images_behind : {D : Type 0} (disk : DiskMeaning D) (decls : List ℕ) (a b c : JournalView D) (added : List Entry) (entry : Entry) → AppendsEach disk decls a added b
    → LeavesOldOrNew disk decls b entry c → LeavesOnly disk a.disk c.disk (HasSomeOf decls a.entries (added ++ entry ∷ []))
images_behind disk decls a b c added entry each leaves =
    let P = HasSomeOf decls a.entries (added ++ entry ∷ []) in
    moments.joined disk a.disk b.disk c.disk P
    (moments.weaker disk a.disk b.disk (HasSomeOf decls a.entries added) P (more_of decls a.entries added entry) each.any_moment)
    (moments.weaker disk b.disk c.disk (IsBeforeOrAfter decls b.entries entry) P (λ file either. next_of decls a.entries added b.entries entry file each.known either) leaves.any_moment)

-- one entry was appended
pub AppendsEach-one : {D : Type 0} (disk : DiskMeaning D) (decls : List ℕ) (a b : JournalView D) (entry : Entry) → IsAppendedTo disk decls a entry b
    → AppendsEach disk decls a (entry ∷ []) b
AppendsEach-one disk decls a b entry is = record {
  known = is.known;
  limit = is.limit;
  fits = omega (arith, is.fits, journal_length-push decls a.entries entry);
  nearer = is.nearer;
  did = is.did;
  reads = is.reads;
  durable = is.durable;
  any_moment = moments.weaker disk a.disk b.disk (IsBeforeOrAfter decls a.entries entry) (HasSomeOf decls a.entries (entry ∷ [])) (one_of decls a.entries entry) is.leaves.any_moment;
}

module _ {D : Type 0} (disk : DiskMeaning D)
    (goes_on : (first second : Course) (a b c : D) → disk.leads first a b → disk.leads second b c → disk.leads (joined first second) a c)
    (counts : (course : Course) (a b : D) → disk.leads course a b → Counted course.failed (disk.faults a) (disk.faults b))
    (counts_ops : (course : Course) (a b : D) → disk.leads course a b → disk.ops b ≡ capped (disk.ops a + course.operations))
    (decls : List ℕ) (a b c : JournalView D) (added : List Entry) (entry : Entry) (each : AppendsEach disk decls a added b) where
  -- and one more
  pub AppendsEach-more : IsAppendedTo disk decls b entry c → AppendsEach disk decls a (added ++ entry ∷ []) c
  AppendsEach-more is =
      let count : ops_to_append * length added + ops_to_append ≡ ops_to_append * length (added ++ entry ∷ []) = omega (arith, length-append added (entry ∷ [])) in
      let all : b.entries ++ entry ∷ [] ≡ a.entries ++ (added ++ entry ∷ []) = ap (λ (l : List Entry). l ++ entry ∷ []) each.known ∙ append_assoc a.entries added (entry ∷ []) in
      record {
        known = is.known ∙ all;
        reads = subst (λ (l : List Entry). IfSome (disk.content c.disk) (λ file. IsGated file decls l)) all is.reads;
        durable = is.durable;
        limit = is.limit ∙ each.limit;
        fits = omega (arith, is.fits, each.limit, journal_length-push decls b.entries entry, ap (journal_length decls) all);
        nearer = subst (λ (n : ℕ). ComesNearer n a c) count (ComesNearer-trans (ops_to_append * length added) ops_to_append a b c each.nearer is.nearer);
        did = subst (λ (n : ℕ). Did disk n false a.disk c.disk) count
            (Did-trans disk goes_on counts counts_ops (ops_to_append * length added) ops_to_append false false a.disk b.disk c.disk each.did is.did);
        any_moment = images_behind disk decls a b c added entry each is.leaves;
      }

  -- The next append was stopped: the operation that was armed at the start comes after the whole row, among the next
  -- four.
  pub armed_behind : StopsAppend disk decls b entry c → (a.armed ≡ ops_to_append * length added + b.armed) × (a.bytes ≡ b.bytes)
  armed_behind stops = (⊎_elim (λ none. absurd (omega (arith, none, each.nearer.armed, stops.one))) (λ later. omega (arith, later, each.nearer.armed)) each.nearer.later, sym each.nearer.bytes)

  -- so many writes and syncs did the disk in all
  pub did_until_stop : (stops : StopsAppend disk decls b entry c) → Did disk (a.armed - 1 + min a.bytes 1) stops.failed a.disk c.disk
  did_until_stop stops =
      let at = armed_behind stops in
      let count : ops_to_append * length added + (b.armed - 1 + min b.bytes 1) ≡ a.armed - 1 + min a.bytes 1 = omega (arith, at.0, ap (λ (n : ℕ). min n 1) at.1, stops.one) in
      subst (λ (n : ℕ). Did disk n stops.failed a.disk c.disk) count
      (Did-trans disk goes_on counts counts_ops (ops_to_append * length added) (b.armed - 1 + min b.bytes 1) false stops.failed a.disk b.disk c.disk each.did stops.did)

  -- The next append failed: no stop came before that, and the disk did the row and those up to the one that failed.
  pub nearer_until_fault : (fails : FailsAppend disk decls b entry c) → ComesNearer (ops_to_append * length added + (fails.done + 1)) a c
  nearer_until_fault fails = ComesNearer-trans (ops_to_append * length added) (fails.done + 1) a b c each.nearer fails.nearer

  pub did_until_fault : (fails : FailsAppend disk decls b entry c) → Did disk (ops_to_append * length added + (fails.done + 1)) true a.disk c.disk
  did_until_fault fails = Did-trans disk goes_on counts counts_ops (ops_to_append * length added) (fails.done + 1) false true a.disk b.disk c.disk each.did fails.did
