-- Writes and syncs one after the other, up to a fault.
use Rattle.std.specs.Prelude.{ℕ, ◌+◌, ◌≤◌, true, false, [], ◌∷◌, ◌++◌}
use Rattle.std.proofs.Common.{arith, inl, inr}
use Rattle.orc_disk.specs.Rows.{Course, joined, row}
use Rattle.orc_disk.specs.Meanings.{DiskMeaning}
use Rattle.orc_disk.specs.Course.{FailsAmong}
use Rattle.orc_disk.proofs.Courses.{Hears-trans}
use Rattle.orc_journal.specs.Operations.{LedBy, FailsBefore}
use Rattle.orc_journal.specs.Hearing.{IsSynced, syncs}
use Rattle.orc_journal.specs.declared.fault.OpenFault.{OpenFault}
use Rattle.orc_journal.specs.inside.Steps.{EndsReading}

module _ {D : Type 0} (disk : DiskMeaning D) where
  -- one operation failed at once
  pub fails_now : (n : ℕ) (a b : D) → n ≤ 1 → disk.leads (row 0 false) a a → disk.leads (row n true) a b → FailsBefore disk 1 1 a b
  fails_now n a b one stays led =
      record { done = 0; fewer = omega arith; last = a; ran = ([], stays); operations = n; one = one; read = λ _. omega arith; failed = led }

  -- more are allowed
  pub fails_weaker : (m n r s : ℕ) (a b : D) → m ≤ n → r ≤ s → FailsBefore disk m r a b → FailsBefore disk n s a b
  fails_weaker m n r s a b le less fails = record {
    done = fails.done;
    fewer = omega (arith, le, fails.fewer);
    last = fails.last;
    ran = fails.ran;
    operations = fails.operations;
    one = fails.one;
    read = λ none. omega (arith, fails.read none, less);
    failed = fails.failed;
  }

  -- one of a row of writes and syncs failed
  pub fails_among : (n : ℕ) (a b : D) (P : ℕ → Type 0) → FailsAmong disk n a b P → FailsBefore disk n 0 a b
  fails_among n a b P fails = record {
    done = fails.done;
    fewer = fails.fewer;
    last = fails.failed.0;
    ran = ([], fails.failed.1);
    operations = 1;
    one = omega arith;
    read = λ none. absurd (omega (arith, none));
    failed = fails.failed.2;
  }

  module _ (goes_on : (first second : Course) (a b c : D) → disk.leads first a b → disk.leads second b c → disk.leads (joined first second) a c) where
    pub does_more : (m n : ℕ) (a b c : D) → LedBy disk m a b → LedBy disk n b c → LedBy disk (m + n) a c
    does_more m n a b c first second = (
      first.0 ++ second.0,
      goes_on (record { operations = m; failed = false; gave = first.0 }) (record { operations = n; failed = false; gave = second.0 }) a b c first.1 second.1,
    )

    -- some were done, and then one failed of others
    pub fails_later : (m n r : ℕ) (a b c : D) → LedBy disk m a b → FailsBefore disk n r b c → FailsBefore disk (m + n) (m + r) a c
    fails_later m n r a b c first fails = record {
      done = m + fails.done;
      fewer = omega (arith, fails.fewer);
      last = fails.last;
      ran = does_more m fails.done a b fails.last first fails.ran;
      operations = fails.operations;
      one = fails.one;
      read = λ none. omega (arith, fails.read none);
      failed = fails.failed;
    }

    -- some reads, and then one that ended the reading
    pub ends_reading_later : (a b c : D) (fault : OpenFault) → LedBy disk 0 a b → EndsReading disk b c fault → EndsReading disk a c fault
    ends_reading_later a b c fault first ends = record {
      other = λ other. does_more 0 0 a b c first (ends.other other);
      failed = λ is. fails_later 0 1 1 a b c first (ends.failed is);
    }

    -- more writes and syncs after the first sync, if any
    pub synced_more : (old synced mid new : D) (n : ℕ) (looked : IsSynced disk old synced mid) → LedBy disk (syncs disk looked) old mid
        → disk.leads (row n false) mid new → (more : IsSynced disk old synced new) × LedBy disk (syncs disk more + n) old new
    synced_more old synced mid new n (inl was) did led = (
      inl (record {
        at_once = was.at_once;
        empty = was.empty;
        looked = Hears-trans disk goes_on false false ((0, []) ∷ []) [] old mid new was.looked (n, led);
      }),
      does_more 0 n old mid new did ([], led),
    )
    synced_more old synced mid new n (inr was) did led = (inr was, does_more 1 n old mid new did ([], led))

-- there is at most one
pub few_syncs : {D : Type 0} (disk : DiskMeaning D) (old synced new : D) (looked : IsSynced disk old synced new) → syncs disk looked ≤ 1
few_syncs disk old synced new (inl was) = omega arith
few_syncs disk old synced new (inr was) = omega arith
