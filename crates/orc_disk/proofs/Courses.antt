-- Rows of operations of a disk, one after the other.
use Rattle.std.specs.Prelude.{◌≡◌, ℕ, ◌+◌, ◌<◌, ◌≤◌, Bool, true, false, ◌||◌, List, [], ◌++◌, Result, Ok, Err, OnOk, is_err}
use Rattle.std.proofs.Common.{arith, refl}
use Rattle.orc_disk.specs.Rows.{Course, joined, row}
use Rattle.orc_disk.specs.Course.{Hears, FailsBehind, FailsAmong}
use Rattle.orc_disk.specs.Meanings.{DiskMeaning}
use Rattle.orc_disk.specs.Stops.{Stopping, inside}

module _ {D : Type 0} (disk : DiskMeaning D)
    (goes_on : (first second : Course) (a b c : D) → disk.leads first a b → disk.leads second b c → disk.leads (joined first second) a c) where
  -- two rows in which no read gave anything
  pub row-trans : (m n : ℕ) (x y : Bool) (a b c : D) → disk.leads (row m x) a b → disk.leads (row n y) b c → disk.leads (row (m + n) (x || y)) a c
  row-trans m n x y a b c first second = goes_on (row m x) (row n y) a b c first second

  -- some operations, and then others: what the reads of both gave
  pub Hears-trans : (x y : Bool) (gave more : List (ℕ × List ℕ)) (a b c : D) → Hears disk x gave a b → Hears disk y more b c
      → Hears disk (x || y) (gave ++ more) a c
  Hears-trans x y gave more a b c first second = (
    first.0 + second.0,
    goes_on (record { operations = first.0; failed = x; gave = gave }) (record { operations = second.0; failed = y; gave = more }) a b c first.1 second.1,
  )

  -- operations that went well, and one more that went well
  pub one_more-Ok : {T E : Type 0} (r : Result T E) (m n : ℕ) (a b c : D) → disk.leads (row m false) a b → disk.leads (row n (is_err r)) b c
      → OnOk r (disk.leads (row (m + n) false) a c)
  one_more-Ok (Ok x) m n a b c first second = row-trans m n false false a b c first second
  one_more-Ok (Err e) m n a b c first second = tt

  -- operations that went well, and then some after which one failed
  pub FailsBehind-later : (m n : ℕ) (a b c : D) → disk.leads (row m false) a b → FailsBehind disk n b c → FailsBehind disk (m + n) a c
  FailsBehind-later m n a b c first second = (second.0, row-trans m n false false a b second.0 first second.1, second.2)

  -- the one that failed is one more
  pub FailsBehind-led : (n : ℕ) (a b : D) → FailsBehind disk n a b → disk.leads (row (n + 1) true) a b
  FailsBehind-led n a b fails = row-trans n 1 false true a fails.0 b fails.1 fails.2

  -- operations that went well, and then a row of which one failed
  pub FailsAmong-later : (m n : ℕ) (a b c : D) (P Q : ℕ → Type 0) → disk.leads (row m false) a b → ((done : ℕ) → done < n → P done → Q (m + done))
      → FailsAmong disk n b c P → FailsAmong disk (m + n) a c Q
  FailsAmong-later m n a b c P Q first more second = record {
    done = m + second.done;
    fewer = omega (arith, second.fewer);
    failed = FailsBehind-later m second.done a b c first second.failed;
    known = more second.done second.fewer second.known;
  }

-- none was done before the one that failed
pub FailsAmong-first : {D : Type 0} (disk : DiskMeaning D) (n : ℕ) (a b : D) (P : ℕ → Type 0) → 0 < n → disk.leads (row 0 false) a a → disk.leads (row 1 true) a b → P 0
    → FailsAmong disk n a b P
FailsAmong-first disk n a b P some none failed known = record { done = 0; fewer = some; failed = (a, none, failed); known = known }

-- more operations in the row, and something else of those that were done
pub FailsAmong-weaker : {D : Type 0} (disk : DiskMeaning D) (m n : ℕ) (a b : D) (P Q : ℕ → Type 0) → m ≤ n
    → ((done : ℕ) → done < m → P done → Q done) → FailsAmong disk m a b P → FailsAmong disk n a b Q
FailsAmong-weaker disk m n a b P Q le more fails = record {
  done = fails.done;
  fewer = omega (arith, le, fails.fewer);
  failed = fails.failed;
  known = more fails.done fails.fewer fails.known;
}

-- where a disk that ran was stopped by an operation that failed, the armed operation is that one: the next after those
-- that were done
pub stopped_behind : {D : Type 0} (disk : DiskMeaning D) (done : ℕ) (a b : Stopping D) → FailsBehind (inside disk) done a b
    → a.stopped ≡ false → b.stopped ≡ true → (a.op ≡ done + 1) × (b.op ≡ 0)
stopped_behind disk done a b fails running stopped =
    let still = fails.1.runs refl running in
    let passed = fails.1.passes running still in
    let came = fails.2.comes still stopped in
    (omega (arith, passed.0, came.0, came.1), came.2)
