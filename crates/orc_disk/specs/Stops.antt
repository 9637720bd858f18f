-- A disk that stops another one.
use Rattle.std.specs.Prelude.{◌≡◌, ◌≢◌, ◌⊎◌, ℕ, ◌+◌, ◌-◌, ◌<◌, ◌≤◌, min, Bool, true, false, List, take, Result, IsErr}
use Rattle.std.specs.Option.{option_map}
use Rattle.orc_text.specs.Counts.{capped}
use Rattle.orc_io.specs.Counts.{Rose, HasCause, next_count}
use Rattle.orc_disk.specs.Files.{written}
use Rattle.orc_disk.specs.Crashes.{LeavesAsRead}
use Rattle.orc_disk.specs.Rows.{Course, row}
use Rattle.orc_disk.specs.Meanings.{DiskMeaning}

-- the disk inside, which write or sync from now on stops it (0 where none does), how many bytes that operation still
-- puts, whether it is stopped, how many operations it failed by itself, and how many writes and syncs it was asked for
pub record Stopping (D : Type 0) : Type 0 where
  pub inner : D
  pub op : ℕ
  pub bytes : ℕ
  pub stopped : Bool
  pub stops : ℕ
  pub ops : ℕ

-- it was asked for a write or a sync
abbrev pub asked : {D : Type 0} → Stopping D → Stopping D
asked old = record old { ops = next_count old.ops }

-- it was stopped and failed an operation by itself
abbrev pub refused : {D : Type 0} → Stopping D → Stopping D
refused old = record old { stops = next_count old.stops }

-- the armed operation came, which left this disk inside
abbrev pub stopped_at : {D : Type 0} → Stopping D → D → Stopping D
stopped_at old inner = record (asked old) { inner = inner; op = 0; stopped = true; stops = next_count old.stops }

-- another write or sync came, which left this disk inside
abbrev pub passed : {D : Type 0} → Stopping D → D → Stopping D
passed old inner = record (asked old) { inner = inner; op = old.op - 1 }

-- a stopped disk fails each operation by itself
abbrev pub Refuses : {D T E : Type 0} → Result T E → Stopping D → Stopping D → Type 0
Refuses result old new = old.stopped ≡ true → IsErr result × (new ≡ refused old)

-- one that runs asks the disk inside for its length or reads it
abbrev pub HandsOn : {D T E : Type 0} → DiskMeaning D → Result T E → Stopping D → Stopping D → Type 0
HandsOn disk result old new = old.stopped ≡ false
    → HasCause (disk.faults old.inner) (disk.faults new.inner) result × (new ≡ record old { inner = new.inner })

-- one that runs writes or syncs the disk inside, where this operation is not the armed one
abbrev pub PassesOn : {D T E : Type 0} → DiskMeaning D → Result T E → Stopping D → Stopping D → Type 0
PassesOn disk result old new = old.stopped ≡ false → old.op ≢ 1
    → HasCause (disk.faults old.inner) (disk.faults new.inner) result × (new ≡ passed old new.inner)

-- the count of the disk inside and its own
abbrev pub all_faults : {D : Type 0} → DiskMeaning D → Stopping D → ℕ
all_faults disk stopping = capped (disk.faults stopping.inner + stopping.stops)

-- The armed operation reached the disk inside, which did it, or failed and counted a fault: the caller, whose operation
-- fails either way, can tell by that count alone. P says what is known where it was done.
pub record Reached {D : Type 0} (disk : DiskMeaning D) (P : Type 0) (old new : D) : Type 0 where
  pub failed : Bool
  pub course : disk.leads (row 1 failed) old new
  pub done : failed ≡ false → P
  pub cause : failed ≡ true → Rose (disk.faults old) (disk.faults new)

-- A write of these bytes at this offset failed in a disk that stops another one.
pub record CutShort {D : Type 0} (disk : DiskMeaning D) (at : ℕ) (bytes : List ℕ) (old new : Stopping D) : Type 0 where
  -- it was stopped, and the disk inside did nothing
  pub idle : old.stopped ≡ true → new.inner ≡ old.inner
  -- the armed write with no byte left did not reach the disk inside
  pub undone : old.stopped ≡ false → old.op ≡ 1 → old.bytes ≡ 0 → new.inner ≡ old.inner
  -- and with a byte left its first bytes were put
  pub front : old.stopped ≡ false → old.op ≡ 1 → 0 < old.bytes → Reached disk
      (disk.content new.inner ≡ option_map (written at (take old.bytes bytes)) (disk.content old.inner))
      old.inner new.inner
  -- another one failed in the disk inside
  pub passed : old.stopped ≡ false → old.op ≢ 1 → disk.cut at bytes old.inner new.inner

-- A sync failed in a disk that stops another one.
pub record CutSync {D : Type 0} (disk : DiskMeaning D) (old new : Stopping D) : Type 0 where
  -- it was stopped, and the disk inside did nothing
  pub idle : old.stopped ≡ true → new.inner ≡ old.inner
  -- the armed sync with no byte left did not reach the disk inside
  pub undone : old.stopped ≡ false → old.op ≡ 1 → old.bytes ≡ 0 → new.inner ≡ old.inner
  -- and with a byte left it was done
  pub reached : old.stopped ≡ false → old.op ≡ 1 → 0 < old.bytes → Reached disk
      (LeavesAsRead (disk.content new.inner) (disk.may_leave new.inner))
      old.inner new.inner
  -- another one failed in the disk inside
  pub passed : old.stopped ≡ false → old.op ≢ 1 → disk.cut_sync old.inner new.inner

-- What a row of operations may make of a disk that stops another one.
pub record Led {D : Type 0} (disk : DiskMeaning D) (course : Course) (old new : Stopping D) : Type 0 where
  -- the disk inside went its own way, by a row of its own, whose reads gave what was given
  pub inner_course : Course
  pub inner : disk.leads inner_course old.inner new.inner
  pub gave : inner_course.gave ≡ course.gave
  -- each write and sync is counted, those that it fails by itself too
  pub ops : capped new.ops ≡ capped (capped old.ops + course.operations)
  pub bytes : new.bytes ≡ old.bytes
  pub stops : old.stops ≤ new.stops
  -- it was stopped: it stays so until it is disarmed, and counts none of them
  pub still : old.stopped ≡ true → (new.stopped ≡ true) × (new.op ≡ old.op)
  -- and the disk inside did nothing
  pub idle : old.stopped ≡ true → (inner_course ≡ row 0 false) × (new.inner ≡ old.inner)
  -- it ran and still runs: the armed operation is nearer by so many, and was none of them
  pub passes : old.stopped ≡ false → new.stopped ≡ false
      → (new.op ≡ old.op - course.operations) × ((old.op ≡ 0) ⊎ (course.operations < old.op))
  -- and the disk inside did the whole row
  pub whole : old.stopped ≡ false → new.stopped ≡ false → inner_course ≡ course
  -- it ran and was stopped: the armed operation was one of them
  pub comes : old.stopped ≡ false → new.stopped ≡ true
      → (1 ≤ old.op) × (old.op ≤ course.operations) × (new.op ≡ 0)
  -- and the disk inside did those before the armed one, and the armed one where it still puts a byte
  pub short : old.stopped ≡ false → new.stopped ≡ true → inner_course.operations ≡ old.op - 1 + min old.bytes 1
  -- where none failed it still runs
  pub runs : course.failed ≡ false → old.stopped ≡ false → new.stopped ≡ false
  -- where one failed, an operation of the disk inside failed, or it is stopped
  pub cause : course.failed ≡ true → (inner_course.failed ≡ true) ⊎ ((new.stopped ≡ true) × Rose old.stops new.stops)

-- it reports what the disk inside reports, counts its own faults too and what it was asked for, and says where it was
-- stopped
abbrev pub inside : {D : Type 0} → DiskMeaning D → DiskMeaning (Stopping D)
inside disk = record {
  content = λ stopping. disk.content stopping.inner;
  may_leave = λ stopping. disk.may_leave stopping.inner;
  moment = λ stopping. disk.moment stopping.inner;
  left_since = λ stopping. disk.left_since stopping.inner;
  faults = all_faults disk;
  ops = λ stopping. capped stopping.ops;
  heard = λ stopping. disk.heard stopping.inner;
  leads = Led disk;
  cut = CutShort disk;
  cut_sync = CutSync disk;
}
