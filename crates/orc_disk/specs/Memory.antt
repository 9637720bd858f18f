-- What contracts see of a disk in memory, and what it reports about itself.
use Rattle.std.specs.Prelude.{◌≡◌, ℕ, ◌+◌, List, ◌++◌, length, Some, None}
use Rattle.orc_text.specs.Counts.{capped}
use Rattle.orc_io.specs.Counts.{next_count}
use Rattle.orc_disk.specs.Meanings.{DiskMeaning}
use Rattle.orc_disk.specs.Course.{Tallied}
use Rattle.orc_disk.specs.History.{History, changed, content_of, IsImage, WasImage}
use Rattle.orc_disk.specs.declared.disk.DiskOp.{DiskOp}
use Rattle.orc_disk.specs.declared.history.TheConstants.{CHANGE_ROOM}

-- its history, the operations that are to fail, each by its kind and its number among those of that kind, how many of
-- each kind came, how many failed, and what its reads gave
pub record MemoryDisk : Type 0 where
  pub history : History
  pub fails : List (DiskOp × ℕ)
  pub lens : ℕ
  pub reads : ℕ
  pub writes : ℕ
  pub syncs : ℕ
  pub faults : ℕ
  pub heard : List (ℕ × List ℕ)

-- what a read gives
abbrev pub disk_content : MemoryDisk → List ℕ
disk_content disk = content_of disk.history.start disk.history.changes

-- how many writes and syncs it was asked for
abbrev pub memory_ops : MemoryDisk → ℕ
memory_ops disk = capped (disk.writes + disk.syncs)

-- It reports all. A write that fails puts nothing.
abbrev pub memory_disk : DiskMeaning MemoryDisk
memory_disk = record {
  content = λ disk. Some (disk_content disk);
  may_leave = λ disk. IsImage disk.history.start disk.history.changes;
  moment = λ disk. length disk.history.changes;
  left_since = λ disk. WasImage disk.history.start disk.history.changes;
  faults = λ disk. disk.faults;
  ops = memory_ops;
  heard = λ disk. disk.heard;
  leads = λ course old new.
      Tallied course old.faults new.faults (memory_ops old) (memory_ops new) old.heard new.heard;
  cut = λ at bytes old new. disk_content new ≡ disk_content old;
  cut_sync = λ old new. disk_content new ≡ disk_content old;
}

-- the disk after it was asked for its length
abbrev pub len_came : MemoryDisk → MemoryDisk
len_came disk = record disk { lens = next_count disk.lens }

-- or was to be read
abbrev pub read_came : MemoryDisk → MemoryDisk
read_came disk = record disk { reads = next_count disk.reads }

-- or written
abbrev pub write_came : MemoryDisk → MemoryDisk
write_came disk = record disk { writes = next_count disk.writes }

-- or synced
abbrev pub sync_came : MemoryDisk → MemoryDisk
sync_came disk = record disk { syncs = next_count disk.syncs }

-- the disk after an operation failed
abbrev pub op_failed : MemoryDisk → MemoryDisk
op_failed disk = record disk { faults = next_count disk.faults }

-- the disk after a read was done, which gave these bytes
abbrev pub read_done : MemoryDisk → List (ℕ × List ℕ) → MemoryDisk
read_done disk gave = record disk { heard = disk.heard ++ gave }

-- the disk after a write was done
abbrev pub write_done : MemoryDisk → ℕ → List ℕ → MemoryDisk
write_done disk at bytes = record disk {
  history = changed disk.history (Some (at, bytes)) (length bytes + CHANGE_ROOM);
}

-- the disk after a sync was done
abbrev pub sync_done : MemoryDisk → MemoryDisk
sync_done disk = record disk { history = changed disk.history None CHANGE_ROOM }
