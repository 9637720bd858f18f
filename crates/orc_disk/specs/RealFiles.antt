-- What a real file reports about itself.
use Rattle.std.specs.Prelude.{ℕ, List, ◌++◌, None}
use Rattle.orc_text.specs.Counts.{capped}
use Rattle.orc_io.specs.Counts.{next_count}
use Rattle.orc_disk.specs.Meanings.{DiskMeaning}
use Rattle.orc_disk.specs.Course.{Tallied}

-- how often it failed, how many writes and syncs it was asked for, and what its reads gave, which is all that contracts
-- see of it
pub record RealFile : Type 0 where
  pub faults : ℕ
  pub ops : ℕ
  pub heard : List (ℕ × List ℕ)

-- It reports these. Of a write or a sync that fails nothing is known.
abbrev pub file_disk : DiskMeaning RealFile
file_disk = record {
  content = λ _. None;
  may_leave = λ _ _. ⊥;
  moment = λ _. 0;
  left_since = λ _ _ _. ⊥;
  faults = λ file. file.faults;
  ops = λ file. capped file.ops;
  heard = λ file. file.heard;
  leads = λ course old new.
      Tallied course old.faults new.faults (capped old.ops) (capped new.ops) old.heard new.heard;
  cut = λ at bytes old new. Unit {0};
  cut_sync = λ old new. Unit {0};
}

-- a read gave these bytes
abbrev pub file_gave : RealFile → List (ℕ × List ℕ) → RealFile
file_gave file gave = record file { heard = file.heard ++ gave }

-- it failed
abbrev pub file_failed : RealFile → RealFile
file_failed file = record file { faults = next_count file.faults }

-- it was to be written or synced
abbrev pub file_asked : RealFile → RealFile
file_asked file = record file { ops = next_count file.ops }
