-- What a disk gave as all that it holds.
use Rattle.std.specs.Prelude.{◌≡◌, ◌⊎◌, ℕ, ◌≤◌, false, List, [], ◌∷◌, ◌++◌, length, IfSome}
use Rattle.std.proofs.Common.{inl, inr}
use Rattle.orc_disk.specs.Crashes.{LeavesAsRead}
use Rattle.orc_disk.specs.Meanings.{DiskMeaning}
use Rattle.orc_disk.specs.Moments.{Unchanged}
use Rattle.orc_disk.specs.Course.{Hears}

-- these reads, one after the other from the start on, gave these bytes, each some of them
pub data Gave : List (ℕ × List ℕ) → List ℕ → Type 0 where
  none : Gave [] []
  more : (reads : List (ℕ × List ℕ)) (bytes piece : List ℕ) → 1 ≤ length piece → Gave reads bytes
      → Gave (reads ++ (length bytes, piece) ∷ []) (bytes ++ piece)

module _ {D : Type 0} (disk : DiskMeaning D) where
  -- Operations led there, and none failed. Their reads gave this file piece by piece, and the last one gave no byte
  -- after it, and the disk has just these reads more in its list. Where it reports what it held, that is the file.
  pub record Heard (old new : D) (file : List ℕ) : Type 0 where
    pub reads : List (ℕ × List ℕ)
    pub pieces : Gave reads file
    pub course : Hears disk false (reads ++ (length file, []) ∷ []) old new
    pub told : IfSome (disk.content old) (λ held. file ≡ held)

  -- A look at the first byte gave none, so the disk is empty, and it is not synced.
  pub record WasEmpty (old synced new : D) : Type 0 where
    pub at_once : synced ≡ old
    pub empty : IfSome (disk.content old) (λ held. held ≡ [])
    pub looked : Hears disk false ((0, []) ∷ []) old new

  -- A look gave its first byte, and then it was synced: nothing changed, and a crash leaves what a read gives.
  pub record WasSynced (old synced : D) : Type 0 where
    pub first : List ℕ
    pub one : length first ≡ 1
    pub looked : disk.leads (record { operations = 1; failed = false; gave = (0, first) ∷ [] }) old synced
    pub unchanged : Unchanged disk old synced
    pub durable : LeavesAsRead (disk.content synced) (disk.may_leave synced)

  -- the disk from which on it is read: as it was where it is empty, and else after its first sync
  abbrev pub IsSynced : D → D → D → Type 0
  IsSynced old synced new = WasEmpty old synced new ⊎ WasSynced old synced

  -- and how many syncs that took
  abbrev pub syncs : {old synced new : D} → IsSynced old synced new → ℕ
  syncs (inl was) = 0
  syncs (inr was) = 1
