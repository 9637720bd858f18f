-- The history of a file, and what a crash may have left at each moment of it.
use Rattle.std.specs.Prelude.{◌≡◌, ◌⊎◌, ℕ, ◌-◌, ◌≤◌, List, [], ◌∷◌, length, Option, Some, None}
use Rattle.orc_disk.specs.Files.{written}
use Rattle.orc_disk.specs.Torn.{Torn}

-- one change of a file: the offset and the bytes of a write, or none of both, which is a sync
abbrev pub FileChange : Type 0
FileChange = Option (ℕ × List ℕ)

-- what the file held at first, its changes, the newest first, and the room that is left for more of them
pub record History : Type 0 where
  pub start : List ℕ
  pub changes : List FileChange
  pub room : ℕ

-- the history with one change more, which used so much of the room
abbrev pub changed : History → FileChange → ℕ → History
changed old change used = record { start = old.start; changes = change ∷ old.changes; room = old.room - used }

-- the file after one change
abbrev pub file_after : FileChange → List ℕ → List ℕ
file_after None file = file
file_after (Some put) file = written put.0 put.1 file

-- what a read gives after these changes
abbrev pub content_of : List ℕ → List FileChange → List ℕ
content_of start [] = start
content_of start (change ∷ older) = file_after change (content_of start older)

-- the file that outlives a crash after one change, where no write outlives it before a sync
abbrev pub settled : FileChange → List ℕ → List ℕ → List ℕ
settled None file before = file
settled (Some put) file before = before

-- what a read gave at the last sync, or at first where none came
abbrev pub synced_of : List ℕ → List FileChange → List ℕ
synced_of start [] = start
synced_of start (change ∷ older) = settled change (content_of start older) (synced_of start older)

-- a crash after one change of a file may leave this, where it might have left that before the change
abbrev pub Leaves : FileChange → List ℕ → List ℕ → List ℕ → Type 0
Leaves None file before now = now ≡ file
Leaves (Some put) file before now = Torn put.0 (length put.1) before now

-- a crash after these changes may leave this file
abbrev pub IsImage : List ℕ → List FileChange → List ℕ → Type 0
IsImage start [] file = file ≡ start
IsImage start (change ∷ older) file =
    (before : List ℕ) × IsImage start older before × Leaves change (content_of start older) before file

-- A crash at some moment from `since` on may have left this file. A moment is the number of changes that came before
-- it.
abbrev pub WasImage : List ℕ → List FileChange → ℕ → List ℕ → Type 0
WasImage start [] since file = IsImage start [] file
WasImage start (change ∷ older) since file =
    IsImage start (change ∷ older) file ⊎ ((since ≤ length older) × WasImage start older since file)
