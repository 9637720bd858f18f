-- How a history is stored: the changes in order, and the bytes of all writes one after the other.
use Rattle.std.specs.Prelude.{◌≡◌, ℕ, ◌+◌, ◌*◌, ◌≤◌, List, [], ◌∷◌, length, take, drop, Some, None, Vec, vec_len, vec_capacity}
use Rattle.orc_disk.specs.History.{FileChange, content_of}
use Rattle.orc_disk.specs.declared.history.Change.{Change}
use Rattle.orc_disk.specs.declared.history.TheConstants.{CHANGE_ROOM}
use Rattle.orc_disk.specs.declared.history.Change.TheVariants.{Write, Sync}

-- the changes that are stored so, after earlier ones, the newest first
abbrev pub changes_of : List FileChange → List Change → List ℕ → List FileChange
changes_of before [] bytes = before
changes_of before (Write at len ∷ stored) bytes =
    changes_of (Some (at, take len bytes) ∷ before) stored (drop len bytes)
changes_of before (Sync ∷ stored) bytes = changes_of (None ∷ before) stored bytes

-- the change that is stored so, by the bytes from its own on
abbrev pub change_of : Change → List ℕ → FileChange
change_of (Write at len) bytes = Some (at, take len bytes)
change_of Sync bytes = None

-- how many bytes these changes wrote
abbrev pub written_count : List Change → ℕ
written_count [] = 0
written_count (Write at len ∷ stored) = len + written_count stored
written_count (Sync ∷ stored) = written_count stored

-- the file holds what its history says, and the bytes are those of the writes
pub record IsStored (start content : List ℕ) (stored : List Change) (bytes : List ℕ) : Type 0 where
  pub holds : content ≡ content_of start (changes_of [] stored bytes)
  pub count : written_count stored ≡ length bytes

-- the content, the bytes of writes and the list of changes have memory for changes that use so much of the room
pub record HasRoom {Z : Type 0} (content bytes : Vec ℕ Z) (stored : Vec Change Z) (room : ℕ) : Type 0 where
  pub file : vec_len content + room ≤ vec_capacity content
  pub store : vec_len bytes + room ≤ vec_capacity bytes
  pub changes : CHANGE_ROOM * vec_len stored + room ≤ CHANGE_ROOM * vec_capacity stored
