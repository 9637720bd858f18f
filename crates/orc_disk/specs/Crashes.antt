-- What a crash may leave of a file. An image is one file that a crash may leave.
use Rattle.std.specs.Prelude.{◌≡◌, ℕ, List, Option, Some}
use Rattle.orc_disk.specs.Torn.{Torn}

-- each image is one from before, torn by a write of so many bytes at this offset
abbrev pub TearsAt : ℕ → ℕ → (List ℕ → Type 0) → (List ℕ → Type 0) → Type 0
TearsAt at count old new = (file : List ℕ) → new file → (before : List ℕ) × old before × Torn at count before file

-- each image is one from before
abbrev pub LeavesNoMore : (List ℕ → Type 0) → (List ℕ → Type 0) → Type 0
LeavesNoMore old new = (file : List ℕ) → new file → old file

-- a crash leaves what a read gives, and nothing else
abbrev pub LeavesAsRead : Option (List ℕ) → (List ℕ → Type 0) → Type 0
LeavesAsRead content images = (file : List ℕ) → images file → content ≡ Some file
