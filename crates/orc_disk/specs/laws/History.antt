-- Laws of the images of a file's history.
use Rattle.std.specs.Prelude.{ℕ, ◌≤◌, List, [], ◌∷◌, length, Some, None}
use Rattle.std.proofs.Common.{refl, arith, inl, inr, ⊎_elim}
use Rattle.orc_disk.specs.History.{FileChange, content_of, IsImage, WasImage}
use Rattle.orc_disk.specs.laws.Torn.{Torn-written}

-- the file as it reads is one of its images
pub IsImage-content : (start : List ℕ) (changes : List FileChange) → IsImage start changes (content_of start changes)
IsImage-content start [] = refl
IsImage-content start (None ∷ older) = (content_of start older, IsImage-content start older, refl)
IsImage-content start (Some put ∷ older) = (
  content_of start older,
  IsImage-content start older,
  Torn-written put.0 put.1 (content_of start older),
)

-- this moment counts
pub WasImage-now : (start : List ℕ) (changes : List FileChange) (since : ℕ) (file : List ℕ)
    → IsImage start changes file → WasImage start changes since file
WasImage-now start [] since file now = now
WasImage-now start (change ∷ older) since file now = inl now

-- since this moment there is no other
pub WasImage-only : (start : List ℕ) (changes : List FileChange) (file : List ℕ)
    → WasImage start changes (length changes) file → IsImage start changes file
WasImage-only start [] file was = was
WasImage-only start (change ∷ older) file was = ⊎_elim (λ now. now) (λ past. absurd (omega (arith, past.0))) was

-- the moments since an earlier one are more
pub WasImage-earlier : (start : List ℕ) (changes : List FileChange) (early late : ℕ) (file : List ℕ) → early ≤ late
    → WasImage start changes late file → WasImage start changes early file
WasImage-earlier start [] early late file le was = was
WasImage-earlier start (change ∷ older) early late file le was =
    ⊎_elim
    (λ now. inl now)
    (λ past. inr (omega (arith, le, past.0), WasImage-earlier start older early late file le past.1))
    was
