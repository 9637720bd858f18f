-- What reads and writes do to the bytes of a file.
use Rattle.std.specs.Prelude.{◌≡◌, ℕ, ◌+◌, ◌-◌, min, List, ◌++◌, length, take, drop}

-- the file after these bytes were put at this offset
abbrev pub written : ℕ → List ℕ → List ℕ → List ℕ
written at bytes file = take at file ++ (bytes ++ drop (at + length bytes) file)

-- a read at this offset gave so many bytes, which are what there is and fits
pub record ReadsFrom (at : ℕ) (buf file : List ℕ) (given : ℕ) : Type 0 where
  pub count : given ≡ min (length buf) (length file - at)
  pub bytes : take given buf ≡ take given (drop at file)
