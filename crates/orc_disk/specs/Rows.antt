-- What a row of operations of a disk did.
use Rattle.std.specs.Prelude.{ℕ, ◌+◌, ◌==◌, Bool, ◌||◌, List, [], ◌∷◌, ◌++◌, length, take, Result, Ok, Err, is_err, if◌then◌else◌}

-- how many writes and syncs were in it, whether one of its operations failed, and what its reads gave, in order: each
-- offset with the bytes
pub record Course : Type 0 where
  pub operations : ℕ
  pub failed : Bool
  pub gave : List (ℕ × List ℕ)

-- one row and then another
abbrev pub joined : Course → Course → Course
joined first second = record {
  operations = first.operations + second.operations;
  failed = first.failed || second.failed;
  gave = first.gave ++ second.gave;
}

-- a row in which no read gave anything
abbrev pub row : ℕ → Bool → Course
row operations failed = record { operations = operations; failed = failed; gave = [] }

-- what a read at this offset gave that answered so many bytes of the buffer; one without room gave nothing
abbrev pub read_piece : ℕ → List ℕ → ℕ → List (ℕ × List ℕ)
read_piece at buf count = if length buf == 0 then [] else (at, take count buf) ∷ []

-- what a read at this offset gave: as many bytes of the buffer as it answers, where the buffer has room
abbrev pub given : {E : Type 0} → ℕ → List ℕ → Result ℕ E → List (ℕ × List ℕ)
given at buf (Ok count) = read_piece at buf count
given at buf (Err fault) = []

-- the row of one read
abbrev pub read_row : {E : Type 0} → ℕ → List ℕ → Result ℕ E → Course
read_row at buf result = record { operations = 0; failed = is_err result; gave = given at buf result }
