-- Why a text is refused, and what reading it answers.
use Rattle.std.specs.Prelude.{◌≡◌, ℕ, List, Option, Result}
use Rattle.std.specs.declared.option.Option.TheVariants.{None, Some}
use Rattle.std.specs.declared.result.Result.TheVariants.{Ok, Err}
use Rattle.orc_path.specs.Texts.{IsBadAt}
use Rattle.orc_path.specs.declared.path.PathFault.{PathFault}
use Rattle.orc_path.specs.declared.path.PathFault.TheVariants.{BadPath, Memory}

-- the text is none of the kind, and the fault has the length of its longest good beginning; memory may always run out
abbrev pub IsPathFault : (List ℕ → Type 0) → List ℕ → PathFault → Type 0
IsPathFault IsText bytes (BadPath at) = IsBadAt IsText bytes at
IsPathFault IsText bytes Memory = Unit {0}

-- the answer is what the text is read as, or that it is none of the kind; memory may always run out
abbrev pub Reads : {P : Type 0} → Option P → Result P PathFault → Type 0
Reads read (Ok value) = read ≡ Some value
Reads read (Err (BadPath at)) = read ≡ None
Reads read (Err Memory) = Unit {0}
