-- A statement of its parts.
use Rattle.std.specs.Prelude.{ℕ, List, Option}
use Rattle.orc_yang.specs.declared.statement.Stmt.{Stmt}
use Rattle.orc_yang.specs.declared.statement.Stmt.TheViews.{roll-Stmt}

abbrev pub statement : List ℕ → Option (List ℕ) → List Stmt → ℕ → Stmt
statement keyword argument subs at = roll-Stmt (record { keyword = keyword; argument = argument; subs = subs; at = at })
