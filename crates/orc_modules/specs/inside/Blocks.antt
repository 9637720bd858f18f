-- The definitions of a block by their names.
use Rattle.std.specs.Prelude.{ℕ, ◌≡◌, List, drop, Option, codes, option_map}
use Rattle.std.specs.List.{find}
use Rattle.std.specs.Option.{option_or}
use Rattle.std.specs.Ordering.{nat_cmp}
use Rattle.std.specs.Cmp.Lexicographic.{slice_cmp}
use Rattle.std.specs.BTreeMap.{BTreeMap, get_by}
use denote.Ref.{Bor}
use Rattle.orc_yang.specs.declared.statement.Stmt.{Stmt}
use Rattle.orc_types.specs.Statements.{subs}
use Rattle.orc_modules.specs.Statements.{defines}
use Rattle.orc_modules.specs.inside.Shallow.{AreShallow}

-- what a map has under a name
abbrev pub by_name : BTreeMap (Bor (List ℕ)) (Bor Stmt) → List ℕ → Option Stmt
by_name m name = option_map (λ s. s.now) (get_by (λ k. slice_cmp nat_cmp name k.now) m)

-- the first typedef and the first grouping of each name below a statement, and which groupings bring nothing
pub record IsIndexed (here : Stmt) (typedefs groupings : List ℕ → Option Stmt) (depths : List ℕ → Option ℕ)
    : Type 0 where
  pub typedefs_first : (name : List ℕ) → typedefs name ≡ find (defines (codes "typedef") name) (subs here)
  pub groupings_first : (name : List ℕ) → groupings name ≡ find (defines (codes "grouping") name) (subs here)
  pub shallow : AreShallow here depths

-- by what is known, where the first n statements have been looked at
abbrev pub KnowsNames : List ℕ → List Stmt → ℕ → (List ℕ → Option Stmt) → Type 0
KnowsNames keyword ss n known = (name : List ℕ) → find (defines keyword name) ss
    ≡ option_or (known name) (find (defines keyword name) (drop n ss))
