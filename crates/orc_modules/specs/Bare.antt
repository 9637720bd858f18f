-- Groupings that bring no data node, through whatever groupings they use.
use Rattle.std.specs.Prelude.{ℕ, zero, suc, Bool, true, false, List, ◌∷◌, Option, Some, None, ◌≡◌}
use Rattle.std.specs.List.{list_any}
use Rattle.std.specs.Option.{option_map_or}
use Rattle.orc_yang.specs.declared.statement.Stmt.{Stmt}
use Rattle.orc_types.specs.Statements.{subs}
use Rattle.orc_modules.specs.declared.parts.Part.{Part}
use Rattle.orc_modules.specs.declared.parts.Part.TheVariants.{Node as node, Uses as uses, Nothing as nothing}
use Rattle.orc_modules.specs.Scopes.{Found}
use Rattle.orc_modules.specs.Children.{block_part, grouping}

-- by what the block of a grouping may bring
abbrev pub brings_in : (List Stmt → Stmt → Bool) → Found → Bool
brings_in inner g = inner (g.here ∷ g.above) g.here

-- what one statement of a block may bring; a `uses` that names no grouping isn't known to bring nothing
abbrev pub brings_at : (List Stmt → Stmt → Bool) → List Stmt → List Stmt → Stmt → Part → Bool
brings_at inner modules above s node = true
brings_at inner modules above s uses = option_map_or (brings_in inner) (grouping modules above s) true
brings_at inner modules above s nothing = false

-- The block of s may bring a data node, or leads to a missing grouping, or through n groupings or more.
abbrev pub may_bring : ℕ → List Stmt → List Stmt → Stmt → Bool
may_bring zero modules above s = true
may_bring (suc n) modules above s = list_any
    (λ t. brings_at (may_bring n modules) modules above t (block_part t)) (subs s)

-- What is found for a `uses`: the grouping that it names; none where it names none, or one that brings nothing.
abbrev pub Brings : ℕ → List Stmt → List Stmt → Stmt → Option Found → Type 0
Brings n modules above s (Some g) = grouping modules above s ≡ Some g
Brings n modules above s None = option_map_or (brings_in (may_bring n modules)) (grouping modules above s) false ≡ false
