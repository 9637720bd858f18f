-- Groupings that are missing: what depends on them is no fault of its own.
use Rattle.std.specs.Prelude.{ℕ, zero, suc, Bool, true, false, List, ◌∷◌}
use Rattle.std.specs.List.{list_any}
use Rattle.std.specs.Option.{option_map_or}
use Rattle.orc_yang.specs.declared.statement.Stmt.{Stmt}
use Rattle.orc_types.specs.Statements.{subs}
use Rattle.orc_modules.specs.declared.parts.Part.{Part}
use Rattle.orc_modules.specs.declared.parts.Part.TheVariants.{Node as node, Uses as uses, Nothing as nothing}
use Rattle.orc_modules.specs.Scopes.{Found}
use Rattle.orc_modules.specs.Children.{block_part, grouping}

abbrev pub gap_in : (List Stmt → Stmt → Bool) → Found → Bool
gap_in inner g = inner (g.here ∷ g.above) g.here

abbrev pub gap_at : (List Stmt → Stmt → Bool) → List Stmt → List Stmt → Stmt → Part → Bool
gap_at inner modules above s node = false
gap_at inner modules above s uses = option_map_or (gap_in inner) (grouping modules above s) true
gap_at inner modules above s nothing = false

-- A `uses` of the block of s, or of the groupings that it leads to, names no grouping, or leads on more than n times.
abbrev pub is_incomplete : ℕ → List Stmt → List Stmt → Stmt → Bool
is_incomplete zero modules above s = true
is_incomplete (suc n) modules above s = list_any (λ t. gap_at (is_incomplete n modules) modules above t (block_part t))
    (subs s)
