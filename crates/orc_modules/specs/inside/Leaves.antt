-- The type of the first leaf of a name, found statement by statement.
use Rattle.std.specs.Prelude.{ℕ, zero, suc, List, [], ◌∷◌, Option, Some, None, codes, if◌then◌else◌}
use Rattle.std.specs.Option.{option_map_or, option_or}
use Rattle.orc_yang.specs.declared.statement.Stmt.{Stmt}
use Rattle.orc_types.specs.Statements.{subs}
use Rattle.orc_modules.specs.declared.meant.Typed.{Typed}
use Rattle.orc_modules.specs.declared.parts.Part.{Part}
use Rattle.orc_modules.specs.declared.parts.Part.TheVariants.{Node as node, Uses as uses, Nothing as nothing}
use Rattle.orc_modules.specs.Bases.{type_in}
use Rattle.orc_modules.specs.Children.{block_part, grouping, is_deeper, deeper_in}
use Rattle.orc_modules.specs.Scopes.{Modules, Found}
use Rattle.orc_modules.specs.Statements.{defines}

-- the leaf's type at one statement of a block, by what a grouping gives
abbrev pub leaf_at : (Found → Option (Option Typed)) → Modules → List Stmt → List ℕ → Stmt → Part
    → Option (Option Typed)
leaf_at inner ms above name s node = if defines (codes "leaf") name s then Some (type_in ms.most ms.all above s)
    else None
leaf_at inner ms above name s uses = option_map_or inner (grouping ms.all above s) None
leaf_at inner ms above name s nothing = None

-- in a block
abbrev pub leaf_by : (Found → Option (Option Typed)) → Modules → List Stmt → List ℕ → List Stmt
    → Option (Option Typed)
leaf_by inner ms above name [] = None
leaf_by inner ms above name (s ∷ ss) = option_or (leaf_at inner ms above name s (block_part s))
    (leaf_by inner ms above name ss)

-- in the block of a grouping, through groupings that stand in one another fewer than n deep
abbrev pub leaf_brought : ℕ → Modules → List Stmt → List ℕ → List Stmt → Option (Option Typed)
leaf_brought zero ms above name ss = None
leaf_brought (suc n) ms above name ss = leaf_by
    (λ g. leaf_brought n ms (g.here ∷ g.above) name (subs g.here)) ms above name ss

abbrev pub leaf_of_grouping : Modules → List ℕ → Found → Option (Option Typed)
leaf_of_grouping ms name g = if deeper_in (is_deeper ms.most ms.all) g then None
    else leaf_brought ms.most ms (g.here ∷ g.above) name (subs g.here)

abbrev pub leaf_in_block : Modules → List Stmt → List ℕ → List Stmt → Option (Option Typed)
leaf_in_block ms above name ss = leaf_by (leaf_of_grouping ms name) ms above name ss
