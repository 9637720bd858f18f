-- Which data nodes a block has, where each `uses` stands for what its grouping has: RFC 7950 sections 7.12 and 7.13.
use Rattle.std.specs.Prelude.{ℕ, zero, suc, Bool, true, false, List, [], ◌∷◌, ◌++◌, map, Option, codes, if◌then◌else◌}
use Rattle.std.specs.List.{list_any, find}
use Rattle.std.specs.Option.{option_map_or}
use Rattle.orc_yang.specs.declared.statement.Stmt.{Stmt}
use Rattle.orc_types.specs.Statements.{subs, argument}
use Rattle.orc_modules.specs.declared.word.Word.{Word}
use Rattle.orc_modules.specs.declared.word.Word.TheVariants.{Container, List as ListOf, Leaf, LeafList, Uses}
use Rattle.orc_modules.specs.declared.parts.Part.{Part}
use Rattle.orc_modules.specs.declared.parts.Part.TheVariants.{Node as node, Uses as uses, Nothing as nothing}
use Rattle.orc_modules.specs.Statements.{word, is_state, defines}
use Rattle.orc_modules.specs.Scopes.{Found, meaning}

-- a node with `config false` is dropped, with all below it
abbrev pub if_config : Bool → Part
if_config true = nothing
if_config false = node

abbrev pub block_part_of : Word → Bool → Part
block_part_of Container state = if_config state
block_part_of ListOf state = if_config state
block_part_of Leaf state = if_config state
block_part_of LeafList state = if_config state
block_part_of Uses state = uses
block_part_of _ state = nothing

-- what a statement is to its block
abbrev pub block_part : Stmt → Part
block_part s = block_part_of (word s) (is_state s)

-- the grouping that a `uses` names
abbrev pub grouping : List Stmt → List Stmt → Stmt → Option Found
grouping modules above s = meaning modules (codes "grouping") (argument s) above

-- Below s, nodes and groupings stand in one another more than n deep.
abbrev pub deeper_in : (List Stmt → Stmt → Bool) → Found → Bool
deeper_in inner g = inner (g.here ∷ g.above) g.here

abbrev pub deeper_at : (List Stmt → Stmt → Bool) → List Stmt → List Stmt → Stmt → Part → Bool
deeper_at inner modules above s node = inner (s ∷ above) s
deeper_at inner modules above s uses = option_map_or (deeper_in inner) (grouping modules above s) false
deeper_at inner modules above s nothing = false

abbrev pub is_deeper : ℕ → List Stmt → List Stmt → Stmt → Bool
is_deeper zero modules above s = true
is_deeper (suc n) modules above s = list_any
    (λ t. deeper_at (is_deeper n modules) modules above t (block_part t)) (subs s)

-- A `uses` leads to itself: what it brings is more than n deep.
abbrev pub leads_past : ℕ → List Stmt → List Stmt → Stmt → Bool
leads_past n modules above s = option_map_or (deeper_in (is_deeper n modules)) (grouping modules above s) false

-- the data nodes of a block, by those that a grouping brings
abbrev pub child : (Found → List Found) → List Stmt → List Stmt → Stmt → Part → List Found
child inner modules above s node = record { above = above; here = s } ∷ []
child inner modules above s uses = option_map_or inner (grouping modules above s) []
child inner modules above s nothing = []

abbrev pub children_by : (Found → List Found) → List Stmt → List Stmt → List Stmt → List Found
children_by inner modules above [] = []
children_by inner modules above (s ∷ ss) = child inner modules above s (block_part s)
    ++ children_by inner modules above ss

-- The data nodes of a block, each with the statements around it, through groupings that stand in one another fewer than
-- n deep.
abbrev pub brought : ℕ → List Stmt → List Stmt → List Stmt → List Found
brought zero modules above ss = []
brought (suc n) modules above ss = children_by
    (λ g. brought n modules (g.here ∷ g.above) (subs g.here)) modules above ss

-- a grouping that leads to itself brings nothing
abbrev pub brought_by : ℕ → List Stmt → Found → List Found
brought_by n modules g = if deeper_in (is_deeper n modules) g then []
    else brought n modules (g.here ∷ g.above) (subs g.here)

-- The data nodes of a block, each with the statements around it.
abbrev pub children : ℕ → List Stmt → List Stmt → List Stmt → List Found
children n modules above ss = children_by (brought_by n modules) modules above ss

abbrev pub child_names : List Found → List (List ℕ)
child_names cs = map (λ c. argument c.here) cs

-- a leaf of this name
abbrev pub is_leaf_named : List ℕ → Found → Bool
is_leaf_named name c = defines (codes "leaf") name c.here

-- the leaf of this name that a block has
abbrev pub leaf_named : ℕ → List Stmt → List Stmt → List Stmt → List ℕ → Option Found
leaf_named n modules above ss name = find (is_leaf_named name) (children n modules above ss)
