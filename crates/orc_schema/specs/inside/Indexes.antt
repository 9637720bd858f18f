-- Nodes in the order of their names, as the code looks them up.
use Rattle.std.specs.Prelude.{ℕ, Bool, true, ◌&&◌, List, [], ◌∷◌, map}
use Rattle.std.specs.List.Sorted.{IsStrictlySortedBy}
use Rattle.std.specs.Ordering.{is_lt}
use denote.Ref.{Bor}
use Rattle.orc_schema.specs.declared.draft.Draft.{Draft}
use Rattle.orc_schema.specs.declared.links.Nodes as declared
use Rattle.orc_schema_nodes.specs.Names.{names_cmp}
use Rattle.orc_schema.specs.Links.{Lookup, node_in}

abbrev pub lent : List (Bor Draft) → List Draft
lent ds = map (λ d. d.now) ds

abbrev pub names_of : List Draft → List (List (List ℕ))
names_of ds = map (λ d. d.names) ds

-- each node's names are less than those of the nodes after it
abbrev pub IsIndex : List (Bor Draft) → Type 0
IsIndex ds = IsStrictlySortedBy names_cmp (names_of (lent ds))

abbrev pub look : declared.Nodes → Lookup
look nodes = node_in (lent nodes.index.now)

-- each node's names are less than those after them
abbrev pub climbs_behind : List (List ℕ) → List (List (List ℕ)) → Bool
climbs_behind last [] = true
climbs_behind last (names ∷ more) = is_lt (names_cmp last names) && climbs_behind names more

abbrev pub climbs : List (List (List ℕ)) → Bool
climbs [] = true
climbs (names ∷ more) = climbs_behind names more
