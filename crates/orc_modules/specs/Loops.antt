-- Typedefs and groupings that lead back to themselves: RFC 7950 sections 7.3 and 7.12.
use Rattle.std.specs.Prelude.{ℕ, zero, suc, nat_eq, Bool, true, false, ◌&&◌, ◌||◌, List, [], ◌∷◌, Option, Some, None, codes, is_some, if◌then◌else◌}
use Rattle.std.specs.List.{list_any}
use Rattle.std.specs.Option.{option_map_or}
use Rattle.orc_value.specs.Canon.{same_text}
use Rattle.orc_yang.specs.declared.statement.Stmt.{Stmt}
use Rattle.orc_yang.specs.declared.statement.Stmt.TheViews.{out-Stmt}
use Rattle.orc_types.specs.BuiltIn.{built_in}
use Rattle.orc_types.specs.Statements.{keyword, subs, argument, is_a, first_of}
use Rattle.orc_modules.specs.declared.parts.Part.{Part}
use Rattle.orc_modules.specs.declared.parts.Part.TheVariants.{Node as node, Uses as uses, Nothing as nothing}
use Rattle.orc_modules.specs.Scopes.{Modules, Found, meaning}
use Rattle.orc_modules.specs.Children.{block_part, grouping, leads_past}

-- one and the same statement: it begins at the same place of its text, and has the same keyword and argument
abbrev pub is_same_statement : Stmt → Stmt → Bool
is_same_statement s t = (nat_eq (out-Stmt s).at (out-Stmt t).at && same_text (keyword s) (keyword t))
    && same_text (argument s) (argument t)

abbrev pub are_same : List Stmt → List Stmt → Bool
are_same [] [] = true
are_same [] (t ∷ ts) = false
are_same (s ∷ ss) [] = false
are_same (s ∷ ss) (t ∷ ts) = is_same_statement s t && are_same ss ts

-- one and the same definition: the same statement in the same statements
abbrev pub is_same : Found → Found → Bool
is_same d e = is_same_statement d.here e.here && are_same d.above e.above

-- the innermost definition of the statements around, where it has this keyword
abbrev pub defined_around : List ℕ → List Stmt → Option Found
defined_around word [] = None
defined_around word (s ∷ above) = if is_a word s then Some (record { above = above; here = s })
    else (if is_a (codes "typedef") s || is_a (codes "grouping") s then None else defined_around word above)

-- the typedef that a `type` names; a built-in name means none
abbrev pub typedef : List Stmt → List Stmt → Stmt → Option Found
typedef modules above t = if is_some (built_in (argument t)) then None
    else meaning modules (codes "typedef") (argument t) above

-- a typedef is e, or its `type` leads to e
abbrev pub typedef_leads : (List Stmt → Stmt → Bool) → Found → Found → Bool
typedef_leads inner e d = is_same d e
    || option_map_or (inner (d.here ∷ d.above)) (first_of (codes "type") (subs d.here)) false

-- The name of a `type` leads to the typedef e, through at most n typedefs.
abbrev pub type_leads : ℕ → List Stmt → Found → List Stmt → Stmt → Bool
type_leads zero modules e above t = false
type_leads (suc n) modules e above t = option_map_or (typedef_leads (type_leads n modules e) e)
    (typedef modules above t) false

-- a grouping is e, or its block leads to e
abbrev pub grouping_leads : (List Stmt → Stmt → Bool) → Found → Found → Bool
grouping_leads inner e g = is_same g e || inner (g.here ∷ g.above) g.here

-- one statement of a block: a node leads on by its own block, a `uses` by the grouping that it names
abbrev pub part_leads : (List Stmt → Stmt → Bool) → List Stmt → Found → List Stmt → Stmt → Part → Bool
part_leads inner modules e above s node = inner (s ∷ above) s
part_leads inner modules e above s uses = option_map_or (grouping_leads inner e) (grouping modules above s) false
part_leads inner modules e above s nothing = false

-- The block of s leads to the grouping e, through at most n nodes and groupings.
abbrev pub block_leads : ℕ → List Stmt → Found → List Stmt → Stmt → Bool
block_leads zero modules e above s = false
block_leads (suc n) modules e above s = list_any
    (λ t. part_leads (block_leads n modules e) modules e above t (block_part t)) (subs s)

-- The name of a `uses` leads to the grouping e.
abbrev pub uses_leads : ℕ → List Stmt → Found → List Stmt → Stmt → Bool
uses_leads n modules e above s = option_map_or (grouping_leads (block_leads n modules e) e)
    (grouping modules above s) false

-- A `type` whose name leads to the very typedef that it stands in.
abbrev pub is_type_loop : Modules → List Stmt → Stmt → Bool
is_type_loop ms above t = option_map_or (λ e. type_leads ms.most ms.all e above t)
    (defined_around (codes "typedef") above) false

-- A `uses` whose name leads on without end, and to the very grouping that it stands in.
abbrev pub is_uses_loop : Modules → List Stmt → Stmt → Bool
is_uses_loop ms above s = leads_past ms.most ms.all above s
    && option_map_or (λ e. uses_leads ms.most ms.all e above s) (defined_around (codes "grouping") above) false
