-- What the name of a typedef or of a grouping means where it stands: RFC 7950 sections 5.5, 6.4.1 and 7.1.4.
use Rattle.std.specs.Prelude.{ℕ, suc, Bool, List, [], ◌∷◌, Option, Some, None, is_some, codes, option_map, option_and_then, if◌then◌else◌, ◌&&◌}
use Rattle.std.specs.List.{sum_by, find, position, before_first, after_first}
use Rattle.std.specs.Option.{option_or}
use Rattle.orc_value.specs.Canon.{same_text}
use Rattle.orc_yang.specs.declared.statement.Stmt.{Stmt}
use Rattle.orc_types.specs.Statements.{subs, argument, is_a}
use Rattle.orc_types.specs.Paths.{is_colon}
use Rattle.orc_modules.specs.Statements.{defines, sub_text, leaders}

-- The modules, and how many typedefs, or nodes and groupings, lead on to one another at most.
pub record Modules : Type 0 where
  pub all : List Stmt
  pub most : ℕ

-- A chain that ends goes through each statement that may lead on once at most, and then to one more: what leads on
-- further leads back to itself.
abbrev pub the_modules : List Stmt → Modules
the_modules all = record { all = all; most = suc (sum_by leaders all) }

-- a definition, with the statements around it, the innermost first
pub record Found : Type 0 where
  pub above : List Stmt
  pub here : Stmt

-- the prefix of a name, and the name after it
abbrev pub prefix_of : List ℕ → Option (List ℕ)
prefix_of text = if is_some (position is_colon text) then Some (before_first is_colon text) else None

abbrev pub plain_name : List ℕ → List ℕ
plain_name text = if is_some (position is_colon text) then after_first is_colon text else text

-- the module of this name
abbrev pub module_called : List Stmt → List ℕ → Option Stmt
module_called modules name = find (defines (codes "module") name) modules

-- an import under this prefix
abbrev pub imports_as : List ℕ → Stmt → Bool
imports_as prefix s = is_a (codes "import") s && same_text (sub_text (codes "prefix") s) prefix

-- the prefix is the module's own
abbrev pub is_own : List ℕ → Stmt → Bool
is_own prefix m = same_text (sub_text (codes "prefix") m) prefix

-- the module that an import of m brings under this prefix
abbrev pub imported : List Stmt → List ℕ → Stmt → Option Stmt
imported modules prefix m = option_and_then (λ i. module_called modules (argument i))
    (find (imports_as prefix) (subs m))

-- the name of the module that a prefix stands for in module m
abbrev pub owner_of : List Stmt → List ℕ → Stmt → Option (List ℕ)
owner_of modules prefix m = if is_own prefix m then Some (argument m)
    else option_map argument (imported modules prefix m)

-- the outermost of the statements around: the module
abbrev pub outermost : Stmt → List Stmt → Stmt
outermost s [] = s
outermost s (t ∷ above) = outermost t above

abbrev pub module_around : List Stmt → Option Stmt
module_around [] = None
module_around (s ∷ above) = Some (outermost s above)

-- the definition of a name in one block
abbrev pub in_block_of : List ℕ → List ℕ → Stmt → List Stmt → Option Found
in_block_of keyword name s above = option_map (λ d. record { above = s ∷ above; here = d })
    (find (defines keyword name) (subs s))

-- in the nearest of the statements around that defines it
abbrev pub in_scope : List ℕ → List ℕ → List Stmt → Option Found
in_scope keyword name [] = None
in_scope keyword name (s ∷ above) = option_or (in_block_of keyword name s above) (in_scope keyword name above)

-- in the module of a prefix; with the module's own prefix it is looked for as without one
abbrev pub behind_prefix : List Stmt → List ℕ → List ℕ → List ℕ → List Stmt → Stmt → Option Found
behind_prefix modules keyword prefix name above m = if is_own prefix m then in_scope keyword name above
    else option_and_then (λ other. in_block_of keyword name other []) (imported modules prefix m)

-- What a name means: without a prefix it is looked for scope by scope, outwards; with one in its module.
abbrev pub meaning : List Stmt → List ℕ → List ℕ → List Stmt → Option Found
meaning modules keyword text above = if is_some (position is_colon text)
    then option_and_then (behind_prefix modules keyword (before_first is_colon text) (after_first is_colon text) above)
    (module_around above)
    else in_scope keyword text above
