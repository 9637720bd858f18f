-- Groupings of a block that are known to bring nothing, by their names.
use Rattle.std.specs.Prelude.{ℕ, Bool, true, false, ◌≡◌, ◌&&◌, not, List, [], ◌∷◌, Option, Some, is_some, nat_le}
use Rattle.std.specs.Option.{option_map_or}
use Rattle.std.specs.Ordering.{nat_cmp}
use Rattle.std.specs.Cmp.Lexicographic.{slice_cmp}
use Rattle.std.specs.BTreeMap.{BTreeMap, get_by}
use denote.Ref.{Bor}
use Rattle.orc_yang.specs.declared.statement.Stmt.{Stmt}
use Rattle.orc_types.specs.Statements.{argument}
use Rattle.orc_modules.specs.declared.parts.Part.{Part}
use Rattle.orc_modules.specs.declared.parts.Part.TheVariants.{Node as node, Uses as uses, Nothing as nothing}
use Rattle.orc_modules.specs.Scopes.{plain_name}
use Rattle.orc_modules.specs.inside.Beside.{beside_brings, is_near}

-- through how many groupings a grouping of this name is known to bring nothing
abbrev pub depth_by : BTreeMap (Bor (List ℕ)) ℕ → List ℕ → Option ℕ
depth_by m name = get_by (λ k. slice_cmp nat_cmp name k.now) m

-- What is known of the groupings of a module's own block: each has a depth, and brings nothing through fewer groupings
-- than that, whatever the other modules are.
abbrev pub AreShallow : Stmt → (List ℕ → Option ℕ) → Type 0
AreShallow here depths = (name : List ℕ) (d : ℕ) → depths name ≡ Some d → (modules : List Stmt)
    → beside_brings d modules (here ∷ []) name ≡ false

abbrev pub is_at_most : ℕ → Option ℕ → Bool
is_at_most n o = option_map_or (λ d. nat_le d n) o false

-- a name has no other module's prefix, and is none of a grouping's own groupings
abbrev pub is_from_block : List ℕ → (List ℕ → Option Stmt) → List ℕ → Bool
is_from_block prefix own text = is_near prefix text && not (is_some (own (plain_name text)))

-- A `uses` of a grouping, which has groupings of its own, names one of the module of this prefix that is known to bring
-- nothing, through fewer than n.
abbrev pub is_shallow_use : List ℕ → (List ℕ → Option Stmt) → (List ℕ → Option ℕ) → ℕ → Stmt → Bool
is_shallow_use prefix own depths n s = is_from_block prefix own (argument s)
    && is_at_most n (depths (plain_name (argument s)))

-- what one statement of a grouping is
abbrev pub is_shallow_part : List ℕ → (List ℕ → Option Stmt) → (List ℕ → Option ℕ) → ℕ → Stmt → Part → Bool
is_shallow_part prefix own depths n s node = false
is_shallow_part prefix own depths n s uses = is_shallow_use prefix own depths n s
is_shallow_part prefix own depths n s nothing = true
