-- What the name of a type stands for where it stands: RFC 7950 sections 4.2.4, 4.2.5, 7.3 and 7.4.
use Rattle.std.specs.Prelude.{ℕ, zero, suc, Bool, true, List, [], ◌∷◌, Option, Some, None, Result, Ok, Err, codes, is_some, option_map, option_and_then, unwrap_or, if◌then◌else◌}
use Rattle.std.specs.Option.{option_map_or}
use Rattle.orc_yang.specs.declared.statement.Stmt.{Stmt}
use Rattle.orc_types.specs.Statements.{subs, argument, first_of}
use Rattle.orc_types.specs.declared.types.LeafType.{LeafType}
use Rattle.orc_types.specs.declared.types.Base.{Base}
use Rattle.orc_types.specs.declared.types.Base.TheVariants.{Known}
use Rattle.orc_types.specs.declared.fault.TypeFault.{TypeFault}
use Rattle.orc_types.specs.BuiltIn.{built_in}
use Rattle.orc_types.specs.Types.{type_of, kind_of}
use Rattle.orc_types.specs.Defaults.{default_of}
use Rattle.orc_modules.specs.declared.meant.Meant.{Meant}
use Rattle.orc_modules.specs.declared.meant.Typed.{Typed}
use Rattle.orc_modules.specs.declared.meant.Named.{Named}
use Rattle.orc_modules.specs.declared.meant.Named.TheVariants.{Means, Endless, Unclear}
use Rattle.orc_modules.specs.Statements.{argument_below}
use Rattle.orc_modules.specs.Scopes.{Modules, Found, meaning, module_around}

-- the name of the module around
abbrev pub home_of : List Stmt → List ℕ
home_of above = unwrap_or (option_map argument (module_around above)) []

-- what a `type` statement without a fault makes of what its name stands for
abbrev pub made_by : Meant → Result LeafType TypeFault → Option Typed
made_by m (Ok t) = Some (record { of_type = t; default = m.default; home = m.home })
made_by m (Err fault) = None

abbrev pub typed_by : Stmt → Named → Option Typed
typed_by t (Means m) = made_by m (type_of m.base t)
typed_by t Endless = None
typed_by t Unclear = None

-- the text is a default of the type; a leafref takes any, since its target decides
abbrev pub takes_type : LeafType → List ℕ → Bool
takes_type t text = option_map_or (λ kind. is_some (default_of kind text)) (kind_of t) true

-- the default of a typedef: its own goes before that of its type, and is none where the typedef's type doesn't take it
abbrev pub typedef_default : Option (List ℕ) → Typed → Option (List ℕ)
typedef_default None t = t.default
typedef_default (Some text) t = if takes_type t.of_type text then Some text else None

-- what the name of a typedef stands for: its `type`'s type, and its default
abbrev pub renamed : Option (List ℕ) → Typed → Named
renamed default t = Means (record { base = Known t.of_type; default = typedef_default default t; home = t.home })

abbrev pub named_typedef : Option (List ℕ) → Stmt → Named → Named
named_typedef default u Endless = Endless
named_typedef default u named = option_map_or (renamed default) (typed_by u named) Unclear

abbrev pub typedef_at : (List Stmt → Stmt → Named) → Found → Named
typedef_at inner d = option_map_or
    (λ u. named_typedef (argument_below (codes "default") d.here) u (inner (d.here ∷ d.above) u))
    (first_of (codes "type") (subs d.here)) Unclear

abbrev pub typedef_named : (List Stmt → Stmt → Named) → Option Found → Named
typedef_named inner None = Unclear
typedef_named inner (Some d) = typedef_at inner d

abbrev pub built_in_named : List Stmt → Base → Named
built_in_named above b = Means (record { base = b; default = None; home = home_of above })

-- What the argument of a `type` statement stands for, through fewer than n typedefs: a built-in type, or else the
-- typedef that the name means.
abbrev pub base_of : ℕ → List Stmt → List Stmt → Stmt → Named
base_of zero modules above t = Endless
base_of (suc n) modules above t = option_map_or (built_in_named above) (built_in (argument t))
    (typedef_named (base_of n modules) (meaning modules (codes "typedef") (argument t) above))

-- what the whole `type` statement makes of it, where neither it nor a typedef is at fault
abbrev pub type_at : ℕ → List Stmt → List Stmt → Stmt → Option Typed
type_at n modules above t = typed_by t (base_of n modules above t)

-- the type of a leaf, a leaf-list or a typedef, by the `type` below it
abbrev pub type_in : ℕ → List Stmt → List Stmt → Stmt → Option Typed
type_in n modules above s = option_and_then (type_at n modules (s ∷ above)) (first_of (codes "type") (subs s))

-- the type of a leaf where it was found
abbrev pub type_found : Modules → Found → Option Typed
type_found ms c = type_in ms.most ms.all c.above c.here
