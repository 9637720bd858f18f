-- Where an expression leads in a schema, seen from a node of it: whether each of its names is there.
use Rattle.std.specs.Prelude.{ℕ, ◌-◌, ◌==◌, nat_le, nat_eq, Bool, false, ◌||◌, List, [], ◌∷◌, ◌++◌, length, take, Option, option_map, if◌then◌else◌}
use Rattle.std.specs.declared.option.Option.TheVariants.{None, Some}
use Rattle.std.specs.Cmp.Lexicographic.{pointwise}
use Rattle.orc_path.specs.Steps.{PathStep}
use Rattle.orc_path.specs.declared.shape.Shape.{Shape}
use Rattle.orc_path.specs.declared.shape.Shape.TheVariants as shape
use Rattle.orc_expr.specs.Expressions.{Expression, Here, FromRoot, FromContext, Below, Where, Quoted}
use Rattle.orc_expr.specs.Looks.{parent_behind}
use Rattle.orc_expr.specs.declared.resolving.Led.{Led}
use Rattle.orc_expr.specs.declared.resolving.Led.TheVariants as led

-- what a schema says of a name below a node, which is a path whose keys don't matter
abbrev pub Shapes : Type 0
Shapes = List PathStep → List ℕ → Shape

-- the predicates name each key once, in the order of the keys
abbrev pub names_each_key : List (List ℕ) → List (List ℕ) → Bool
names_each_key keys named = pointwise (pointwise nat_eq) named keys

-- predicates that name these keys may stand at a node: at a list all keys or none, and nowhere else; a name that isn't
-- in the schema has no node
abbrev pub fits_shape : Shape → List (List ℕ) → Bool
fits_shape shape.Absent named = false
fits_shape shape.Container named = length named == 0
fits_shape (shape.List keys) named = (length named == 0) || names_each_key keys named
fits_shape (shape.Leaf default) named = length named == 0
fits_shape (shape.Key place) named = length named == 0
fits_shape shape.LeafList named = length named == 0

-- a step below a node
abbrev pub first_led : List PathStep → List ℕ → Led
first_led parent name = led.Last (record { parent = parent; name = name; named = [] })

-- a step from so many steps above the context, which has so many
abbrev pub led_up : List PathStep → ℕ → List ℕ → Option Led
led_up here ups name =
    if nat_le ups (length here) then Some (first_led (take (length here - ups) here) name) else None

-- a step more
abbrev pub led_down : Option (List PathStep) → List ℕ → Option Led
led_down node name = option_map (λ parent. first_led parent name) node

-- a predicate more
abbrev pub name_key : List ℕ → Led → Led
name_key key led.Context = led.Context
name_key key led.Given = led.Given
name_key key (led.Last step) = led.Last (record step { named = step.named ++ key ∷ [] })

-- a predicate more, whose term leads to a node
abbrev pub naming : Option Led → List ℕ → Option (List PathStep) → Option Led
naming front key None = None
naming front key (Some node) = option_map (name_key key) front

-- The node to which an expression leads, where its last name is in the schema and its predicates fit. A text in quotes
-- leads to the root.
abbrev pub led_node : Shapes → List PathStep → Option Led → Option (List PathStep)
led_node shapes here None = None
led_node shapes here (Some led.Context) = Some here
led_node shapes here (Some led.Given) = Some []
led_node shapes here (Some (led.Last step)) =
    if fits_shape (shapes step.parent step.name) step.named then Some (parent_behind step.parent step.name) else None

-- how far an expression leads, up to its last step; nothing where a name before that isn't in the schema
abbrev pub resolving : Shapes → List PathStep → Expression → Option Led
resolving shapes here Here = Some led.Context
resolving shapes here (FromRoot name) = Some (first_led [] name)
resolving shapes here (FromContext ups name) = led_up here ups name
resolving shapes here (Below front name) = led_down (led_node shapes here (resolving shapes here front)) name
resolving shapes here (Where front key term) =
    naming (resolving shapes here front) key (led_node shapes here (resolving shapes here term))
resolving shapes here (Quoted text) = Some led.Given

-- the node to which an expression leads, where it can be resolved
abbrev pub resolved : Shapes → List PathStep → Expression → Option (List PathStep)
resolved shapes here expression = led_node shapes here (resolving shapes here expression)
