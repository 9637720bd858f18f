-- The parts of an expression, in the order of its text, and the expression that they make.
use Rattle.std.specs.Prelude.{ℕ, List, [], ◌∷◌}
use Rattle.orc_expr.specs.Expressions.{Expression, Here, FromRoot, FromContext, Below, Where, Quoted, Condition}
use Rattle.orc_expr.specs.declared.expr.Part.{Part}
use Rattle.orc_expr.specs.declared.expr.Part.TheVariants as part
use Rattle.orc_expr.specs.declared.expr.Expr.{Expr}
use Rattle.orc_expr.specs.declared.expr.Cond.{Cond}

-- an expression up to a bracket, and the key after it
pub record Bracket : Type 0 where
  pub front : Expression
  pub key : List ℕ

-- what was put together: the brackets that are open, the innermost first, and what stands after them
pub record Built : Type 0 where
  pub outer : List Bracket
  pub now : Expression

-- after a closing bracket
abbrev pub closed : List Bracket → Expression → Built
closed [] term = record { outer = []; now = term }
closed (bracket ∷ outer) term = record { outer = outer; now = Where bracket.front bracket.key term }

-- with one part more
abbrev pub built_with : Built → Part → Built
built_with built part.Here = record built { now = Here }
built_with built (part.FromRoot name) = record built { now = FromRoot name }
built_with built (part.FromContext ups name) = record built { now = FromContext ups name }
built_with built (part.Below name) = record built { now = Below built.now name }
built_with built (part.Quoted text) = record built { now = Quoted text }
built_with built (part.Open key) =
    record { outer = record { front = built.now; key = key } ∷ built.outer; now = Here }
built_with built part.Close = closed built.outer built.now

abbrev pub nothing_built : Built
nothing_built = record { outer = []; now = Here }

abbrev pub built_on : Built → List Part → Built
built_on built [] = built
built_on built (next ∷ later) = built_on (built_with built next) later

-- what parts make
abbrev pub built_of : List Part → Built
built_of parts = built_on nothing_built parts

-- what an expression says
abbrev pub expression_of : Expr → Expression
expression_of expr = (built_of expr.parts).now

-- what a condition says
abbrev pub condition_of : Cond → Condition
condition_of cond = record { look = expression_of cond.expr; test = cond.test }
