-- Following the parts of an expression one by one.
use Rattle.std.specs.Prelude.{List, [], ◌∷◌, ◌++◌}
use Rattle.orc_path.specs.Steps.{PathStep}
use Rattle.orc_path.specs.Views.{Viewed}
use Rattle.orc_expr.specs.Looks.{first_step, from_context, step_down, ask, texts_at}
use Rattle.orc_expr.specs.declared.expr.Part.{Part}
use Rattle.orc_expr.specs.declared.expr.Part.TheVariants as part
use Rattle.orc_expr.specs.declared.step.Reached.{Reached}
use Rattle.orc_expr.specs.declared.step.Reached.TheVariants.{Context, Given}
use Rattle.orc_expr.specs.declared.following.Waiting.{Waiting}
use Rattle.orc_expr.specs.declared.following.Following.{Following}

-- how far an expression was followed: the brackets that are open, the innermost last, and what stands after them
pub record Way : Type 0 where
  pub outer : List Waiting
  pub now : Reached

abbrev pub way_of : Following → Way
way_of following = record { outer = following.outer.items; now = following.now }

abbrev pub onto_way : Waiting → Way → Way
onto_way first way = record way { outer = first ∷ way.outer }

-- after a closing bracket: what stands after the innermost bracket is the term of a predicate
abbrev pub way_closed : Viewed → List PathStep → List Waiting → Reached → Way
way_closed view here [] now = record { outer = []; now = now }
way_closed view here (last ∷ []) now = record { outer = []; now = ask last.front last.key (texts_at view here now) }
way_closed view here (first ∷ next ∷ rest) now = onto_way first (way_closed view here (next ∷ rest) now)

-- one part more
abbrev pub way_behind : Viewed → List PathStep → Way → Part → Way
way_behind view here way part.Here = record way { now = Context }
way_behind view here way (part.FromRoot name) = record way { now = first_step [] ([] ∷ []) name }
way_behind view here way (part.FromContext ups name) = record way { now = from_context here ups name }
way_behind view here way (part.Below name) = record way { now = step_down view here way.now name }
way_behind view here way (part.Quoted text) = record way { now = Given text }
way_behind view here way (part.Open key) =
    record { outer = way.outer ++ record { front = way.now; key = key } ∷ []; now = Context }
way_behind view here way part.Close = way_closed view here way.outer way.now

abbrev pub way_on : Viewed → List PathStep → Way → List Part → Way
way_on view here way [] = way
way_on view here way (next ∷ later) = way_on view here (way_behind view here way next) later

abbrev pub way_start : Way
way_start = record { outer = []; now = Context }
