-- Resolving the parts of an expression one by one.
use Rattle.std.specs.Prelude.{List, [], ◌∷◌, ◌++◌, Option}
use Rattle.std.specs.declared.option.Option.TheVariants.{Some}
use Rattle.orc_path.specs.Steps.{PathStep}
use Rattle.orc_expr.specs.Resolved.{Shapes, first_led, led_up, led_down, naming, led_node}
use Rattle.orc_expr.specs.declared.expr.Part.{Part}
use Rattle.orc_expr.specs.declared.expr.Part.TheVariants as part
use Rattle.orc_expr.specs.declared.resolving.Led.{Led}
use Rattle.orc_expr.specs.declared.resolving.Led.TheVariants as led
use Rattle.orc_expr.specs.declared.resolving.Pending.{Pending}
use Rattle.orc_expr.specs.declared.resolving.Resolving.{Resolving}

-- how far an expression was resolved: the brackets that are open, the innermost last, and what stands after them
pub record Trail : Type 0 where
  pub outer : List Pending
  pub now : Option Led

abbrev pub trail_of : Resolving → Trail
trail_of resolving = record { outer = resolving.outer.items; now = resolving.now }

abbrev pub onto_trail : Pending → Trail → Trail
onto_trail first trail = record trail { outer = first ∷ trail.outer }

-- after a closing bracket: what stands after the innermost bracket is the term of a predicate
abbrev pub trail_closed : Shapes → List PathStep → List Pending → Option Led → Trail
trail_closed shapes here [] now = record { outer = []; now = now }
trail_closed shapes here (last ∷ []) now =
    record { outer = []; now = naming last.front last.key (led_node shapes here now) }
trail_closed shapes here (first ∷ next ∷ rest) now = onto_trail first (trail_closed shapes here (next ∷ rest) now)

-- one part more
abbrev pub trail_behind : Shapes → List PathStep → Trail → Part → Trail
trail_behind shapes here trail part.Here = record trail { now = Some led.Context }
trail_behind shapes here trail (part.FromRoot name) = record trail { now = Some (first_led [] name) }
trail_behind shapes here trail (part.FromContext ups name) = record trail { now = led_up here ups name }
trail_behind shapes here trail (part.Below name) = record trail { now = led_down (led_node shapes here trail.now) name }
trail_behind shapes here trail (part.Quoted text) = record trail { now = Some led.Given }
trail_behind shapes here trail (part.Open key) = record {
  outer = trail.outer ++ record { front = trail.now; key = key } ∷ [];
  now = Some led.Context;
}
trail_behind shapes here trail part.Close = trail_closed shapes here trail.outer trail.now

abbrev pub trail_on : Shapes → List PathStep → Trail → List Part → Trail
trail_on shapes here trail [] = trail
trail_on shapes here trail (next ∷ later) = trail_on shapes here (trail_behind shapes here trail next) later

abbrev pub trail_start : Trail
trail_start = record { outer = []; now = Some led.Context }
