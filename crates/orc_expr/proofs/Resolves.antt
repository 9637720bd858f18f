-- Parts that are resolved one by one lead where the expression does that they make.
use Rattle.std.proofs.Common.{◌≡◌, List, [], ◌∷◌, ◌++◌, Option, refl, sym, ap, ◌∙◌}
use Rattle.orc_path.specs.Steps.{PathStep}
use Rattle.orc_expr.specs.Parts.{Bracket, Built, closed, built_with, built_on, built_of, nothing_built}
use Rattle.orc_expr.specs.Resolved.{Shapes, naming, led_node, resolving}
use Rattle.orc_expr.specs.inside.Resolving.{Trail, onto_trail, trail_closed, trail_behind, trail_on, trail_start}
use Rattle.orc_expr.specs.declared.expr.Part.{Part}
use Rattle.orc_expr.specs.declared.expr.Part.TheVariants as part
use Rattle.orc_expr.specs.declared.resolving.Led.{Led}
use Rattle.orc_expr.specs.declared.resolving.Pending.{Pending}

abbrev with_led : List Pending → Option Led → Trail
with_led outer now = record { outer = outer; now = now }

module _ (shapes : Shapes) (here : List PathStep) where
  -- a bracket is closed after others
  pub trail_closed_push : (front : List Pending) (last : Pending) (now : Option Led)
      → trail_closed shapes here (front ++ last ∷ []) now ≡ record { outer = front; now = naming last.front last.key (led_node shapes here now) }
  trail_closed_push [] last now = refl
  trail_closed_push (first ∷ []) last now = refl
  trail_closed_push (first ∷ next ∷ rest) last now = ap (onto_trail first) (trail_closed_push (next ∷ rest) last now)

  pub trail_closed_is : (outer front : List Pending) (last : Pending) (now after : Option Led) → outer ≡ front ++ last ∷ []
      → after ≡ naming last.front last.key (led_node shapes here now) → record { outer = front; now = after } ≡ trail_closed shapes here outer now
  trail_closed_is outer front last now after is named =
      ap (λ (r : Option Led). with_led front r) named ∙ sym (ap (λ (ws : List Pending). trail_closed shapes here ws now) is ∙ trail_closed_push front last now)

  -- the brackets, as they are pending
  abbrev pending : List Bracket → List Pending
  pending [] = []
  pending (bracket ∷ outer) = pending outer ++ record { front = resolving shapes here bracket.front; key = bracket.key } ∷ []

  abbrev trail_built : Built → Trail
  trail_built built = record { outer = pending built.outer; now = resolving shapes here built.now }

  closes : (outer : List Bracket) (built : Built) → trail_closed shapes here (pending outer) (resolving shapes here built.now) ≡ trail_built (closed outer built.now)
  closes [] built = refl
  closes (bracket ∷ outer) built = trail_closed_push (pending outer) (record { front = resolving shapes here bracket.front; key = bracket.key }) (resolving shapes here built.now)

  one_more : (built : Built) (p : Part) → trail_behind shapes here (trail_built built) p ≡ trail_built (built_with built p)
  one_more built part.Here = refl
  one_more built (part.FromRoot name) = refl
  one_more built (part.FromContext ups name) = refl
  one_more built (part.Below name) = refl
  one_more built (part.Quoted text) = refl
  one_more built (part.Open key) = refl
  one_more built part.Close = closes built.outer built

  all : (built : Built) (parts : List Part) → trail_on shapes here (trail_built built) parts ≡ trail_built (built_on built parts)
  all built [] = refl
  all built (p ∷ parts) = ap (λ w. trail_on shapes here w parts) (one_more built p) ∙ all (built_with built p) parts

  pub resolves : (parts : List Part) → (trail_on shapes here trail_start parts).now ≡ resolving shapes here (built_of parts).now
  resolves parts = ap (λ (w : Trail). w.now) (all nothing_built parts)
