-- Parts that are followed one by one lead where the expression does that they make.
use Rattle.std.proofs.Common.{◌≡◌, List, [], ◌∷◌, ◌++◌, refl, sym, ap, ◌∙◌}
use Rattle.orc_path.specs.Steps.{PathStep}
use Rattle.orc_path.specs.Views.{Viewed}
use Rattle.orc_expr.specs.Parts.{Bracket, Built, closed, built_with, built_on, built_of, nothing_built}
use Rattle.orc_expr.specs.Looks.{followed, ask, texts_at}
use Rattle.orc_expr.specs.inside.Following.{Way, onto_way, way_closed, way_behind, way_on, way_start}
use Rattle.orc_expr.specs.declared.expr.Part.{Part}
use Rattle.orc_expr.specs.declared.expr.Part.TheVariants as part
use Rattle.orc_expr.specs.declared.step.Reached.{Reached}
use Rattle.orc_expr.specs.declared.following.Waiting.{Waiting}

-- one part more
pub built_on_push : (built : Built) (parts : List Part) (p : Part) → built_on built (parts ++ p ∷ []) ≡ built_with (built_on built parts) p
built_on_push built [] p = refl
built_on_push built (q ∷ parts) p = built_on_push (built_with built q) parts p

pub built_of_push : (parts : List Part) (p : Part) → built_of (parts ++ p ∷ []) ≡ built_with (built_of parts) p
built_of_push parts p = built_on_push nothing_built parts p

abbrev with_now : List Waiting → Reached → Way
with_now outer now = record { outer = outer; now = now }

module _ (view : Viewed) (here : List PathStep) where
  -- a bracket is closed after others
  pub way_closed_push : (front : List Waiting) (last : Waiting) (now : Reached)
      → way_closed view here (front ++ last ∷ []) now ≡ record { outer = front; now = ask last.front last.key (texts_at view here now) }
  way_closed_push [] last now = refl
  way_closed_push (first ∷ []) last now = refl
  way_closed_push (first ∷ next ∷ rest) last now = ap (onto_way first) (way_closed_push (next ∷ rest) last now)

  pub way_closed_is : (outer front : List Waiting) (last : Waiting) (now after : Reached) → outer ≡ front ++ last ∷ []
      → after ≡ ask last.front last.key (texts_at view here now) → record { outer = front; now = after } ≡ way_closed view here outer now
  way_closed_is outer front last now after is asked =
      ap (λ (r : Reached). with_now front r) asked ∙ sym (ap (λ (ws : List Waiting). way_closed view here ws now) is ∙ way_closed_push front last now)

  -- the brackets, as they wait
  abbrev waiting : List Bracket → List Waiting
  waiting [] = []
  waiting (bracket ∷ outer) = waiting outer ++ record { front = followed view here bracket.front; key = bracket.key } ∷ []

  abbrev way_built : Built → Way
  way_built built = record { outer = waiting built.outer; now = followed view here built.now }

  closes : (outer : List Bracket) (built : Built) → way_closed view here (waiting outer) (followed view here built.now) ≡ way_built (closed outer built.now)
  closes [] built = refl
  closes (bracket ∷ outer) built = way_closed_push (waiting outer) (record { front = followed view here bracket.front; key = bracket.key }) (followed view here built.now)

  one_more : (built : Built) (p : Part) → way_behind view here (way_built built) p ≡ way_built (built_with built p)
  one_more built part.Here = refl
  one_more built (part.FromRoot name) = refl
  one_more built (part.FromContext ups name) = refl
  one_more built (part.Below name) = refl
  one_more built (part.Quoted text) = refl
  one_more built (part.Open key) = refl
  one_more built part.Close = closes built.outer built

  all : (built : Built) (parts : List Part) → way_on view here (way_built built) parts ≡ way_built (built_on built parts)
  all built [] = refl
  all built (p ∷ parts) = ap (λ w. way_on view here w parts) (one_more built p) ∙ all (built_with built p) parts

  pub follows : (parts : List Part) → (way_on view here way_start parts).now ≡ followed view here (built_of parts).now
  follows parts = ap (λ (w : Way). w.now) (all nothing_built parts)
