use Rattle.std.proofs.Common.{◌≡◌, Bool, refl, true, false, ◌&&◌, List, ◌∷◌, [], ◌++◌, Option, length, slice_get, Some, None, sym, ap, ap₂, ◌∙◌}
use Rattle.std.specs.Option.{option_map_or, option_copied}
use Rattle.orc_path.specs.Steps.{PathStep}
use Rattle.orc_path.specs.Order.{is_prefix}
use Rattle.orc_expr.specs.inside.Covering.{is_entry_step, has_entry_on}
use Rattle.orc_expr.proofs.Covering.{has_entry_on-split}
use Rattle.orc_expr.proofs.touch.has_entry_on.Goals as goal

-- what is tested, with the list's last step apart
tested : (list front : List PathStep) (last : PathStep) (path : List PathStep) → list ≡ front ++ last ∷ []
    → (t : Bool) → is_prefix front path ≡ t → (o : Option PathStep) → slice_get path (length front) ≡ o
    → (t && option_map_or (is_entry_step last) o false) ≡ has_entry_on list path
tested list front last path is t prefix o found =
    sym (ap (λ (l : List PathStep). has_entry_on l path) is ∙ has_entry_on-split front last path
    ∙ ap₂ (λ u p. u && option_map_or (is_entry_step last) p false) prefix found)

pub returns-then-not-starts_with : goal.returns-then-not-starts_with
returns-then-not-starts_with c =
    tested c.args.list.now c.in-Some.front.now c.in-Some.last.now c.args.path.now c.in-Some.ensures.cases.0
    false (sym c.starts_with.ensures.value ∙ c.if-not-starts_with.true) (slice_get c.args.path.now (length c.in-Some.front.now)) refl

pub returns-in-Some-step_at : goal.returns-in-Some-step_at
returns-in-Some-step_at c =
    c.is_entry_step.ensures
    ∙ tested c.args.list.now c.in-Some.front.now c.in-Some.last.now c.args.path.now c.in-Some.ensures.cases.0
    true (sym c.starts_with.ensures.value ∙ c.if-not-starts_with.false) (Some c.in-Some-step_at.step.now) (sym c.step_at.ensures ∙ ap option_copied c.in-Some-step_at.is)

pub returns-in-None-step_at : goal.returns-in-None-step_at
returns-in-None-step_at c =
    tested c.args.list.now c.in-Some.front.now c.in-Some.last.now c.args.path.now c.in-Some.ensures.cases.0
    true (sym c.starts_with.ensures.value ∙ c.if-not-starts_with.false) None (sym c.step_at.ensures ∙ ap option_copied c.in-None-step_at.is)
