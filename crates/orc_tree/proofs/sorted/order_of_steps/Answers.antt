use Rattle.std.proofs.Common.{ℕ, List, ap, sym, ◌∙◌}
use Rattle.std.specs.Cmp.Lexicographic.{slice_cmp}
use Rattle.orc_path.specs.Steps.{PathStep}
use Rattle.orc_path.specs.Order.{step_cmp, text_cmp}
use Rattle.orc_tree.proofs.Ordered.{same_name, other_name}
use Rattle.orc_tree.proofs.sorted.order_of_steps.Goals as goal

pub returns-then-eq : goal.returns-then-eq
returns-then-eq c =
    let step : PathStep = record { node = c.step.inside.node; keys = c.step.inside.keys } in
    let other : PathStep = record { node = c.other.inside.node; keys = c.other.inside.keys } in
    c.order_of_keys.ensures
    ∙ ap (λ (keys : List (List ℕ)). slice_cmp text_cmp keys c.as_slice-then-eq.result.now) c.as_slice.ensures
    ∙ ap (λ (keys : List (List ℕ)). slice_cmp text_cmp step.keys keys) c.as_slice-then-eq.ensures
    ∙ same_name step.node other.node (slice_cmp text_cmp step.keys other.keys) (sym c.eq.ensures ∙ c.if-eq.true)
    ∙ ap (λ (s : PathStep). step_cmp s other) c.step.view_is
    ∙ ap (λ (o : PathStep). step_cmp c.args.step.now o) c.other.view_is

pub returns : goal.returns
returns c =
    let step : PathStep = record { node = c.step.inside.node; keys = c.step.inside.keys } in
    let other : PathStep = record { node = c.other.inside.node; keys = c.other.inside.keys } in
    c.cmp.ensures
    ∙ other_name step.node other.node (slice_cmp text_cmp step.keys other.keys) (sym c.eq.ensures ∙ c.if-eq.false)
    ∙ ap (λ (s : PathStep). step_cmp s other) c.step.view_is
    ∙ ap (λ (o : PathStep). step_cmp c.args.step.now o) c.other.view_is
