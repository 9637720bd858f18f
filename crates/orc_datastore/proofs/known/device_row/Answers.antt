use Rattle.std.proofs.Common.{◌≡◌, ◌++◌, ◌∷◌, [], List, IsTrue, sym, ap, subst, ◌∙◌, arith}
use Rattle.orc_path.specs.Steps.{PathStep, is_path}
use Rattle.orc_datastore.specs.Snapshots.{device_row, service_step}
use Rattle.orc_datastore.proofs.Numbers.{row_path}
use Rattle.orc_datastore.proofs.known.device_row.Goals as goal

pub invariant_of-result : goal.invariant_of-result
invariant_of-result c =
    let steps : c.push-2.new.self ≡ device_row c.args.id.now c.args.device =
    c.in_ok-push-2.ensures.ok ∙ ap (λ (l : List PathStep). l ++ c.in_ok-device_step.field-0 ∷ [])
    (c.in_ok-push.ensures.ok ∙ ap (λ (l : List PathStep). l ++ c.in_ok-service_step.field-0 ∷ []) c.new-steps.ensures)
    ∙ ap (λ (s : PathStep). s ∷ c.in_ok-device_step.field-0 ∷ []) c.in_ok-service_step.ensures
    ∙ ap (λ (s : PathStep). service_step c.args.id.now ∷ s ∷ []) c.in_ok-device_step.ensures in
    subst (λ (p : List PathStep). IsTrue (is_path p)) (sym steps) (row_path c.args.id.now c.args.device c.requires (omega arith))
