use Rattle.std.proofs.Common.{◌≡◌, suc, ◌-◌, false, ◌&&◌, ◌||◌, List, take, ap, sym, ◌∙◌, arith}
use Rattle.orc_path.specs.Steps.{PathStep}
use Rattle.orc_check.specs.Validity.{place_lacks}
use Rattle.orc_check.specs.inside.Named.{is_present, is_lacked_above}
use Rattle.orc_check.proofs.Single.{above_step}
use Rattle.orc_check.proofs.references.+is_lacked_above.Goals as goal

pub returns-else-is_lacked_at : goal.returns-else-is_lacked_at
returns-else-is_lacked_at t c =
    let s = c.args.schema.now in
    let tree = c.args.tree.now in
    let target = c.args.target.now in
    let path = c.args.path.now in
    let k = c.args.number in
    let step : k ≡ suc (k - 1) = omega arith in
    let none : (is_present s tree (take k path) && place_lacks s tree target path (take k path)) ≡ false =
    ap (λ (p : List PathStep). is_present s tree p && place_lacks s tree target path p) (sym c.first_steps.ensures) ∙ sym c.is_lacked_at.ensures ∙ c.if-is_lacked_at.false in
    c.is_lacked_above.ensures
    ∙ ap (λ b. b || is_lacked_above s tree target path (k - 1)) (sym none)
    ∙ above_step s tree target path k (k - 1) step
