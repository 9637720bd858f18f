use Rattle.std.proofs.Common.{◌≡◌, suc, ◌-◌, false, ◌&&◌, ◌||◌, is_none, List, take, ap, sym, ◌∙◌, arith}
use Rattle.std.specs.FinMap.{get}
use Rattle.orc_path.specs.Steps.{PathStep, ends_in_keys}
use Rattle.orc_revalidate.specs.inside.Led.{is_cut_off}
use Rattle.orc_revalidate.proofs.Standing.{more_cut}
use Rattle.orc_revalidate.proofs.led.+is_cut_off.Goals as goal

pub returns-else-is_gone : goal.returns-else-is_gone
returns-else-is_gone t c =
    let tree = c.args.tree.now in
    let path = c.args.path.now in
    let k = c.args.number in
    let step : k ≡ suc (k - 1) = omega arith in
    let none : (ends_in_keys (take k path) && is_none (get tree (take k path))) ≡ false =
    ap (λ (p : List PathStep). ends_in_keys p && is_none (get tree p)) (sym c.first_steps.ensures) ∙ sym c.is_gone.ensures ∙ c.if-is_gone.false in
    c.is_cut_off.ensures ∙ ap (λ b. b || is_cut_off tree path (k - 1)) (sym none) ∙ more_cut tree path k (k - 1) step
