use Rattle.std.proofs.Common.{◌≡◌, ℕ, suc, ◌-◌, sym, ap, ◌∙◌, arith}
use Rattle.std.specs.declared.option.Option.{Option}
use Rattle.std.specs.List.{fold}
use Rattle.orc_check.specs.Validity.{Breach, lesser_breach}
use Rattle.orc_revalidate.specs.inside.Looked.{front_breaches}
use Rattle.orc_revalidate.proofs.Standing.{more_fronts}
use Rattle.orc_revalidate.proofs.fronts.+keep_fronts.Goals as goal

pub returns-then-number-eq0 : goal.returns-then-number-eq0
returns-then-number-eq0 t c =
    c.keep_top_line.ensures
    ∙ ap (λ (n : ℕ). fold lesser_breach c.args.best (front_breaches c.args.schema.now c.args.tree.now c.args.line.now c.args.path.now n)) (sym c.if-number-eq0.true)

pub returns : goal.returns
returns t c =
    let s = c.args.schema.now in
    let tree = c.args.tree.now in
    let line = c.args.line.now in
    let path = c.args.path.now in
    let k = c.args.number in
    let step : k ≡ suc (k - 1) = omega arith in
    c.keep_fronts.ensures
    ∙ ap (λ (best : Option Breach). fold lesser_breach best (front_breaches s tree line path (k - 1))) c.keep_standing-kept.ensures
    ∙ more_fronts s tree line path c.args.best k (k - 1) step
