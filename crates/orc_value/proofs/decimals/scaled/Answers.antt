use Rattle.std.proofs.Common.{◌≡◌, ℕ, ◌<◌, ◌^◌, ◌*◌, SomeIff, subst, sym, ap, ◌∙◌}
use Rattle.std.specs.Str.Parse.{digits_value_after}
use Rattle.orc_value.specs.inside.Scaled.{units}
use Rattle.orc_value.proofs.Scales.{units-is, units-large, units-large_whole}
use Rattle.orc_value.proofs.decimals.scaled.Goals as goal

pub returns-in_err-read_on : goal.returns-in_err-read_on
returns-in_err-read_on c = rw c.from_residual.ensures (units-large_whole c.args.places c.args.whole.now c.args.fraction.now c.in_err-read_on.ensures)

pub returns-in_err-number : goal.returns-in_err-number
returns-in_err-number c =
    let large = rw c.in_ok-read_on.ensures.1 at c.in_err-number.ensures in
    rw c.from_residual-in_err-number.ensures (units-large c.args.places c.args.whole.now c.args.fraction.now large)

pub returns : goal.returns
returns c =
    let f = c.args.fraction.now in
    let number : c.in_ok-number.number ≡ digits_value_after 10 (digits_value_after 10 0 c.args.whole.now) f = c.in_ok-number.ensures.1 ∙ ap (λ (n : ℕ). digits_value_after 10 n f) c.in_ok-read_on.ensures.1 in
    let product : c.in_ok-number.number * c.power_of_ten.result ≡ units c.args.places c.args.whole.now f =
    ap (λ (n : ℕ). n * c.power_of_ten.result) number ∙ (ap (λ (p : ℕ). digits_value_after 10 (digits_value_after 10 0 c.args.whole.now) f * p) c.power_of_ten.ensures.value ∙ sym (units-is c.args.places c.args.whole.now f)) in
    subst (λ (n : ℕ). SomeIff c.checked_mul.result (n < 2 ^ 64) n) product c.checked_mul.ensures
