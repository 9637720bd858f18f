use Rattle.std.proofs.Common.{◌≡◌, IfOk, codes, suc, ◌-◌, sym, ◌∙◌, ap, subst, arith}
use Rattle.orc_types.specs.BuiltIn.{built_in}
use Rattle.orc_types.specs.Statements.{first_of}
use Rattle.orc_modules.specs.Bases.{named_typedef, base_of}
use Rattle.orc_modules.specs.Stack.{stack, found}
use Rattle.orc_modules.specs.Statements.{argument_below}
use Rattle.orc_modules.proofs.Chains.{base_of-built, base_of-on}
use Rattle.orc_modules.proofs.base.+base_at.Goals as goal

pub returns-in-Some : goal.returns-in-Some
returns-in-Some t c =
    let n : c.args.depth ≡ suc (c.args.depth - 1) = omega (arith, c.if-depth-eq0.false) in
    let on = base_of-built (c.args.depth - 1) c.args.modules.now.all.now (stack c.args.at.now.above.now) c.args.stmt.now c.in-Some.base (ap built_in (sym c.argument.ensures) ∙ sym c.in_ok-base.ensures ∙ c.in-Some.is) in
    subst (λ e. IfOk c.built_in_named.result (λ named. named ≡ e)) (sym (ap (λ m. base_of m c.args.modules.now.all.now (stack c.args.at.now.above.now) c.args.stmt.now) n ∙ on)) c.built_in_named.ensures

pub returns-in-Some-first_of : goal.returns-in-Some-first_of
returns-in-Some-first_of t c =
    let n : c.args.depth ≡ suc (c.args.depth - 1) = omega (arith, c.if-depth-eq0.false) in
    let on = base_of-on (c.args.depth - 1) c.args.modules.now.all.now (stack c.args.at.now.above.now) c.args.stmt.now (found c.in-Some-typedef.found) c.in-Some-first_of.inner.now (ap built_in (sym c.argument.ensures) ∙ sym c.in_ok-base.ensures ∙ c.in_default.is) (sym c.in-Some-typedef.ensures) (ap (first_of (codes "type")) (sym c.as_slice.ensures) ∙ sym c.in-Some-first_of.ensures) in
    subst (λ e. IfOk c.named_typedef.result (λ made. made ≡ e)) (sym (ap (λ m. base_of m c.args.modules.now.all.now (stack c.args.at.now.above.now) c.args.stmt.now) n ∙ on))
    (subst (λ b. IfOk c.named_typedef.result (λ made. made ≡ named_typedef (argument_below (codes "default") c.in-Some-typedef.found.here.now) c.in-Some-first_of.inner.now b)) c.in_ok-named.ensures
    (subst (λ d. IfOk c.named_typedef.result (λ made. made ≡ named_typedef d c.in-Some-first_of.inner.now c.in_ok-named.named)) c.argument_below.ensures c.named_typedef.ensures))
