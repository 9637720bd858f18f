use Rattle.std.proofs.Common.{◌≡◌, ◌-◌, IfOk, codes, suc, sym, ◌∙◌, ap, subst, arith}
use Rattle.std.specs.Prelude.{option_map}
use Rattle.orc_types.specs.Statements.{first_of}
use Rattle.orc_modules.specs.Loops.{type_leads}
use Rattle.orc_modules.specs.Stack.{stack, found}
use Rattle.orc_modules.proofs.Circles.{type_leads-on}
use Rattle.orc_modules.proofs.loops.+type_leads.Goals as goal

pub returns-in-Some-first_of : goal.returns-in-Some-first_of
returns-in-Some-first_of t c =
    let all = c.args.modules.now.all.now in
    let e = found c.args.goal.now in
    let above = stack c.args.at.now.above.now in
    let n : c.args.depth ≡ suc (c.args.depth - 1) = omega (arith, c.if-depth-eq0.false) in
    let on = type_leads-on (c.args.depth - 1) all e above c.args.stmt.now (found c.in-Some.next) c.in-Some-first_of.inner.now
    (sym c.in_ok-typedef_of.ensures ∙ ap (option_map found) c.in-Some.is) (sym c.is_same.ensures ∙ c.if-is_same.false)
    (ap (first_of (codes "type")) (sym c.as_slice.ensures) ∙ sym c.in-Some-first_of.ensures) in
    subst (λ b. IfOk c.type_leads.result (λ leads. leads ≡ b)) (sym (ap (λ m. type_leads m all e above c.args.stmt.now) n ∙ on)) c.type_leads.ensures
