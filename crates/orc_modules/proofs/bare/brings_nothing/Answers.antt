use Rattle.std.proofs.Common.{◌≡◌, ◌∷◌, ◌∙◌, ap, subst, true, false, List}
use Rattle.std.specs.Prelude.{Some}
use Rattle.orc_yang.specs.declared.statement.Stmt.{Stmt}
use Rattle.orc_modules.specs.Bare.{may_bring}
use Rattle.orc_modules.specs.Children.{grouping}
use Rattle.orc_modules.specs.Scopes.{plain_name}
use Rattle.orc_modules.specs.Stack.{stack, found}
use Rattle.orc_modules.specs.inside.Beside.{beside_brings}
use Rattle.orc_modules.proofs.Barren.{if_ok}
use Rattle.orc_modules.proofs.Shallows.{shallow-named}
use Rattle.orc_modules.proofs.bare.brings_nothing.Goals as goal

pub returns-then-is_indexed : goal.returns-then-is_indexed
returns-then-is_indexed c = λ bare around names. shallow-named c.args.depth c.args.modules.now.all.now around c.args.stmt.now (found c.args.bringer.now) names
    (subst (λ x. beside_brings c.args.depth c.args.modules.now.all.now (stack c.args.bringer.now.above) x ≡ false) (c.plain_name.ensures ∙ ap plain_name c.argument.ensures) (c.is_shallow.ensures bare c.args.modules.now.all.now))

pub returns : goal.returns
returns c =
    let all = c.args.modules.now.all.now in
    let g = c.args.bringer.now in
    if_ok (λ b. b ≡ true → may_bring c.args.depth all (g.here.now ∷ stack g.above) g.here.now ≡ false)
    (λ b. b ≡ true → (around : List Stmt) → grouping all around c.args.stmt.now ≡ Some (found g) → may_bring c.args.depth all (g.here.now ∷ stack g.above) g.here.now ≡ false)
    (λ b h is around names. h is) c.is_bare.result c.is_bare.ensures.bare
