use Rattle.std.proofs.Common.{◌≡◌, sym, subst, rules}
use Rattle.orc_script.specs.Scripts.{with_literal}
use Rattle.orc_script.specs.declared.script.Script.{Script}
use Rattle.orc_script.specs.inside.Lawful.{AreSteps}
use Rattle.orc_script.proofs.CallLines.{closed}
use Rattle.orc_script.proofs.script.Script.close_literal.Goals as goal

pub returns-clause-lawful : goal.returns-clause-lawful
returns-clause-lawful c = λ decls most so_far here small.
    let s = c.args.self.now in
    let all = closed decls most s so_far here small in
    let same : with_literal s ≡ _ = sym (search rules) in
    subst (λ (t : Script). AreSteps decls most t) same all
