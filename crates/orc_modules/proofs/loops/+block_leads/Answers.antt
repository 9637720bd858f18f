use Rattle.std.proofs.Common.{◌≡◌, ◌-◌, ◌+◌, sym, ◌∙◌, ap, arith, Bool, false}
use Rattle.std.specs.Prelude.{drop}
use Rattle.std.specs.List.{list_any}
use Rattle.orc_yang.specs.declared.statement.Stmt.{Stmt}
use Rattle.orc_types.specs.Statements.{subs}
use Rattle.orc_modules.specs.Children.{block_part}
use Rattle.orc_modules.specs.Loops.{block_leads, part_leads}
use Rattle.orc_modules.specs.Stack.{stack, found}
use Rattle.orc_modules.proofs.Chains.{any-past}
use Rattle.orc_modules.proofs.Circles.{leads-node, leads-uses, leads-missing, leads-nothing}
use Rattle.orc_modules.proofs.loops.+block_leads.Goals.{in-Node+in_ok-block_leads-in-Node+in-false, in-Uses+in_ok-visit-in-Uses+in-Some+else-is_same+in_ok-block_leads-in-Some+in-false-2, in-Uses+in_ok-visit-in-Uses+in-None, in-Nothing}
use Rattle.orc_modules.proofs.loops.+block_leads.Goals as goal

pub loop-sub-preserved : goal.loop-sub-preserved
loop-sub-preserved t c =
    let all = c.args.modules.now.all.now in
    let above = stack c.args.at.now.above.now in
    let e = found c.args.goal.now in
    let inner = block_leads (c.args.depth - 1) all e in
    let leads : Stmt → Bool = λ s. part_leads inner all e above s (block_part s) in
    let s = c.sub-item.result in
    let past : leads s ≡ false → list_any leads (drop c.loop-sub.sub-index (subs c.args.stmt.now)) ≡ list_any leads (drop (c.loop-sub.sub-index + 1) (subs c.args.stmt.now)) = λ ends. ap (λ ss. list_any leads (drop c.loop-sub.sub-index ss)) (sym c.as_slice-sub-items.ensures)
    ∙ any-past leads c.as_slice-sub-items.result.now c.loop-sub.sub-index s (omega (arith, c.loop-sub-test.true)) (sym c.sub-item.is) ends
    ∙ ap (λ ss. list_any leads (drop (c.loop-sub.sub-index + 1) ss)) c.as_slice-sub-items.ensures in
    elim c.match-block_part.branch [
      | in-Node+in_ok-block_leads-in-Node+in-false w ↦ c.loop-sub.invariant ∙ past (leads-node inner all e above s (sym c.block_part.ensures ∙ w.in-Node.is) (sym w.in_ok-block_leads-in-Node.ensures ∙ w.in-false.is))
      | in-Uses+in_ok-visit-in-Uses+in-Some+else-is_same+in_ok-block_leads-in-Some+in-false-2 w ↦ c.loop-sub.invariant ∙ past (leads-uses inner all e above s (found w.in-Some.next) (sym c.block_part.ensures ∙ w.in-Uses.is) (sym w.in-Some.ensures) (sym w.is_same.ensures ∙ w.if-is_same.false) (sym w.in_ok-block_leads-in-Some.ensures ∙ w.in-false-2.is))
      | in-Uses+in_ok-visit-in-Uses+in-None w ↦ c.loop-sub.invariant ∙ past (leads-missing inner all e above s (sym c.block_part.ensures ∙ w.in-Uses.is) (sym w.in-None.ensures))
      | in-Nothing w ↦ c.loop-sub.invariant ∙ past (leads-nothing inner all e above s (sym c.block_part.ensures ∙ w.in-Nothing.is))
    ]
