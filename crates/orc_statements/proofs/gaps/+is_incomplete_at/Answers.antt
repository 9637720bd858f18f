use Rattle.std.proofs.Common.{◌≡◌, ◌-◌, ◌+◌, ◌∷◌, sym, ◌∙◌, ap, arith, Bool, false}
use Rattle.std.specs.Prelude.{drop}
use Rattle.std.specs.List.{list_any}
use Rattle.orc_yang.specs.declared.statement.Stmt.{Stmt}
use Rattle.orc_types.specs.Statements.{subs}
use Rattle.orc_modules.specs.Children.{block_part}
use Rattle.orc_modules.specs.Stack.{stack, found}
use Rattle.orc_statements.specs.Gaps.{is_incomplete, gap_at}
use Rattle.orc_statements.proofs.Barren.{no_gap}
use Rattle.orc_statements.proofs.Uses.{any-past, gap-node, gap-nothing, gap-uses}
use Rattle.orc_statements.proofs.gaps.+is_incomplete_at.Goals.{in-Uses+in_ok-visit-in-Uses+in-Some+in_ok-brings_nothing-in-Uses+in-false+in_ok-is_incomplete_at-in-false+in-false-2, in-Uses+in_ok-visit-in-Uses+in-Some+in_ok-brings_nothing-in-Uses+in-true, in-Node, in-Nothing}
use Rattle.orc_statements.proofs.gaps.+is_incomplete_at.Goals as goal

pub loop-sub-preserved : goal.loop-sub-preserved
loop-sub-preserved t c =
    let inner = is_incomplete (c.args.depth - 1) c.args.modules.now.all.now in
    let gap : Stmt → Bool = λ s. gap_at inner c.args.modules.now.all.now (stack c.args.at.now.above.now) s (block_part s) in
    let past : gap c.sub-item.result ≡ false → list_any gap (drop c.loop-sub.sub-index (subs c.args.stmt.now)) ≡ list_any gap (drop (c.loop-sub.sub-index + 1) (subs c.args.stmt.now)) = λ fails. ap (λ ss. list_any gap (drop c.loop-sub.sub-index ss)) (sym c.as_slice-sub-items.ensures)
    ∙ any-past gap c.as_slice-sub-items.result.now c.loop-sub.sub-index c.sub-item.result (omega (arith, c.loop-sub-test.true)) (sym c.sub-item.is) fails
    ∙ ap (λ ss. list_any gap (drop (c.loop-sub.sub-index + 1) ss)) c.as_slice-sub-items.ensures in
    elim c.match-block_part.branch [
      | in-Uses+in_ok-visit-in-Uses+in-Some+in_ok-brings_nothing-in-Uses+in-false+in_ok-is_incomplete_at-in-false+in-false-2 w ↦ c.loop-sub.invariant ∙ past (gap-uses inner c.args.modules.now.all.now (stack c.args.at.now.above.now) c.sub-item.result (found w.in-Some.found) (sym c.block_part.ensures ∙ w.in-Uses.is) (sym w.in-Some.ensures) (sym w.in_ok-is_incomplete_at-in-false.ensures ∙ w.in-false-2.is))
      | in-Uses+in_ok-visit-in-Uses+in-Some+in_ok-brings_nothing-in-Uses+in-true w ↦ c.loop-sub.invariant ∙ past (gap-uses inner c.args.modules.now.all.now (stack c.args.at.now.above.now) c.sub-item.result (found w.in-Some.found) (sym c.block_part.ensures ∙ w.in-Uses.is) (sym w.in-Some.ensures) (no_gap c.args.modules.now.all.now (c.args.depth - 1) (w.in-Some.found.here.now ∷ stack w.in-Some.found.above) w.in-Some.found.here.now (w.in_ok-brings_nothing-in-Uses.ensures w.in-true.is (stack c.args.at.now.above.now) (sym w.in-Some.ensures))))
      | in-Node w ↦ c.loop-sub.invariant ∙ past (gap-node inner c.args.modules.now.all.now (stack c.args.at.now.above.now) c.sub-item.result (sym c.block_part.ensures ∙ w.in-Node.is))
      | in-Nothing w ↦ c.loop-sub.invariant ∙ past (gap-nothing inner c.args.modules.now.all.now (stack c.args.at.now.above.now) c.sub-item.result (sym c.block_part.ensures ∙ w.in-Nothing.is))
    ]
