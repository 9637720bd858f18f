use Rattle.std.proofs.Common.{rules, ◌≡◌, ◌-◌, ◌+◌, sym, ◌∙◌, ap, subst, arith, Bool, false}
use Rattle.std.specs.Prelude.{drop, option_map}
use Rattle.std.specs.List.{list_any}
use Rattle.orc_yang.specs.declared.statement.Stmt.{Stmt}
use Rattle.orc_types.specs.Statements.{subs}
use Rattle.orc_modules.specs.Bare.{Brings}
use Rattle.orc_modules.specs.Children.{is_deeper, deeper_at, block_part, grouping}
use Rattle.orc_modules.specs.Stack.{stack, found}
use Rattle.orc_modules.proofs.Barren.{bare_deeper, deeper-none}
use Rattle.orc_modules.proofs.Chains.{any-past, deeper-node, deeper-uses}
use Rattle.orc_modules.proofs.deep.+is_deeper.Goals.{in-Node+in_ok-is_deeper-in-Node+in-false, in-Uses+in_ok-found-in-Uses+in-Some+in_ok-is_deeper-in-Some+in-false-2, in-Uses+in_ok-found-in-Uses+in-None, in-Nothing}
use Rattle.orc_modules.proofs.deep.+is_deeper.Goals as goal

pub loop-sub-preserved : goal.loop-sub-preserved
loop-sub-preserved t c =
    let inner = is_deeper (c.args.depth - 1) c.args.modules.now.all.now in
    let deep : Stmt → Bool = λ s. deeper_at inner c.args.modules.now.all.now (stack c.args.at.now.above.now) s (block_part s) in
    let past : deep c.sub-item.result ≡ false → list_any deep (drop c.loop-sub.sub-index (subs c.args.stmt.now)) ≡ list_any deep (drop (c.loop-sub.sub-index + 1) (subs c.args.stmt.now)) = λ shallow. ap (λ ss. list_any deep (drop c.loop-sub.sub-index ss)) (sym c.as_slice-sub-items.ensures)
    ∙ any-past deep c.as_slice-sub-items.result.now c.loop-sub.sub-index c.sub-item.result (omega (arith, c.loop-sub-test.true)) (sym c.sub-item.is) shallow
    ∙ ap (λ ss. list_any deep (drop (c.loop-sub.sub-index + 1) ss)) c.as_slice-sub-items.ensures in
    elim c.match-block_part.branch [
      | in-Node+in_ok-is_deeper-in-Node+in-false w ↦ c.loop-sub.invariant ∙ past (deeper-node inner c.args.modules.now.all.now (stack c.args.at.now.above.now) c.sub-item.result (sym c.block_part.ensures ∙ w.in-Node.is) (sym w.in_ok-is_deeper-in-Node.ensures ∙ w.in-false.is))
      | in-Uses+in_ok-found-in-Uses+in-Some+in_ok-is_deeper-in-Some+in-false-2 w ↦ c.loop-sub.invariant ∙ past (deeper-uses inner c.args.modules.now.all.now (stack c.args.at.now.above.now) c.sub-item.result (found w.in-Some.found) (sym c.block_part.ensures ∙ w.in-Uses.is) (subst (λ o. Brings (c.args.depth - 1) c.args.modules.now.all.now (stack c.args.at.now.above.now) c.sub-item.result (option_map found o)) w.in-Some.is w.in_ok-found-in-Uses.ensures) (sym w.in_ok-is_deeper-in-Some.ensures ∙ w.in-false-2.is))
      | in-Uses+in_ok-found-in-Uses+in-None w ↦ c.loop-sub.invariant ∙ past (deeper-none inner c.args.modules.now.all.now (stack c.args.at.now.above.now) c.sub-item.result (sym c.block_part.ensures ∙ w.in-Uses.is) (bare_deeper c.args.modules.now.all.now (c.args.depth - 1) (grouping c.args.modules.now.all.now (stack c.args.at.now.above.now) c.sub-item.result) (subst (λ o. Brings (c.args.depth - 1) c.args.modules.now.all.now (stack c.args.at.now.above.now) c.sub-item.result (option_map found o)) w.in-None.is w.in_ok-found-in-Uses.ensures)))
      | in-Nothing w ↦ search rules
    ]
