use Rattle.std.proofs.Common.{rules, ◌≡◌, ◌-◌, ◌+◌, ◌∷◌, sym, ◌∙◌, ap, arith, Bool, false}
use Rattle.std.specs.Prelude.{drop, Some}
use Rattle.std.specs.List.{list_any}
use Rattle.orc_yang.specs.declared.statement.Stmt.{Stmt}
use Rattle.orc_types.specs.Statements.{subs}
use Rattle.orc_modules.specs.Bare.{may_bring, brings_at}
use Rattle.orc_modules.specs.Children.{block_part}
use Rattle.orc_modules.specs.Stack.{stack}
use Rattle.orc_modules.specs.inside.Beside.{beside}
use Rattle.orc_modules.specs.inside.Known.{AreBare, is_known}
use Rattle.orc_modules.proofs.Barren.{known_of, brings-nothing, brings-uses}
use Rattle.orc_modules.proofs.Chains.{any-past}
use Rattle.orc_modules.proofs.bare.+bare.Goals.{is_bare-in-Uses+in-Some+in_ok-is_bare_named-in-Uses+in-true, is_bare-in-Nothing}
use Rattle.orc_modules.proofs.bare.+bare.Goals as goal

pub is_bare_named-returns-then-is_known-clause-bare : goal.is_bare_named-returns-then-is_known-clause-bare
is_bare_named-returns-then-is_known-clause-bare t c =
    let bare : AreBare c.args.modules.now.all.now (stack c.args.above.now) c.args.known.now.items = search rules in
    let named : beside (stack c.args.above.now) c.args.name.now ≡ Some c.args.here.now = search rules in
    λ _. known_of c.args.modules.now.all.now (stack c.args.above.now) c.args.known.now.items c.args.depth c.args.name.now c.args.here.now bare named
    (ap (list_any (is_known c.args.depth c.args.name.now)) (sym c.as_slice.ensures.value) ∙ sym c.is_known.ensures ∙ c.if-is_known.true)

pub is_bare-loop-sub-preserved : goal.is_bare-loop-sub-preserved
is_bare-loop-sub-preserved t c =
    let inner = may_bring (c.args.depth - 1) c.args.modules.now.all.now in
    let brings : Stmt → Bool = λ s. brings_at inner c.args.modules.now.all.now (c.args.here.now ∷ stack c.args.above.now) s (block_part s) in
    let past : brings c.sub-item.result ≡ false → list_any brings (drop c.loop-sub.sub-index (subs c.args.here.now)) ≡ list_any brings (drop (c.loop-sub.sub-index + 1) (subs c.args.here.now)) = λ bare. ap (λ ss. list_any brings (drop c.loop-sub.sub-index ss)) (sym c.as_slice-sub-items.ensures)
    ∙ any-past brings c.as_slice-sub-items.result.now c.loop-sub.sub-index c.sub-item.result (omega (arith, c.loop-sub-test.true)) (sym c.sub-item.is) bare
    ∙ ap (λ ss. list_any brings (drop (c.loop-sub.sub-index + 1) ss)) c.as_slice-sub-items.ensures in
    record {
      decides = elim c.match-block_part.branch [
        | is_bare-in-Uses+in-Some+in_ok-is_bare_named-in-Uses+in-true w ↦ c.loop-sub.invariant.decides ∙ past (brings-uses inner c.args.modules.now.all.now (c.args.here.now ∷ stack c.args.above.now) c.sub-item.result (record { above = stack c.args.above.now; here = w.in-Some.next.now }) (sym c.block_part.ensures ∙ w.in-Uses.is) (w.in-Some.ensures.means c.args.modules.now.all.now) (w.in_ok-is_bare_named-in-Uses.ensures.bare w.in-true.is))
        | is_bare-in-Nothing w ↦ c.loop-sub.invariant.decides ∙ past (brings-nothing inner c.args.modules.now.all.now (c.args.here.now ∷ stack c.args.above.now) c.sub-item.result (sym c.block_part.ensures ∙ w.in-Nothing.is))
      ];
      known = elim c.match-block_part.branch [
        | is_bare-in-Uses+in-Some+in_ok-is_bare_named-in-Uses+in-true w ↦ search rules
        | is_bare-in-Nothing w ↦ search rules
      ];
    }
