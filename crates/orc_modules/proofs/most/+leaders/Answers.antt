use Rattle.std.proofs.Common.{◌≡◌, ◌+◌, sym, ◌∙◌, ap}
use Rattle.std.specs.List.{sum_by}
use Rattle.std.proofs.lemmas.List.{take_all}
use Rattle.orc_types.specs.Statements.{subs}
use Rattle.orc_modules.specs.Statements.{leaders}
use Rattle.orc_modules.proofs.Barren.{if_ok}
use Rattle.orc_modules.proofs.Leaders.{leaders_are}
use Rattle.orc_modules.proofs.most.+leaders.Goals as goal

pub returns : goal.returns
returns t c =
    let s = c.args.stmt.now in
    let own = c.own_count.result in
    let all : c.loop-sub.below ≡ sum_by leaders (subs s) = c.loop-sub.invariant
    ∙ ap (sum_by leaders) (take_all c.loop-sub.sub-index c.as_slice-sub-items.result.now c.loop-sub-test.false ∙ c.as_slice-sub-items.ensures) in
    if_ok (λ n. n ≡ c.loop-sub.below + own) (λ n. n ≡ leaders s)
    (λ n h. h ∙ ap (λ b. b + own) all ∙ ap (λ k. sum_by leaders (subs s) + k) c.own_count.ensures ∙ sym (leaders_are s))
    c.added-2.result c.added-2.ensures
