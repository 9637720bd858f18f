use Rattle.std.proofs.Common.{◌≡◌, ℕ, ◌+◌, Ok, List, length, take, ap, subst, sym, ◌∙◌}
use Rattle.orc_call.specs.declared.call.Call.{Call}
use Rattle.orc_journal.specs.Committed.{history_of}
use Rattle.orc_hub_parts.specs.Pasts.{IsIllegalDecide}
use Rattle.orc_hub_parts.specs.declared.past.Past.{Past}
use Rattle.orc_hub_parts.proofs.Pasts.{past_none, past_upto, illegal_at}
use Rattle.orc_hub_parts.proofs.past.Past.read.Goals as goal

pub returns-then-not-branch-clause-illegal : goal.returns-then-not-branch-clause-illegal
returns-then-not-branch-clause-illegal c = λ place n e.
    let entries = c.args.entries.now in
    let at = c.loop-place.place in
    let same : at ≡ place = cc in
    let many : length c.history.result.now + 1 ≡ n = cc in
    let before = c.loop-place.invariant in
    let illegal = illegal_at c.args.decls.now c.loop-place.past entries at c.index-entries-place.result c.loop-place-test.true c.index-entries-place.is before
    (c.in_ok-take.ensures.illegal (ap Ok c.if-not-branch.true)) in (
      subst (λ n. IsIllegalDecide c.args.decls.now entries n) same illegal,
      sym many ∙ ap (λ (l : List Call). length l + 1) (c.history.ensures ∙ before.history) ∙ ap (λ (k : ℕ). length (history_of (take k entries)) + 1) same,
    )

pub loop-place-init : goal.loop-place-init
loop-place-init c =
    let past : Past = record { numbers = c.new.result; unsettled = c.new-2.result; state = c.in_ok-start.field-0 } in
    past_none c.args.decls.now past c.new.ensures.noted c.new.ensures.next c.new-2.ensures c.in_ok-start.ensures.none c.in_ok-start.ensures.state

pub loop-place-preserved : goal.loop-place-preserved
loop-place-preserved c =
    let entries = c.args.entries.now in
    let at = c.loop-place.place in
    past_upto c.args.decls.now c.take.new.self entries at c.index-entries-place.result c.loop-place-test.true c.index-entries-place.is
    (c.in_ok-take.ensures.taken (ap Ok c.if-not-branch.false))
