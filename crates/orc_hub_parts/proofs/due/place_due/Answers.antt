use Rattle.std.proofs.Common.{All, ap, not, subst}
use Rattle.std.proofs.lemmas.List.{take_all}
use Rattle.orc_hub_parts.specs.Due.{IsDueAs}
use Rattle.orc_queue.proofs.Loops.{holds_more, turned}
use Rattle.orc_hub_parts.proofs.Places.{there}
use Rattle.orc_hub_parts.proofs.due.place_due.Goals as goal

pub loop-place-preserved : goal.loop-place-preserved
loop-place-preserved c =
    holds_more (λ it. IsDueAs c.args.duties.now c.args.t it → ⊥) c.args.active.now c.loop-place.place c.index-active-place.result (not c.is_due_as.result)
    (turned c.is_due_as.result c.is_due_as.ensures) c.loop-place-test.true c.index-active-place.is c.loop-place.invariant (ap not c.if-is_due_as.false)

pub returns : goal.returns
returns c = subst (All (λ it. IsDueAs c.args.duties.now c.args.t it → ⊥)) (take_all c.loop-place.place c.args.active.now c.loop-place-test.false) c.loop-place.invariant

pub returns-then-is_due_as : goal.returns-then-is_due_as
returns-then-is_due_as c =
    let due = c.is_due_as.ensures.0 c.if-is_due_as.true in
    (c.index-active-place.result, there c.args.active.now c.loop-place.place c.index-active-place.result c.loop-place-test.true c.index-active-place.is, due)
