use Rattle.orc_expr.proofs.Touching.{best_place}
use Rattle.orc_expr.proofs.touch.first_touch.Goals as goal

pub best_with-best-requires-clause-within : goal.best_with-best-requires-clause-within
best_with-best-requires-clause-within c =
    best_place c.args.reads.now.reads c.args.writes.now c.loop-at.at c.loop-at.best c.loop-at.invariant
