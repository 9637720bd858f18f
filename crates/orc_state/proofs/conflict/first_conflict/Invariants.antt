use Rattle.orc_state.specs.inside.Firsts.{AreUntouched}
use Rattle.orc_state.proofs.conflict.first_conflict.Given as goal

-- no row so far touches a read
abbrev pub invariant-loop-at : goal.invariant-loop-at
invariant-loop-at l = AreUntouched l.reads.reads l.rows l.front l.at
