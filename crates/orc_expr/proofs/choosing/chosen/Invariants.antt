use Rattle.std.proofs.Common.{◌≡◌}
use Rattle.std.specs.Vec.Iter.{into_iter_items}
use Rattle.orc_expr.specs.Looks.{chosen}
use Rattle.orc_expr.specs.inside.Chosen.{chosen_behind}
use Rattle.orc_expr.proofs.choosing.chosen.Given as goal

-- what was chosen, before what the later predicates choose, is what all choose
abbrev pub invariant-loop-next : goal.invariant-loop-next
invariant-loop-next l = chosen_behind l.keys l.reads (chosen (into_iter_items l.next-iterator)) ≡ chosen l.fn.asked
