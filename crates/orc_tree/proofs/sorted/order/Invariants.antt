use Rattle.std.proofs.Common.{◌≡◌, length}
use Rattle.orc_path.specs.Order.{path_cmp}
use Rattle.orc_tree.proofs.sorted.order.Given as goal

-- the steps that are left are to one another as all are
abbrev pub invariant-loop-step : goal.invariant-loop-step
invariant-loop-step l = path_cmp l.rest l.others ≡ path_cmp l.steps l.path

abbrev pub decreases-loop-step : goal.decreases-loop-step
decreases-loop-step l = length l.rest
