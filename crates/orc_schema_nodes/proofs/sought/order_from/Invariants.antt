use Rattle.std.proofs.Common.{length, ◌-◌}
use Rattle.orc_schema_nodes.specs.inside.Fronts.{Shares}
use Rattle.orc_schema_nodes.proofs.sought.order_from.Given as goal

abbrev pub invariant-loop-place : goal.invariant-loop-place
invariant-loop-place g l = Shares l.place l.names (g.T.Sought.names l.sought)

abbrev pub decreases-loop-place : goal.decreases-loop-place
decreases-loop-place g l = length l.names - l.place
