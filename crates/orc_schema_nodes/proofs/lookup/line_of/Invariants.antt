use Rattle.std.proofs.Common.{◌-◌}
use Rattle.orc_schema_nodes.proofs.Halving.{IsHalving}
use Rattle.orc_schema_nodes.proofs.lookup.line_of.Given as goal

abbrev pub invariant-loop-low : goal.invariant-loop-low
invariant-loop-low g l = IsHalving l.lines (g.T.Sought.names l.sought) l.low l.high l.below l.above

abbrev pub decreases-loop-low : goal.decreases-loop-low
decreases-loop-low g l = l.high - l.low
