use Rattle.std.proofs.Common.{◌≡◌, ◌++◌, take, map}
use Rattle.orc_expr.specs.inside.Lists.{read_as}
use Rattle.orc_expr.proofs.nodes.push_reads.Given as goal

abbrev pub invariant-loop-node : goal.invariant-loop-node
invariant-loop-node l = l.reads ≡ l.fn.reads ++ map (read_as l.kind) (take l.node-index l.nodes)
