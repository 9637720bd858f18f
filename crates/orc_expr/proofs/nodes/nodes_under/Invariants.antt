use Rattle.std.proofs.Common.{◌≡◌, take}
use Rattle.orc_expr.specs.Looks.{nodes_under}
use Rattle.orc_expr.proofs.nodes.nodes_under.Given as goal

abbrev pub invariant-loop-place : goal.invariant-loop-place
invariant-loop-place l = l.nodes ≡ nodes_under l.name l.keys (take l.place-index l.places)
