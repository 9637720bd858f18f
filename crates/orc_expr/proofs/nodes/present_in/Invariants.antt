use Rattle.std.proofs.Common.{◌≡◌, take}
use Rattle.std.specs.List.{filter}
use Rattle.orc_expr.specs.Looks.{is_present}
use Rattle.orc_expr.proofs.nodes.present_in.Given as goal

abbrev pub invariant-loop-node : goal.invariant-loop-node
invariant-loop-node g l = l.found ≡ filter (is_present (g.V.DataView.viewed l.view).items) (take l.node-index l.nodes)
