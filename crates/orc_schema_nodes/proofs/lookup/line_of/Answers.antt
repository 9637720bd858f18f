use Rattle.std.proofs.Common.{◌+◌, ◌-◌, ◌/◌, arith}
use Rattle.orc_schema_nodes.proofs.Halving.{halving_start, shares_here, upper_half, lower_half, found_here, none_here}
use Rattle.orc_schema_nodes.proofs.lookup.line_of.Goals as goal

pub loop-low-init : goal.loop-low-init
loop-low-init g c = halving_start c.args.lines.now (g.T.Sought.names c.args.sought.now)

pub order_from-order-requires : goal.order_from-order-requires
order_from-order-requires g c =
    let l = c.loop-low in
    shares_here c.args.lines.now (g.T.Sought.names c.args.sought.now) c.requires l.low l.high l.below l.above l.invariant
    (l.low + (l.high - l.low) / 2) c.index-lines-middle.result c.index-lines-middle.is (omega arith) (omega arith)
    c.as_slice.result.now c.as_slice.ensures
    c.min.result c.min.ensures

pub loop-low-preserved-in-Less : goal.loop-low-preserved-in-Less
loop-low-preserved-in-Less g c =
    let l = c.loop-low in
    upper_half c.args.lines.now (g.T.Sought.names c.args.sought.now) c.requires l.low l.high l.below l.above l.invariant
    (l.low + (l.high - l.low) / 2) c.index-lines-middle.result c.index-lines-middle.is (omega arith) (omega arith)
    c.as_slice.result.now c.as_slice.ensures
    c.order_from-order.result.1 c.order_from-order.result.0 c.in-Less.is c.order_from-order.ensures.order c.order_from-order.ensures.shared

pub loop-low-preserved : goal.loop-low-preserved
loop-low-preserved g c =
    let l = c.loop-low in
    lower_half c.args.lines.now (g.T.Sought.names c.args.sought.now) c.requires l.low l.high l.below l.above l.invariant
    (l.low + (l.high - l.low) / 2) c.index-lines-middle.result c.index-lines-middle.is (omega arith) (omega arith)
    c.as_slice.result.now c.as_slice.ensures
    c.order_from-order.result.1 c.order_from-order.result.0 c.in-Greater.is c.order_from-order.ensures.order c.order_from-order.ensures.shared

pub returns-in-Equal : goal.returns-in-Equal
returns-in-Equal g c =
    let l = c.loop-low in
    found_here c.args.lines.now (g.T.Sought.names c.args.sought.now) c.requires l.low l.high l.below l.above l.invariant
    (l.low + (l.high - l.low) / 2) c.index-lines-middle.result c.index-lines-middle.is (omega arith) (omega arith)
    c.as_slice.result.now c.as_slice.ensures
    c.order_from-order.result.0 c.in-Equal.is c.order_from-order.ensures.order

pub returns : goal.returns
returns g c =
    let l = c.loop-low in
    none_here c.args.lines.now (g.T.Sought.names c.args.sought.now) c.requires l.low l.high l.below l.above l.invariant (omega arith)
