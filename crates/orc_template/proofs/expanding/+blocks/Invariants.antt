use Rattle.std.proofs.Common.{◌≡◌, ◌+◌, ◌*◌, drop}
use Rattle.serde_json.specs.View.{view, items_view}
use Rattle.orc_expr.specs.Parts.{expression_of}
use Rattle.orc_template.specs.Blocks.{blocks_of}
use Rattle.orc_template.specs.Expansions.{nodes_expanded, blocks_expanded}
use Rattle.orc_template.specs.inside.Machine.{ground}
use Rattle.orc_template.specs.inside.Expanding.{expanding_of, inner, each_in}
use Rattle.orc_template.proofs.Moved.{front_count}
use Rattle.orc_template.proofs.expanding.+blocks.Given as goal

-- the blocks after those that were done
abbrev pub invariant-do_blocks-loop-at : goal.invariant-do_blocks-loop-at
invariant-do_blocks-loop-at g l =
    blocks_expanded (ground (g.V.DataView.viewed l.fn.view) l.fn.devices) l.fn.here (l.fn.first + front_count l.fn.blocks l.at) (blocks_of (items_view (drop l.at l.fn.blocks))) (expanding_of l.expanding)
    ≡ blocks_expanded (ground (g.V.DataView.viewed l.fn.view) l.fn.devices) l.fn.here l.fn.first (blocks_of (items_view l.fn.blocks)) (expanding_of l.fn.expanding)

abbrev pub invariant-do_each-loop-node : goal.invariant-do_each-loop-node
invariant-do_each-loop-node g l =
    nodes_expanded (ground (g.V.DataView.viewed l.fn.view) l.fn.devices) l.fn.number (view l.fn.block)
    (inner (ground (g.V.DataView.viewed l.fn.view) l.fn.devices) l.fn.number (view l.fn.block)) (drop l.node-index l.node-items) (expanding_of l.expanding)
    ≡ each_in (ground (g.V.DataView.viewed l.fn.view) l.fn.devices) l.fn.here l.fn.number (view l.fn.block) (expression_of l.fn.each) (expanding_of l.fn.expanding)

abbrev pub decreases-do_blocks : goal.decreases-do_blocks
decreases-do_blocks g l = 4 * l.left

abbrev pub decreases-do_block : goal.decreases-do_block
decreases-do_block g l = 4 * l.left + 3

abbrev pub decreases-do_each : goal.decreases-do_each
decreases-do_each g l = 4 * l.left + 2

abbrev pub decreases-do_node : goal.decreases-do_node
decreases-do_node g l = 4 * l.left + 1
