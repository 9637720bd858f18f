use Rattle.std.proofs.Common.{◌≡◌, ◌+◌, ◌*◌, drop}
use Rattle.serde_json.specs.View.{items_view}
use Rattle.orc_template.specs.Blocks.{blocks_of}
use Rattle.orc_template.specs.Templates.{blocks_fault}
use Rattle.orc_template.specs.inside.Machine.{site}
use Rattle.orc_template.proofs.checking.+faults.Given as goal

-- none is at fault so far
abbrev pub invariant-blocks_fault-loop-block : goal.invariant-blocks_fault-loop-block
invariant-blocks_fault-loop-block g l =
    blocks_fault (site (g.V.DataView.viewed l.fn.view).shapes l.fn.node) l.number (blocks_of (items_view (drop l.block-index l.fn.blocks)))
    ≡ blocks_fault (site (g.V.DataView.viewed l.fn.view).shapes l.fn.node) l.fn.first (blocks_of (items_view l.fn.blocks))

abbrev pub decreases-blocks_fault : goal.decreases-blocks_fault
decreases-blocks_fault g l = 2 * l.left

abbrev pub decreases-block_fault : goal.decreases-block_fault
decreases-block_fault g l = 2 * l.left + 1
