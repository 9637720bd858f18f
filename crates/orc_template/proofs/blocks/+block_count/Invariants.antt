use Rattle.std.proofs.Common.{◌≡◌, ◌+◌, drop}
use Rattle.serde_json.specs.View.{items_view}
use Rattle.orc_template.specs.Blocks.{blocks_of, block_count}
use Rattle.orc_template.proofs.blocks.+block_count.Given as goal

abbrev pub decreases-block_count : goal.decreases-block_count
decreases-block_count l = l.left

-- those so far, and those that are left
abbrev pub invariant-loop-block : goal.invariant-loop-block
invariant-loop-block l =
    l.count + block_count (blocks_of (items_view (drop l.block-index l.fn.blocks))) ≡ block_count (blocks_of (items_view l.fn.blocks))
