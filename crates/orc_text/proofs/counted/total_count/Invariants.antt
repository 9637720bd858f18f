-- The total so far.
use Rattle.std.proofs.Common.{◌≡◌, length, take, flat_map}
use Rattle.orc_text.specs.Counts.{capped}
use Rattle.orc_text.proofs.counted.total_count.Given as goal

abbrev pub invariant-loop-item : goal.invariant-loop-item
invariant-loop-item g l = l.total ≡ capped (length (flat_map g.T.Counted.spelling (take l.item-index l.items)))
