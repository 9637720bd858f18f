use Rattle.std.proofs.Common.{◌-◌}
use Rattle.orc_tree.specs.Pages.{chapter_rows}
use Rattle.orc_tree.proofs.Halved.{IsHalved}
use Rattle.orc_tree.proofs.lookup.chapter_for.Given as goal

abbrev pub invariant-loop-low : goal.invariant-loop-low
invariant-loop-low l = IsHalved chapter_rows l.steps l.chapters l.low l.high

abbrev pub decreases-loop-low : goal.decreases-loop-low
decreases-loop-low l = l.high - l.low
