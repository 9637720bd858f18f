use Rattle.std.proofs.Common.{◌-◌}
use Rattle.orc_tree.specs.Pages.{page_rows}
use Rattle.orc_tree.proofs.Halved.{IsHalved}
use Rattle.orc_check.specs.inside.Lent.{spot_path}
use Rattle.orc_check.proofs.runs.page_for.Given as goal

abbrev pub invariant-loop-low : goal.invariant-loop-low
invariant-loop-low l = IsHalved page_rows (spot_path l.spot) l.pages l.low l.high

abbrev pub decreases-loop-low : goal.decreases-loop-low
decreases-loop-low l = l.high - l.low
