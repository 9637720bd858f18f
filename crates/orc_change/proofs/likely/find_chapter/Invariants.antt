use Rattle.std.proofs.Common.{◌≤◌, ◌-◌, length}
use Rattle.orc_change.proofs.likely.find_chapter.Given as goal

-- the chapters below `high` are among them
abbrev pub invariant-loop-low : goal.invariant-loop-low
invariant-loop-low l = record {
  order : l.low ≤ l.high;
  within : l.high ≤ length l.chapters;
}

abbrev pub decreases-loop-low : goal.decreases-loop-low
decreases-loop-low l = l.high - l.low
