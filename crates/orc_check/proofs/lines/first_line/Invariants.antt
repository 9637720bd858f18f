use Rattle.std.proofs.Common.{◌≡◌, ◌≤◌, ◌-◌, length, take, false}
use Rattle.std.specs.List.{list_any}
use Rattle.orc_check.specs.inside.Lines.{leads_on}
use Rattle.orc_check.proofs.lines.first_line.Given as goal

-- no line below `low` leads on
abbrev pub invariant-loop-low : goal.invariant-loop-low
invariant-loop-low l = record {
  order : l.low ≤ l.high;
  within : l.high ≤ length l.lines;
  before : list_any (leads_on l.steps) (take l.low l.lines) ≡ false;
}

abbrev pub decreases-loop-low : goal.decreases-loop-low
decreases-loop-low l = l.high - l.low
