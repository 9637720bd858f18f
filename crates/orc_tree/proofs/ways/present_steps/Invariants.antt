use Rattle.std.proofs.Common.{◌≤◌, ◌-◌, length}
use Rattle.orc_tree.specs.Pages.{chapters_rows}
use Rattle.orc_tree.specs.inside.Puts.{HasNoneBeyond}
use Rattle.orc_tree.proofs.ways.present_steps.Given as goal

-- no entry from here on to the path's end has a row
abbrev pub invariant-loop-at : goal.invariant-loop-at
invariant-loop-at l = record {
  within : l.at ≤ length l.steps - 1;
  beyond : HasNoneBeyond l.at l.steps (chapters_rows l.chapters);
}

abbrev pub decreases-loop-at : goal.decreases-loop-at
decreases-loop-at l = l.at
