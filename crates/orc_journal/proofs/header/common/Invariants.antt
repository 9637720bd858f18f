use Rattle.std.proofs.Common.{◌≡◌, ◌+◌, ◌-◌, ◌≤◌, length, drop}
use Rattle.orc_journal.specs.Journals.{common}
use Rattle.orc_journal.proofs.header.common.Given as goal

abbrev pub invariant-loop-at : goal.invariant-loop-at
invariant-loop-at l = record {
  within : l.at ≤ length l.xs;
  within_other : l.at ≤ length l.ys;
  same : common l.xs l.ys ≡ l.at + common (drop l.at l.xs) (drop l.at l.ys);
}

abbrev pub decreases-loop-at : goal.decreases-loop-at
decreases-loop-at l = length l.initial.xs - l.at
