use Rattle.std.proofs.Common.{◌≡◌, ◌+◌, drop}
use Rattle.orc_json.specs.inside.Fronts.{passing, same_step}
use Rattle.orc_json.proofs.runs.step_front.Given as goal

abbrev pub invariant-loop-row : goal.invariant-loop-row
invariant-loop-row l = record {
  index : l.count ≡ l.row-index;
  goes_on : l.count + passing (same_step l.fn.depth l.first) (drop l.row-index l.behind) ≡ passing (same_step l.fn.depth l.first) l.behind;
}
