use Rattle.std.proofs.Common.{◌≡◌, drop, max}
use Rattle.orc_json.specs.inside.Fronts.{longest}
use Rattle.orc_json.proofs.runs.longest.Given as goal

abbrev pub invariant-loop-row : goal.invariant-loop-row
invariant-loop-row l = max l.most (longest (drop l.row-index l.fn.rows)) ≡ longest l.fn.rows
