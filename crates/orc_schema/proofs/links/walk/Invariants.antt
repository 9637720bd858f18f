use Rattle.std.proofs.Common.{◌≡◌, drop}
use Rattle.orc_schema.specs.Links.{walk}
use Rattle.orc_schema.proofs.links.walk.Given as goal

abbrev pub invariant-loop-step : goal.invariant-loop-step
invariant-loop-step l = walk l.owner l.at (drop l.step-index l.steps) ≡ walk l.owner l.fn.names l.steps
