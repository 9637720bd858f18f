use Rattle.std.proofs.Common.{take}
use Rattle.orc_datastore.specs.inside.Placed.{HasNames, KeepsNoted}
use Rattle.orc_datastore.proofs.living.note_names.Given as goal

-- what was noted is, and something of the names so far
abbrev pub invariant-loop-service : goal.invariant-loop-service
invariant-loop-service l = KeepsNoted l.fn.places l.places × HasNames l.places (take l.service-index l.services)
