use Rattle.std.proofs.Common.{◌≡◌, take}
use Rattle.orc_refs.specs.inside.Settling.{staying}
use Rattle.orc_refs.proofs.settle.staying.Given as goal

abbrev pub invariant-loop-id : goal.invariant-loop-id
invariant-loop-id l = l.stay.items ≡ staying l.moves (take l.id-index l.ids)
