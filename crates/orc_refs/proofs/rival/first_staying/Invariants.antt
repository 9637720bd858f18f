use Rattle.std.proofs.Common.{◌≡◌, drop}
use Rattle.orc_refs.specs.inside.Rivals.{first_id}
use Rattle.orc_refs.specs.inside.Settling.{staying}
use Rattle.orc_refs.proofs.rival.first_staying.Given as goal

-- none stays so far
abbrev pub invariant-loop-id : goal.invariant-loop-id
invariant-loop-id l = first_id (staying l.moves (drop l.id-index l.ids)) ≡ first_id (staying l.moves l.ids)
