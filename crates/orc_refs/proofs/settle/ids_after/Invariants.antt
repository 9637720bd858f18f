use Rattle.std.proofs.Common.{◌≡◌, drop}
use Rattle.orc_refs.specs.inside.Marks.{entered, shown}
use Rattle.orc_refs.specs.inside.Settling.{staying}
use Rattle.orc_refs.proofs.settle.ids_after.Given as goal

-- to enter what is left gives the whole
abbrev pub invariant-loop-b : goal.invariant-loop-b
invariant-loop-b l = entered (shown (drop l.b-index l.brought)) l.after.items ≡ entered (shown l.brought) (staying l.moves l.ids)
