use Rattle.std.proofs.Common.{◌≡◌, take}
use Rattle.orc_refs.specs.inside.Marks.{all_marks, read}
use Rattle.orc_refs.proofs.mark.all_marks.Given as goal

-- those of the moves so far
abbrev pub invariant-loop-m : goal.invariant-loop-m
invariant-loop-m l = read l.marks.items ≡ all_marks l.changes (take l.m-index l.moves)
