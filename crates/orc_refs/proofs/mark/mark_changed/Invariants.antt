use Rattle.std.proofs.Common.{◌≡◌, ◌++◌, take}
use Rattle.orc_refs.specs.inside.Marks.{read, change_marks}
use Rattle.orc_refs.proofs.mark.mark_changed.Given as goal

-- those so far
abbrev pub invariant-loop-change : goal.invariant-loop-change
invariant-loop-change l = read l.marks.items ≡ read l.fn.marks.items ++ change_marks (take l.change-index l.changes)
