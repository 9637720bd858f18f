use Rattle.std.proofs.Common.{◌≡◌, ◌++◌, take}
use Rattle.orc_refs.specs.inside.Marks.{read, taken_marks}
use Rattle.orc_refs.proofs.mark.mark_taken.Given as goal

-- those so far
abbrev pub invariant-loop-put : goal.invariant-loop-put
invariant-loop-put l = read l.marks.items ≡ read l.fn.marks.items ++ taken_marks (take l.put-index l.puts)
