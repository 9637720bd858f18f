use Rattle.std.proofs.Common.{◌≡◌, ◌++◌, take}
use Rattle.orc_refs.specs.inside.Marks.{read, brought_marks}
use Rattle.orc_refs.proofs.mark.mark_brought.Given as goal

-- those so far
abbrev pub invariant-loop-put : goal.invariant-loop-put
invariant-loop-put l = read l.marks.items ≡ read l.fn.marks.items ++ brought_marks l.service (take l.put-index l.puts)
