use Rattle.std.proofs.Common.{drop}
use Rattle.orc_decls.specs.Devices.{is_same_text, name_of}
use Rattle.orc_datastore.proofs.Marking.{MarkedBy}
use Rattle.orc_datastore.proofs.marks.mark_written.Given as goal

-- those of the writes so far
abbrev pub invariant-loop-write : goal.invariant-loop-write
invariant-loop-write l =
    MarkedBy (λ write d. is_same_text write.device (name_of l.decls.names d)) l.writes (drop l.write-index l.writes) l.fn.marks.items l.marks.items
