use Rattle.std.proofs.Common.{drop}
use Rattle.orc_datastore.proofs.Spreading.{HasTaken}
use Rattle.orc_datastore.proofs.expansion.written_by.Given as goal

-- those so far are taken
abbrev pub invariant-loop-write : goal.invariant-loop-write
invariant-loop-write l = HasTaken l.decls.names l.writes (drop l.write-index l.writes) l.written.items
