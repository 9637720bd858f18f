use Rattle.std.proofs.Common.{◌≡◌, drop}
use Rattle.orc_decls.specs.Openings.{put_all}
use Rattle.orc_datastore.proofs.data.put_all.Given as goal

-- to put the items that are left gives the whole
abbrev pub invariant-loop-put : goal.invariant-loop-put
invariant-loop-put l = put_all (drop l.put-index l.puts) l.«data» ≡ put_all l.puts l.fn.«data»
