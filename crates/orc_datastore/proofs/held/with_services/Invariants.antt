use Rattle.std.proofs.Common.{◌≡◌, ◌++◌, map, take}
use Rattle.orc_expr.specs.declared.read.Read.TheVariants as read
use Rattle.orc_datastore.proofs.held.with_services.Given as goal

-- those so far
abbrev pub invariant-loop-id : goal.invariant-loop-id
invariant-loop-id l = l.all.reads ≡ l.fn.reads.reads ++ map read.Service (take l.id-index l.services)
