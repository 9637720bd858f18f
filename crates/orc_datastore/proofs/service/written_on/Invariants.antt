use Rattle.std.proofs.Common.{◌≡◌, drop}
use Rattle.orc_datastore.specs.Services.{written_on}
use Rattle.orc_datastore.proofs.service.written_on.Given as goal

-- none so far has the number
abbrev pub invariant-loop-one : goal.invariant-loop-one
invariant-loop-one l = written_on (drop l.one-index l.written) l.device ≡ written_on l.written l.device
