use Rattle.std.proofs.Common.{◌≡◌, ◌++◌, map, take, drop}
use Rattle.orc_rules.specs.Events.{mender_freed}
use Rattle.orc_hub.proofs.reconciling.free_all.Given as goal

abbrev pub invariant-loop-duty : goal.invariant-loop-duty
invariant-loop-duty l = l.duties ≡ map mender_freed (take l.duty-index l.fn.duties) ++ drop l.duty-index l.fn.duties
