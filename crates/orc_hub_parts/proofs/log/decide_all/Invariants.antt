use Rattle.std.proofs.Common.{◌≡◌, ◌++◌, map, take, drop}
use Rattle.orc_hub_parts.specs.Logs.{decided_by}
use Rattle.orc_hub_parts.proofs.log.decide_all.Given as goal

abbrev pub invariant-loop-one : goal.invariant-loop-one
invariant-loop-one l = l.unsettled ≡ map (decided_by l.t) (take l.one-index l.fn.unsettled) ++ drop l.one-index l.fn.unsettled
