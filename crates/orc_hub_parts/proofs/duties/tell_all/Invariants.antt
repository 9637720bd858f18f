use Rattle.std.proofs.Common.{◌≡◌, ◌++◌, map, take, drop}
use Rattle.orc_rules.specs.Duties.{duty_told}
use Rattle.orc_hub_parts.proofs.duties.tell_all.Given as goal

abbrev pub invariant-loop-device : goal.invariant-loop-device
invariant-loop-device l = l.duties ≡ map (duty_told l.t l.commit) (take l.device l.fn.duties) ++ drop l.device l.fn.duties
