use Rattle.std.proofs.Common.{◌≡◌, ◌++◌, map, take, drop}
use Rattle.orc_rules.specs.Transactions.{retired}
use Rattle.orc_hub_parts.proofs.retiring.retire_all.Given as goal

abbrev pub invariant-loop-it : goal.invariant-loop-it
invariant-loop-it l = l.active ≡ map (retired l.duties) (take l.it-index l.fn.active) ++ drop l.it-index l.fn.active
