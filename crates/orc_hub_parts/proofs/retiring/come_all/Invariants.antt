use Rattle.std.proofs.Common.{◌≡◌, ◌++◌, map, take, drop}
use Rattle.orc_rules.specs.Transactions.{in_phase}
use Rattle.orc_hub_parts.proofs.retiring.come_all.Given as goal

abbrev pub invariant-loop-it : goal.invariant-loop-it
invariant-loop-it l = l.active ≡ map (in_phase l.t l.phase) (take l.it-index l.fn.active) ++ drop l.it-index l.fn.active
