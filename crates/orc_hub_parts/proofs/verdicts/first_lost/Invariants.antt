use Rattle.std.proofs.Common.{◌≡◌, drop}
use Rattle.orc_rules.specs.Verdicts.{first_answer, lost_answer}
use Rattle.orc_hub_parts.proofs.verdicts.first_lost.Given as goal

abbrev pub invariant-loop-device : goal.invariant-loop-device
invariant-loop-device l =
    first_answer lost_answer l.duties l.t l.devices ≡ first_answer lost_answer l.duties l.t (drop l.device-index l.devices)
