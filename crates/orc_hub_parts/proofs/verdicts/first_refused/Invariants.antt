use Rattle.std.proofs.Common.{◌≡◌, drop}
use Rattle.orc_rules.specs.Verdicts.{first_answer, refused_by}
use Rattle.orc_hub_parts.proofs.verdicts.first_refused.Given as goal

abbrev pub invariant-loop-device : goal.invariant-loop-device
invariant-loop-device l =
    first_answer refused_by l.duties l.t l.devices ≡ first_answer refused_by l.duties l.t (drop l.device-index l.devices)
