use Rattle.std.proofs.Common.{◌≡◌, drop}
use Rattle.std.specs.List.{list_any}
use Rattle.orc_revalidate.specs.inside.Led.{target_takes, may_lose}
use Rattle.orc_revalidate.proofs.led.may_lose.Given as goal

-- one is among the targets that are left, if there is one
abbrev pub invariant-loop-target : goal.invariant-loop-target
invariant-loop-target l = list_any (target_takes l.schema l.old l.new) (drop l.target-index l.targets) ≡ may_lose l.schema l.old l.new l.targets
