use Rattle.std.proofs.Common.{◌≡◌, map}
use Rattle.std.specs.List.{range_with_len}
use Rattle.orc_hub.specs.Mends.{begun_on}
use Rattle.orc_hub.proofs.hub.Hub.menders.Given as goal

abbrev pub invariant-loop-device : goal.invariant-loop-device
invariant-loop-device g l = l.duties ≡ map (begun_on l.self) (range_with_len 0 l.device)
