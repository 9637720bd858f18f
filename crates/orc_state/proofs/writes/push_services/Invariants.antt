use Rattle.std.proofs.Common.{◌≡◌, ◌++◌, map, take}
use Rattle.orc_path.specs.declared.item.Write.TheVariants as write
use Rattle.orc_state.proofs.writes.push_services.Given as goal

-- those of the services so far
abbrev pub invariant-loop-service : goal.invariant-loop-service
invariant-loop-service l = l.row ≡ l.fn.row ++ map write.Service (take l.service-index l.services)
