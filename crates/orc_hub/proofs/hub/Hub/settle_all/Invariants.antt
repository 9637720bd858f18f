use Rattle.std.proofs.Common.{length}
use Rattle.std.specs.declared.result.Result.{Result}
use Rattle.orc_call.specs.declared.answer.RecFault.{RecFault}
use Rattle.orc_journal.specs.Opened.{IsReady}
use Rattle.orc_hub.specs.Mends.{SettlesAll}
use Rattle.orc_hub.specs.declared.hub.Hub.{Hub}
use Rattle.orc_hub.proofs.hub.Hub.settle_all.Given as goal

abbrev pub invariant-loop-alloc : goal.invariant-loop-alloc
invariant-loop-alloc g l = IsReady g.D.Disk.disk l.self.log.journal
    × ((result : Result (Unit {0}) RecFault) (new : Hub g.row.D.Denot) → SettlesAll g.D.Disk.disk l.self result new → SettlesAll g.D.Disk.disk l.fn.self result new)

abbrev pub decreases-loop-alloc : goal.decreases-loop-alloc
decreases-loop-alloc g l = length l.self.log.unsettled
