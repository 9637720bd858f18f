use Rattle.std.proofs.Common.{ap, rules}
use Rattle.orc_disk.specs.Memory.{MemoryDisk}
use Rattle.orc_disk.proofs.Synced.{LeavesNoMore-sync}
use Rattle.orc_disk.proofs.memory.MemDiskDisk.sync.Goals as goal

pub returns-clause-unchanged : goal.returns-clause-unchanged
returns-clause-unchanged c =
    record {
      same = search rules;
      crash = LeavesNoMore-sync _ _ _ _ (ap (λ (d : MemoryDisk). d.history) c.self.view_is) c.sync.ensures;
      time = search rules;
    }
