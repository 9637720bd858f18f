use Rattle.std.proofs.Common.{length, ◌≡◌, ◌-◌, ◌≤◌}
use Rattle.orc_disk.proofs.file.FileDisk.fill.Given as goal

abbrev pub invariant-loop-count : goal.invariant-loop-count
invariant-loop-count l = record { still : l.self ≡ l.fn.self; within : l.count ≤ length l.buf }

abbrev pub decreases-loop-count : goal.decreases-loop-count
decreases-loop-count l = length l.buf - l.count
