use Rattle.std.proofs.Common.{length}
use Rattle.orc_journal.proofs.JournalsRead.{IsRead}
use Rattle.orc_journal.proofs.reading.read_journal.Given as goal

abbrev pub invariant-loop-behind : goal.invariant-loop-behind
invariant-loop-behind l = IsRead l.bytes l.decls l.entries.items l.rest l.stages

abbrev pub decreases-loop-behind : goal.decreases-loop-behind
decreases-loop-behind l = length l.rest
