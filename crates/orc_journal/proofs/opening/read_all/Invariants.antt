-- What was read so far is a prefix of what the disk holds, and nothing changed.
use Rattle.std.proofs.Common.{◌^◌, ◌-◌, IfSome, vec_len}
use Rattle.orc_disk.specs.Moments.{Unchanged}
use Rattle.orc_journal.specs.inside.Fronts.{IsFront}
use Rattle.orc_journal.specs.inside.Steps.{HeardFront}
use Rattle.orc_journal.proofs.opening.read_all.Given as goal

abbrev pub invariant-pieces : goal.invariant-pieces
invariant-pieces g l =
    let disk = g.D.Disk.disk in
    record {
      front : IfSome (disk.content l.fn.disk) (λ file. IsFront l.bytes.items file);
      reads : Unchanged disk l.fn.disk l.disk;
      heard : HeardFront disk l.fn.disk l.disk l.bytes.items;
    }

abbrev pub decreases-pieces : goal.decreases-pieces
decreases-pieces g l = 2 ^ 64 - vec_len l.bytes
