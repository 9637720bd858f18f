use Rattle.std.proofs.Common.{◌≤◌, ◌+◌, ◌-◌, vec_len}
use Rattle.std.specs.Io.KnownBytes.{Consumes}
use Rattle.orc_io.proofs.reading.read_whole.Given as goal

-- what was read so far is what the source gave
abbrev pub invariant-loop-buf : goal.invariant-loop-buf
invariant-loop-buf g l =
    let source = g.S.Source.source in
    record {
      taken : Consumes (source.left l.fn.source) (source.left l.source) l.whole.items;
      later : source.faults l.fn.source ≤ source.faults l.source;
      most : vec_len l.whole ≤ l.limit + 1;
    }

-- each turn takes a byte at least
abbrev pub decreases-loop-buf : goal.decreases-loop-buf
decreases-loop-buf g l = (l.limit + 1) - vec_len l.whole
