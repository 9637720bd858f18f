use Rattle.std.proofs.Common.{◌≡◌, ◌++◌, length, length-append, take, arith}
use Rattle.std.proofs.lemmas.List.{length-take}
use Rattle.orc_io.proofs.Fronts.{Consumes-trans}
use Rattle.orc_io.proofs.reading.read_whole.Goals as goal

-- what was read before, and what the last call gave, which was asked for no more than was left up to the limit
pub returns-then-is_err-clause-begun : goal.returns-then-is_err-clause-begun
returns-then-is_err-clause-begun g c =
    let piece = take c.in-Ok.count c.read_some.new.buf in
    let room : length c.read_some.new.buf ≡ length (take c.min-wanted.result c.loop-buf.buf) = c.read_some.auto.buf in (
      c.loop-buf.whole.items ++ piece,
      omega (arith, length-append c.loop-buf.whole.items piece, length-take c.in-Ok.count c.read_some.new.buf, room, length-take c.min-wanted.result c.loop-buf.buf),
      Consumes-trans _ _ _ _ _ c.loop-buf.invariant.taken c.in-Ok.ensures.bytes.0,
    )
