use Rattle.std.proofs.Common.{length, ap, arith}
use Rattle.std.proofs.lemmas.List.{take_rest, length-drop}
use Rattle.orc_io.proofs.Fronts.{Appends-more}
use Rattle.orc_io.proofs.writing.write_whole.Goals as goal

pub loop-at-preserved : goal.loop-at-preserved
loop-at-preserved g c =
    record {
      later = omega (arith, c.loop-at.invariant.later, c.write_some.ensures.cause.later);
      within = omega (arith, c.in_ok-at.ensures.bound, ap length (take_rest c.args.bytes.now c.loop-at.at), length-drop c.loop-at.at c.args.bytes.now);
      taken = Appends-more _ _ _ c.args.bytes.now c.loop-at.at c.in_ok-at.field-0 c.loop-at.invariant.taken c.in_ok-at.ensures.bytes;
    }
