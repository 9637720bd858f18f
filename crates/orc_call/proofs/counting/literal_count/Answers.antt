use Rattle.std.proofs.Common.{arith}
use Rattle.orc_call.proofs.Counts.{length_literal}
use Rattle.orc_call.proofs.counting.literal_count.Goals as goal

pub returns : goal.returns
returns c = omega (arith, length_literal c.args.name.now c.args.writes.now)
