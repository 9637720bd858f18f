use Rattle.std.proofs.Common.{arith}
use Rattle.orc_call.proofs.Counts.{length_body}
use Rattle.orc_call.proofs.counting.body_count.Goals as goal

pub returns : goal.returns
returns c = omega (arith, length_body c.args.service.now c.args.body.now)
