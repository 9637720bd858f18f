use Rattle.std.proofs.Common.{rules}
use Rattle.orc_types.specs.inside.Running.{by_name}
use Rattle.orc_types.proofs.Running.{firsts_further}
use Rattle.orc_types.proofs.inherited.firsts_of.Goals as goal

pub loop-known-preserved : goal.loop-known-preserved
loop-known-preserved c =
    firsts_further (by_name c.loop-known.firsts) (by_name c.add_known.new.firsts) c.args.enums.now c.loop-known.known-index c.known-item.result c.loop-known.invariant (search rules) (search rules) (λ q. c.in_ok-add_known.ensures q)
