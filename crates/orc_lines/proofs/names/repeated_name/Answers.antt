use Rattle.std.proofs.Common.{sym, ◌∙◌}
use Rattle.orc_lines.proofs.RepeatedNames.{twice_here}
use Rattle.orc_lines.proofs.names.repeated_name.Goals as goal

pub returns-then-has : goal.returns-then-has
returns-then-has c =
    twice_here c.loop-name.before c.args.names.now c.loop-name.name-index c.name-item.result _ c.loop-name-test.true c.name-item.is
    (sym c.has.ensures ∙ c.if-has.true) c.loop-name.invariant
