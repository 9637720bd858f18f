use Rattle.std.proofs.Common.{sym, ◌∙◌, subst, arith}
use Rattle.orc_statements.specs.inside.Seen.{HasToo}
use Rattle.orc_statements.proofs.Seens.{more_left}
use Rattle.orc_statements.proofs.walk.push_all.Goals as goal

pub loop-name-preserved : goal.loop-name-preserved
loop-name-preserved c = λ q. more_left c.loop-name.names c.add.new.self c.args.more.now c.loop-name.name-index c.name-item.result q (omega (arith, c.loop-name-test.true)) (sym c.name-item.is)
    (subst (λ n. HasToo c.loop-name.names n c.add.new.self) c.in_ok-copy.ensures c.in_ok-add.ensures) ∙ c.loop-name.invariant q
