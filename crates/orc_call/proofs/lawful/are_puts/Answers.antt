use Rattle.std.specs.Option.{option_copied}
use Rattle.orc_call.proofs.Elements.{refuses, put_of_puts, puts_to_put}
use Rattle.orc_call.proofs.lawful.are_puts.Goals as goal

pub returns-then-not-is_put : goal.returns-then-not-is_put
returns-then-not-is_put c =
    refuses c.is_put.result c.if-not-is_put.true c.is_put.ensures
    (λ all. put_of_puts c.args.puts.now c.loop-i.i c.index-puts-i.result (option_copied c.last_path.result) c.index-puts-i.is c.last_path.ensures c.loop-i-test.true all)

pub loop-i-preserved : goal.loop-i-preserved
loop-i-preserved c =
    puts_to_put c.args.puts.now c.loop-i.i c.index-puts-i.result (option_copied c.last_path.result) c.index-puts-i.is c.last_path.ensures c.loop-i-test.true c.loop-i.invariant
    (c.is_put.ensures.0 c.if-not-is_put.false)
