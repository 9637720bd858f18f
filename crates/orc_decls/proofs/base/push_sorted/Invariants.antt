use Rattle.std.proofs.Common.{◌++◌}
use Rattle.std.specs.Vec.Iter.{into_iter_items}
use Rattle.orc_decls.specs.inside.Orders.{KeepsOrder}
use Rattle.orc_decls.proofs.PutOrder.{referred}
use Rattle.orc_decls.proofs.base.push_sorted.Given as goal

-- what was pushed, and what is left
abbrev pub invariant-loop-put : goal.invariant-loop-put
invariant-loop-put l = KeepsOrder (l.fn.sorted.items ++ l.puts) (l.sorted.items ++ referred (into_iter_items l.put-iterator))
