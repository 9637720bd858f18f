use Rattle.std.proofs.Common.{◌≡◌, map, take}
use Rattle.orc_decls.proofs.base.in_order.Given as goal

-- the items so far
abbrev pub invariant-loop-put : goal.invariant-loop-put
invariant-loop-put l = map (λ put. put.now) l.order.items ≡ take l.put-index l.puts
