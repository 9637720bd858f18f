use Rattle.std.proofs.Common.{◌≡◌, drop}
use Rattle.orc_expr.specs.Looks.{asks_each_key}
use Rattle.orc_expr.proofs.choosing.asks_each_key.Given as goal

-- the rest of both is left
abbrev pub invariant-loop-key : goal.invariant-loop-key
invariant-loop-key l = asks_each_key (drop l.key-index l.keys) l.rest ≡ asks_each_key l.keys l.asked
