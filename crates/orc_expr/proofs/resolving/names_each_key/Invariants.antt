use Rattle.std.proofs.Common.{◌≡◌, drop}
use Rattle.orc_expr.specs.Resolved.{names_each_key}
use Rattle.orc_expr.proofs.resolving.names_each_key.Given as goal

-- the rest of both is left
abbrev pub invariant-loop-key : goal.invariant-loop-key
invariant-loop-key l = names_each_key (drop l.key-index l.keys) l.rest ≡ names_each_key l.keys l.named
