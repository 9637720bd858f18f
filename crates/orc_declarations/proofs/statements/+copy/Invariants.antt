use Rattle.std.proofs.Common.{◌≡◌, take}
use Rattle.orc_declarations.proofs.statements.+copy.Given as goal

abbrev pub invariant-loop-sub : goal.invariant-loop-sub
invariant-loop-sub l = l.subs.items ≡ take l.sub-index l.sub-items
