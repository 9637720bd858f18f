use Rattle.std.proofs.Common.{take}
use Rattle.orc_types.specs.inside.Running.{by_name, HasFirsts}
use Rattle.orc_types.proofs.inherited.firsts_of.Given as goal

abbrev pub invariant-loop-known : goal.invariant-loop-known
invariant-loop-known l = HasFirsts (by_name l.firsts) (take l.known-index l.enums)
