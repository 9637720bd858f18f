use Rattle.std.proofs.Common.{◌≡◌, take}
use Rattle.std.specs.List.{flat_map}
use Rattle.orc_expr.specs.Looks.{keys_at_end}
use Rattle.orc_expr.proofs.nodes.values_in.Given as goal

abbrev pub invariant-loop-entry : goal.invariant-loop-entry
invariant-loop-entry l = l.values ≡ flat_map keys_at_end (take l.entry-index l.entries)
