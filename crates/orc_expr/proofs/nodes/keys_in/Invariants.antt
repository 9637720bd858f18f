use Rattle.std.proofs.Common.{◌≡◌, take}
use Rattle.std.specs.List.{flat_map}
use Rattle.orc_expr.specs.Looks.{key_at}
use Rattle.orc_expr.proofs.nodes.keys_in.Given as goal

abbrev pub invariant-loop-entry : goal.invariant-loop-entry
invariant-loop-entry l = l.keys ≡ flat_map (key_at l.place) (take l.entry-index l.entries)
