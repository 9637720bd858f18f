use Rattle.std.proofs.Common.{◌≡◌, take}
use Rattle.std.specs.List.{flat_map}
use Rattle.orc_path.specs.Views.{entries_of}
use Rattle.orc_expr.proofs.nodes.entries_in.Given as goal

abbrev pub invariant-loop-list : goal.invariant-loop-list
invariant-loop-list g l = l.entries.items ≡ flat_map (entries_of (g.V.DataView.viewed l.view).items) (take l.list-index l.lists)
