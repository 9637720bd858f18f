use Rattle.std.proofs.Common.{◌≡◌, take}
use Rattle.std.specs.List.{flat_map}
use Rattle.orc_expr.specs.Looks.{leaf_texts}
use Rattle.orc_expr.proofs.nodes.texts_in.Given as goal

abbrev pub invariant-loop-leaf : goal.invariant-loop-leaf
invariant-loop-leaf g l = l.texts ≡ flat_map (leaf_texts (g.V.DataView.viewed l.view).items l.default) (take l.leaf-index l.leaves)
