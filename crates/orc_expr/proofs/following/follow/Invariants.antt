use Rattle.std.proofs.Common.{◌≡◌, drop}
use Rattle.orc_expr.specs.inside.Following.{way_of, way_on, way_start}
use Rattle.orc_expr.proofs.following.follow.Given as goal

-- the way, along the parts that are left, is that of all parts
abbrev pub invariant-loop-part : goal.invariant-loop-part
invariant-loop-part g l =
    way_on (g.V.DataView.viewed l.view) l.here (way_of l.following) (drop l.part-index l.parts)
    ≡ way_on (g.V.DataView.viewed l.view) l.here way_start l.parts
