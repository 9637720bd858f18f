use Rattle.std.proofs.Common.{◌≡◌, drop}
use Rattle.orc_expr.specs.inside.Resolving.{trail_of, trail_on, trail_start}
use Rattle.orc_expr.proofs.resolving.resolve_parts.Given as goal

-- the trail, along the parts that are left, is that of all parts
abbrev pub invariant-loop-part : goal.invariant-loop-part
invariant-loop-part g l =
    trail_on (g.V.DataView.viewed l.view).shapes l.here (trail_of l.resolving) (drop l.part-index l.parts)
    ≡ trail_on (g.V.DataView.viewed l.view).shapes l.here trail_start l.parts
