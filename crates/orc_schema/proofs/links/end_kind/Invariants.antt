use Rattle.std.proofs.Common.{◌≡◌}
use Rattle.orc_schema.specs.Links.{end_kind}
use Rattle.orc_schema.specs.inside.Indexes.{look}
use Rattle.orc_schema.proofs.links.end_kind.Given as goal

abbrev pub invariant-loop-left : goal.invariant-loop-left
invariant-loop-left l = end_kind l.left (look l.nodes) l.at ≡ end_kind l.most (look l.nodes) l.draft

abbrev pub decreases-loop-left : goal.decreases-loop-left
decreases-loop-left l = l.left
