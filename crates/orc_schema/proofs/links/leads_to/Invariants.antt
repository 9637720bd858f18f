use Rattle.std.proofs.Common.{◌≡◌}
use Rattle.orc_schema.specs.Links.{leads_to}
use Rattle.orc_schema.specs.inside.Indexes.{look}
use Rattle.orc_schema.proofs.links.leads_to.Given as goal

abbrev pub invariant-loop-left : goal.invariant-loop-left
invariant-loop-left l = leads_to l.left (look l.nodes) l.names l.at ≡ leads_to l.most (look l.nodes) l.names l.draft

abbrev pub decreases-loop-left : goal.decreases-loop-left
decreases-loop-left l = l.left
