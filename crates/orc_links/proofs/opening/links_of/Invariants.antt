use Rattle.std.proofs.Common.{◌≡◌}
use Rattle.std.specs.Vec.Iter.{into_iter_items}
use Rattle.orc_links.proofs.Linked.{AreLinked}
use Rattle.orc_links.proofs.opening.links_of.Given as goal

abbrev pub invariant-loop-accept : goal.invariant-loop-accept
invariant-loop-accept l = AreLinked l.decls.schemas l.decls.devices l.links l.rest (into_iter_items l.accept-iterator)
