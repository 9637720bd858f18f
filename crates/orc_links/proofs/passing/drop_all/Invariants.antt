use Rattle.std.proofs.Common.{◌≡◌, ◌++◌, map, take, drop}
use Rattle.orc_links.specs.Networks.{link_dropped}
use Rattle.orc_links.proofs.passing.drop_all.Given as goal

abbrev pub invariant-loop-link : goal.invariant-loop-link
invariant-loop-link l = l.links ≡ map link_dropped (take l.link-index l.fn.links) ++ drop l.link-index l.fn.links
