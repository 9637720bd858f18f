use Rattle.std.proofs.Common.{◌≡◌, ◌++◌, drop, IsTrue}
use Rattle.orc_services.specs.Fitting.{fits_writes}
use Rattle.orc_services.specs.Expanded.{writes_of}
use Rattle.orc_services.proofs.writes.writes_of.Given as goal

-- those so far, and those of the devices that are left
abbrev pub invariant-loop-tree : goal.invariant-loop-tree
invariant-loop-tree l =
    (l.writes ++ writes_of l.left (drop l.tree-index l.trees) ≡ writes_of l.names l.trees) × IsTrue (fits_writes l.writes)
