use Rattle.std.proofs.Common.{◌≡◌, ◌++◌}
use Rattle.std.specs.Vec.Iter.{into_iter_items}
use Rattle.orc_script.specs.Bodies.{puts_of}
use Rattle.orc_script.proofs.bodies.puts_of.Given as goal

abbrev pub invariant-loop-path : goal.invariant-loop-path
invariant-loop-path l = l.puts ++ puts_of (into_iter_items l.path-iterator) ≡ puts_of l.fn.rows.items
