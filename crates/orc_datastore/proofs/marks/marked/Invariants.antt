use Rattle.std.proofs.Common.{◌≡◌}
use Rattle.std.specs.List.{filter, range_with_len}
use Rattle.orc_datastore.specs.inside.Marks.{is_marked}
use Rattle.orc_datastore.proofs.marks.marked.Given as goal

-- those so far
abbrev pub invariant-loop-device : goal.invariant-loop-device
invariant-loop-device l = l.devices ≡ filter (is_marked l.marks) (range_with_len 0 l.device)
