use Rattle.std.proofs.Common.{◌≡◌, drop}
use Rattle.std.specs.Option.{option_copied}
use Rattle.orc_refs.specs.inside.Rivals.{least_brought}
use Rattle.orc_refs.proofs.rival.least_brought.Given as goal

-- to go on from the least so far gives the least of all
abbrev pub invariant-loop-m : goal.invariant-loop-m
invariant-loop-m l = least_brought (drop l.m-index l.moves) l.path l.item (option_copied l.least) ≡ least_brought l.moves l.path l.item (option_copied l.first)
