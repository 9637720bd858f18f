use Rattle.std.proofs.Common.{◌≡◌, drop}
use Rattle.orc_refs.specs.inside.Settling.{first_brought}
use Rattle.orc_refs.proofs.settle.first_brought.Given as goal

-- no move brings one so far
abbrev pub invariant-loop-m : goal.invariant-loop-m
invariant-loop-m l = first_brought (drop l.m-index l.moves) l.path ≡ first_brought l.moves l.path
