use Rattle.std.proofs.Common.{take}
use Rattle.orc_hub_parts.specs.Pasts.{IsPast}
use Rattle.orc_hub_parts.proofs.past.Past.read.Given as goal

abbrev pub invariant-loop-place : goal.invariant-loop-place
invariant-loop-place l = IsPast l.decls l.past (take l.place l.entries)
