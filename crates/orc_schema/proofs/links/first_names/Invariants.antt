use Rattle.std.proofs.Common.{◌≡◌, take}
use Rattle.orc_schema.proofs.links.first_names.Given as goal

abbrev pub invariant-loop-name : goal.invariant-loop-name
invariant-loop-name l = l.front ≡ take l.name-index l.kept
