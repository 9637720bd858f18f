use Rattle.std.proofs.Common.{◌≡◌, drop}
use Rattle.orc_schema.specs.inside.Indexes.{lent, names_of, climbs_behind}
use Rattle.orc_schema.proofs.index.ascends_behind.Given as goal

abbrev pub invariant-loop-draft : goal.invariant-loop-draft
invariant-loop-draft l = climbs_behind l.last.names (names_of (lent (drop l.draft-index l.rest))) ≡ climbs_behind l.first.names (names_of (lent l.rest))
