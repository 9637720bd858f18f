use Rattle.std.proofs.Common.{◌≡◌, take}
use Rattle.std.specs.Prelude.{map}
use Rattle.orc_schema.specs.Schemas.{schema_line}
use Rattle.orc_schema.specs.inside.Indexes.{look, lent}
use Rattle.orc_schema.proofs.build.lines_of.Given as goal

abbrev pub invariant-loop-draft : goal.invariant-loop-draft
invariant-loop-draft l = l.lines ≡ map (schema_line l.nodes.chain (look l.nodes)) (lent (take l.draft-index l.nodes.index.now))
