use Rattle.std.proofs.Common.{◌≡◌, take}
use Rattle.orc_schema.specs.inside.Indexes.{lent}
use Rattle.orc_schema.proofs.index.references.Given as goal

abbrev pub invariant-loop-draft : goal.invariant-loop-draft
invariant-loop-draft l = lent l.all.items ≡ take l.draft-index l.drafts
