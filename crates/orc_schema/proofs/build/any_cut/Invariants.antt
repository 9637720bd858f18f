use Rattle.std.proofs.Common.{◌≡◌, drop}
use Rattle.std.specs.List.{list_any}
use Rattle.orc_schema.specs.Schemas.{is_cut}
use Rattle.orc_schema.specs.inside.Indexes.{look}
use Rattle.orc_schema.proofs.build.any_cut.Given as goal

abbrev pub invariant-loop-draft : goal.invariant-loop-draft
invariant-loop-draft l = list_any (is_cut l.nodes.chain (look l.nodes)) (drop l.draft-index l.drafts)
    ≡ list_any (is_cut l.nodes.chain (look l.nodes)) l.drafts
