use Rattle.std.proofs.Common.{◌≡◌, drop}
use Rattle.orc_statements.specs.Faults.{first_some}
use Rattle.orc_schema.specs.Links.{link_fault}
use Rattle.orc_schema.specs.inside.Indexes.{look}
use Rattle.orc_schema.proofs.build.first_link_fault.Given as goal

abbrev pub invariant-loop-draft : goal.invariant-loop-draft
invariant-loop-draft l = first_some (link_fault l.nodes.chain (look l.nodes)) l.drafts ≡ first_some (link_fault l.nodes.chain (look l.nodes)) (drop l.draft-index l.drafts)
