use Rattle.std.proofs.Common.{sym, ◌∙◌, ◌+◌, arith}
use Rattle.std.specs.Prelude.{drop, Err}
use Rattle.std.specs.Option.{option_or}
use Rattle.orc_statements.specs.Faults.{first_some}
use Rattle.orc_schema.specs.Links.{link_fault}
use Rattle.orc_schema.specs.inside.Indexes.{look}
use Rattle.orc_statements.proofs.Blocks.{first_some-step, Meets-or, Meets-is}
use Rattle.orc_schema.proofs.build.first_link_fault.Goals as goal

pub returns-in-Err : goal.returns-in-Err
returns-in-Err c =
    let fault = link_fault c.args.nodes.now.chain (look c.args.nodes.now) in
    let rest = first_some fault (drop (c.loop-draft.draft-index + 1) c.args.drafts.now) in
    Meets-is (option_or (fault c.draft-item.result) rest) (first_some fault c.args.drafts.now) (Err c.in-Err.fault)
    (c.loop-draft.invariant ∙ first_some-step fault c.args.drafts.now c.loop-draft.draft-index c.draft-item.result (omega (arith, c.loop-draft-test.true)) (sym c.draft-item.is))
    (Meets-or (fault c.draft-item.result) rest c.in-Err.fault c.in-Err.ensures)
