use Rattle.std.proofs.Common.{ap, ◌∙◌}
use Rattle.orc_tree.specs.Changes.{drop_each, put_each}
use Rattle.orc_tree.proofs.change.applied_to.Goals as goal

pub returns-clause-applied : goal.returns-clause-applied
returns-clause-applied c =
    let changes = c.args.changes.now in
    c.in_ok-put_each.ensures ∙ ap (put_each changes) (c.in_ok-drop_each.ensures ∙ ap (drop_each changes) c.in_ok-new.ensures.equal)
