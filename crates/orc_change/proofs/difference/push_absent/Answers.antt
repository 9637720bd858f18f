use Rattle.std.proofs.Common.{List, ◌++◌, refl, sym, ap, ◌∙◌, append-nil}
use Rattle.orc_tree.specs.declared.change.Change.{Change}
use Rattle.orc_change.proofs.Exact.{removals_held}
use Rattle.orc_change.proofs.difference.push_absent.Goals as goal

pub returns-then-has_page : goal.returns-then-has_page
returns-then-has_page c =
    sym (ap (λ (l : List Change). c.args.changes.now ++ l) (removals_held c.args.rows.now c.args.to.now (c.if-has_page.ensures refl)) ∙ append-nil c.args.changes.now)
