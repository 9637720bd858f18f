use Rattle.std.proofs.Common.{List, ap, ◌∙◌}
use Rattle.std.specs.List.{fold}
use Rattle.orc_check.specs.Validity.{Breach, lesser_breach}
use Rattle.orc_revalidate.proofs.Standing.{below_there, below_none}
use Rattle.orc_revalidate.proofs.fronts.keep_standing.Goals as goal

pub returns-in-Some : goal.returns-in-Some
returns-in-Some c =
    c.keep_below.ensures
    ∙ ap (λ (bs : List Breach). fold lesser_breach c.args.best bs)
    (below_there c.args.schema.now c.args.tree.now c.args.line.now c.args.steps.now c.in-Some.row.now c.in-Some.ensures)

pub returns-in-None : goal.returns-in-None
returns-in-None c =
    ap (λ (bs : List Breach). fold lesser_breach c.args.best bs)
    (below_none c.args.schema.now c.args.tree.now c.args.line.now c.args.steps.now c.in-None.ensures)
