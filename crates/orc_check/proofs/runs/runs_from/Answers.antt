use Rattle.std.proofs.Common.{◌≡◌, ap, sym, subst, ◌∙◌}
use Rattle.std.specs.FinMap.{entries, is_sorted, entries_sorted}
use Rattle.orc_path.specs.Order.{path_cmp}
use Rattle.orc_tree.specs.Pages.{chapters_rows}
use Rattle.orc_tree.specs.inside.Places.{IsRestFor}
use Rattle.orc_tree.proofs.InOrder.{T_is_true}
use Rattle.orc_tree.proofs.Maps.{Rows}
use Rattle.orc_tree.proofs.Chaptered.{chapters_rows-pages}
use Rattle.orc_check.specs.inside.Lent.{spot_path}
use Rattle.orc_check.specs.inside.Runs.{all_rows}
use Rattle.orc_check.proofs.Running.{are_laid, sorted_runs}
use Rattle.orc_check.proofs.runs.runs_from.Goals as goal

pub runs_among-requires-clause-sorted : goal.runs_among-requires-clause-sorted
runs_among-requires-clause-sorted c =
    ap (is_sorted path_cmp) (sym (chapters_rows-pages c.chapters.result.now) ∙ c.chapters.ensures.rows) ∙ T_is_true _ (entries_sorted c.args.tree.now)

pub runs_among-requires-clause-laid : goal.runs_among-requires-clause-laid
runs_among-requires-clause-laid c = are_laid c.chapters.result.now c.chapters.ensures.sized c.chapters.ensures.filled

pub returns-clause-rest : goal.returns-clause-rest
returns-clause-rest c =
    subst (λ (r : Rows). IsRestFor (spot_path c.args.spot.now) r (all_rows c.runs_among.result)) (sym (chapters_rows-pages c.chapters.result.now) ∙ c.chapters.ensures.rows)
    c.runs_among.ensures.rest

pub returns-clause-sorted : goal.returns-clause-sorted
returns-clause-sorted c =
    let rows_are : chapters_rows c.chapters.result.now ≡ entries c.args.tree.now = sym (chapters_rows-pages c.chapters.result.now) ∙ c.chapters.ensures.rows in
    sorted_runs (spot_path c.args.spot.now) (chapters_rows c.chapters.result.now) c.runs_among.result c.runs_among.ensures.rest
    (ap (is_sorted path_cmp) rows_are ∙ T_is_true _ (entries_sorted c.args.tree.now))
