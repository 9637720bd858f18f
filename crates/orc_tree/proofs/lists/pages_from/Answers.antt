use Rattle.std.proofs.Common.{◌++◌, [], take, refl, ap, sym, ◌∙◌}
use Rattle.std.proofs.lemmas.List.{take_rest}
use Rattle.orc_tree.specs.Pages.{page_rows, rows_of}
use Rattle.orc_tree.proofs.Paged.{Pages, rows_of-cut}
use Rattle.orc_tree.proofs.lists.pages_from.Goals as goal

pub returns-then-is_empty : goal.returns-then-is_empty
returns-then-is_empty c = record { front = []; parts = refl; before = refl }

pub returns : goal.returns
returns c =
    let pages = c.args.pages.now in
    let at = c.page_for.result in
    record {
      front = rows_of (take at pages);
      parts = rows_of-cut page_rows pages at ∙ ap (λ (ps : Pages). rows_of (take at pages) ++ rows_of ps) (sym (take_rest pages at));
      before = c.page_for.ensures.before;
    }
