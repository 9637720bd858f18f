use Rattle.std.proofs.Common.{ap, sym, subst, ◌∙◌, ◌≡◌, true}
use Rattle.std.specs.FinMap.{find, is_sorted}
use Rattle.orc_path.specs.Order.{path_cmp}
use Rattle.orc_tree.specs.Pages.{page_rows}
use Rattle.orc_tree.proofs.Maps.{Rows}
use Rattle.orc_tree.proofs.Paged.{sorted_part, find_in_part}
use Rattle.orc_tree.proofs.finger.item_on.Goals as goal

pub item_in-requires : goal.item_in-requires
item_in-requires c =
    subst (λ (r : Rows). is_sorted path_cmp r ≡ true) (sym (c.as_slice.ensures ∙ ap (λ p. p.rows) c.deref.ensures))
    (sorted_part page_rows c.args.pages.now c.args.page c.index-pages-page.result c.requires.sorted c.requires.page.within c.index-pages-page.is)

pub returns : goal.returns
returns c =
    c.item_in.ensures ∙ ap (find path_cmp c.args.steps.now) (c.as_slice.ensures ∙ ap (λ p. p.rows) c.deref.ensures)
    ∙ sym (find_in_part page_rows c.args.steps.now c.args.pages.now c.args.page c.index-pages-page.result c.requires.page c.index-pages-page.is)
