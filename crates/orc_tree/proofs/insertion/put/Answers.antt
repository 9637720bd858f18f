use Rattle.std.proofs.Common.{◌∙◌, refl, ap, sym, subst}
use Rattle.std.specs.FinMap.{is_sorted}
use Rattle.std.proofs.lemmas.Result.{on_ok_weaker, on_err_weaker}
use Rattle.orc_path.specs.Order.{path_cmp}
use Rattle.orc_tree.specs.Pages.{page_rows}
use Rattle.orc_tree.specs.inside.Puts.{AreGaps, put_with}
use Rattle.orc_tree.proofs.Maps.{Rows}
use Rattle.orc_tree.proofs.Paged.{IsPartFor-like}
use Rattle.orc_tree.proofs.insertion.put.Goals as goal

pub page_with_room-requires-clause-page : goal.page_with_room-requires-clause-page
page_with_room-requires-clause-page c = IsPartFor-like page_rows _ _ _ _ c.args.at (sym (c.as_slice.ensures ∙ c.path.view_is)) refl c.requires.page

pub put_at-requires : goal.put_at-requires
put_at-requires c = record {
  page = IsPartFor-like page_rows _ _ _ _ c.in_ok-at.at (c.as_slice.ensures ∙ c.path.view_is) refl c.in_ok-at.ensures.page;
  sorted = ap (is_sorted path_cmp) c.page_with_room.ensures.rows ∙ c.requires.sorted;
  sized = c.page_with_room.ensures.sized;
  gaps = subst (λ (r : Rows). AreGaps c.args.path r c.args.missing.items) (sym c.page_with_room.ensures.rows) c.requires.gaps;
}

pub returns-clause-ok : goal.returns-clause-ok
returns-clause-ok c =
    on_ok_weaker c.put_at.result (λ is. is ∙ ap (put_with c.args.missing.items c.args.path c.args.item) c.page_with_room.ensures.rows) c.put_at.ensures.ok

pub returns-clause-err : goal.returns-clause-err
returns-clause-err c = on_err_weaker c.put_at.result (λ is. is ∙ c.page_with_room.ensures.rows) c.put_at.ensures.err
