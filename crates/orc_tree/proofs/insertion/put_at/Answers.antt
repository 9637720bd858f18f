use Rattle.std.proofs.Common.{◌≡◌, ◌+◌, ◌≤◌, ◌++◌, suc, true, length, take, drop, get_or, ap, sym, subst, ◌∙◌, arith}
use Rattle.std.specs.FinMap.{put, is_sorted}
use Rattle.std.proofs.lemmas.List.{get_or_read}
use Rattle.std.proofs.lemmas.Result.{on_ok_weaker, on_err_weaker}
use Rattle.orc_path.specs.Order.{path_cmp}
use Rattle.orc_tree.specs.Pages.{page_rows, rows_of}
use Rattle.orc_tree.specs.inside.Puts.{put_entries}
use Rattle.orc_tree.proofs.Maps.{Rows}
use Rattle.orc_tree.proofs.Paged.{sorted_part, rows_of-at, rows_of-changed, AreSized-set}
use Rattle.orc_tree.proofs.Gaps.{put_all_in_part, some_after}
use Rattle.orc_tree.proofs.insertion.put_at.Goals as goal

pub put_within-requires : goal.put_within-requires
put_within-requires c = record {
  sorted = sorted_part page_rows c.args.pages.now.items c.args.at c.index_mut.result.now c.requires.sorted c.requires.page.within c.index_mut.ensures.value;
}

pub returns-then-len-lt-PAGE_ROWS-clause-ok : goal.returns-then-len-lt-PAGE_ROWS-clause-ok
returns-then-len-lt-PAGE_ROWS-clause-ok c =
    on_ok_weaker c.put_within.result
    (λ is. rows_of-changed page_rows c.args.pages.now.items c.args.at c.put_within.new.page _ c.requires.page.within is ∙ sym (put_all_in_part page_rows c.args.path c.args.item c.args.missing.items c.args.pages.now.items c.args.at c.index_mut.result.now c.requires.page c.index_mut.ensures.value c.requires.gaps))
    c.put_within.ensures.ok

pub returns-then-len-lt-PAGE_ROWS-clause-err : goal.returns-then-len-lt-PAGE_ROWS-clause-err
returns-then-len-lt-PAGE_ROWS-clause-err c =
    on_err_weaker c.put_within.result
    (λ is. rows_of-changed page_rows c.args.pages.now.items c.args.at c.put_within.new.page _ c.requires.page.within is ∙ sym (rows_of-at page_rows c.args.pages.now.items c.args.at c.index_mut.result.now c.requires.page.within c.index_mut.ensures.value))
    c.put_within.ensures.err

pub returns-then-len-lt-PAGE_ROWS-clause-sized : goal.returns-then-len-lt-PAGE_ROWS-clause-sized
returns-then-len-lt-PAGE_ROWS-clause-sized c =
    let pages = c.args.pages.now.items in
    let at = c.args.at in
    let page = c.index_mut.result.now in
    let within = c.requires.page.within in
    let old = c.requires.sized at page within in
    let is : page ≡ get_or pages at page = c.index_mut.ensures.value in
    let some : 1 ≤ length (page_rows page) = subst (λ p. 1 ≤ length (page_rows p)) (sym is) old.0 in
    let same : c.index.result.now ≡ page = get_or_read pages at c.index.result.now within c.index.ensures page ∙ sym is in
    let len : c.len.result ≡ length (page_rows page) = c.len.ensures ∙ ap (λ p. length p.rows) c.deref.ensures ∙ ap (λ p. length (page_rows p)) same in
    AreSized-set pages at c.put_within.new.page c.requires.sized
    (some_after c.put_within.result c.args.path c.args.item (put_entries c.args.missing.items (page_rows page)) (page_rows page) (page_rows c.put_within.new.page) c.put_within.ensures.ok c.put_within.ensures.err some)
    (omega (arith, c.put_within.ensures.len, len, c.len-2.ensures, c.if-len-lt-PAGE_ROWS.true))

pub put_apart-requires-clause-sorted : goal.put_apart-requires-clause-sorted
put_apart-requires-clause-sorted c =
    subst (λ (r : Rows). is_sorted path_cmp r ≡ true) (sym (c.in_ok-rows.ensures ∙ c.as_slice.ensures ∙ ap (λ p. p.rows) c.deref-2.ensures))
    (sorted_part page_rows c.args.pages.now.items c.args.at c.index-2.result.now c.requires.sorted c.requires.page.within c.index-2.ensures)

pub returns-clause-ok : goal.returns-clause-ok
returns-clause-ok c =
    let pages = c.args.pages.now.items in
    let at = c.args.at in
    let rows_are : c.in_ok-rows.rows.items ≡ page_rows c.index-2.result.now = c.in_ok-rows.ensures ∙ c.as_slice.ensures ∙ ap (λ p. p.rows) c.deref-2.ensures in
    let next : at + 1 ≡ suc at = omega arith in
    on_ok_weaker c.put_apart.result
    (λ laid. laid
    ∙ ap (λ n. rows_of (take at pages) ++ (put path_cmp c.args.path c.args.item (put_entries c.args.missing.items c.in_ok-rows.rows.items) ++ rows_of (drop n pages))) next
    ∙ ap (λ (r : Rows). rows_of (take at pages) ++ (put path_cmp c.args.path c.args.item (put_entries c.args.missing.items r) ++ rows_of (drop (suc at) pages))) rows_are
    ∙ sym (put_all_in_part page_rows c.args.path c.args.item c.args.missing.items pages at c.index-2.result.now c.requires.page c.index-2.ensures c.requires.gaps))
    c.put_apart.ensures.ok
