use Rattle.std.proofs.Common.{◌≡◌, ◌+◌, ◌≤◌, ◌++◌, suc, true, [], length, take, drop, ap, sym, subst, ◌∙◌, arith}
use Rattle.std.proofs.lemmas.List.{get_or_read, nil_from_length}
use Rattle.std.proofs.lemmas.Result.{on_ok_weaker, on_err_weaker}
use Rattle.orc_tree.specs.Pages.{page_rows, rows_of, IsSized}
use Rattle.orc_tree.specs.inside.Removal.{kept_of, all_kept}
use Rattle.orc_tree.proofs.Maps.{Rows}
use Rattle.orc_tree.proofs.Paged.{rows_of-at, rows_of-append, rows_of-changed, AreSized-set}
use Rattle.orc_tree.proofs.Removing.{kept_in_part, kept_whole, kept_some, kept_at_most}
use Rattle.orc_tree.proofs.Edited.{either_way}
use Rattle.orc_tree.proofs.removal.remove_at.Goals as goal

pub returns-then-kept-rows-clause-ok : goal.returns-then-kept-rows-clause-ok
returns-then-kept-rows-clause-ok c =
    let pages = c.args.pages.now.items in
    let at = c.args.at in
    let page = c.index.result.now in
    let p = c.args.path.now in
    let next : at + 1 ≡ suc at = omega arith in
    let rows_are : c.as_slice-rows.result.now ≡ page_rows page = c.as_slice-rows.ensures ∙ ap (λ x. x.rows) c.deref.ensures in
    let whole : kept_of p (page_rows page) ≡ page_rows page =
    kept_whole p (page_rows page) (ap (λ (r : Rows). length (kept_of p r)) (sym rows_are) ∙ sym c.count_kept-kept.ensures ∙ c.if-kept-rows.true ∙ ap length rows_are) in
    sym (kept_in_part page_rows p pages at page c.requires.page c.index.ensures (subst (λ n. all_kept p (rows_of (drop n pages)) ≡ true) next c.requires.kept)
    ∙ ap (λ (r : Rows). rows_of (take at pages) ++ (r ++ rows_of (drop (suc at) pages))) whole
    ∙ sym (rows_of-at page_rows pages at page c.requires.page.within c.index.ensures))

pub returns-then-kept-eq0-clause-ok : goal.returns-then-kept-eq0-clause-ok
returns-then-kept-eq0-clause-ok c =
    let pages = c.args.pages.now.items in
    let at = c.args.at in
    let page = c.index.result.now in
    let p = c.args.path.now in
    let next : at + 1 ≡ suc at = omega arith in
    let rows_are : c.as_slice-rows.result.now ≡ page_rows page = c.as_slice-rows.ensures ∙ ap (λ x. x.rows) c.deref.ensures in
    let none : kept_of p (page_rows page) ≡ [] =
    nil_from_length (kept_of p (page_rows page)) (ap (λ (r : Rows). length (kept_of p r)) (sym rows_are) ∙ sym c.count_kept-kept.ensures ∙ c.if-kept-eq0.true) in
    ap rows_of c.remove.ensures.by_index.2 ∙ rows_of-append page_rows (take at pages) (drop (at + 1) pages)
    ∙ ap (λ n. rows_of (take at pages) ++ rows_of (drop n pages)) next
    ∙ sym (kept_in_part page_rows p pages at page c.requires.page c.index.ensures (subst (λ n. all_kept p (rows_of (drop n pages)) ≡ true) next c.requires.kept)
    ∙ ap (λ (r : Rows). rows_of (take at pages) ++ (r ++ rows_of (drop (suc at) pages))) none)

pub returns-clause-ok : goal.returns-clause-ok
returns-clause-ok c =
    let pages = c.args.pages.now.items in
    let next : c.args.at + 1 ≡ suc c.args.at = omega arith in
    on_ok_weaker c.drop_within.result
    (λ is. rows_of-changed page_rows pages c.args.at c.drop_within.new.page _ c.requires.page.within is
    ∙ sym (kept_in_part page_rows c.args.path.now pages c.args.at c.index_mut.result.now c.requires.page c.index_mut.ensures.value
    (subst (λ n. all_kept c.args.path.now (rows_of (drop n pages)) ≡ true) next c.requires.kept)))
    c.drop_within.ensures.ok

pub returns-clause-err : goal.returns-clause-err
returns-clause-err c =
    on_err_weaker c.drop_within.result
    (λ is. rows_of-changed page_rows c.args.pages.now.items c.args.at c.drop_within.new.page _ c.requires.page.within is
    ∙ sym (rows_of-at page_rows c.args.pages.now.items c.args.at c.index_mut.result.now c.requires.page.within c.index_mut.ensures.value))
    c.drop_within.ensures.err

pub returns-clause-sized : goal.returns-clause-sized
returns-clause-sized c =
    let pages = c.args.pages.now.items in
    let at = c.args.at in
    let p = c.args.path.now in
    let page = c.index_mut.result.now in
    let within = c.requires.page.within in
    let old : IsSized page = subst IsSized (sym c.index_mut.ensures.value) (c.requires.sized at page within) in
    let same : c.index.result.now ≡ page = get_or_read pages at c.index.result.now within c.index.ensures page ∙ sym c.index_mut.ensures.value in
    let rows_are : c.as_slice-rows.result.now ≡ page_rows page = c.as_slice-rows.ensures ∙ ap (λ x. x.rows) c.deref.ensures ∙ ap page_rows same in
    let some : 1 ≤ length (kept_of p (page_rows page)) =
    kept_some p (page_rows page) c.count_kept-kept.result (c.count_kept-kept.ensures ∙ ap (λ (r : Rows). length (kept_of p r)) rows_are) c.if-kept-eq0.false in
    let sizes : (1 ≤ length (page_rows c.drop_within.new.page)) × (length (page_rows c.drop_within.new.page) ≤ 8) =
    either_way c.drop_within.result (λ (r : Rows). (1 ≤ length r) × (length r ≤ 8)) (page_rows c.drop_within.new.page) (kept_of p (page_rows page)) (page_rows page)
    c.drop_within.ensures.ok c.drop_within.ensures.err (some, kept_at_most p (page_rows page) old.1) old in
    AreSized-set pages at c.drop_within.new.page c.requires.sized sizes.0 sizes.1
