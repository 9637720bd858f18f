use Rattle.std.proofs.Common.{◌≡◌, ◌+◌, ◌++◌, refl, ap, ◌∙◌, arith}
use Rattle.std.proofs.lemmas.Result.{on_err_weaker}
use Rattle.orc_tree.specs.Pages.{page_rows, rows_of}
use Rattle.orc_tree.specs.inside.Puts.{rows_with}
use Rattle.orc_tree.proofs.Maps.{Rows}
use Rattle.orc_tree.proofs.Paged.{rows_of-two}
use Rattle.orc_tree.proofs.Edited.{either_way}
use Rattle.orc_tree.proofs.removal.join_next.Goals as goal

pub returns-clause-rows : goal.returns-clause-rows
returns-clause-rows c =
    let pages = c.args.pages.now.items in
    let at = c.args.at in
    let left = c.index-3.result.now in
    let right = c.index-4.result.now in
    let first : c.in_ok-rows.rows.items ≡ page_rows left = c.in_ok-rows.ensures ∙ c.as_slice.ensures ∙ ap (λ p. p.rows) c.deref-3.ensures in
    let second : c.as_slice-2.result.now ≡ page_rows right = c.as_slice-2.ensures ∙ ap (λ p. p.rows) c.deref-4.ensures in
    let both : c.push_copies.new.out.items ≡ page_rows left ++ page_rows right =
    c.in_ok-push_copies.ensures ∙ ap (λ (r : Rows). r ++ c.as_slice-2.result.now) first ∙ ap (λ (r : Rows). page_rows left ++ r) second in
    either_way c.replace.result (λ (r : Rows). r ≡ rows_of pages) (rows_of c.replace.new.pages.items) (rows_with pages at (at + 2) c.push_copies.new.out.items) (rows_of pages)
    c.replace.ensures.ok (on_err_weaker c.replace.result (λ e. ap rows_of e) c.replace.ensures.err)
    (ap (rows_with pages at (at + 2)) both
    ∙ rows_of-two page_rows pages at left right (omega (arith, c.if-at-len-2.false, c.len.ensures)) c.index-3.ensures c.index-4.ensures)
    refl
