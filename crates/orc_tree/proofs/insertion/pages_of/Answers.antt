use Rattle.std.proofs.Common.{◌≡◌, ◌<◌, ◌++◌, ◌∷◌, [], length, take, drop, ap, sym, subst, ◌∙◌, arith}
use Rattle.std.proofs.lemmas.List.{take-append-drop, length-take-le}
use Rattle.orc_tree.specs.Pages.{page_rows, rows_of, AreSized}
use Rattle.orc_tree.proofs.Maps.{Rows}
use Rattle.orc_tree.proofs.Paged.{Pages, laid_out, AreSized-push}
use Rattle.orc_tree.proofs.insertion.pages_of.Goals as goal

pub loop-rest-preserved : goal.loop-rest-preserved
loop-rest-preserved c =
    let pages = c.loop-rest.pages.items in
    let rest = c.loop-rest.rest.items in
    let page = c.in_ok-new.field-0 in
    let long : 8 < length rest = omega (arith, c.loop-rest-test.true, c.len.ensures) in
    let rows_are : page_rows page ≡ take 6 rest = ap (λ p. p.rows) c.in_ok-new.ensures.ok ∙ c.from_vec-rows.ensures ∙ c.in_ok-behind.ensures.items in
    let behind : c.in_ok-behind.behind.items ≡ drop 6 rest = c.in_ok-behind.ensures.tail in
    let size : length (page_rows page) ≡ 6 = ap length rows_are ∙ length-take-le 6 rest (omega arith) in
    let whole : rows_of pages ++ (take 6 rest ++ drop 6 rest) ≡ c.args.rows.items = ap (λ (r : Rows). rows_of pages ++ r) (take-append-drop 6 rest) ∙ c.loop-rest.invariant.rows in
    record {
      rows = ap (λ (ps : Pages). rows_of ps ++ c.in_ok-behind.behind.items) c.in_ok-push.ensures.items
          ∙ ap (λ (r : Rows). rows_of (pages ++ page ∷ []) ++ r) behind
          ∙ laid_out page_rows pages page (take 6 rest) (drop 6 rest) c.args.rows.items whole rows_are;
      sized = subst AreSized (sym c.in_ok-push.ensures.items) (AreSized-push pages page c.loop-rest.invariant.sized (omega arith) (omega arith));
    }
