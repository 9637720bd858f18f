use Rattle.std.proofs.Common.{◌≡◌, ◌+◌, ◌<◌, suc, length, set, insert, get_or, ap, sym, subst, ◌∙◌, arith}
use Rattle.orc_tree.specs.Pages.{page_rows, rows_of, AreSized}
use Rattle.orc_tree.proofs.Paged.{Pages, rows_of-at, rows_of-changed, rows_of-split, AreSized-set, AreSized-insert, half_left}
use Rattle.orc_tree.proofs.insertion.split.Goals as goal

pub returns-in_err-part-clause-rows : goal.returns-in_err-part-clause-rows
returns-in_err-part-clause-rows c =
    let pages = c.reserve.new.self.items in
    let within : c.args.at < length pages = subst (λ (ps : Pages). c.args.at < length ps) (sym c.reserve.ensures.items) c.requires.within in
    rows_of-changed page_rows pages c.args.at c.part.new.page _ within c.in_err-part.ensures.err
    ∙ sym (rows_of-at page_rows pages c.args.at c.index_mut.result.now within c.index_mut.ensures.value) ∙ ap rows_of c.reserve.ensures.items

pub returns-clause-rows : goal.returns-clause-rows
returns-clause-rows c =
    let pages = c.reserve.new.self.items in
    let at = c.args.at in
    let page = c.index_mut.result.now in
    let next : at + 1 ≡ suc at = omega arith in
    let within : at < length pages = subst (λ (ps : Pages). at < length ps) (sym c.reserve.ensures.items) c.requires.within in
    ap rows_of c.in-Ok.ensures.items
    ∙ ap (λ n. rows_of (insert (set pages at c.part.new.page) n c.part.new.behind)) next
    ∙ rows_of-split pages at page c.part.new.page c.part.new.behind within (c.in_ok-part.ensures.ok ∙ ap page_rows c.index_mut.ensures.value)
    ∙ ap rows_of c.reserve.ensures.items

pub returns-clause-sized : goal.returns-clause-sized
returns-clause-sized c =
    let pages = c.reserve.new.self.items in
    let at = c.args.at in
    let page = c.index_mut.result.now in
    let front = c.part.new.page in
    let behind = c.part.new.behind in
    let full : length (page_rows page) ≡ 8 =
    ap (λ p. length (page_rows p)) (c.index_mut.ensures.value ∙ ap (λ (ps : Pages). get_or ps at page) c.reserve.ensures.items) ∙ c.requires.full page in
    let half : length (page_rows front) ≡ 6 = c.in_ok-part.ensures.len in
    let rest : length (page_rows behind) ≡ 2 = half_left (page_rows page) (page_rows front) (page_rows behind) c.in_ok-part.ensures.ok full half in
    let sized : AreSized pages = subst AreSized (sym c.reserve.ensures.items) c.requires.sized in
    subst AreSized (sym c.in-Ok.ensures.items)
    (AreSized-insert (set pages at front) (at + 1) behind (AreSized-set pages at front sized (omega (arith, half)) (omega (arith, half))) (omega (arith, rest)) (omega (arith, rest)))
