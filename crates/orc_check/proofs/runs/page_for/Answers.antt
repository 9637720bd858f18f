use Rattle.std.proofs.Common.{◌≡◌, suc, sym, ap, ◌∙◌, arith}
use Rattle.orc_tree.specs.Pages.{page_rows}
use Rattle.orc_tree.specs.inside.Places.{starts_behind}
use Rattle.orc_tree.proofs.Paged.{AreSized-some}
use Rattle.orc_tree.proofs.Halved.{last_part, lower_half, upper_half}
use Rattle.orc_check.specs.inside.Lent.{spot_path}
use Rattle.orc_check.proofs.runs.page_for.Goals as goal

pub loop-low-preserved-then-starts_behind : goal.loop-low-preserved-then-starts_behind
loop-low-preserved-then-starts_behind c =
    let rows_are : c.as_slice.result.now ≡ page_rows c.index-pages-middle.result = c.as_slice.ensures ∙ ap (λ p. p.rows) c.deref.ensures in
    lower_half page_rows (spot_path c.args.spot.now) c.args.pages.now c.loop-low.low c.loop-low.high c.loop-low.invariant c.requires.sorted _ _ c.index-pages-middle.is (omega arith) (omega arith)
    (ap (starts_behind (spot_path c.args.spot.now)) (sym rows_are) ∙ sym c.starts_behind.ensures ∙ c.if-starts_behind.true)

pub loop-low-preserved : goal.loop-low-preserved
loop-low-preserved c =
    let rows_are : c.as_slice.result.now ≡ page_rows c.index-pages-middle.result = c.as_slice.ensures ∙ ap (λ p. p.rows) c.deref.ensures in
    upper_half page_rows (spot_path c.args.spot.now) c.args.pages.now c.loop-low.low c.loop-low.high c.loop-low.invariant c.requires.sorted _ _ c.index-pages-middle.is (omega arith) (omega arith) (AreSized-some _ c.requires.sized)
    (ap (starts_behind (spot_path c.args.spot.now)) (sym rows_are) ∙ sym c.starts_behind.ensures ∙ c.if-starts_behind.false)

pub returns : goal.returns
returns c =
    let last : c.loop-low.high ≡ suc c.loop-low.low = omega arith in
    last_part page_rows (spot_path c.args.spot.now) c.args.pages.now c.loop-low.low c.loop-low.high c.loop-low.invariant last
