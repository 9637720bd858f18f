use Rattle.std.proofs.Common.{◌≡◌, suc, sym, ap, ◌∙◌, arith}
use Rattle.orc_tree.specs.Pages.{rows_of, chapter_rows}
use Rattle.orc_tree.specs.inside.Places.{starts_behind}
use Rattle.orc_tree.proofs.Paged.{Pages}
use Rattle.orc_tree.proofs.Chaptered.{AreLaid-some}
use Rattle.orc_tree.proofs.Halved.{last_part, lower_half, upper_half}
use Rattle.orc_tree.proofs.lookup.chapter_for.Goals as goal

pub loop-low-preserved-then-first_behind : goal.loop-low-preserved-then-first_behind
loop-low-preserved-then-first_behind c =
    let rows_are : rows_of c.as_slice.result.now ≡ chapter_rows c.index-chapters-middle.result = ap (λ (ps : Pages). rows_of ps) (c.as_slice.ensures ∙ ap (λ x. x.pages) c.deref.ensures) in
    lower_half chapter_rows c.args.steps.now c.args.chapters.now c.loop-low.low c.loop-low.high c.loop-low.invariant c.requires.sorted _ _ c.index-chapters-middle.is (omega arith) (omega arith)
    (ap (starts_behind c.args.steps.now) (sym rows_are) ∙ sym c.first_behind.ensures ∙ c.if-first_behind.true)

pub loop-low-preserved : goal.loop-low-preserved
loop-low-preserved c =
    let rows_are : rows_of c.as_slice.result.now ≡ chapter_rows c.index-chapters-middle.result = ap (λ (ps : Pages). rows_of ps) (c.as_slice.ensures ∙ ap (λ x. x.pages) c.deref.ensures) in
    upper_half chapter_rows c.args.steps.now c.args.chapters.now c.loop-low.low c.loop-low.high c.loop-low.invariant c.requires.sorted _ _ c.index-chapters-middle.is (omega arith) (omega arith) (AreLaid-some _ c.requires.laid)
    (ap (starts_behind c.args.steps.now) (sym rows_are) ∙ sym c.first_behind.ensures ∙ c.if-first_behind.false)

pub returns : goal.returns
returns c =
    let last : c.loop-low.high ≡ suc c.loop-low.low = omega arith in
    last_part chapter_rows c.args.steps.now c.args.chapters.now c.loop-low.low c.loop-low.high c.loop-low.invariant last
