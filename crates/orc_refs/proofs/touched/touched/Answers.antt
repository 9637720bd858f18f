use Rattle.std.proofs.Common.{◌≡◌, List, sym, ap, subst, ◌∙◌, length, arith}
use Rattle.std.proofs.lemmas.List.{length-map}
use Rattle.orc_refs.specs.declared.mark.Mark.{Mark}
use Rattle.orc_refs.specs.inside.Marks.{InPathOrder, all_marks, brought_by, marked, read, read_one}
use Rattle.orc_refs.proofs.MarkLaws.{Marks, by-all, by-kept, length-all, marked-all, marked-kept}
use Rattle.orc_refs.proofs.touched.touched.Goals as goal

pub returns-clause-sorted : goal.returns-clause-sorted
returns-clause-sorted c = c.in_ok-rows.ensures.rows.sorted

pub returns-clause-paths : goal.returns-clause-paths
returns-clause-paths c = λ p.
    c.in_ok-rows.ensures.rows.paths p
    ∙ ap (λ (xs : List Mark). marked (read xs) p) c.as_slice.ensures.value
    ∙ marked-kept (read c.in_ok-marks.marks.items) (read c.in_ok-sorted.sorted.items) p c.in_ok-sorted.ensures.order
    ∙ ap (λ (xs : Marks). marked xs p) c.in_ok-marks.ensures
    ∙ marked-all c.args.changes.now c.args.moves.now p

pub returns-clause-brings : goal.returns-clause-brings
returns-clause-brings c = λ p.
    c.in_ok-rows.ensures.rows.given p
    ∙ ap (λ (xs : List Mark). brought_by (read xs) p) c.as_slice.ensures.value
    ∙ by-kept (read c.in_ok-marks.marks.items) (read c.in_ok-sorted.sorted.items) p c.in_ok-sorted.ensures.order
    ∙ ap (λ (xs : Marks). brought_by xs p) c.in_ok-marks.ensures
    ∙ by-all c.args.changes.now c.args.moves.now p c.requires.whole

pub returns-clause-len : goal.returns-clause-len
returns-clause-len c =
    let all : length (read c.in_ok-marks.marks.items) ≡ length (all_marks c.args.changes.now c.args.moves.now) = ap length c.in_ok-marks.ensures in
    let each : length (read c.in_ok-marks.marks.items) ≡ length c.in_ok-marks.marks.items = length-map c.in_ok-marks.marks.items read_one in
    let lent : length c.as_slice.result.now ≡ length c.in_ok-sorted.sorted.items = ap length c.as_slice.ensures.value in
    omega (arith, c.in_ok-rows.ensures.len, c.in_ok-sorted.ensures.len, lent, all, each, length-all c.args.changes.now c.args.moves.now)

pub rows_of-requires : goal.rows_of-requires
rows_of-requires c = subst InPathOrder (sym c.as_slice.ensures.value) c.in_ok-sorted.ensures.sorted
