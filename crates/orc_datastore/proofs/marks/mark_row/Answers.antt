use Rattle.std.proofs.Common.{◌≡◌, length, sym, ◌∙◌, arith}
use Rattle.std.proofs.lemmas.Result.{on_ok_weaker}
use Rattle.orc_datastore.proofs.Marking.{row_marks, row_unmarked}
use Rattle.orc_datastore.proofs.Spreading.{none_some, some_same}
use Rattle.orc_datastore.proofs.marks.mark_row.Goals as goal

pub returns-then-device-len : goal.returns-then-device-len
returns-then-device-len c =
    on_ok_weaker c.mark_known_on.result
    (λ adds.
    row_marks c.args.known.now c.args.id.now c.args.row.now c.in-Some.device c.row_number.result c.args.marks.now.items c.mark_known_on.new.marks.items
    c.in-Some.is (λ own d small same. c.row_number.ensures own d small same) adds)
    c.mark_known_on.ensures

pub returns-else-device-len : goal.returns-else-device-len
returns-else-device-len c =
    let count : c.len.result ≡ length c.args.marks.now.items = c.len.ensures ∙ c.args.marks.now.ok.0 in
    row_unmarked c.args.known.now c.args.id.now c.args.row.now c.row_number.result c.args.marks.now.items
    (λ d lt e. let same : c.in-Some.device ≡ d = some_same (sym c.in-Some.is ∙ e) in omega (arith, lt, same, count, c.if-device-len.false))
    (λ own d small same. c.row_number.ensures own d small same)

pub returns-in-None : goal.returns-in-None
returns-in-None c =
    row_unmarked c.args.known.now c.args.id.now c.args.row.now c.row_number.result c.args.marks.now.items
    (λ d lt e. none_some (sym c.in-None.is ∙ e)) (λ own d small same. c.row_number.ensures own d small same)
