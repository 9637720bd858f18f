use Rattle.std.proofs.Common.{◌+◌, ◌∷◌, List, drop, ap, sym, ◌∙◌}
use Rattle.std.proofs.lemmas.List.{drop_more}
use Rattle.orc_path.specs.Steps.{PathStep}
use Rattle.orc_datastore.proofs.Marking.{rows_turn}
use Rattle.orc_datastore.proofs.marks.mark_known.Goals as goal

pub loop-row-preserved : goal.loop-row-preserved
loop-row-preserved c =
    let rows = c.as_slice-row-items.result.now in
    let i = c.loop-row.row-index in
    rows_turn c.args.known.now c.args.id.now (drop i rows) (drop (i + 1) rows) c.row-item.result c.args.marks.now.items c.loop-row.marks.items
    c.mark_row.new.marks.items
    (drop_more rows i c.row-item.result c.loop-row-test.true ∙ ap (λ (row : List PathStep). row ∷ drop (i + 1) rows) (sym c.row-item.is))
    c.requires.few c.loop-row.invariant c.in_ok-mark_row.ensures
