use Rattle.std.proofs.Common.{ap, sym, ◌∙◌}
use Rattle.std.proofs.lemmas.Result.{on_ok_weaker}
use Rattle.orc_refs.specs.inside.Shelves.{back_rows, shelf_rows}
use Rattle.orc_refs.proofs.PartLaws.{inserted_twice, none_from_len, nothing_inserted}
use Rattle.orc_refs.proofs.ShelfLaws.{back_rows-halves}
use Rattle.orc_refs.proofs.shelf.insert_rows.Goals as goal

pub returns-then-is_empty-clause-rows : goal.returns-then-is_empty-clause-rows
returns-then-is_empty-clause-rows c =
    nothing_inserted shelf_rows c.args.shelves.now.items c.args.at (back_rows c.args.rows.items)
    (ap back_rows (none_from_len c.args.rows.items _ c.args.rows.ok.0 (sym c.is_empty.ensures ∙ c.if-is_empty.true)))

pub returns-clause-rows : goal.returns-clause-rows
returns-clause-rows c =
    let front = c.split_off.new.self.items in
    let behind = c.in_ok-behind.behind.items in
    on_ok_weaker c.insert_shelf-3.result
    (λ is. is ∙ inserted_twice shelf_rows c.args.shelves.now.items c.insert_shelf-2.new.shelves.items c.args.at (back_rows front) (back_rows behind) (back_rows c.args.rows.items)
    c.in_ok-insert_shelf.ensures.front c.in_ok-insert_shelf.ensures.rows
    (back_rows-halves 8 c.args.rows.items front behind c.in_ok-behind.ensures.items c.in_ok-behind.ensures.tail))
    c.insert_shelf-3.ensures.rows
