use Rattle.std.proofs.Common.{ap, sym, subst, ◌∙◌}
use Rattle.std.proofs.lemmas.List.Elements.{All-drop, All-take}
use Rattle.std.proofs.lemmas.Result.{on_ok_weaker}
use Rattle.orc_refs.specs.inside.Shelves.{AreSome, HasRow, rack_rows, rows_on}
use Rattle.orc_refs.proofs.PartLaws.{inserted_twice, none_from_len, nothing_inserted}
use Rattle.orc_refs.proofs.ShelfLaws.{rows_on-halves}
use Rattle.orc_refs.proofs.rack.insert_shelves.Goals as goal

pub returns-then-is_empty-clause-rows : goal.returns-then-is_empty-clause-rows
returns-then-is_empty-clause-rows c =
    nothing_inserted rack_rows c.args.racks.now.items c.args.at (rows_on c.args.shelves.items)
    (ap rows_on (none_from_len c.args.shelves.items _ c.args.shelves.ok.0 (sym c.is_empty.ensures ∙ c.if-is_empty.true)))

pub insert_rack-requires-2-clause-some : goal.insert_rack-requires-2-clause-some
insert_rack-requires-2-clause-some c = subst AreSome (sym c.in_ok-behind.ensures.tail) (All-drop HasRow 32 c.args.shelves.items c.requires.some)

pub insert_rack-requires-3-clause-some : goal.insert_rack-requires-3-clause-some
insert_rack-requires-3-clause-some c = subst AreSome (sym c.in_ok-behind.ensures.items) (All-take HasRow 32 c.args.shelves.items c.requires.some)

pub returns-clause-rows : goal.returns-clause-rows
returns-clause-rows c =
    let front = c.split_off.new.self.items in
    let behind = c.in_ok-behind.behind.items in
    on_ok_weaker c.insert_rack-3.result
    (λ is. is ∙ inserted_twice rack_rows c.args.racks.now.items c.insert_rack-2.new.racks.items c.args.at (rows_on front) (rows_on behind) (rows_on c.args.shelves.items)
    c.in_ok-insert_rack.ensures.front c.in_ok-insert_rack.ensures.rows
    (rows_on-halves 32 c.args.shelves.items front behind c.in_ok-behind.ensures.items c.in_ok-behind.ensures.tail))
    c.insert_rack-3.ensures.rows
