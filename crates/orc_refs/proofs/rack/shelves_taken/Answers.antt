use Rattle.std.proofs.Common.{◌≡◌, length, ap, sym, subst, ◌≤◌, ◌∙◌}
use Rattle.std.proofs.lemmas.Result.{IfOk-weaker}
use Rattle.orc_refs.specs.declared.rack.Rack.{Rack}
use Rattle.orc_refs.specs.declared.shelf.Shelf.{Shelf}
use Rattle.orc_refs.specs.inside.Shelves.{AreSome, back_rows, rack_shelves, rows_on}
use Rattle.orc_refs.proofs.PartLaws.{All-values, flat-values}
use Rattle.orc_refs.proofs.rack.shelves_taken.Goals as goal

pub returns-in-Err-clause-rows : goal.returns-in-Err-clause-rows
returns-in-Err-clause-rows c =
    let shelves_are : c.as_slice.result.now ≡ rack_shelves c.args.rack = c.as_slice.ensures.value ∙ ap (λ (r : Rack). r.shelves.items) c.deref.ensures ∙ ap rack_shelves c.in-Err.ensures.err in
    IfOk-weaker c.share.result _ _
    (λ shared same. flat-values (λ (shelf : Shelf). back_rows shelf.rows.items) shared.items c.as_slice.result.now same ∙ ap rows_on shelves_are)
    c.share.ensures

pub returns-in-Err-clause-full : goal.returns-in-Err-clause-full
returns-in-Err-clause-full c =
    let shelves_are : c.as_slice.result.now ≡ rack_shelves c.args.rack = c.as_slice.ensures.value ∙ ap (λ (r : Rack). r.shelves.items) c.deref.ensures ∙ ap rack_shelves c.in-Err.ensures.err in
    IfOk-weaker c.share.result _ _
    (λ shared same. All-values (λ (shelf : Shelf). 1 ≤ length (back_rows shelf.rows.items)) shared.items c.as_slice.result.now same (subst AreSome (sym shelves_are) c.requires.full))
    c.share.ensures
