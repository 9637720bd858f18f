use Rattle.std.proofs.Common.{◌≡◌, List, Some, refl, ap, sym, ◌∙◌}
use Rattle.std.specs.Option.{option_map}
use Rattle.std.specs.FinMap.{find}
use Rattle.std.proofs.lemmas.Option.{slice_get_read}
use Rattle.orc_path.specs.Steps.{PathStep}
use Rattle.orc_path.specs.Order.{path_cmp}
use Rattle.orc_path.specs.declared.item.Item.{Item}
use Rattle.orc_tree.proofs.Answered.{find-row, find-place}
use Rattle.orc_check.specs.inside.Lent.{spot_path}
use Rattle.orc_check.proofs.lookup.row_in.Goals as goal

pub returns-in-Ok : goal.returns-in-Ok
returns-in-Ok c =
    let q = spot_path c.args.spot.now in
    let rows = c.args.rows.now in
    let row = c.index-rows-at.result in
    let here : row.0 ≡ q = ap (λ (r : List PathStep × Item). r.0) c.index-rows-at.is ∙ c.in-Ok.ensures.found.here row in
    let found : find path_cmp q rows ≡ Some row.1 =
    find-row q rows c.in-Ok.at c.requires c.in-Ok.ensures.found
    ∙ ap (option_map (λ (e : List PathStep × Item). e.1)) (slice_get_read rows _ c.in-Ok.at row refl c.in-Ok.ensures.found.within c.index-rows-at.is) in
    ap (λ (p : List PathStep). Some (p, row.1)) here ∙ ap (option_map (λ (item : Item). (q, item))) (sym found)

pub returns-in-Err : goal.returns-in-Err
returns-in-Err c =
    let q = spot_path c.args.spot.now in
    ap (option_map (λ (item : Item). (q, item))) (sym (find-place q c.args.rows.now c.in-Err.field-0 c.in-Err.ensures.absent))
