use Rattle.std.proofs.Common.{List, Some, refl, ap, sym, ◌∙◌}
use Rattle.std.specs.Option.{option_map}
use Rattle.std.proofs.lemmas.Option.{slice_get_read}
use Rattle.orc_path.specs.Steps.{PathStep}
use Rattle.orc_path.specs.declared.item.Item.{Item}
use Rattle.orc_tree.proofs.Answered.{find-row, find-place}
use Rattle.orc_tree.proofs.lookup.item_in.Goals as goal

pub returns-in-Ok : goal.returns-in-Ok
returns-in-Ok c =
    let q = c.args.steps.now in
    let rows = c.args.rows.now in
    ap (λ (row : List PathStep × Item). Some row.1) (sym c.index-rows-at.is)
    ∙ ap (option_map (λ (e : List PathStep × Item). e.1)) (sym (slice_get_read rows _ c.in-Ok.at c.index-rows-at.result refl c.in-Ok.ensures.found.within c.index-rows-at.is))
    ∙ sym (find-row q rows c.in-Ok.at c.requires c.in-Ok.ensures.found)

pub returns-in-Err : goal.returns-in-Err
returns-in-Err c = sym (find-place c.args.steps.now c.args.rows.now c.in-Err.field-0 c.in-Err.ensures.absent)
