use Rattle.std.proofs.Common.{◌≡◌, length, refl, sym, ap, subst, ◌∙◌, arith}
use Rattle.std.specs.FinMap.{from_sorted}
use Rattle.orc_path.specs.Configurations.{IsConfig}
use Rattle.orc_tree.specs.Changes.{applied}
use Rattle.orc_change.specs.Differences.{difference}
use Rattle.orc_refs.specs.Stores.{store_of}
use Rattle.orc_refs.specs.inside.Plans.{IsPlanned, with_rows}
use Rattle.orc_refs.proofs.RowLaws.{BackRows}
use Rattle.orc_refs.proofs.PlannedLaws.{applied_is, planned_is_moved}
use Rattle.orc_refs.proofs.planning.apply_moves.Goals as goal

pub returns-clause-moved : goal.returns-clause-moved
returns-clause-moved g c =
    let base = c.args.base.now in
    let tree = c.args.tree.now in
    let backs = c.args.backs.now in
    let ms = c.args.moves.now in
    let edits = c.args.edits.now in
    let store = store_of base tree backs in
    let outlook = c.in-Ok.outlook in
    let is = c.in-Ok.ensures in
    let new_tree = c.in_ok-new_tree.new_tree in
    let planned : IsPlanned store outlook.base ms outlook.due.set.changes outlook.due.rows =
    subst (λ (rows : BackRows). IsPlanned store outlook.base ms outlook.due.set.changes rows) (sym (is.planned.made_are refl)) is.planned.planned in
    let config : IsConfig (applied outlook.due.set.changes tree) = subst IsConfig c.in_ok-new_tree.ensures.applied c.in_ok-new_tree.ensures.config in
    applied_is base tree backs ms edits outlook.base new_tree outlook.due.set.changes outlook.due.rows c.in_ok-new_backs.new_backs
    (planned_is_moved store outlook.base ms edits outlook.due.set.changes outlook.due.rows (applied outlook.due.set.changes tree) is.base planned refl config)
    c.in_ok-new_tree.ensures.applied
    (c.in_ok-new_backs.ensures.put ∙ ap (λ (r : BackRows). with_rows r (from_sorted backs)) c.into_vec.ensures)

pub returns-clause-kept : goal.returns-clause-kept
returns-clause-kept g c = record { sorted = c.in_ok-new_backs.ensures.sorted; store = (returns-clause-moved g c).store }

pub returns-clause-exact : goal.returns-clause-exact
returns-clause-exact g c =
    c.in-Ok.ensures.planned.planned.exact ∙ ap (difference c.args.tree.now) (sym c.in_ok-new_tree.ensures.applied)

pub returns-clause-steps : goal.returns-clause-steps
returns-clause-steps g c =
    let rows : length c.into_vec.result.items ≡ length c.in-Ok.outlook.due.rows = ap length c.into_vec.ensures in
    omega (arith, c.look_ahead.ensures.steps, c.with_rows.ensures.steps, c.in-Ok.ensures.len refl, rows)
