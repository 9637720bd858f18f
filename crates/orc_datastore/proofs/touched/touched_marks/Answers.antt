use Rattle.std.proofs.Common.{ℕ, List, length, ap, subst, ◌∙◌}
use Rattle.std.specs.List.{list_any}
use Rattle.orc_datastore.specs.States.{Datastore}
use Rattle.orc_datastore.specs.inside.Marks.{AddsMarks, marks_on}
use Rattle.orc_datastore.specs.inside.Placed.{AreNamedOnce}
use Rattle.orc_datastore.proofs.Touching.{marks_touched}
use Rattle.orc_datastore.proofs.touched.touched_marks.Goals as goal

pub returns : goal.returns
returns c =
    let names = c.args.decls.now.names in
    marks_touched names c.args.state.now (subst (λ (s : Datastore). AreNamedOnce s.live) c.state.view_is c.names_differ.ensures) c.args.actions.now
    c.in_ok-marks.marks.items c.mark_all.new.marks.items (c.in_ok-marks.ensures.len ∙ ap (λ (l : List (List ℕ)). length l) c.names.ensures.names) c.in_ok-marks.ensures.none
    (subst (λ (s : Datastore). AddsMarks (λ d. list_any (λ action. marks_on names s.live action d) c.args.actions.now) c.in_ok-marks.marks.items c.mark_all.new.marks.items)
    c.state.view_is c.mark_all.ensures)
