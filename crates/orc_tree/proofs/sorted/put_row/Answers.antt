use Rattle.std.proofs.Common.{◌≡◌, true, List, sym, subst, ◌∙◌}
use Rattle.std.proofs.lemmas.List.{set_split}
use Rattle.std.specs.FinMap.{is_sorted}
use Rattle.orc_path.specs.Steps.{PathStep}
use Rattle.orc_path.specs.Order.{path_cmp}
use Rattle.orc_path.proofs.PathOrder.{path_cmp_total}
use Rattle.orc_tree.specs.Rows.{IsRowOf, IsPlaceOf}
use Rattle.orc_tree.proofs.InOrder.{is_true_T, put_here, put_between}
use Rattle.orc_tree.proofs.Maps.{sorted-put}
use Rattle.orc_tree.proofs.sorted.put_row.Goals as goal

pub returns-in-Ok-clause-put : goal.returns-in-Ok-clause-put
returns-in-Ok-clause-put g c =
    let at = c.in-Ok.at in
    let rows = c.args.rows.now.items in
    let row : List PathStep × _ = (c.args.path, c.args.value) in
    let is : IsRowOf c.args.path rows at =
    subst (λ r. IsRowOf c.args.path r at) c.as_slice.ensures.value
    (subst (λ (p : List PathStep). IsRowOf p c.as_slice.result.now at) (c.as_slice-2.ensures ∙ c.path.view_is) c.in-Ok.ensures.found) in
    set_split rows at row is.within
    ∙ sym (put_here path_cmp path_cmp_total c.args.path c.args.value rows at (is_true_T _ c.requires.sorted) is.within is.here)

pub returns-in-Ok-clause-sorted : goal.returns-in-Ok-clause-sorted
returns-in-Ok-clause-sorted g c =
    subst (λ r. is_sorted path_cmp r ≡ true) (sym (returns-in-Ok-clause-put g c)) (sorted-put c.args.path c.args.value c.args.rows.now.items c.requires.sorted)

pub returns-in-Ok-insert-clause-put : goal.returns-in-Ok-insert-clause-put
returns-in-Ok-insert-clause-put g c =
    let at = c.in-Err.at in
    let rows = c.args.rows.now.items in
    let is : IsPlaceOf c.args.path rows at =
    subst (λ r. IsPlaceOf c.args.path r at) c.as_slice.ensures.value
    (subst (λ (p : List PathStep). IsPlaceOf p c.as_slice.result.now at) (c.as_slice-2.ensures ∙ c.path.view_is) c.in-Err.ensures.absent) in
    c.in-Ok-insert.ensures.items
    ∙ sym (put_between path_cmp path_cmp_total c.args.path c.args.value rows at is.within is.before is.behind)

pub returns-in-Ok-insert-clause-sorted : goal.returns-in-Ok-insert-clause-sorted
returns-in-Ok-insert-clause-sorted g c =
    subst (λ r. is_sorted path_cmp r ≡ true) (sym (returns-in-Ok-insert-clause-put g c)) (sorted-put c.args.path c.args.value c.args.rows.now.items c.requires.sorted)
