use Rattle.std.proofs.Common.{◌≡◌, ◌++◌, ◌∷◌, [], map, true, List, ap, sym, ◌∙◌, append-nil, append_assoc}
use Rattle.std.specs.List.{filter}
use Rattle.std.specs.FinMap.{is_sorted}
use Rattle.std.proofs.lemmas.List.Elements.{filter-append}
use Rattle.orc_path.specs.Steps.{PathStep}
use Rattle.orc_path.specs.Order.{path_cmp, is_prefix}
use Rattle.orc_path.specs.declared.item.Item.{Item}
use Rattle.orc_path.proofs.PathOrder.{path_cmp_total}
use Rattle.orc_tree.proofs.Maps.{Rows}
use Rattle.orc_tree.proofs.Pieces.{sorted_behind}
use Rattle.orc_check.specs.inside.Runs.{all_rows}
use Rattle.orc_check.specs.inside.Sharing.{begins_past}
use Rattle.orc_check.proofs.Unders.{kept_past}
use Rattle.orc_check.proofs.under.under_among.Goals as goal

pub returns-then-begins_past : goal.returns-then-begins_past
returns-then-begins_past c =
    let path = c.args.steps.now in
    let rows = c.in-Some.rows.now in
    let rest = c.next.new.self in
    let found = map (λ row. row.now) c.loop-rows.found.items in
    let steps : c.loop-rows.rows-iterator ≡ rows ∷ rest = c.in-Some.ensures.steps in
    let past : begins_past path rows ≡ true = sym c.begins_past.ensures ∙ c.if-begins_past.true in
    let sorted : is_sorted path_cmp (rows ++ all_rows rest) ≡ true = ap (λ (r : List Rows). is_sorted path_cmp (all_rows r)) (sym steps) ∙ c.loop-rows.invariant.sorted in
    let none : filter (λ row. is_prefix path row.0) (all_rows c.loop-rows.rows-iterator) ≡ [] =
    ap (λ (r : List Rows). filter (λ (row : List PathStep × Item). is_prefix path row.0) (all_rows r)) steps ∙ kept_past path rows (all_rows rest) past sorted in
    sym (append-nil found) ∙ ap (λ (r : Rows). found ++ r) (sym none) ∙ c.loop-rows.invariant.left

pub loop-rows-preserved : goal.loop-rows-preserved
loop-rows-preserved c =
    let path = c.args.steps.now in
    let rows = c.in-Some.rows.now in
    let rest = c.next.new.self in
    let before = map (λ row. row.now) c.loop-rows.found.items in
    let steps : c.loop-rows.rows-iterator ≡ rows ∷ rest = c.in-Some.ensures.steps in
    record {
      left = ap (λ (r : Rows). r ++ filter (λ (row : List PathStep × Item). is_prefix path row.0) (all_rows rest)) c.in_ok-push_under.ensures
          ∙ append_assoc before (filter (λ (row : List PathStep × Item). is_prefix path row.0) rows) (filter (λ (row : List PathStep × Item). is_prefix path row.0) (all_rows rest))
          ∙ ap (λ (r : Rows). before ++ r) (sym (filter-append (λ (row : List PathStep × Item). is_prefix path row.0) rows (all_rows rest))
          ∙ ap (λ (r : List Rows). filter (λ (row : List PathStep × Item). is_prefix path row.0) (all_rows r)) (sym steps))
          ∙ c.loop-rows.invariant.left;
      sorted = sorted_behind path_cmp path_cmp_total rows (all_rows rest)
          (ap (λ (r : List Rows). is_sorted path_cmp (all_rows r)) (sym steps) ∙ c.loop-rows.invariant.sorted);
    }
