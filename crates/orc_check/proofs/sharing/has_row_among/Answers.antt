use Rattle.std.proofs.Common.{◌≡◌, ◌++◌, ◌∷◌, ◌||◌, true, false, List, take, ap, sym, ◌∙◌}
use Rattle.std.specs.List.{list_any}
use Rattle.std.specs.FinMap.{is_sorted}
use Rattle.std.proofs.lemmas.List.Folds.{list_any-append}
use Rattle.orc_path.specs.Steps.{PathStep}
use Rattle.orc_path.specs.Order.{path_cmp}
use Rattle.orc_path.proofs.PathOrder.{path_cmp_total}
use Rattle.orc_tree.proofs.Maps.{Rows}
use Rattle.orc_tree.proofs.Pieces.{sorted_behind}
use Rattle.orc_check.specs.Validity.{row_has}
use Rattle.orc_check.specs.inside.Runs.{all_rows}
use Rattle.orc_check.specs.inside.Sharing.{begins_past}
use Rattle.orc_check.proofs.Shared.{row_begins, none_past}
use Rattle.orc_check.proofs.sharing.has_row_among.Goals as goal

pub returns-then-begins_past : goal.returns-then-begins_past
returns-then-begins_past c =
    let target = c.args.target.now in
    let has = row_has c.args.schema.now target c.args.text.now c.args.path.now in
    let front = take target.shared c.args.path.now in
    let rows = c.in-Some.rows.now in
    let rest = c.next.new.self in
    let steps : c.loop-rows.rows-iterator ≡ rows ∷ rest = c.in-Some.ensures.steps in
    let past : begins_past front rows ≡ true =
    ap (λ (p : List PathStep). begins_past p rows) (sym c.requires.shared) ∙ sym c.begins_past.ensures ∙ c.if-begins_past.true in
    let sorted : is_sorted path_cmp (rows ++ all_rows rest) ≡ true = ap (λ (r : List Rows). is_sorted path_cmp (all_rows r)) (sym steps) ∙ c.loop-rows.invariant.sorted in
    let none : list_any has (all_rows c.loop-rows.rows-iterator) ≡ false =
    ap (λ (r : List Rows). list_any has (all_rows r)) steps
    ∙ none_past has front (row_begins c.args.schema.now target c.args.text.now c.args.path.now) rows (all_rows rest) past sorted in
    sym none ∙ c.loop-rows.invariant.left

pub loop-rows-preserved : goal.loop-rows-preserved
loop-rows-preserved c =
    let has = row_has c.args.schema.now c.args.target.now c.args.text.now c.args.path.now in
    let rows = c.in-Some.rows.now in
    let rest = c.next.new.self in
    let steps : c.loop-rows.rows-iterator ≡ rows ∷ rest = c.in-Some.ensures.steps in
    let none : list_any has rows ≡ false = sym c.has_row_on.ensures ∙ c.if-has_row_on.false in
    record {
      left = ap (λ b. b || list_any has (all_rows rest)) (sym none) ∙ sym (list_any-append has rows (all_rows rest))
          ∙ ap (λ (r : List Rows). list_any has (all_rows r)) (sym steps) ∙ c.loop-rows.invariant.left;
      sorted = sorted_behind path_cmp path_cmp_total rows (all_rows rest)
          (ap (λ (r : List Rows). is_sorted path_cmp (all_rows r)) (sym steps) ∙ c.loop-rows.invariant.sorted);
    }
