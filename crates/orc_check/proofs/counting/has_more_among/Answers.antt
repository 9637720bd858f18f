use Rattle.std.proofs.Common.{◌≡◌, ◌+◌, ◌++◌, ◌∷◌, [], true, List, length, ap, sym, ◌∙◌, nat_lt}
use Rattle.std.specs.FinMap.{is_sorted}
use Rattle.std.proofs.lemmas.List.{length-append}
use Rattle.orc_path.specs.Steps.{PathStep}
use Rattle.orc_path.specs.Order.{path_cmp}
use Rattle.orc_path.proofs.PathOrder.{path_cmp_total}
use Rattle.orc_tree.specs.inside.Lists.{entries_of}
use Rattle.orc_tree.proofs.Maps.{Rows}
use Rattle.orc_tree.proofs.Pieces.{sorted_behind}
use Rattle.orc_tree.proofs.Listing.{entries_of-append}
use Rattle.orc_check.specs.Validity.{plain_steps}
use Rattle.orc_check.specs.inside.Lists.{is_past}
use Rattle.orc_check.specs.inside.Runs.{all_rows}
use Rattle.orc_check.proofs.Entered.{none_past, below_none, counted}
use Rattle.orc_check.proofs.counting.has_more_among.Goals as goal

pub returns-then-starts_past : goal.returns-then-starts_past
returns-then-starts_past c =
    let list = c.args.steps.now ++ plain_steps c.args.names.now in
    let rows = c.in-Some.rows.now in
    let rest = c.next.new.self in
    let steps : c.loop-rows.rows-iterator ≡ rows ∷ rest = c.in-Some.ensures.steps in
    let past : is_past list rows ≡ true = sym c.starts_past.ensures ∙ c.if-starts_past.true in
    let sorted : is_sorted path_cmp (rows ++ all_rows rest) ≡ true = ap (λ (r : List Rows). is_sorted path_cmp (all_rows r)) (sym steps) ∙ c.loop-rows.invariant.sorted in
    let none : entries_of list (all_rows c.loop-rows.rows-iterator) ≡ [] =
    ap (λ (r : List Rows). entries_of list (all_rows r)) steps ∙ none_past list rows (all_rows rest) past sorted in
    sym (ap (λ (es : List (List PathStep)). nat_lt c.loop-rows.left (length es)) none ∙ below_none c.loop-rows.left) ∙ c.loop-rows.invariant.left

pub loop-rows-preserved : goal.loop-rows-preserved
loop-rows-preserved c =
    let list = c.args.steps.now ++ plain_steps c.args.names.now in
    let rows = c.in-Some.rows.now in
    let rest = c.next.new.self in
    let steps : c.loop-rows.rows-iterator ≡ rows ∷ rest = c.in-Some.ensures.steps in
    let here = length (entries_of list rows) in
    let more = length (entries_of list (all_rows rest)) in
    let whole : length (entries_of list (all_rows c.loop-rows.rows-iterator)) ≡ here + more =
    ap (λ (r : List Rows). length (entries_of list (all_rows r))) steps ∙ ap length (entries_of-append list rows (all_rows rest))
    ∙ length-append (entries_of list rows) (entries_of list (all_rows rest)) in
    record {
      left = counted c.loop-rows.left here more c.in-Some-count_down.rest (sym c.in-Some-count_down.is ∙ c.count_down.ensures)
          ∙ ap (nat_lt c.loop-rows.left) (sym whole) ∙ c.loop-rows.invariant.left;
      sorted = sorted_behind path_cmp path_cmp_total rows (all_rows rest)
          (ap (λ (r : List Rows). is_sorted path_cmp (all_rows r)) (sym steps) ∙ c.loop-rows.invariant.sorted);
    }
