-- The rows from a path's place on.
use Rattle.std.proofs.Common.{◌≡◌, ℕ, suc, true, List, ◌++◌, take, drop, get_or, sym, ap, ◌∙◌}
use Rattle.std.specs.Ordering.{is_gt}
use Rattle.std.specs.List.{flat_map}
use Rattle.std.specs.FinMap.{is_sorted}
use Rattle.std.proofs.lemmas.Bool.{and_from}
use Rattle.std.proofs.lemmas.List.{append_assoc}
use Rattle.std.proofs.lemmas.List.Folds.{list_all-append}
use Rattle.orc_path.specs.Steps.{PathStep}
use Rattle.orc_path.specs.Order.{path_cmp}
use Rattle.orc_path.proofs.PathOrder.{path_cmp_total}
use Rattle.orc_path.specs.declared.item.Item.{Item}
use Rattle.orc_tree.specs.inside.Places.{IsPartFor, IsRestFor}
use Rattle.orc_tree.specs.inside.Lists.{entries_of}
use Rattle.orc_tree.proofs.Maps.{Rows}
use Rattle.orc_tree.proofs.Pieces.{sorted_behind}
use Rattle.orc_tree.proofs.Paged.{rows_of-at}
use Rattle.orc_tree.proofs.Listing.{no_entries-before, entries_of-append}

pub rest_sorted : (q : List PathStep) (whole rest : Rows) → IsRestFor q whole rest → is_sorted path_cmp whole ≡ true → is_sorted path_cmp rest ≡ true
rest_sorted q whole rest is s = sorted_behind path_cmp path_cmp_total is.front rest (ap (is_sorted path_cmp) (sym is.parts) ∙ s)

-- a list has its entries from the place of its path on
pub rest_entries : (list : List PathStep) (whole rest : Rows) → IsRestFor list whole rest → entries_of list rest ≡ entries_of list whole
rest_entries list whole rest is =
    sym (ap (entries_of list) is.parts ∙ entries_of-append list is.front rest ∙ ap (λ x. x ++ entries_of list rest) (no_entries-before list is.front is.before))

-- the rest of a part, and the parts after it
pub rest_in_part : {E : Type 0} (f : E → Rows) (q : List PathStep) (ps : List E) (i : ℕ) (p : E) (rest behind : Rows) → IsPartFor f q ps i → p ≡ get_or ps i p
    → IsRestFor q (f p) rest → behind ≡ flat_map f (drop (suc i) ps) → IsRestFor q (flat_map f ps) (rest ++ behind)
rest_in_part f q ps i p rest behind for is inner tail =
    let front = flat_map f (take i ps) in
    let last = flat_map f (drop (suc i) ps) in
    record {
      front = front ++ inner.front;
      parts = rows_of-at f ps i p for.within is ∙ ap (λ (r : Rows). front ++ (r ++ last)) inner.parts
          ∙ ap (λ (r : Rows). front ++ r) (append_assoc inner.front rest last)
          ∙ sym (append_assoc front inner.front (rest ++ last))
          ∙ ap (λ (r : Rows). (front ++ inner.front) ++ (rest ++ r)) (sym tail);
      before = list_all-append (λ (row : List PathStep × Item). is_gt (path_cmp q row.0)) front inner.front ∙ and_from _ _ for.before inner.before;
    }
