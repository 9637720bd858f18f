-- A row whose items were changed in place.
use Rattle.std.proofs.Common.{◌≡◌, List, length, drop, ◌∙◌, take_all, arith}
use Rattle.std.proofs.lemmas.List.{take-append-le}
use Rattle.orc_text.specs.Lends.{with_items}

-- as many items as there were are the row's items
pub with_items_are : {T : Type 0} (row items : List T) → length items ≡ length row → with_items row items ≡ items
with_items_are row items same =
    take-append-le (length row) items (drop (length items) row) (omega (arith, same)) ∙ take_all (length row) items (omega (arith, same))
