-- What the search's answer says of a path.
use Rattle.std.proofs.Common.{◌≡◌, ℕ, zero, suc, ◌<◌, true, List, [], ◌∷◌, length, None, refl, arith}
use Rattle.std.specs.Option.{option_map, is_some}
use Rattle.std.specs.List.{slice_get}
use Rattle.std.specs.FinMap.{find, is_sorted}
use Rattle.orc_path.specs.Steps.{PathStep}
use Rattle.orc_path.specs.Order.{path_cmp}
use Rattle.orc_path.proofs.PathOrder.{path_cmp_total}
use Rattle.orc_tree.specs.Rows.{IsRowOf, IsPlaceOf}
use Rattle.orc_tree.proofs.InOrder.{is_true_T, find_here, find_between}

pub there : {X Y : Type 0} (f : X → Y) (xs : List X) (i : ℕ) → i < length xs → is_some (option_map f (slice_get xs i)) ≡ true
there f [] i h = absurd (omega arith)
there f (x ∷ xs) zero h = refl
there f (x ∷ xs) (suc i) h = there f xs i (omega arith)

pub find-row : {X : Type 0} (q : List PathStep) (rows : List (List PathStep × X)) (i : ℕ) → is_sorted path_cmp rows ≡ true → IsRowOf q rows i
    → find path_cmp q rows ≡ option_map (λ (e : List PathStep × X). e.1) (slice_get rows i)
find-row q rows i s is = find_here path_cmp path_cmp_total q rows i (is_true_T _ s) is.within is.here

pub find-place : {X : Type 0} (q : List PathStep) (rows : List (List PathStep × X)) (i : ℕ) → IsPlaceOf q rows i → find path_cmp q rows ≡ None
find-place q rows i is = find_between path_cmp path_cmp_total q rows i is.before is.behind
