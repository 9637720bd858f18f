-- The rows at and below a path among rows in path order.
use Rattle.std.proofs.Common.{◌≡◌, Bool, true, false, cond, ◌||◌, List, [], ◌∷◌, ◌++◌, refl, sym, ap, ◌∙◌}
use Rattle.std.specs.List.{filter, list_any}
use Rattle.std.specs.FinMap.{is_sorted}
use Rattle.std.proofs.lemmas.Bool.{false≢true}
use Rattle.orc_path.specs.Steps.{PathStep}
use Rattle.orc_path.specs.Order.{path_cmp, is_prefix}
use Rattle.orc_path.specs.declared.item.Item.{Item}
use Rattle.orc_tree.specs.inside.Places.{above_all}
use Rattle.orc_tree.proofs.Maps.{Rows}
use Rattle.orc_check.specs.inside.Sharing.{begins_past}
use Rattle.orc_check.proofs.Shared.{none_above, none_past}

none_kept : (f : (List PathStep × Item) → Bool) (rows : Rows) → list_any f rows ≡ false → filter f rows ≡ []
none_kept f [] h = refl
none_kept f (row ∷ rows) h = on (f row) h (none_kept f rows)
  where
    on : (b : Bool) → (b || list_any f rows) ≡ false → (list_any f rows ≡ false → filter f rows ≡ []) → cond b (row ∷ filter f rows) (filter f rows) ≡ []
    on true h rest = absurd (false≢true (sym h))
    on false h rest = rest h

-- none of the rows before a path stands at or below it
pub kept_above : (path : List PathStep) (rows : Rows) → above_all path rows ≡ true → filter (λ row. is_prefix path row.0) rows ≡ []
kept_above path rows h =
    none_kept (λ row. is_prefix path row.0) rows (none_above (λ (row : List PathStep × Item). is_prefix path row.0) path (λ row e. e) rows h)

-- no row after all those at or below a path stands there
pub kept_past : (path : List PathStep) (rows more : Rows) → begins_past path rows ≡ true → is_sorted path_cmp (rows ++ more) ≡ true
    → filter (λ row. is_prefix path row.0) (rows ++ more) ≡ []
kept_past path rows more past sorted =
    none_kept (λ row. is_prefix path row.0) (rows ++ more) (none_past (λ (row : List PathStep × Item). is_prefix path row.0) path (λ row e. e) rows more past sorted)
