-- A search by halves among items in path order.
use Rattle.std.proofs.Common.{◌≡◌, ℕ, zero, suc, ◌+◌, ◌<◌, true, cond, List, [], ◌∷◌, length, drop, get_or, Some, None, refl, sym, ap, subst, ◌∙◌}
use Rattle.std.specs.declared.cmp.Ordering.TheVariants.{Less, Equal, Greater}
use Rattle.std.specs.Ordering.{eq_by_cmp}
use Rattle.std.specs.List.{AllWithin}
use Rattle.std.specs.Option.{option_map}
use Rattle.std.specs.FinMap.{find, is_sorted}
use Rattle.std.proofs.lemmas.List.{get_or_read, get_or-map, length-map}
use Rattle.std.proofs.lemmas.Option.{slice_get_read}
use Rattle.orc_path.specs.Steps.{PathStep}
use Rattle.orc_path.specs.Order.{path_cmp}
use Rattle.orc_path.proofs.PathOrder.{path_cmp_total, path_cmp_exact}
use Rattle.orc_path.specs.declared.item.Item.{Item}
use Rattle.orc_call.specs.declared.call.Put.{Put}
use Rattle.orc_tree.proofs.InOrder.{is_true_T, before_more, behind_more, find_here, find_between}
use Rattle.orc_tree.proofs.Changed.{one_less}
use Rattle.orc_refs.specs.Moves.{put_at, rows_in, BringWhole}
use Rattle.orc_refs.specs.declared.moves.Move.{Move}

abbrev pub row_of : Put → List PathStep × Item
row_of put = (put.path, put.item)

pub put_at-rows : (puts : List Put) (p : List PathStep) → put_at puts p ≡ find path_cmp p (rows_in puts)
put_at-rows [] p = refl
put_at-rows (w ∷ ws) p = ap (cond (eq_by_cmp path_cmp p w.path) (Some w.item)) (put_at-rows ws p)

length-rows : (puts : List Put) → length (rows_in puts) ≡ length puts
length-rows puts = length-map puts row_of

row_here : (puts : List Put) (i : ℕ) (w : Put) → i < length puts → w ≡ get_or puts i w → row_of w ≡ get_or (rows_in puts) i (row_of w)
row_here puts i w l is = ap row_of is ∙ sym (get_or-map row_of puts i w (row_of w) l)

within : (puts : List Put) (i : ℕ) → i < length puts → i < length (rows_in puts)
within puts i l = subst (λ n. i < n) (sym (length-rows puts)) l

pub before_here : (puts : List Put) (p : List PathStep) (i : ℕ) (w : Put) → is_sorted path_cmp (rows_in puts) ≡ true → i < length puts → w ≡ get_or puts i w → path_cmp p w.path ≡ Greater
    → AllWithin (λ (row : List PathStep × Item). path_cmp p row.0 ≡ Greater) (rows_in puts) 0 (i + 1)
before_here puts p i w s l is g = before_more path_cmp path_cmp_total (rows_in puts) p i (row_of w) (is_true_T _ s) (within puts i l) (row_here puts i w l is) g

pub behind_here : (puts : List Put) (p : List PathStep) (i : ℕ) (w : Put) → is_sorted path_cmp (rows_in puts) ≡ true → i < length puts → w ≡ get_or puts i w → path_cmp p w.path ≡ Less
    → AllWithin (λ (row : List PathStep × Item). path_cmp p row.0 ≡ Less) (rows_in puts) i (length puts)
behind_here puts p i w s l is g =
    subst (λ n. AllWithin (λ (row : List PathStep × Item). path_cmp p row.0 ≡ Less) (rows_in puts) i n) (length-rows puts)
    (behind_more path_cmp path_cmp_total (rows_in puts) p i (row_of w) (is_true_T _ s) (within puts i l) (row_here puts i w l is) g)

pub found_here : (puts : List Put) (p : List PathStep) (i : ℕ) (w : Put) → is_sorted path_cmp (rows_in puts) ≡ true → i < length puts → w ≡ get_or puts i w → path_cmp p w.path ≡ Equal
    → Some w.item ≡ put_at puts p
found_here puts p i w s l is e = sym (
    put_at-rows puts p
    ∙ find_here path_cmp path_cmp_total p (rows_in puts) i (is_true_T _ s) (within puts i l)
    (λ d. ap (λ (row : List PathStep × Item). row.0) (sym (get_or_read (rows_in puts) i (row_of w) (within puts i l) (row_here puts i w l is) d)) ∙ sym (path_cmp_exact p w.path e))
    ∙ ap (option_map (λ (row : List PathStep × Item). row.1)) (slice_get_read (rows_in puts) _ i (row_of w) refl (within puts i l) (row_here puts i w l is))
    )

pub none_here : (puts : List Put) (p : List PathStep) (i : ℕ) → AllWithin (λ (row : List PathStep × Item). path_cmp p row.0 ≡ Greater) (rows_in puts) 0 i
    → AllWithin (λ (row : List PathStep × Item). path_cmp p row.0 ≡ Less) (rows_in puts) i (length puts) → None ≡ put_at puts p
none_here puts p i before behind = sym (
    put_at-rows puts p
    ∙ find_between path_cmp path_cmp_total p (rows_in puts) i before (subst (λ n. AllWithin (λ (row : List PathStep × Item). path_cmp p row.0 ≡ Less) (rows_in puts) i n) (sym (length-rows puts)) behind)
    )

whole_drop : (ms : List Move) (i : ℕ) → BringWhole ms → BringWhole (drop i ms)
whole_drop ms zero w = w
whole_drop [] (suc i) w = w
whole_drop (m ∷ ms) (suc i) w = whole_drop ms i w.1

-- each move's items are in order
pub whole_sorted : (ms : List Move) (i : ℕ) (m : Move) (puts : List Put) → i < length ms → m ≡ get_or ms i m → puts ≡ m.new → BringWhole ms → is_sorted path_cmp (rows_in puts) ≡ true
whole_sorted ms i m puts l is same whole =
    subst (λ (ws : List Put). is_sorted path_cmp (rows_in ws) ≡ true) (sym same) (first (subst BringWhole (one_less ms i m l is) (whole_drop ms i whole)))
  where
    first : BringWhole (m ∷ drop (i + 1) ms) → is_sorted path_cmp (rows_in m.new) ≡ true
    first w = w.0.sorted
