-- Rows whose paths are lent: a mark in path order is at the path of the last row, or behind it.
use Rattle.std.proofs.Common.{◌≡◌, ℕ, suc, ◌+◌, ◌<◌, ◌≤◌, true, false, Bor, List, [], ◌∷◌, ◌++◌, ◌||◌, length, take, drop, get_or, slice_set, is_some, Some, Greater, refl, sym, ap, subst, ◌∙◌, arith}
use Rattle.std.specs.declared.option.Option.{Option}
use Rattle.std.specs.declared.alloc.Global.{Global}
use Rattle.std.specs.declared.cmp.Ordering.{Ordering}
use Rattle.std.specs.declared.cmp.Ordering.TheVariants.{Less, Equal}
use Rattle.std.specs.Prelude.{Vec}
use Rattle.std.specs.Ordering.{is_eq, is_lt}
use Rattle.std.specs.List.{Any, AllWithin, list_any}
use Rattle.std.specs.Option.{option_map, option_map_or}
use Rattle.std.specs.FinMap.{find, is_sorted}
use Rattle.std.proofs.lemmas.Bool.{both_ways}
use Rattle.std.proofs.lemmas.List.{drop_all, get_or-map, get_or_read, get_or-take, length-map, length-take-le, map-set, map_push, set_split, take_all}
use Rattle.std.proofs.lemmas.List.Folds.{Any-from_list_any}
use Rattle.std.proofs.lemmas.List.Sorted.{sorted_far}
use Rattle.std.proofs.lemmas.Option.{slice_get_read}
use Rattle.orc_path.specs.Steps.{PathStep}
use Rattle.orc_path.specs.Order.{path_cmp}
use Rattle.orc_path.proofs.PathOrder.{path_cmp_total}
use Rattle.orc_path.proofs.ConfigurationLaws.{same_path}
use Rattle.orc_path.specs.declared.item.Item.{Item}
use Rattle.orc_tree.proofs.InOrder.{before_more, find_between, find_here, is_true_T, put_between, put_here}
use Rattle.orc_tree.specs.Rows.{IsRowOf, IsPlaceOf}
use Rattle.orc_refs.specs.declared.mark.Brought.{Brought}
use Rattle.orc_refs.specs.declared.mark.Mark.{Mark}
use Rattle.orc_refs.specs.inside.Marks.{AreRowsOf, InPathOrder, IsEntered, LentRows, NoneBehind, TouchedRows, brought_in, by_path, is_at, read, read_one, shown}
use Rattle.orc_refs.proofs.MarkLaws.{entered_row, is_before, is_before_ranks}

abbrev LentRow : Type 0
LentRow = Bor (List PathStep) × Vec Brought Global

abbrev pub TouchedRow : Type 0
TouchedRow = List PathStep × Vec Brought Global

abbrev pub with_path : LentRow → TouchedRow
with_path row = (row.0.now, row.1)

here : (rows : LentRows) (at : ℕ) (row : LentRow) → at < length rows → row ≡ get_or rows at row → with_path row ≡ get_or (by_path rows) at (with_path row)
here rows at row l is = ap with_path is ∙ sym (get_or-map with_path rows at row (with_path row) l)

inside : (rows : LentRows) (at : ℕ) → at < length rows → at < length (by_path rows)
inside rows at l = subst (λ n. at < n) (sym (length-map rows with_path)) l

-- a row is found at its path
found : (es : TouchedRows) (at : ℕ) (e : TouchedRow) → is_sorted path_cmp es ≡ true → at < length es → e ≡ get_or es at e → find path_cmp e.0 es ≡ Some e.1
found es at e s l is =
    find_here path_cmp path_cmp_total e.0 es at (is_true_T _ s) l (λ d. ap (λ (r : TouchedRow). r.0) (sym (get_or_read es at e l is d)))
    ∙ ap (option_map (λ (r : TouchedRow). r.1)) (slice_get_read es _ at e refl l is)

-- a row has what is brought to its path
pub row_brought : (rows : LentRows) (at : ℕ) (row : LentRow) → is_sorted path_cmp (by_path rows) ≡ true → at < length rows → row ≡ get_or rows at row → brought_in (by_path rows) row.0.now ≡ shown row.1.items
row_brought rows at row s l is =
    ap (λ (o : Option (Vec Brought Global)). option_map_or (λ (list : Vec Brought Global). shown list.items) o []) (found (by_path rows) at (with_path row) s (inside rows at l) (here rows at row l is))

-- The place of a mark

any_read : (q : List PathStep) (marks : List Mark) → list_any (is_at q) (read marks) ≡ list_any (λ (m : Mark). is_at q (read_one m)) marks
any_read q [] = refl
any_read q (m ∷ ms) = ap (λ b. is_at q (read_one m) || b) (any_read q ms)

-- the rows of the marks so far are at no path after that of the next mark
pub none_behind : (marks : List Mark) (i : ℕ) (mark : Mark) (rows : TouchedRows) → InPathOrder marks → i < length marks → mark ≡ get_or marks i mark → AreRowsOf (read (take i marks)) rows → NoneBehind mark.path.now rows
none_behind marks i mark rows sorted l is are = λ q some.
    before q (Any-from_list_any (λ (m : Mark). is_at q (read_one m)) (take i marks) (sym (any_read q (take i marks)) ∙ sym (are.paths q) ∙ some))
  where
    before : (q : List PathStep) → Any (λ (m : Mark). is_at q (read_one m) ≡ true) (take i marks) → is_lt (path_cmp mark.path.now q) ≡ false
    before q (k, m, within, there, same) =
        let earlier : k < i = subst (λ n. k < n) (length-take-le i marks (omega (arith, l))) within in
        ap (λ (p : List PathStep). is_lt (path_cmp mark.path.now p)) (same_path q m.path.now same)
        ∙ ap (λ (x : Mark). is_before x m) (get_or_read marks i mark l is m)
        ∙ ap (is_before (get_or marks i m)) (sym there ∙ get_or-take i marks k m earlier)
        ∙ sorted_far is_before is_before_ranks marks sorted k i m (omega (arith, earlier)) l

-- the row is at the path
pub is_row : (rows : LentRows) (p : List PathStep) (at : ℕ) (row : LentRow) → at < length rows → row ≡ get_or rows at row → is_eq (path_cmp p (get_or rows at row).0.now) ≡ true → IsRowOf p (by_path rows) at
is_row rows p at row l is same = record {
  within = inside rows at l;
  here = λ d. ap (λ (r : TouchedRow). r.0) (sym (get_or_read (by_path rows) at (with_path row) (inside rows at l) (here rows at row l is) d)) ∙ sym (same_path p row.0.now (ap (λ (r : LentRow). is_eq (path_cmp p r.0.now)) is ∙ same));
}

neither : (o : Ordering) → is_lt o ≡ false → is_eq o ≡ false → o ≡ Greater
neither Less e f = absurd (both_ways true e refl)
neither Equal e f = absurd (both_ways true f refl)
neither Greater e f = refl

-- the path comes after all rows, since it comes after the last
pub is_past : (rows : LentRows) (p : List PathStep) (at : ℕ) (row : LentRow) → at + 1 ≡ length rows → row ≡ get_or rows at row → is_sorted path_cmp (by_path rows) ≡ true → NoneBehind p (by_path rows)
    → is_eq (path_cmp p (get_or rows at row).0.now) ≡ false → IsPlaceOf p (by_path rows) (length rows)
is_past rows p at row end is s none other =
    let es = by_path rows in
    let len : length es ≡ length rows = length-map rows with_path in
    let l : at < length rows = omega (arith, end) in
    let there = here rows at row l is in
    let after : path_cmp p row.0.now ≡ Greater = neither _ (none row.0.now (ap is_some (found es at (with_path row) s (inside rows at l) there))) (ap (λ (r : LentRow). is_eq (path_cmp p r.0.now)) is ∙ other) in
    record {
      within = omega (arith, len);
      before = subst (λ n. AllWithin (λ (x : TouchedRow). path_cmp p x.0 ≡ Greater) es 0 n) end (before_more path_cmp path_cmp_total es p at (with_path row) (is_true_T _ s) (inside rows at l) there after);
      behind = λ k d low high. absurd (omega (arith, len, low, high));
    }

-- where there is no row
pub is_first : (rows : LentRows) (p : List PathStep) → length rows ≡ 0 → IsPlaceOf p (by_path rows) (length rows)
is_first rows p none =
    let len : length (by_path rows) ≡ length rows = length-map rows with_path in
    record {
      within = omega (arith, len);
      before = λ k d low high. absurd (omega (arith, none, low, high));
      behind = λ k d low high. absurd (omega (arith, len, low, high));
    }

-- A mark entered

-- in the row of its path
pub set_entered : (mark : List PathStep × List (List ℕ × Item)) (old : LentRows) (at : ℕ) (row : LentRow) (list : Vec Brought Global) → is_sorted path_cmp (by_path old) ≡ true
    → IsRowOf mark.0 (by_path old) at → row ≡ get_or old at row → shown list.items ≡ shown row.1.items ++ mark.1 → IsEntered mark (by_path old) (by_path (slice_set old at (row.0, list)))
set_entered mark old at row list s place is added =
    let es = by_path old in
    let l : at < length old = subst (λ n. at < n) (length-map old with_path) place.within in
    let key : row.0.now ≡ mark.0 = ap (λ (r : TouchedRow). r.0) (here old at row l is) ∙ place.here (with_path row) in
    let there : brought_in es mark.0 ≡ shown row.1.items = subst (λ (p : List PathStep). brought_in es p ≡ shown row.1.items) key (row_brought old at row s l is) in
    entered_row mark es (by_path (slice_set old at (row.0, list))) list s
    (map-set with_path old at (row.0, list)
    ∙ set_split es at (row.0.now, list) place.within
    ∙ ap (λ (p : List PathStep). take at es ++ (p, list) ∷ drop (suc at) es) key
    ∙ sym (put_here path_cmp path_cmp_total mark.0 list es at (is_true_T _ s) place.within place.here))
    (added ∙ ap (λ (bs : List (List ℕ × Item)). bs ++ mark.1) (sym there))

-- as a row of its own
pub push_entered : (mark : List PathStep × List (List ℕ × Item)) (old new : LentRows) (row : LentRow) → is_sorted path_cmp (by_path old) ≡ true → IsPlaceOf mark.0 (by_path old) (length old)
    → row.0.now ≡ mark.0 → shown row.1.items ≡ mark.1 → new ≡ old ++ row ∷ [] → IsEntered mark (by_path old) (by_path new)
push_entered mark old new row s place key list is =
    let es = by_path old in
    let n = length old in
    let len : length es ≤ n = omega (arith, length-map old with_path) in
    let none : brought_in es mark.0 ≡ [] = ap (λ (o : Option (Vec Brought Global)). option_map_or (λ (l : Vec Brought Global). shown l.items) o []) (find_between path_cmp path_cmp_total mark.0 es n place.before place.behind) in
    entered_row mark es (by_path new) row.1 s
    (ap by_path is ∙ map_push with_path old row
    ∙ ap (λ (p : List PathStep). es ++ (p, row.1) ∷ []) key
    ∙ sym (put_between path_cmp path_cmp_total mark.0 row.1 es n place.within place.before place.behind
    ∙ ap (λ (l : TouchedRows). l ++ (mark.0, row.1) ∷ drop n es) (take_all n es len)
    ∙ ap (λ (l : TouchedRows). es ++ (mark.0, row.1) ∷ l) (drop_all n es len)))
    (list ∙ ap (λ (bs : List (List ℕ × Item)). bs ++ mark.1) (sym none))
