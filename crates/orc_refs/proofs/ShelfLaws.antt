-- Rows with one of them set, and the shelves on which they stand.
use Rattle.std.proofs.Common.{◌≡◌, ℕ, zero, suc, ◌<◌, ◌≤◌, Bool, true, false, cond, not, List, [], ◌∷◌, ◌++◌, length, map, take, drop, get_or, insert, set, Some, None, refl, sym, ap, ◌∙◌, arith}
use Rattle.std.specs.Ordering.{is_eq, is_gt, eq_by_cmp}
use Rattle.std.specs.Arc.{arc_value}
use Rattle.std.specs.List.{All, flat_map, remove as remove_at}
use Rattle.std.specs.declared.alloc.Global.{Global}
use Rattle.std.specs.declared.sync.Arc.{Arc}
use Rattle.std.specs.FinMap.{find, is_sorted, from_sorted}
use Rattle.std.specs.FinMap.Entries.{below_all, where_key}
use Rattle.std.proofs.lemmas.Bool.{and_parts, cond-true}
use Rattle.std.proofs.lemmas.List.{take-append-drop, get_or-map, length-map, map-append, map-set, set_split}
use Rattle.std.proofs.lemmas.List.{length-append}
use Rattle.std.proofs.lemmas.List.Concat.{flat_map-append}
use Rattle.std.proofs.lemmas.Simd.{map-map}
use Rattle.std.proofs.lemmas.List.Elements.{filter-append}
use Rattle.orc_path.specs.Steps.{PathStep}
use Rattle.orc_path.specs.Order.{path_cmp}
use Rattle.orc_path.proofs.PathOrder.{path_cmp_total}
use Rattle.orc_tree.specs.Rows.{IsRowOf, IsPlaceOf}
use Rattle.orc_tree.proofs.Answered.{find-place}
use Rattle.orc_tree.proofs.InOrder.{is_true_T, put_here, put_between}
use Rattle.orc_tree.proofs.Maps.{sorted-put}
use Rattle.orc_tree.proofs.Pieces.{gt_is, put_piece}
use Rattle.orc_refs.specs.inside.Plans.{with_row}
use Rattle.orc_refs.specs.inside.Shelves.{AreFull, HaveRows, IsPartFor, all_before, back_row, back_rows, rack_rows, rack_shelves, rows_on, set_row, shelf_rows}
use Rattle.orc_refs.specs.declared.shelf.Back.{Back}
use Rattle.orc_refs.specs.declared.shelf.Shelf.{Shelf}
use Rattle.orc_refs.specs.declared.rack.Rack.{Rack}
use Rattle.orc_refs.proofs.PartLaws.{parts-at, remove-behind, remove-front}
use Rattle.orc_refs.proofs.RowLaws.{BackRows, keep_all, map_of-put, map_of-removed, remove_here, sorted-removed}

abbrev pub Shelves : Type 0
Shelves = List (Arc Shelf Global)

abbrev pub Racks : Type 0
Racks = List (Arc Rack Global)

abbrev pub Kept : Type 0
Kept = List (Arc Back Global)

abbrev Ids : Type 0
Ids = List (List ℕ)

abbrev Entry : Type 0
Entry = List PathStep × List (List ℕ)

-- Rows with one of them set

keep_before : (k : List PathStep) (es : BackRows) → all_before k es ≡ true → where_key path_cmp (λ x. not (eq_by_cmp path_cmp k x)) es ≡ es
keep_before k [] h = refl
keep_before k (e ∷ es) h =
    let parts = and_parts (is_gt (path_cmp k e.0)) (all_before k es) h in
    cond-true _ _ _ (ap (λ o. not (is_eq o)) (gt_is _ parts.0)) ∙ ap (λ (l : BackRows). e ∷ l) (keep_before k es parts.1)

keep_absent : (k : List PathStep) (es : BackRows) → find path_cmp k es ≡ None → where_key path_cmp (λ x. not (eq_by_cmp path_cmp k x)) es ≡ es
keep_absent k [] h = refl
keep_absent k (e ∷ es) h = on (is_eq (path_cmp k e.0)) (keep_absent k es) h
  where
    some_none : (x : Ids) → Some x ≡ None → ⊥
    some_none x e = cc

    on : (b : Bool) → (find path_cmp k es ≡ None → where_key path_cmp (λ x. not (eq_by_cmp path_cmp k x)) es ≡ es) → cond b (Some e.1) (find path_cmp k es) ≡ None
        → cond (not b) (e ∷ where_key path_cmp (λ x. not (eq_by_cmp path_cmp k x)) es) (where_key path_cmp (λ x. not (eq_by_cmp path_cmp k x)) es) ≡ e ∷ es
    on true rest h = absurd (some_none e.1 h)
    on false rest h = ap (λ (l : BackRows). e ∷ l) (rest h)

pub set_row-piece : (q : List PathStep) (ids : Ids) (fs bs cs : BackRows) → all_before q fs ≡ true → below_all path_cmp q cs ≡ true
    → set_row q ids (fs ++ (bs ++ cs)) ≡ fs ++ (set_row q ids bs ++ cs)
set_row-piece q [] fs bs cs a b =
    let test : Entry → Bool = λ e. not (eq_by_cmp path_cmp q e.0) in
    filter-append test fs (bs ++ cs)
    ∙ ap (λ (r : BackRows). r ++ where_key path_cmp (λ x. not (eq_by_cmp path_cmp q x)) (bs ++ cs)) (keep_before q fs a)
    ∙ ap (λ (r : BackRows). fs ++ r) (filter-append test bs cs
    ∙ ap (λ (r : BackRows). where_key path_cmp (λ x. not (eq_by_cmp path_cmp q x)) bs ++ r) (keep_all q cs (is_true_T _ b)))
set_row-piece q (id ∷ ids) fs bs cs a b = put_piece path_cmp path_cmp_total q (id ∷ ids) fs bs cs a b

pub sorted-set_row : (q : List PathStep) (ids : Ids) (rows : BackRows) → is_sorted path_cmp rows ≡ true → is_sorted path_cmp (set_row q ids rows) ≡ true
sorted-set_row q [] rows s = sorted-removed q rows _ s refl
sorted-set_row q (id ∷ ids) rows s = sorted-put q (id ∷ ids) rows s

pub map_of-set_row : (q : List PathStep) (ids : Ids) (rows : BackRows) → is_sorted path_cmp rows ≡ true → from_sorted {R = path_cmp} (set_row q ids rows) ≡ with_row q ids (from_sorted rows)
map_of-set_row q [] rows s = map_of-removed q rows _ s refl
map_of-set_row q (id ∷ ids) rows s = map_of-put rows _ q (id ∷ ids) s (sorted-put q (id ∷ ids) rows s) refl

-- the row of a path is set on its part
pub set_row-on_part : {X : Type 0} (f : X → BackRows) (q : List PathStep) (ids : Ids) (ps : List X) (i : ℕ) (p : X) → IsPartFor f q ps i → p ≡ get_or ps i p
    → flat_map f (take i (remove_at ps i)) ++ (set_row q ids (f p) ++ flat_map f (drop i (remove_at ps i))) ≡ set_row q ids (flat_map f ps)
set_row-on_part {X} f q ids ps i p for is =
    ap (λ (qs : List X). flat_map f qs ++ (set_row q ids (f p) ++ flat_map f (drop i (remove_at ps i)))) (remove-front ps i for.within)
    ∙ ap (λ (qs : List X). flat_map f (take i ps) ++ (set_row q ids (f p) ++ flat_map f qs)) (remove-behind ps i for.within)
    ∙ sym (ap (set_row q ids) (parts-at f ps i p for.within is)
    ∙ set_row-piece q ids (flat_map f (take i ps)) (f p) (flat_map f (drop (suc i) ps)) for.before for.behind)

-- Rows of one shelf, as they are kept

map-insert : {X Y : Type 0} (f : X → Y) (xs : List X) (i : ℕ) (x : X) → map f (insert xs i x) ≡ insert (map f xs) i (f x)
map-insert f xs zero x = refl
map-insert f [] (suc i) x = refl
map-insert f (y ∷ xs) (suc i) x = ap (λ l. f y ∷ l) (map-insert f xs i x)

map-remove : {X Y : Type 0} (f : X → Y) (xs : List X) (i : ℕ) → map f (remove_at xs i) ≡ remove_at (map f xs) i
map-remove f [] zero = refl
map-remove f [] (suc i) = refl
map-remove f (x ∷ xs) zero = refl
map-remove f (x ∷ xs) (suc i) = ap (λ l. f x ∷ l) (map-remove f xs i)

pub set_row-here : (q : List PathStep) (ids : Ids) (rows new : Kept) (i : ℕ) (row : Arc Back Global) → 0 < length ids → is_sorted path_cmp (back_rows rows) ≡ true → IsRowOf q (back_rows rows) i
    → back_row row ≡ (q, ids) → new ≡ set rows i row → back_rows new ≡ set_row q ids (back_rows rows)
set_row-here q [] rows new i row l s is value e = absurd (omega arith)
set_row-here q (id ∷ ids) rows new i row l s is value e =
    ap back_rows e ∙ map-set back_row rows i row
    ∙ ap (λ (x : Entry). set (back_rows rows) i x) value ∙ set_split (back_rows rows) i (q, id ∷ ids) is.within
    ∙ sym (put_here path_cmp path_cmp_total q (id ∷ ids) (back_rows rows) i (is_true_T _ s) is.within is.here)

pub set_row-between : (q : List PathStep) (ids : Ids) (rows new : Kept) (i : ℕ) (row : Arc Back Global) → 0 < length ids → IsPlaceOf q (back_rows rows) i
    → back_row row ≡ (q, ids) → new ≡ insert rows i row → back_rows new ≡ set_row q ids (back_rows rows)
set_row-between q [] rows new i row l is value e = absurd (omega arith)
set_row-between q (id ∷ ids) rows new i row l is value e =
    ap back_rows e ∙ map-insert back_row rows i row
    ∙ ap (λ (x : Entry). insert (back_rows rows) i x) value
    ∙ sym (put_between path_cmp path_cmp_total q (id ∷ ids) (back_rows rows) i is.within is.before is.behind)

pub set_row-away : (q : List PathStep) (rows new : Kept) (i : ℕ) → is_sorted path_cmp (back_rows rows) ≡ true → IsRowOf q (back_rows rows) i
    → new ≡ remove_at rows i → back_rows new ≡ set_row q [] (back_rows rows)
set_row-away q rows new i s is e =
    ap back_rows e ∙ map-remove back_row rows i ∙ remove_here q (back_rows rows) i (is_true_T _ s) is.within is.here

pub set_row-absent : (q : List PathStep) (rows : Kept) (i : ℕ) → IsPlaceOf q (back_rows rows) i → back_rows rows ≡ set_row q [] (back_rows rows)
set_row-absent q rows i is = sym (keep_absent q (back_rows rows) (find-place q (back_rows rows) i is))

pub kept-at : (rows : Kept) (i : ℕ) (row : Arc Back Global) → i < length rows → row ≡ get_or rows i row → back_row row ≡ get_or (back_rows rows) i (back_row row)
kept-at rows i row l is = ap back_row is ∙ sym (get_or-map back_row rows i row (back_row row) l)

pub as_many : (rows : Kept) → length (back_rows rows) ≡ length rows
as_many rows = length-map rows back_row

pub back_rows-halves : (n : ℕ) (rows front behind : Kept) → front ≡ take n rows → behind ≡ drop n rows → back_rows front ++ back_rows behind ≡ back_rows rows
back_rows-halves n rows front behind f b =
    ap (λ (r : Kept). back_rows r ++ back_rows behind) f ∙ ap (λ (r : Kept). back_rows (take n rows) ++ back_rows r) b
    ∙ sym (map-append back_row (take n rows) (drop n rows)) ∙ ap back_rows (take-append-drop n rows)

-- Shelves

-- where there is a shelf, and each has a row, there is a row
pub some_row : (ps : Shelves) → HaveRows ps → 1 ≤ length (rows_on ps)
some_row [] is = absurd (omega (arith, is.some))
some_row (p ∷ ps) is =
    let first : 1 ≤ length (shelf_rows p) = is.full 0 p (omega arith) in
    simp length-append (omega (arith, first))

-- each rack that is full has a row
pub full-some : (racks : List (Arc Rack Global)) → AreFull racks → All (λ (rack : Arc Rack Global). 1 ≤ length (rack_rows rack)) racks
full-some racks full = λ k d l. some_row (rack_shelves (get_or racks k d)) (full k d l)

pub rows_on-halves : (n : ℕ) (shelves front behind : Shelves) → front ≡ take n shelves → behind ≡ drop n shelves → rows_on front ++ rows_on behind ≡ rows_on shelves
rows_on-halves n shelves front behind f b =
    ap (λ (r : Shelves). rows_on r ++ rows_on behind) f ∙ ap (λ (r : Shelves). rows_on (take n shelves) ++ rows_on r) b
    ∙ sym (flat_map-append shelf_rows (take n shelves) (drop n shelves)) ∙ ap rows_on (take-append-drop n shelves)

-- rows held by other owners
pub back_rows-values : (rows shared : Kept) → map arc_value shared ≡ map arc_value rows → back_rows shared ≡ back_rows rows
back_rows-values rows shared same =
    let row : Back → Entry = λ back. (back.path, back.ids) in
    sym (map-map row arc_value shared) ∙ ap (map row) same ∙ map-map row arc_value rows
