-- Marks of what moves and edits touch, and the rows that are made of them.
use Rattle.std.proofs.Common.{◌≡◌, ℕ, ◌+◌, ◌<◌, Bool, true, false, cond, not, T, ◌&&◌, ◌||◌, Bor, List, [], ◌∷◌, ◌++◌, length, take, get_or, is_some, Some, None, refl, sym, ap, subst, ◌∙◌, arith}
use Rattle.std.specs.declared.option.Option.{Option}
use Rattle.std.specs.declared.alloc.Global.{Global}
use Rattle.std.specs.Prelude.{Vec}
use Rattle.std.specs.declared.cmp.Ordering.{Ordering}
use Rattle.std.specs.declared.cmp.Ordering.TheVariants.{Less, Equal, Greater}
use Rattle.std.specs.Ordering.{eq_by_cmp, is_eq, is_lt, ordering_reverse}
use Rattle.std.specs.List.{filter, flat_map, list_any}
use Rattle.std.specs.List.Sorted.{ties, IsStableBy}
use Rattle.std.specs.Cmp.{IsStrictWeakOrder}
use Rattle.std.specs.Option.{option_map_or}
use Rattle.std.specs.FinMap.{find, put, is_sorted}
use Rattle.std.specs.FinMap.Entries.{below_all, find-put}
use Rattle.std.proofs.lemmas.List.{append-nil, get_or-map, length-append, length-map, take_more}
use Rattle.std.proofs.lemmas.List.Elements.{filter-append}
use Rattle.std.proofs.lemmas.List.Concat.{flat_map-append}
use Rattle.std.proofs.lemmas.List.Folds.{list_any-append}
use Rattle.std.proofs.lemmas.List.MinMax.{ranks_by}
use Rattle.orc_path.specs.Steps.{PathStep}
use Rattle.orc_path.specs.Order.{path_cmp}
use Rattle.orc_path.proofs.PathOrder.{path_cmp_total}
use Rattle.orc_path.proofs.ConfigurationLaws.{same_path}
use Rattle.orc_path.specs.declared.item.Item.{Item}
use Rattle.orc_call.specs.declared.call.Put.{Put}
use Rattle.orc_tree.specs.declared.change.Change.{Change}
use Rattle.orc_tree.proofs.InOrder.{is_true_T}
use Rattle.orc_tree.proofs.Maps.{sorted-put}
use Rattle.orc_change.specs.Differences.{has_item}
use Rattle.orc_refs.specs.declared.mark.Brought.{Brought}
use Rattle.orc_refs.specs.declared.mark.Mark.{Mark}
use Rattle.orc_refs.specs.declared.moves.Move.{Move}
use Rattle.orc_refs.specs.Moves.{BringWhole, count_moved, put_at, rows_in}
use Rattle.orc_refs.specs.inside.Marks.{AreRowsOf, IsEntered, KeepsOrder, LentRows, TouchedRows, all_are, all_marks, brings_at, brought_by, brought_in, brought_marks, by_path, change_marks, entered, first_of, is_at, marked, move_marks, one_brought, paths_in, read, read_one, shown, taken_marks}
use Rattle.orc_refs.specs.inside.Settling.{all_bring, brought, changed_path, changes_touch, enter_id, first_brought, has_path, moves_touch}

abbrev pub Marks : Type 0
Marks = List (List PathStep × List (List ℕ × Item))

-- What moves bring to a path

pub first_at : (ms : List Move) (p : List PathStep) → first_of (brings_at ms p) ≡ first_brought ms p
first_at [] p = refl
first_at (m ∷ ms) p = on (first_at ms p) (put_at m.new p)
  where
    on : first_of (brings_at ms p) ≡ first_brought ms p → (o : Option Item)
        → first_of (one_brought m.service o ++ brings_at ms p) ≡ elim o [ None ↦ first_brought ms p | Some item ↦ Some item ]
    on rest None = rest
    on rest (Some item) = refl

pub all_at : (ms : List Move) (p : List PathStep) (o : Option Item) → all_are (brings_at ms p) o ≡ all_bring ms p o
all_at [] p o = refl
all_at (m ∷ ms) p o = on (all_at ms p o) (put_at m.new p)
  where
    on : all_are (brings_at ms p) o ≡ all_bring ms p o → (x : Option Item)
        → all_are (one_brought m.service x ++ brings_at ms p) o ≡ elim x [ None ↦ all_bring ms p o | Some item ↦ cond (has_item o item) (all_bring ms p o) false ]
    on rest None = rest
    on rest (Some item) = ap (λ b. cond (has_item o item) b false) rest

pub entered_at : (ms : List Move) (p : List PathStep) (ids : List (List ℕ)) → entered (brings_at ms p) ids ≡ brought ms p ids
entered_at [] p ids = refl
entered_at (m ∷ ms) p ids = on (λ xs. entered_at ms p xs) (put_at m.new p)
  where
    on : ((xs : List (List ℕ)) → entered (brings_at ms p) xs ≡ brought ms p xs) → (o : Option Item)
        → entered (one_brought m.service o ++ brings_at ms p) ids ≡ elim o [ None ↦ brought ms p ids | Some item ↦ brought ms p (enter_id m.service ids) ]
    on rest None = rest ids
    on rest (Some item) = rest (enter_id m.service ids)

-- Marks at a path

by-append : (xs ys : Marks) (p : List PathStep) → brought_by (xs ++ ys) p ≡ brought_by xs p ++ brought_by ys p
by-append xs ys p = ap (flat_map (λ (m : List PathStep × List (List ℕ × Item)). m.1)) (filter-append (is_at p) xs ys) ∙ flat_map-append (λ (m : List PathStep × List (List ℕ × Item)). m.1) (filter (is_at p) xs) (filter (is_at p) ys)

by-taken : (puts : List Put) (p : List PathStep) → brought_by (taken_marks puts) p ≡ []
by-taken [] p = refl
by-taken (w ∷ ws) p = on (by-taken ws p) (eq_by_cmp path_cmp p w.path)
  where
    on : brought_by (taken_marks ws) p ≡ [] → (t : Bool) → flat_map (λ (m : List PathStep × List (List ℕ × Item)). m.1) (cond t ((w.path, []) ∷ filter (is_at p) (taken_marks ws)) (filter (is_at p) (taken_marks ws))) ≡ []
    on rest true = rest
    on rest false = rest

by-changes : (cs : List Change) (p : List PathStep) → brought_by (change_marks cs) p ≡ []
by-changes [] p = refl
by-changes (c ∷ cs) p = on (by-changes cs p) (eq_by_cmp path_cmp p (changed_path c))
  where
    on : brought_by (change_marks cs) p ≡ [] → (t : Bool) → flat_map (λ (m : List PathStep × List (List ℕ × Item)). m.1) (cond t ((changed_path c, []) ∷ filter (is_at p) (change_marks cs)) (filter (is_at p) (change_marks cs))) ≡ []
    on rest true = rest
    on rest false = rest

less_no : (o : Ordering) → T (is_lt o) → is_eq o ≡ false
less_no Less h = refl
less_no Equal h = absurd h
less_no Greater h = absurd h

first_both : (a b : Bool) → T (a && b) → T a
first_both true b h = tt
first_both false b h = h

second_both : (a b : Bool) → T (a && b) → T b
second_both true b h = h
second_both false b h = absurd h

by-behind : (id : List ℕ) (puts : List Put) (p : List PathStep) → T (below_all path_cmp p (rows_in puts)) → brought_by (brought_marks id puts) p ≡ []
by-behind id [] p h = refl
by-behind id (w ∷ ws) p h =
    ap (λ t. flat_map (λ (m : List PathStep × List (List ℕ × Item)). m.1) (cond t ((w.path, (id, w.item) ∷ []) ∷ filter (is_at p) (brought_marks id ws)) (filter (is_at p) (brought_marks id ws))))
    (less_no (path_cmp p w.path) (first_both (is_lt (path_cmp p w.path)) (below_all path_cmp p (rows_in ws)) h))
    ∙ by-behind id ws p (second_both (is_lt (path_cmp p w.path)) (below_all path_cmp p (rows_in ws)) h)

by-brought : (id : List ℕ) (puts : List Put) (p : List PathStep) → T (is_sorted path_cmp (rows_in puts)) → brought_by (brought_marks id puts) p ≡ one_brought id (put_at puts p)
by-brought id [] p s = refl
by-brought id (w ∷ ws) p s = on (by-brought id ws p (second_both (below_all path_cmp w.path (rows_in ws)) (is_sorted path_cmp (rows_in ws)) s)) (eq_by_cmp path_cmp p w.path) refl
  where
    on : brought_by (brought_marks id ws) p ≡ one_brought id (put_at ws p) → (t : Bool) → eq_by_cmp path_cmp p w.path ≡ t
        → flat_map (λ (m : List PathStep × List (List ℕ × Item)). m.1) (cond t ((w.path, (id, w.item) ∷ []) ∷ filter (is_at p) (brought_marks id ws)) (filter (is_at p) (brought_marks id ws)))
        ≡ one_brought id (cond t (Some w.item) (put_at ws p))
    on rest true is =
        ap (λ (bs : List (List ℕ × Item)). (id, w.item) ∷ bs)
        (by-behind id ws p (subst (λ (q : List PathStep). T (below_all path_cmp q (rows_in ws))) (sym (same_path p w.path is)) (first_both (below_all path_cmp w.path (rows_in ws)) (is_sorted path_cmp (rows_in ws)) s)))
    on rest false is = rest

by-moves : (ms : List Move) (p : List PathStep) → BringWhole ms → brought_by (flat_map move_marks ms) p ≡ brings_at ms p
by-moves [] p whole = refl
by-moves (m ∷ ms) p whole =
    by-append (move_marks m) (flat_map move_marks ms) p
    ∙ ap (λ bs. bs ++ brought_by (flat_map move_marks ms) p)
    (by-append (taken_marks m.old) (brought_marks m.service m.new) p
    ∙ ap (λ bs. bs ++ brought_by (brought_marks m.service m.new) p) (by-taken m.old p)
    ∙ by-brought m.service m.new p (is_true_T _ whole.0.sorted))
    ∙ ap (λ bs. one_brought m.service (put_at m.new p) ++ bs) (by-moves ms p whole.1)

pub by-all : (cs : List Change) (ms : List Move) (p : List PathStep) → BringWhole ms → brought_by (all_marks cs ms) p ≡ brings_at ms p
by-all cs ms p whole =
    by-append (change_marks cs) (flat_map move_marks ms) p
    ∙ ap (λ bs. bs ++ brought_by (flat_map move_marks ms) p) (by-changes cs p)
    ∙ by-moves ms p whole

marked-taken : (puts : List Put) (p : List PathStep) → marked (taken_marks puts) p ≡ has_path puts p
marked-taken [] p = refl
marked-taken (w ∷ ws) p = ap (λ b. eq_by_cmp path_cmp p w.path || b) (marked-taken ws p)

marked-brought : (id : List ℕ) (puts : List Put) (p : List PathStep) → marked (brought_marks id puts) p ≡ has_path puts p
marked-brought id [] p = refl
marked-brought id (w ∷ ws) p = ap (λ b. eq_by_cmp path_cmp p w.path || b) (marked-brought id ws p)

marked-changes : (cs : List Change) (p : List PathStep) → marked (change_marks cs) p ≡ changes_touch cs p
marked-changes [] p = refl
marked-changes (c ∷ cs) p = ap (λ b. eq_by_cmp path_cmp p (changed_path c) || b) (marked-changes cs p)

marked-moves : (ms : List Move) (p : List PathStep) → marked (flat_map move_marks ms) p ≡ moves_touch ms p
marked-moves [] p = refl
marked-moves (m ∷ ms) p =
    list_any-append (is_at p) (move_marks m) (flat_map move_marks ms)
    ∙ ap (λ b. b || marked (flat_map move_marks ms) p)
    (list_any-append (is_at p) (taken_marks m.old) (brought_marks m.service m.new)
    ∙ ap (λ b. b || marked (brought_marks m.service m.new) p) (marked-taken m.old p)
    ∙ ap (λ b. has_path m.old p || b) (marked-brought m.service m.new p))
    ∙ ap (λ b. (has_path m.old p || has_path m.new p) || b) (marked-moves ms p)

pub marked-all : (cs : List Change) (ms : List Move) (p : List PathStep) → marked (all_marks cs ms) p ≡ (changes_touch cs p || moves_touch ms p)
marked-all cs ms p =
    list_any-append (is_at p) (change_marks cs) (flat_map move_marks ms)
    ∙ ap (λ b. b || marked (flat_map move_marks ms) p) (marked-changes cs p)
    ∙ ap (λ b. changes_touch cs p || b) (marked-moves ms p)

length-moves : (ms : List Move) → length (flat_map move_marks ms) ≡ count_moved ms
length-moves [] = refl
length-moves (m ∷ ms) =
    let one : length (flat_map move_marks (m ∷ ms)) ≡ length (move_marks m) + length (flat_map move_marks ms) = length-append (move_marks m) (flat_map move_marks ms) in
    let two : length (move_marks m) ≡ length (taken_marks m.old) + length (brought_marks m.service m.new) = length-append (taken_marks m.old) (brought_marks m.service m.new) in
    let old : length (taken_marks m.old) ≡ length m.old = length-map m.old _ in
    let new : length (brought_marks m.service m.new) ≡ length m.new = length-map m.new _ in
    omega (arith, one, two, old, new, length-moves ms)

pub length-all : (cs : List Change) (ms : List Move) → length (all_marks cs ms) ≡ count_moved ms + length cs
length-all cs ms =
    let one : length (all_marks cs ms) ≡ length (change_marks cs) + length (flat_map move_marks ms) = length-append (change_marks cs) (flat_map move_marks ms) in
    let two : length (change_marks cs) ≡ length cs = length-map cs _ in
    omega (arith, one, two, length-moves ms)

-- Marks in another order

abbrev is_full : {X : Type 0} → List X → Bool
is_full [] = false
is_full (x ∷ xs) = true

any_full : {X : Type 0} (p : X → Bool) (xs : List X) → list_any p xs ≡ is_full (filter p xs)
any_full p [] = refl
any_full p (x ∷ xs) = elim (p x) as (λ b. (b || list_any p xs) ≡ is_full (cond b (x ∷ filter p xs) (filter p xs))) [ true ↦ refl | false ↦ any_full p xs ]

pub marked-kept : (xs ys : Marks) (p : List PathStep) → KeepsOrder xs ys → marked ys p ≡ marked xs p
marked-kept xs ys p same = any_full (is_at p) ys ∙ ap is_full (same p) ∙ sym (any_full (is_at p) xs)

pub by-kept : (xs ys : Marks) (p : List PathStep) → KeepsOrder xs ys → brought_by ys p ≡ brought_by xs p
by-kept xs ys p same = ap (flat_map (λ (m : List PathStep × List (List ℕ × Item)). m.1)) (same p)

tied : (o : Ordering) → (not (is_lt o) && not (is_lt (ordering_reverse o))) ≡ is_eq o
tied Less = refl
tied Equal = refl
tied Greater = refl

-- the order of marks by their paths
abbrev pub is_before : Mark → Mark → Bool
is_before one other = is_lt (path_cmp one.path.now other.path.now)

pub is_before_ranks : IsStrictWeakOrder is_before
is_before_ranks = ranks_by path_cmp_total (λ (m : Mark). m.path.now)

ties_are : (x y : Mark) → ties is_before x y ≡ is_at x.path.now (read_one y)
ties_are x y = ap (λ r. not (is_before x y) && not (is_lt r)) (path_cmp_total.antisymm y.path.now x.path.now) ∙ tied (path_cmp x.path.now y.path.now)

filter_alike : {X : Type 0} (p r : X → Bool) → ((x : X) → p x ≡ r x) → (xs : List X) → filter p xs ≡ filter r xs
filter_alike p r alike [] = refl
filter_alike p r alike (x ∷ xs) = ap (λ t. cond t (x ∷ filter p xs) (filter p xs)) (alike x) ∙ ap (λ zs. cond (r x) (x ∷ zs) zs) (filter_alike p r alike xs)

filter-read : (p : List PathStep × List (List ℕ × Item) → Bool) (xs : List Mark) → filter p (read xs) ≡ read (filter (λ x. p (read_one x)) xs)
filter-read p [] = refl
filter-read p (x ∷ xs) = ap (λ zs. cond (p (read_one x)) (read_one x ∷ zs) zs) (filter-read p xs) ∙ on (p (read_one x))
  where
    on : (t : Bool) → cond t (read_one x ∷ read (filter (λ x. p (read_one x)) xs)) (read (filter (λ x. p (read_one x)) xs)) ≡ read (cond t (x ∷ filter (λ x. p (read_one x)) xs) (filter (λ x. p (read_one x)) xs))
    on true = refl
    on false = refl

-- a stable sort by the paths keeps the order of those at one path
pub sorted-keeps : (xs ys : List Mark) → IsStableBy is_before xs ys → KeepsOrder (read xs) (read ys)
sorted-keeps xs ys stable q =
    let path : Bor (List PathStep) = record { ref_ptr = (0, 0); now = q } in
    let here : Mark = record { path = path; brought = None } in
    let alike : (x : Mark) → is_at q (read_one x) ≡ ties is_before here x = λ x. sym (ties_are here x) in
    filter-read (is_at q) ys
    ∙ ap read (filter_alike _ _ alike ys ∙ stable here ∙ sym (filter_alike _ _ alike xs))
    ∙ sym (filter-read (is_at q) xs)

-- Rows

in_put : (p q : List PathStep) (list : Vec Brought Global) (rows : TouchedRows)
    → brought_in (put path_cmp q list rows) p ≡ cond (eq_by_cmp path_cmp p q) (shown list.items) (brought_in rows p)
in_put p q list rows =
    ap (λ (o : Option (Vec Brought Global)). option_map_or (λ (l : Vec Brought Global). shown l.items) o []) (find-put path_cmp path_cmp_total p q list rows)
    ∙ elim (eq_by_cmp path_cmp p q) as (λ t. option_map_or (λ (l : Vec Brought Global). shown l.items) (cond t (Some list) (find path_cmp p rows)) [] ≡ cond t (shown list.items) (brought_in rows p)) [ true ↦ refl | false ↦ refl ]

-- what is brought by a mark stands after what was there
pub entered_row : (mark : List PathStep × List (List ℕ × Item)) (old new : TouchedRows) (list : Vec Brought Global) → is_sorted path_cmp old ≡ true → new ≡ put path_cmp mark.0 list old
    → shown list.items ≡ brought_in old mark.0 ++ mark.1 → IsEntered mark old new
entered_row mark old new list s is added = record {
  sorted = subst (λ (r : TouchedRows). is_sorted path_cmp r ≡ true) (sym is) (sorted-put mark.0 list old s);
  paths = λ p. ap (λ (r : TouchedRows). is_some (find path_cmp p r)) is ∙ ap is_some (find-put path_cmp path_cmp_total p mark.0 list old) ∙ some (eq_by_cmp path_cmp p mark.0) (find path_cmp p old);
  given = λ p. ap (λ (r : TouchedRows). brought_in r p) is ∙ in_put p mark.0 list old ∙ at p (is_at p mark) refl;
}
  where
    some : (t : Bool) (o : Option (Vec Brought Global)) → is_some (cond t (Some list) o) ≡ (is_some o || t)
    some true None = refl
    some true (Some x) = refl
    some false None = refl
    some false (Some x) = refl

    at : (p : List PathStep) (t : Bool) → is_at p mark ≡ t → cond t (shown list.items) (brought_in old p) ≡ brought_in old p ++ cond t mark.1 []
    at p true e = added ∙ ap (λ (q : List PathStep). brought_in old q ++ mark.1) (sym (same_path p mark.0 e))
    at p false e = sym (append-nil (brought_in old p))

pub no_rows : AreRowsOf [] []
no_rows = record { sorted = refl; paths = λ p. refl; given = λ p. refl }

-- a mark more
pub rows_more : (marks : Marks) (mark : List PathStep × List (List ℕ × Item)) (old new : TouchedRows) → AreRowsOf marks old → IsEntered mark old new → AreRowsOf (marks ++ mark ∷ []) new
rows_more marks mark old new rows more = record {
  sorted = more.sorted;
  paths = λ p. more.paths p ∙ ap (λ b. b || is_at p mark) (rows.paths p) ∙ one p (is_at p mark) refl;
  given = λ p. more.given p ∙ ap (λ (bs : List (List ℕ × Item)). bs ++ cond (is_at p mark) mark.1 []) (rows.given p) ∙ sym (by-append marks (mark ∷ []) p ∙ ap (λ (bs : List (List ℕ × Item)). brought_by marks p ++ bs) (alone p (is_at p mark)));
}
  where
    one : (p : List PathStep) (t : Bool) → is_at p mark ≡ t → (marked marks p || t) ≡ marked (marks ++ mark ∷ []) p
    one p t e = sym (list_any-append (is_at p) marks (mark ∷ []) ∙ ap (λ b. marked marks p || b) (ap (λ b. b || false) e ∙ right t))
      where
        right : (b : Bool) → (b || false) ≡ b
        right true = refl
        right false = refl

    alone : (p : List PathStep) (t : Bool) → flat_map (λ (m : List PathStep × List (List ℕ × Item)). m.1) (cond t (mark ∷ []) []) ≡ cond t mark.1 []
    alone p true = append-nil mark.1
    alone p false = refl

-- The paths of rows

below-paths : (p : List PathStep) (rows : LentRows) → below_all path_cmp p (paths_in rows) ≡ below_all path_cmp p (by_path rows)
below-paths p [] = refl
below-paths p (row ∷ rows) = ap (λ b. is_lt (path_cmp p row.0.now) && b) (below-paths p rows)

pub sorted-paths : (rows : LentRows) → is_sorted path_cmp (paths_in rows) ≡ is_sorted path_cmp (by_path rows)
sorted-paths [] = refl
sorted-paths (row ∷ rows) = ap (λ b. b && is_sorted path_cmp (paths_in rows)) (below-paths row.0.now rows) ∙ ap (λ b. below_all path_cmp row.0.now (by_path rows) && b) (sorted-paths rows)

pub some-paths : (p : List PathStep) (rows : LentRows) → is_some (find path_cmp p (paths_in rows)) ≡ is_some (find path_cmp p (by_path rows))
some-paths p [] = refl
some-paths p (row ∷ rows) = on (some-paths p rows) (eq_by_cmp path_cmp p row.0.now)
  where
    on : is_some (find path_cmp p (paths_in rows)) ≡ is_some (find path_cmp p (by_path rows)) → (t : Bool) → is_some (cond t (Some tt) (find path_cmp p (paths_in rows))) ≡ is_some (cond t (Some row.1) (find path_cmp p (by_path rows)))
    on rest true = refl
    on rest false = rest

pub length-paths : (rows : LentRows) → length (paths_in rows) ≡ length rows
length-paths rows = length-map rows _

-- the path of a row
pub path_here : (rows : LentRows) (i : ℕ) (row : Bor (List PathStep) × Vec Brought Global) → i < length rows → row ≡ get_or rows i row → ◌≡◌ {A = List PathStep × Unit {0}} (row.0.now, tt) (get_or (paths_in rows) i (row.0.now, tt))
path_here rows i row l is =
    ap (λ (r : Bor (List PathStep) × Vec Brought Global). (r.0.now, tt)) is ∙ sym (get_or-map (λ (r : Bor (List PathStep) × Vec Brought Global). (r.0.now, tt)) rows i row (row.0.now, tt) l)

pub read_more : (marks : List Mark) (i : ℕ) (mark : Mark) → i < length marks → mark ≡ get_or marks i mark → read (take (i + 1) marks) ≡ read (take i marks) ++ read_one mark ∷ []
read_more marks i mark l is = ap read (take_more marks i mark l) ∙ behind (take i marks) ∙ ap (λ (m : Mark). read (take i marks) ++ read_one m ∷ []) (sym is)
  where
    behind : (xs : List Mark) → read (xs ++ get_or marks i mark ∷ []) ≡ read xs ++ read_one (get_or marks i mark) ∷ []
    behind [] = refl
    behind (x ∷ xs) = ap (λ ys. read_one x ∷ ys) (behind xs)
