-- Rows of back pointers.
use Rattle.std.proofs.Common.{◌≡◌, ℕ, zero, suc, ◌<◌, true, false, cond, not, T, List, [], ◌∷◌, length, get_or, Some, None, refl, sym, ap, subst, ◌∙◌, arith}
use Rattle.std.specs.declared.cmp.Ordering.TheVariants.{Less}
use Rattle.std.specs.Ordering.{eq_by_cmp, is_eq, is_lt, ordering_reverse}
use Rattle.std.specs.Cmp.{eq_by_cmp_equiv}
use Rattle.std.specs.List.{remove as remove_at}
use Rattle.std.specs.FinMap.Entries.{where_key, below_all, is_sorted-where_key, find-where_key, find-put}
use Rattle.std.proofs.lemmas.Bool.{false≢true, cond-true, cond-false}
use Rattle.std.specs.Prelude.{◌==◌}
use Rattle.std.proofs.lemmas.Map.Views.{exact_unsigned_eq}
use Rattle.std.specs.declared.option.Option.{Option}
use Rattle.std.specs.Option.{option_map, option_map_or}
use Rattle.std.specs.FinMap.{get, insert, remove, from_sorted, find, put, is_sorted, get-from_sorted, get-insert, get-remove, same_map}
use Rattle.std.proofs.lemmas.Option.{slice_get_read}
use Rattle.orc_path.specs.Steps.{PathStep}
use Rattle.orc_path.specs.Order.{path_cmp}
use Rattle.orc_path.proofs.Bools.{first_of_both, second_of_both, not_cond}
use Rattle.orc_path.proofs.PathOrder.{path_cmp_total, path_cmp_exact}
use Rattle.orc_tree.specs.Rows.{IsRowOf, IsPlaceOf}
use Rattle.orc_tree.proofs.Answered.{find-row, find-place}
use Rattle.orc_tree.proofs.InOrder.{is_less, below_at, is_true_T, T_is_true}
use Rattle.orc_path.proofs.ConfigurationLaws.{path_ties}

abbrev pub BackRows : Type 0
BackRows = List (List PathStep × List (List ℕ))

pub get-rows : (rows : BackRows) (q : List PathStep) → is_sorted path_cmp rows ≡ true → get (from_sorted {R = path_cmp} rows) q ≡ find path_cmp q rows
get-rows rows q s = get-from_sorted path_cmp rows q (is_true_T _ s)

-- the row of a path has its back pointers
pub get-row : (rows : BackRows) (q : List PathStep) (i : ℕ) (row : List PathStep × List (List ℕ)) → is_sorted path_cmp rows ≡ true → IsRowOf q rows i → row ≡ get_or rows i row
    → get (from_sorted {R = path_cmp} rows) q ≡ Some row.1
get-row rows q i row s is read =
    get-rows rows q s ∙ find-row q rows i s is
    ∙ ap (option_map (λ (e : List PathStep × List (List ℕ)). e.1)) (slice_get_read rows _ i row refl is.within read)

-- a path without a row has none
pub get-no_row : (rows : BackRows) (q : List PathStep) (i : ℕ) → is_sorted path_cmp rows ≡ true → IsPlaceOf q rows i → get (from_sorted {R = path_cmp} rows) q ≡ None
get-no_row rows q i s is = get-rows rows q s ∙ find-place q rows i is

pub ids-some : (o : Option (List (List ℕ))) (ids : List (List ℕ)) → o ≡ Some ids → option_map_or (λ (x : List (List ℕ)). x) o [] ≡ ids
ids-some o ids e = ap (λ (o : Option (List (List ℕ))). option_map_or (λ (x : List (List ℕ)). x) o []) e

pub ids-none : (o : Option (List (List ℕ))) → o ≡ None → option_map_or (λ (x : List (List ℕ)). x) o [] ≡ []
ids-none o e = ap (λ (o : Option (List (List ℕ))). option_map_or (λ (x : List (List ℕ)). x) o []) e

-- Edits of rows

differs_from : (k : List PathStep) (e : List PathStep × List (List ℕ)) → path_cmp k e.0 ≡ Less → not (eq_by_cmp path_cmp k e.0) ≡ true
differs_from k e l = ap (λ o. not (is_eq o)) l

pub keep_all : (k : List PathStep) (es : BackRows) → T (below_all path_cmp k es) → where_key path_cmp (λ x. not (eq_by_cmp path_cmp k x)) es ≡ es
keep_all k [] h = refl
keep_all k (e ∷ es) h =
    cond-true _ _ _ (differs_from k e (is_less (path_cmp k e.0) (first_of_both (is_lt (path_cmp k e.0)) (below_all path_cmp k es) h)))
    ∙ ap (λ l. e ∷ l) (keep_all k es (second_of_both (is_lt (path_cmp k e.0)) (below_all path_cmp k es) h))

-- the rows without the one of a path
pub remove_here : (q : List PathStep) (es : BackRows) (i : ℕ) → T (is_sorted path_cmp es) → i < length es → ((d : List PathStep × List (List ℕ)) → (get_or es i d).0 ≡ q)
    → remove_at es i ≡ where_key path_cmp (λ x. not (eq_by_cmp path_cmp q x)) es
remove_here q [] i h l here = absurd (omega arith)
remove_here q (e ∷ es) zero h l here =
    let below = first_of_both (below_all path_cmp e.0 es) (is_sorted path_cmp es) h in
    sym (cond-false _ _ _ (ap not (path_ties q e.0 (sym (here e)))) ∙ keep_all q es (subst (λ (x : List PathStep). T (below_all path_cmp x es)) (here e) below))
remove_here q (e ∷ es) (suc i) h l here =
    let below = first_of_both (below_all path_cmp e.0 es) (is_sorted path_cmp es) h in
    let later : path_cmp e.0 q ≡ Less = subst (λ (x : List PathStep). path_cmp e.0 x ≡ Less) (here e) (below_at path_cmp path_cmp_total e.0 es below i e (omega arith)) in
    let other : not (eq_by_cmp path_cmp q e.0) ≡ true = ap (λ o. not (is_eq o)) (path_cmp_total.antisymm q e.0 ∙ ap ordering_reverse later) in
    ap (λ l. e ∷ l) (remove_here q es i (second_of_both (below_all path_cmp e.0 es) (is_sorted path_cmp es) h) (omega arith) here) ∙ sym (cond-true _ _ _ other)

pub sorted-removed : (q : List PathStep) (rows new : BackRows) → is_sorted path_cmp rows ≡ true → new ≡ where_key path_cmp (λ x. not (eq_by_cmp path_cmp q x)) rows → is_sorted path_cmp new ≡ true
sorted-removed q rows new s e =
    subst (λ (r : BackRows). is_sorted path_cmp r ≡ true) (sym e) (T_is_true _ (is_sorted-where_key path_cmp (λ x. not (eq_by_cmp path_cmp q x)) rows (is_true_T _ s)))

pub map_of-removed : (q : List PathStep) (rows new : BackRows) → is_sorted path_cmp rows ≡ true → new ≡ where_key path_cmp (λ x. not (eq_by_cmp path_cmp q x)) rows
    → from_sorted {R = path_cmp} new ≡ remove (from_sorted rows) q
map_of-removed q rows new s e = same_map path_cmp_total path_cmp_exact _ _ (λ p.
    get-rows new p (sorted-removed q rows new s e) ∙ ap (find path_cmp p) e
    ∙ find-where_key path_cmp (λ x. not (eq_by_cmp path_cmp q x)) p (λ x t. ap (λ y. not (eq_by_cmp path_cmp q y)) (sym (path_cmp_exact p x t))) rows
    ∙ not_cond (eq_by_cmp path_cmp q p) _ _
    ∙ ap (λ b. cond b None (find path_cmp p rows)) ((eq_by_cmp_equiv path_cmp_total).symm q p)
    ∙ ap (λ o. cond (eq_by_cmp path_cmp p q) None o) (sym (get-rows rows p s))
    ∙ sym (get-remove path_cmp_total (from_sorted rows) q p))

pub map_of-put : (rows new : BackRows) (q : List PathStep) (ids : List (List ℕ)) → is_sorted path_cmp rows ≡ true → is_sorted path_cmp new ≡ true
    → new ≡ put path_cmp q ids rows → from_sorted {R = path_cmp} new ≡ insert (from_sorted rows) q ids
map_of-put rows new q ids s t e =
    same_map path_cmp_total path_cmp_exact _ _ (λ p.
    get-rows new p t ∙ ap (find path_cmp p) e ∙ find-put path_cmp path_cmp_total p q ids rows
    ∙ ap (cond (eq_by_cmp path_cmp p q) (Some ids)) (sym (get-rows rows p s))
    ∙ sym (get-insert path_cmp_total (from_sorted rows) q ids p))

-- no ids are the empty list
pub no_id : (ids : List (List ℕ)) → (length ids == 0) ≡ true → ids ≡ []
no_id [] e = refl
no_id (id ∷ ids) e = absurd (omega (arith, exact_unsigned_eq (length (id ∷ ids)) 0 e))

pub some_id : (ids : List (List ℕ)) → (length ids == 0) ≡ false → 0 < length ids
some_id [] e = absurd (false≢true (sym e))
some_id (id ∷ ids) e = omega arith
