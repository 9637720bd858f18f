-- The entries of a list, and where they stand among rows in path order.
use Rattle.std.proofs.Common.{◌≡◌, ℕ, ◌<◌, ◌≤◌, Bool, true, false, not, ◌&&◌, cond, List, [], ◌∷◌, ◌++◌, length, map, Some, refl, sym, ap, subst, ◌∙◌, arith, nat_eq, nat_lt}
use Rattle.std.specs.Option.{option_map_or}
use Rattle.std.specs.List.{slice_get, filter}
use Rattle.std.specs.Ordering.{is_gt, is_lt, ordering_then, ordering_reverse}
use Rattle.std.specs.declared.cmp.Ordering.{Ordering}
use Rattle.std.specs.declared.cmp.Ordering.TheVariants.{Less, Equal, Greater}
use Rattle.std.specs.Cmp.{tied_itself}
use Rattle.std.specs.Cmp.Lexicographic.{pointwise, slice_cmp, bytes_decides, nat_list_cmp_total}
use Rattle.std.specs.FinMap.Entries.{below_all}
use Rattle.std.specs.FinMap.{is_sorted, nat_cmp-IsAntisymmetric, slice_cmp-IsAntisymmetric}
use Rattle.std.proofs.lemmas.Bool.{not-true, false≢true, and_parts, and_from, both_ways}
use Rattle.std.proofs.lemmas.List.{map-append, length-append}
use Rattle.std.proofs.lemmas.List.Elements.{filter-append}
use Rattle.orc_path.specs.Steps.{PathStep, has_keys, ends_in_keys}
use Rattle.orc_path.specs.Order.{path_cmp, step_cmp, text_cmp, step_eq, is_prefix}
use Rattle.orc_path.proofs.PathOrder.{path_cmp_exact, step_cmp_total}
use Rattle.orc_path.specs.Configurations.{list_of, is_entry_of}
use Rattle.orc_path.proofs.ConfigurationLaws.{is_entry_of_decides, length-list_of}
use Rattle.orc_path.specs.declared.item.Item.{Item}
use Rattle.orc_tree.specs.inside.Places.{above_all}
use Rattle.orc_tree.specs.inside.Lists.{is_under, is_past, entries_of}
use Rattle.orc_path.proofs.Equality.{step_eq_decides}
use Rattle.orc_tree.proofs.Pieces.{lt_is}
use Rattle.orc_tree.proofs.Maps.{Rows}

not_true : (b : Bool) → (b ≡ true → ⊥) → b ≡ false
not_true true f = absurd (f refl)
not_true false f = refl

same_head : {X : Type 0} (x y : X) (xs ys : List X) → x ∷ xs ≡ y ∷ ys → x ≡ y
same_head x y xs ys e = cc

same_tail : {X : Type 0} (x y : X) (xs ys : List X) → x ∷ xs ≡ y ∷ ys → xs ≡ ys
same_tail x y xs ys e = cc

no_push : {X : Type 0} (xs : List X) (x : X) → [] ≡ xs ++ x ∷ [] → ⊥
no_push xs x e = omega (arith, ap length e, length-append xs (x ∷ []))

-- Going on from the first steps

and_assoc : (a b c : Bool) → (a && (b && c)) ≡ ((a && b) && c)
and_assoc true b c = refl
and_assoc false b c = refl

pub is_under-parts : (front : List PathStep) (name : List ℕ) (p : List PathStep)
    → is_under front name p ≡ (is_prefix front p && option_map_or (λ (t : PathStep). pointwise nat_eq t.node name) (slice_get p (length front)) false)
is_under-parts [] name [] = refl
is_under-parts [] name (t ∷ ts) = refl
is_under-parts (s ∷ ss) name [] = refl
is_under-parts (s ∷ ss) name (t ∷ ts) =
    ap (λ b. step_eq s t && b) (is_under-parts ss name ts) ∙ and_assoc (step_eq s t) (is_prefix ss ts) _

pub is_under-longer : (front : List PathStep) (name : List ℕ) (p : List PathStep) → is_under front name p ≡ true → length front < length p
is_under-longer front name [] h = absurd (false≢true (sym (nothing front name) ∙ h))
  where
    nothing : (front : List PathStep) (name : List ℕ) → is_under front name [] ≡ false
    nothing [] name = refl
    nothing (s ∷ ss) name = refl
is_under-longer [] name (t ∷ ts) h = omega arith
is_under-longer (s ∷ ss) name (t ∷ ts) h = omega (arith, is_under-longer ss name ts (and_parts (step_eq s t) (is_under ss name ts) h).1)

pub is_under-short : (front : List PathStep) (name : List ℕ) (p : List PathStep) → length p ≤ length front → is_under front name p ≡ false
is_under-short front name p l = not_true _ (λ h. omega (arith, is_under-longer front name p h))

pub is_under-at : (front : List PathStep) (name : List ℕ) (p : List PathStep) (t : PathStep) → slice_get p (length front) ≡ Some t
    → is_under front name p ≡ (is_prefix front p && pointwise nat_eq t.node name)
is_under-at front name p t e = is_under-parts front name p ∙ ap (λ o. is_prefix front p && option_map_or (λ (t : PathStep). pointwise nat_eq t.node name) o false) e

under_list : (front : List PathStep) (last : PathStep) (p : List PathStep) → list_of p ≡ front ++ last ∷ [] → is_under front last.node p ≡ true
under_list front last [] e = absurd (no_push front last e)
under_list [] last (t ∷ []) e = (bytes_decides t.node last.node).1 (ap (λ (s : PathStep). s.node) (same_head _ _ _ _ e))
under_list [] last (t ∷ u ∷ us) e = (bytes_decides t.node last.node).1 (ap (λ (s : PathStep). s.node) (same_head _ _ _ _ e))
under_list (s ∷ ss) last (t ∷ []) e = absurd (no_push ss last (same_tail _ _ _ _ e))
under_list (s ∷ ss) last (t ∷ u ∷ us) e =
    and_from _ _ ((step_eq_decides s t).1 (sym (same_head _ _ _ _ e))) (under_list ss last (u ∷ us) (same_tail _ _ _ _ e))

pub entry_under : (front : List PathStep) (last : PathStep) (p : List PathStep) → is_entry_of (front ++ last ∷ []) p ≡ true → is_under front last.node p ≡ true
entry_under front last p h = under_list front last p ((is_entry_of_decides (front ++ last ∷ []) p).0 h).1

-- a list's path ends without keys, and is not the root
pub list_has_no_keys : (front : List PathStep) (last : PathStep) (p : List PathStep) → list_of p ≡ front ++ last ∷ [] → last.keys ≡ []
list_has_no_keys front last [] e = absurd (no_push front last e)
list_has_no_keys [] last (t ∷ []) e = ap (λ (s : PathStep). s.keys) (sym (same_head _ _ _ _ e))
list_has_no_keys [] last (t ∷ u ∷ us) e = absurd (omega (arith, ap length e, length-list_of (u ∷ us)))
list_has_no_keys (s ∷ ss) last (t ∷ []) e = absurd (no_push ss last (same_tail _ _ _ _ e))
list_has_no_keys (s ∷ ss) last (t ∷ u ∷ us) e = list_has_no_keys ss last (u ∷ us) (same_tail _ _ _ _ e)

pub no_entry-keyed : (front : List PathStep) (last : PathStep) (p : List PathStep) → 0 < length last.keys → is_entry_of (front ++ last ∷ []) p ≡ false
no_entry-keyed front last p l = not_true _ (λ h.
    omega (arith, ap length (list_has_no_keys front last p ((is_entry_of_decides (front ++ last ∷ []) p).0 h).1)))

pub no_entry-root : (p : List PathStep) → is_entry_of [] p ≡ false
no_entry-root [] = refl
no_entry-root (t ∷ ts) = not_true _ (λ h. omega (arith, ap length ((is_entry_of_decides [] (t ∷ ts)).0 h).1, length-list_of (t ∷ ts)))

-- Their places

pub then_equal : (a b : Ordering) → a ≡ Equal → ordering_then a b ≡ b
then_equal a b e = ap (λ o. ordering_then o b) e

step_before_keys : (s : PathStep) → has_keys s ≡ true → step_cmp (record { node = s.node; keys = [] }) s ≡ Less
step_before_keys s h = then_equal _ _ (tied_itself nat_list_cmp_total s.node) ∙ keyed s.keys h
  where
    keyed : (keys : List (List ℕ)) → nat_lt 0 (length keys) ≡ true → slice_cmp text_cmp [] keys ≡ Less
    keyed [] h = absurd (false≢true h)
    keyed (k ∷ ks) h = refl

list_before : (p : List PathStep) → ends_in_keys p ≡ true → path_cmp (list_of p) p ≡ Less
list_before [] h = absurd (false≢true h)
list_before (s ∷ []) h = ap (λ o. ordering_then o Equal) (step_before_keys s h)
list_before (s ∷ t ∷ ss) h = then_equal _ _ (tied_itself step_cmp_total s) ∙ list_before (t ∷ ss) h

-- an entry of a list stands after the list's path
pub entry_behind : (list p : List PathStep) → is_entry_of list p ≡ true → path_cmp list p ≡ Less
entry_behind list p h =
    let is = (is_entry_of_decides list p).0 h in
    ap (λ (q : List PathStep). path_cmp q p) (sym is.1) ∙ list_before p is.0

pub then_up_to : (a b : Ordering) → is_gt (ordering_then a b) ≡ false → is_gt a ≡ false
then_up_to Less b h = refl
then_up_to Equal b h = refl
then_up_to Greater b h = h

both_up_to : (o : Ordering) → is_gt o ≡ false → is_gt (ordering_reverse o) ≡ false → o ≡ Equal
both_up_to Less h k = absurd (false≢true (sym k))
both_up_to Equal h k = refl
both_up_to Greater h k = absurd (false≢true (sym h))

same_text : (x y : List ℕ) → is_gt (text_cmp x y) ≡ false → is_gt (text_cmp y x) ≡ false → x ≡ y
same_text x y h k =
    slice_cmp-IsAntisymmetric nat_cmp-IsAntisymmetric x y (both_up_to (text_cmp x y) h (sym (ap is_gt (nat_list_cmp_total.antisymm y x)) ∙ k))

pub same_step : (s t : PathStep) → is_gt (step_cmp s t) ≡ false → is_gt (step_cmp t s) ≡ false → s ≡ t
same_step s t h k =
    same_head s t [] [] (path_cmp_exact (s ∷ []) (t ∷ []) (then_equal _ _ (both_up_to (step_cmp s t) h (sym (ap is_gt (step_cmp_total.antisymm t s)) ∙ k))))

-- between the list's path and a path that goes on so, each path goes on so
pub under_between : (front : List PathStep) (last : PathStep) (r q : List PathStep) → is_gt (path_cmp (front ++ last ∷ []) r) ≡ false → is_gt (path_cmp r q) ≡ false
    → is_under front last.node q ≡ true → is_under front last.node r ≡ true
under_between [] last [] q a b h = absurd (false≢true (sym a))
under_between (s ∷ ss) last [] q a b h = absurd (false≢true (sym a))
under_between front last (t ∷ ts) [] a b h = absurd (false≢true (sym b))
under_between [] last (t ∷ ts) (u ∷ us) a b h =
    let name : u.node ≡ last.node = (bytes_decides u.node last.node).0 h in
    let up : is_gt (text_cmp last.node t.node) ≡ false = then_up_to _ _ (then_up_to _ _ a) in
    let down : is_gt (text_cmp t.node last.node) ≡ false = subst (λ n. is_gt (text_cmp t.node n) ≡ false) name (then_up_to _ _ (then_up_to _ _ b)) in
    (bytes_decides t.node last.node).1 (same_text t.node last.node down up)
under_between (s ∷ ss) last (t ∷ ts) (u ∷ us) a b h =
    let parts = and_parts (step_eq s u) (is_under ss last.node us) h in
    let is : s ≡ u = (step_eq_decides s u).0 parts.0 in
    let down : is_gt (step_cmp t s) ≡ false = subst (λ (x : PathStep). is_gt (step_cmp t x) ≡ false) (sym is) (then_up_to _ _ b) in
    let same : s ≡ t = same_step s t (then_up_to _ _ a) down in
    let level : step_cmp s t ≡ Equal = subst (λ (x : PathStep). step_cmp s x ≡ Equal) same (tied_itself step_cmp_total s) in
    let level_on : step_cmp t u ≡ Equal = subst (λ (x : PathStep). step_cmp x u ≡ Equal) same (subst (λ (x : PathStep). step_cmp s x ≡ Equal) is (tied_itself step_cmp_total s)) in
    and_from _ _ ((step_eq_decides s t).1 same)
    (under_between ss last ts us (sym (ap is_gt (then_equal _ _ level)) ∙ a) (sym (ap is_gt (then_equal _ _ level_on)) ∙ b) parts.1)

-- The entries among rows

pub entries_of-other : (list : List PathStep) (row : List PathStep × Item) (rows : Rows) → is_entry_of list row.0 ≡ false → entries_of list (row ∷ rows) ≡ entries_of list rows
entries_of-other list row rows e = ap (λ b. cond b (row.0 ∷ entries_of list rows) (entries_of list rows)) e

pub entries_of-append : (list : List PathStep) (xs ys : Rows) → entries_of list (xs ++ ys) ≡ entries_of list xs ++ entries_of list ys
entries_of-append list xs ys =
    ap (filter (is_entry_of list)) (map-append (λ (row : List PathStep × Item). row.0) xs ys) ∙ filter-append (is_entry_of list) (map (λ (row : List PathStep × Item). row.0) xs) (map (λ (row : List PathStep × Item). row.0) ys)

pub no_entries : (list : List PathStep) (rows : Rows) → ((p : List PathStep) → is_entry_of list p ≡ false) → entries_of list rows ≡ []
no_entries list [] none = refl
no_entries list (row ∷ rows) none = entries_of-other list row rows (none row.0) ∙ no_entries list rows none

-- none stands before the list's path
pub no_entries-before : (list : List PathStep) (rows : Rows) → above_all list rows ≡ true → entries_of list rows ≡ []
no_entries-before list [] h = refl
no_entries-before list (row ∷ rows) h =
    let parts = and_parts (is_gt (path_cmp list row.0)) (above_all list rows) h in
    entries_of-other list row rows (not_true _ (λ e. false≢true (sym (ap is_gt (entry_behind list row.0 e)) ∙ parts.0))) ∙ no_entries-before list rows parts.1

no_entries-further : (front : List PathStep) (last : PathStep) (row : List PathStep × Item) (rows : Rows) → path_cmp (front ++ last ∷ []) row.0 ≡ Less → is_under front last.node row.0 ≡ false
    → below_all path_cmp row.0 rows ≡ true → entries_of (front ++ last ∷ []) rows ≡ []
no_entries-further front last row [] l u h = refl
no_entries-further front last row (next ∷ rows) l u h =
    let parts = and_parts (is_lt (path_cmp row.0 next.0)) (below_all path_cmp row.0 rows) h in
    entries_of-other (front ++ last ∷ []) next rows
    (not_true _ (λ e. both_ways (is_under front last.node row.0) u (under_between front last row.0 next.0 (ap is_gt l) (ap is_gt (lt_is _ parts.0)) (entry_under front last next.0 e))))
    ∙ no_entries-further front last row rows l u parts.1

-- and none from a path on that is past the list
pub no_entries-past : (front : List PathStep) (last : PathStep) (row : List PathStep × Item) (rows : Rows) → is_past front last.node (front ++ last ∷ []) row.0 ≡ true
    → is_sorted path_cmp (row ∷ rows) ≡ true → entries_of (front ++ last ∷ []) (row ∷ rows) ≡ []
no_entries-past front last row rows past s =
    let parts = and_parts (is_lt (path_cmp (front ++ last ∷ []) row.0)) (not (is_under front last.node row.0)) past in
    let apart : is_under front last.node row.0 ≡ false = not-true (is_under front last.node row.0) parts.1 in
    entries_of-other (front ++ last ∷ []) row rows (not_true _ (λ e. both_ways (is_under front last.node row.0) apart (entry_under front last row.0 e)))
    ∙ no_entries-further front last row rows (lt_is _ parts.0) apart (and_parts (below_all path_cmp row.0 rows) _ s).0

pub nil_from_length : {X : Type 0} (xs : List X) → length xs ≡ 0 → xs ≡ []
nil_from_length [] e = refl
nil_from_length (x ∷ xs) e = absurd (omega arith)
