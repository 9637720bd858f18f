-- Which reads a target covers.
use Rattle.std.proofs.Common.{◌≡◌, ◌↔◌, ◌⊎◌, inl, inr, ℕ, zero, suc, ◌+◌, ◌<◌, ◌≤◌, ◌==◌, nat_lt, Bool, true, false, not, ◌&&◌, ◌||◌, List, [], ◌∷◌, ◌++◌, length, take, IsTrue, refl, sym, ap, subst, ◌∙◌, arith, length-take, length-append}
use Rattle.std.specs.Bool.{Decides}
use Rattle.std.specs.List.{slice_get}
use Rattle.std.specs.Option.{option_map_or}
use Rattle.std.specs.Ordering.{eq_by_cmp, is_eq}
use Rattle.std.specs.declared.cmp.Ordering.{Ordering}
use Rattle.std.specs.declared.cmp.Ordering.TheVariants.{Less, Equal, Greater}
use Rattle.std.proofs.lemmas.Cmp.{tied_itself}
use Rattle.orc_path.proofs.PathOrder.{path_cmp_total, path_cmp_exact}
use Rattle.std.specs.Cmp.Lexicographic.{bytes_decides}
use Rattle.std.proofs.lemmas.Bool.{and_parts, and_from, or_cases, or_left, or_right, false≢true, not-true, eqb-true, eq-eqb, ltb-true, lt-ltb, cases_eq}
use Rattle.std.proofs.lemmas.List.{take_all, nil_from_length}
use Rattle.orc_path.specs.Steps.{PathStep, has_keys, ends_in_keys}
use Rattle.orc_path.specs.Order.{path_cmp, step_eq, is_prefix}
use Rattle.orc_path.specs.Configurations.{IsWay, list_of, is_entry_of}
use Rattle.orc_path.proofs.ConfigurationLaws.{is_entry_of_decides, length-list_of}
use Rattle.orc_path.proofs.Equality.{step_eq_decides}
use Rattle.orc_path.proofs.Extensions.{is_prefix_rest}
use Rattle.orc_expr.specs.Touches.{IsInside, Covers}
use Rattle.orc_expr.specs.inside.Covering.{is_inside, is_entry_step, has_entry_on, is_list_under, has_entry_inside}
use Rattle.orc_expr.specs.declared.read.Read.TheVariants.{Item, Keys}
use Rattle.orc_expr.specs.declared.read.Target.{Target}
use Rattle.orc_expr.specs.declared.read.Target.TheVariants.{One, Under}

and_assoc : (a b c : Bool) → (a && b && c) ≡ (a && (b && c))
and_assoc true b c = refl
and_assoc false b c = refl

-- an entry of the list on a path: its first steps, as many as the list has
record IsOn (list path : List PathStep) : Type 0 where
  within : length list ≤ length path
  keyed : ends_in_keys (take (length list) path) ≡ true
  is : list_of (take (length list) path) ≡ list

entry_step : (l s : PathStep) → Decides (is_entry_step l s) ((has_keys s ≡ true) × (record { node = s.node; keys = [] } ≡ l))
entry_step l s = (to, from)
  where
    to : is_entry_step l s ≡ true → (has_keys s ≡ true) × (record { node = s.node; keys = [] } ≡ l)
    to h =
        let a = and_parts (has_keys s && (length l.keys == 0)) _ h in
        let b = and_parts (has_keys s) _ a.0 in
        let node : s.node ≡ l.node = (bytes_decides s.node l.node).0 a.1 in
        let keys : l.keys ≡ [] = nil_from_length l.keys (eqb-true _ _ b.1) in
        (b.0, λ i. record { node = node i; keys = sym keys i })

    from : (has_keys s ≡ true) × (record { node = s.node; keys = [] } ≡ l) → is_entry_step l s ≡ true
    from h =
        let keys : length l.keys ≡ 0 = ap (λ (t : PathStep). length t.keys) (sym h.1) in
        and_from _ _ (and_from _ _ h.0 (eq-eqb _ _ keys)) ((bytes_decides s.node l.node).1 (ap (λ (t : PathStep). t.node) h.1))

abbrev head_of : PathStep → List PathStep → PathStep
head_of d [] = d
head_of d (s ∷ ss) = s

abbrev rest_of : List PathStep → List PathStep
rest_of [] = []
rest_of (s ∷ ss) = ss

on_decides : (list path : List PathStep) → Decides (has_entry_on list path) (IsOn list path)
on_decides [] path = (λ h. absurd (false≢true h), λ h. h.keyed)
on_decides (l ∷ []) [] = (λ h. absurd (false≢true h), λ h. absurd (let w = h.within in omega (arith, w)))
on_decides (l ∷ []) (s ∷ more) = (
  λ h. let parts = (entry_step l s).0 h in record { within = omega arith; keyed = parts.0; is = ap (λ t. t ∷ []) parts.1 },
  λ h. (entry_step l s).1 (h.keyed, ap (head_of l) h.is),
)
on_decides (l ∷ m ∷ rest) [] = (λ h. absurd (false≢true h), λ h. absurd (let w = h.within in omega (arith, w)))
on_decides (l ∷ m ∷ rest) (s ∷ more) = (to (on_decides (m ∷ rest) more).0, from (on_decides (m ∷ rest) more).1)
  where
    -- the first steps begin with one that is shared
    keyed_more : (t : List PathStep) → ends_in_keys t ≡ true → ends_in_keys (s ∷ t) ≡ true
    keyed_more [] h = absurd (false≢true h)
    keyed_more (u ∷ us) h = h

    list_more : (t : List PathStep) → ends_in_keys t ≡ true → list_of (s ∷ t) ≡ s ∷ list_of t
    list_more [] h = absurd (false≢true h)
    list_more (u ∷ us) h = refl

    to : (has_entry_on (m ∷ rest) more ≡ true → IsOn (m ∷ rest) more) → (step_eq l s && has_entry_on (m ∷ rest) more) ≡ true → IsOn (l ∷ m ∷ rest) (s ∷ more)
    to rec h =
        let parts = and_parts (step_eq l s) _ h in
        let on = rec parts.1 in
        let same : s ≡ l = sym ((step_eq_decides l s).0 parts.0) in
        record {
          within = (let w = on.within in omega (arith, w));
          keyed = keyed_more (take (length (m ∷ rest)) more) on.keyed;
          is = list_more (take (length (m ∷ rest)) more) on.keyed ∙ ap (λ t. s ∷ t) on.is ∙ ap (λ t. t ∷ m ∷ rest) same;
        }

    less : (t : List PathStep) → ends_in_keys (s ∷ t) ≡ true → list_of (s ∷ t) ≡ l ∷ m ∷ rest → (s ≡ l) × (ends_in_keys t ≡ true) × (list_of t ≡ m ∷ rest)
    less [] k e = absurd (let n = ap (λ (x : List PathStep). length x) e in omega (arith, n))
    less (u ∷ us) k e = (ap (head_of l) e, k, ap rest_of e)

    from : (IsOn (m ∷ rest) more → has_entry_on (m ∷ rest) more ≡ true) → IsOn (l ∷ m ∷ rest) (s ∷ more) → (step_eq l s && has_entry_on (m ∷ rest) more) ≡ true
    from rec h =
        let parts = less (take (length (m ∷ rest)) more) h.keyed h.is in
        and_from _ _ ((step_eq_decides l s).1 (sym parts.0))
        (rec (record { within = (let w = h.within in omega (arith, w)); keyed = parts.1; is = parts.2 }))

-- the path itself, or an entry on its way
inside_one : (path other : List PathStep) → Decides (is_prefix other path && (ends_in_keys other || (length other == length path))) ((other ≡ path) ⊎ IsWay other path)
inside_one path other = (to, from)
  where
    prefix_take : (p q : List PathStep) → is_prefix p q ≡ true → (p ≡ take (length p) q) × (length p ≤ length q)
    prefix_take [] q h = (refl, omega arith)
    prefix_take (s ∷ p) [] h = absurd (false≢true h)
    prefix_take (s ∷ p) (t ∷ q) h =
        let parts = and_parts (step_eq s t) _ h in
        let rec = prefix_take p q parts.1 in
        let same : t ≡ s = sym ((step_eq_decides s t).0 parts.0) in
        (ap (λ u. u ∷ p) (sym same) ∙ ap (λ ss. t ∷ ss) rec.0, (let w = rec.1 in omega (arith, w)))

    take_prefix : (q : List PathStep) (n : ℕ) → is_prefix (take n q) q ≡ true
    take_prefix q zero = refl
    take_prefix [] (suc n) = refl
    take_prefix (t ∷ q) (suc n) = and_from _ _ ((step_eq_decides t t).1 refl) (take_prefix q n)

    prefix_self : (q : List PathStep) → is_prefix q q ≡ true
    prefix_self [] = refl
    prefix_self (t ∷ q) = and_from _ _ ((step_eq_decides t t).1 refl) (prefix_self q)

    to : (is_prefix other path && (ends_in_keys other || (length other == length path))) ≡ true → (other ≡ path) ⊎ IsWay other path
    to h =
        let parts = and_parts (is_prefix other path) _ h in
        let front = prefix_take other path parts.0 in
        by front (cases_eq (length other) (length path)) (or_cases (ends_in_keys other) _ parts.1)
      where
        by : (other ≡ take (length other) path) × (length other ≤ length path) → ((length other ≡ length path) ⊎ (length other ≡ length path → ⊥))
            → ((ends_in_keys other ≡ true) ⊎ ((length other == length path) ≡ true)) → (other ≡ path) ⊎ IsWay other path
        by front (inl same) keyed = inl (front.0 ∙ ap (λ n. take n path) same ∙ take_all (length path) path (omega arith))
        by front (inr unlike) (inl keyed) = inr (record { shorter = (let w = front.1 in omega (arith, w, unlike)); begins = front.0; keyed = keyed })
        by front (inr unlike) (inr same) = absurd (unlike (eqb-true _ _ same))

    from : (other ≡ path) ⊎ IsWay other path → (is_prefix other path && (ends_in_keys other || (length other == length path))) ≡ true
    from (inl same) =
        subst (λ p. (is_prefix other p && (ends_in_keys other || (length other == length p))) ≡ true) same
        (and_from _ _ (prefix_self other) (or_right (ends_in_keys other) _ (eq-eqb _ _ refl)))
    from (inr way) = and_from _ _ (ap (λ p. is_prefix p path) way.begins ∙ take_prefix path (length other)) (or_left _ _ way.keyed)

pub inside_decides : (target : Target) (path : List PathStep) → Decides (is_inside target path) (IsInside target path)
inside_decides (One whole) path = inside_one whole path
inside_decides (Under top) path = (λ h. h, λ h. h)

-- an entry of the list inside a target
record HasEntry (target : Target) (list : List PathStep) : Type 0 where
  path : List PathStep
  inside : IsInside target path
  entry : is_entry_of list path ≡ true

one_to : (list path : List PathStep) → has_entry_on list path ≡ true → HasEntry (One path) list
one_to list path h = by (cases_eq (length list) (length path))
  where
    on : IsOn list path
    on = (on_decides list path).0 h

    entry : is_entry_of list (take (length list) path) ≡ true
    entry = (is_entry_of_decides list (take (length list) path)).1 (on.keyed, on.is)

    long : length (take (length list) path) ≡ length list
    long = let w = on.within in omega (arith, w, length-take (length list) path)

    by : (length list ≡ length path) ⊎ (length list ≡ length path → ⊥) → HasEntry (One path) list
    by (inl same) = record {
      path = take (length list) path;
      inside = inl (ap (λ n. take n path) same ∙ take_all (length path) path (omega arith));
      entry = entry;
    }
    by (inr unlike) = record {
      path = take (length list) path;
      inside = inr (record { shorter = (let w = on.within in omega (arith, w, long, unlike)); begins = ap (λ n. take n path) (sym long); keyed = on.keyed });
      entry = entry;
    }

one_from : (list path : List PathStep) → HasEntry (One path) list → has_entry_on list path ≡ true
one_from list path h = (on_decides list path).1 (by h.inside)
  where
    parts : (ends_in_keys h.path ≡ true) × (list_of h.path ≡ list)
    parts = (is_entry_of_decides list h.path).0 h.entry

    long : length h.path ≡ length list
    long = sym (length-list_of h.path) ∙ ap (λ (x : List PathStep). length x) parts.1

    made : h.path ≡ take (length list) path → length list ≤ length path → IsOn list path
    made is w = record { within = w; keyed = ap ends_in_keys (sym is) ∙ parts.0; is = ap list_of (sym is) ∙ parts.1 }

    by : (h.path ≡ path) ⊎ IsWay h.path path → IsOn list path
    by (inl same) =
        let n : length list ≡ length path = sym long ∙ ap (λ (x : List PathStep). length x) same in
        made (same ∙ sym (take_all (length list) path (omega (arith, n)))) (omega (arith, n))
    by (inr way) = made (way.begins ∙ ap (λ n. take n path) long) (let s = way.shorter in omega (arith, s, long))

-- a list with a key at its last step
abbrev with_key_at_end : List PathStep → List PathStep
with_key_at_end [] = []
with_key_at_end (s ∷ []) = record { node = s.node; keys = [] ∷ [] } ∷ []
with_key_at_end (s ∷ t ∷ rest) = s ∷ with_key_at_end (t ∷ rest)

no_keys : (s : PathStep) → has_keys s ≡ false → record { node = s.node; keys = [] } ≡ s
no_keys s h = by s.keys refl h
  where
    by : (ks : List (List ℕ)) → s.keys ≡ ks → nat_lt 0 (length s.keys) ≡ false → record { node = s.node; keys = [] } ≡ s
    by [] is h = λ i. record { node = s.node; keys = sym is i }
    by (k ∷ ks) is h = absurd (false≢true (sym h ∙ ap (λ (x : List (List ℕ)). nat_lt 0 (length x)) is ∙ lt-ltb 0 (length (k ∷ ks)) (omega arith)))

-- a path that ends in keys, after a step
keyed_behind : (s : PathStep) (path : List PathStep) → ends_in_keys path ≡ true → ends_in_keys (s ∷ path) ≡ true
keyed_behind s [] h = absurd (false≢true h)
keyed_behind s (t ∷ rest) h = h

listed_behind : (s : PathStep) (path : List PathStep) → ends_in_keys path ≡ true → list_of (s ∷ path) ≡ s ∷ list_of path
listed_behind s [] h = absurd (false≢true h)
listed_behind s (t ∷ rest) h = refl

end_of_list : (top list : List PathStep) → is_prefix top list ≡ true → length top < length list → ends_in_keys list ≡ false
    → (is_prefix top (with_key_at_end list) ≡ true) × (ends_in_keys (with_key_at_end list) ≡ true) × (list_of (with_key_at_end list) ≡ list)
end_of_list top [] p l k = absurd (omega (arith, l))
end_of_list [] (s ∷ []) p l k = (refl, refl, ap (λ t. t ∷ []) (no_keys s k))
end_of_list (u ∷ us) (s ∷ []) p l k = absurd (omega (arith, l))
end_of_list [] (s ∷ t ∷ rest) p l k =
    let rec = end_of_list [] (t ∷ rest) refl (omega arith) k in
    (refl, keyed_behind s (with_key_at_end (t ∷ rest)) rec.1, listed_behind s (with_key_at_end (t ∷ rest)) rec.1 ∙ ap (λ x. s ∷ x) rec.2)
end_of_list (u ∷ us) (s ∷ t ∷ rest) p l k =
    let parts = and_parts (step_eq u s) _ p in
    let rec = end_of_list us (t ∷ rest) parts.1 (omega (arith, l)) k in
    (and_from _ _ parts.0 rec.0, keyed_behind s (with_key_at_end (t ∷ rest)) rec.1, listed_behind s (with_key_at_end (t ∷ rest)) rec.1 ∙ ap (λ x. s ∷ x) rec.2)

-- the list of an entry that stands below a path
below : (top q : List PathStep) → is_prefix top q ≡ true → length top < length q → ends_in_keys q ≡ true
    → (is_prefix top (list_of q) ≡ true) × (ends_in_keys (list_of q) ≡ false)
below top [] p l k = absurd (omega (arith, l))
below [] (s ∷ []) p l k = (refl, refl)
below (u ∷ us) (s ∷ []) p l k = absurd (omega (arith, l))
below [] (s ∷ t ∷ rest) p l k = (refl, no_more (list_of (t ∷ rest)) (length-list_of (t ∷ rest)) (below [] (t ∷ rest) refl (omega arith) k).1)
  where
    no_more : (x : List PathStep) → length x ≡ length (t ∷ rest) → ends_in_keys x ≡ false → ends_in_keys (s ∷ x) ≡ false
    no_more [] n h = absurd (omega (arith, n))
    no_more (y ∷ ys) n h = h
below (u ∷ us) (s ∷ t ∷ rest) p l k =
    let parts = and_parts (step_eq u s) _ p in
    let rec = below us (t ∷ rest) parts.1 (omega (arith, l)) k in
    (and_from _ _ parts.0 rec.0, no_more (list_of (t ∷ rest)) (length-list_of (t ∷ rest)) rec.1)
  where
    no_more : (x : List PathStep) → length x ≡ length (t ∷ rest) → ends_in_keys x ≡ false → ends_in_keys (s ∷ x) ≡ false
    no_more [] n h = absurd (omega (arith, n))
    no_more (y ∷ ys) n h = h

under_to : (list top : List PathStep) → (is_entry_of list top || is_list_under list top) ≡ true → HasEntry (Under top) list
under_to list top h = by (or_cases (is_entry_of list top) _ h)
  where
    prefix_self : (q : List PathStep) → is_prefix q q ≡ true
    prefix_self [] = refl
    prefix_self (t ∷ q) = and_from _ _ ((step_eq_decides t t).1 refl) (prefix_self q)

    by : (is_entry_of list top ≡ true) ⊎ (is_list_under list top ≡ true) → HasEntry (Under top) list
    by (inl entry) = record { path = top; inside = prefix_self top; entry = entry }
    by (inr under) =
        let a = and_parts (is_prefix top list && nat_lt (length top) (length list)) _ under in
        let b = and_parts (is_prefix top list) _ a.0 in
        let made = end_of_list top list b.0 (ltb-true _ _ b.1) (not-true _ a.1) in
        record { path = with_key_at_end list; inside = made.0; entry = (is_entry_of_decides list (with_key_at_end list)).1 (made.1, made.2) }

under_from : (list top : List PathStep) → HasEntry (Under top) list → (is_entry_of list top || is_list_under list top) ≡ true
under_from list top h = by (is_prefix_rest top h.path h.inside)
  where
    parts : (ends_in_keys h.path ≡ true) × (list_of h.path ≡ list)
    parts = (is_entry_of_decides list h.path).0 h.entry

    long : length h.path ≡ length list
    long = sym (length-list_of h.path) ∙ ap (λ (x : List PathStep). length x) parts.1

    append_none : (xs : List PathStep) → xs ++ [] ≡ xs
    append_none [] = refl
    append_none (x ∷ xs) = ap (λ ys. x ∷ ys) (append_none xs)

    by : (rest : List PathStep) × (h.path ≡ top ++ rest) → (is_entry_of list top || is_list_under list top) ≡ true
    by ([], is) = or_left _ _ (subst (λ p. is_entry_of list p ≡ true) (is ∙ append_none top) h.entry)
    by (r ∷ rest, is) =
        let n : length h.path ≡ length top + length (r ∷ rest) = ap (λ (x : List PathStep). length x) is ∙ length-append top (r ∷ rest) in
        let shorter : length top < length h.path = omega (arith, n) in
        let made = below top h.path h.inside shorter parts.0 in
        or_right _ _ (and_from _ _
        (and_from _ _ (ap (is_prefix top) (sym parts.1) ∙ made.0) (lt-ltb _ _ (omega (arith, shorter, long))))
        (ap (λ x. not (ends_in_keys x)) (sym parts.1) ∙ ap not made.1))

has_entry_decides : (target : Target) (list : List PathStep) → Decides (has_entry_inside target list) (HasEntry target list)
has_entry_decides (One path) list = (one_to list path, one_from list path)
has_entry_decides (Under top) list = (under_to list top, under_from list top)

pub same_path : (path : List PathStep) → eq_by_cmp path_cmp path path ≡ true
same_path path = ap is_eq (tied_itself path_cmp_total path)

path_same : (a b : List PathStep) → eq_by_cmp path_cmp a b ≡ true → a ≡ b
path_same a b h = path_cmp_exact a b (is_eq_gives (path_cmp a b) h)
  where
    is_eq_gives : (o : Ordering) → is_eq o ≡ true → o ≡ Equal
    is_eq_gives Less h = absurd (false≢true h)
    is_eq_gives Equal h = refl
    is_eq_gives Greater h = absurd (false≢true h)

-- the three kinds of reads
pub covers_item : (target : Target) (path : List PathStep) (t : Bool) → t ≡ is_inside target path → IsTrue t ↔ Covers target (Item path)
covers_item target path t is = (
  λ h. (path, ((inside_decides target path).0 (sym is ∙ h), same_path path)),
  λ c. is ∙ (inside_decides target path).1 (subst (IsInside target) (path_same c.0 path c.1.1) c.1.0),
)

pub covers_keys : (target : Target) (list : List PathStep) (t : Bool) → t ≡ has_entry_inside target list → IsTrue t ↔ Covers target (Keys list)
covers_keys target list t is = (
  λ h. let found = (has_entry_decides target list).0 (sym is ∙ h) in (found.path, (found.inside, found.entry)),
  λ c. is ∙ (has_entry_decides target list).1 (record { path = c.0; inside = c.1.0; entry = c.1.1 }),
)

-- a list's last step apart
pub has_entry_on-split : (front : List PathStep) (last : PathStep) (path : List PathStep)
    → has_entry_on (front ++ last ∷ []) path ≡ (is_prefix front path && option_map_or (is_entry_step last) (slice_get path (length front)) false)
has_entry_on-split [] last [] = refl
has_entry_on-split [] last (s ∷ path) = refl
has_entry_on-split (f ∷ []) last [] = refl
has_entry_on-split (f ∷ []) last (s ∷ path) =
    ap (λ t. step_eq f s && t) (has_entry_on-split [] last path) ∙ sym (and_assoc (step_eq f s) (is_prefix [] path) _)
has_entry_on-split (f ∷ g ∷ front) last [] = refl
has_entry_on-split (f ∷ g ∷ front) last (s ∷ path) =
    ap (λ t. step_eq f s && t) (has_entry_on-split (g ∷ front) last path) ∙ sym (and_assoc (step_eq f s) (is_prefix (g ∷ front) path) _)
