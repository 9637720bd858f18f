-- What setting, removing and overlaying do at each path, and that they keep a configuration one.
use Rattle.std.proofs.Common.{◌≡◌, ◌≢◌, ◌⊎◌, ◌↔◌, inl, inr, ⊎_elim, ℕ, zero, suc, ◌-◌, ◌<◌, Bool, true, false, cond, not, ◌||◌, T, List, [], ◌∷◌, length, take, get_or, Some, None, refl, sym, ap, subst, ◌∙◌, arith, is_some}
use Rattle.std.specs.Prelude.{IsTrue, IsSome}
use Rattle.std.specs.declared.option.Option.{Option}
use Rattle.std.specs.Bool.{Decides}
use Rattle.std.specs.Option.{option_or}
use Rattle.std.specs.List.{list_any, Contains}
use Rattle.std.specs.Ordering.{eq_by_cmp, is_eq, is_lt}
use Rattle.std.specs.declared.cmp.Ordering.{Ordering}
use Rattle.std.specs.declared.cmp.Ordering.TheVariants.{Less, Equal, Greater}
use Rattle.std.specs.Cmp.{Equal-is, eq_by_cmp_equiv}
use Rattle.std.specs.FinMap.{get, insert, remove, retain_keys, entries, entries_sorted, empty, find, is_sorted, get-empty, get-insert, get-remove, get-retain_keys, get-entries, same_map}
use Rattle.std.specs.FinMap.Entries.{below_all}
use Rattle.std.proofs.lemmas.Bool.{false≢true, cases_Bool, cases_lt, cond-true, cond-false, both_ways, and_parts, and_from, false_from_ne_true}
use Rattle.std.proofs.lemmas.List.{length-take-le, take-take}
use Rattle.std.proofs.lemmas.List.Elements.{Contains-append_left, Contains-append_right, Contains-append_cases}
use Rattle.std.proofs.lemmas.Map.Views.{list_any-from_Contains, Contains-from_any}
use Rattle.std.proofs.lemmas.Option.{same_Some, none-some}
use Rattle.orc_path.specs.Steps.{PathStep, ends_in_keys, is_path}
use Rattle.orc_path.specs.Order.{path_cmp, is_prefix}
use Rattle.orc_path.proofs.PathOrder.{path_cmp_total, path_cmp_exact}
use Rattle.orc_path.specs.Items.{fits}
use Rattle.orc_path.proofs.Prefixes.{is_path-take, ends_in_keys-take, is_prefix-from_take}
use Rattle.orc_path.specs.Configurations.{Config, IsWay, IsConfig, is_entry, has_keys_at, ways_up_to, ways, enter_all, put_item, is_removed_with, drop_item, insert_all, overlay, list_of, is_entry_of}
use Rattle.orc_path.proofs.Bools.{first_of_both, second_of_both, not_cond}
use Rattle.orc_path.specs.declared.item.Item.{Item}
use Rattle.orc_path.specs.declared.item.Item.TheVariants.{Entry, Leaf}

-- two configurations with equal items at each path are equal
pub same_config : (m n : Config) → ((q : List PathStep) → get m q ≡ get n q) → m ≡ n
same_config = same_map path_cmp_total path_cmp_exact

-- paths that tie are equal
pub same_path : (p q : List PathStep) → eq_by_cmp path_cmp p q ≡ true → p ≡ q
same_path p q e = path_cmp_exact p q ((Equal-is (path_cmp p q)).0 e)

pub path_ties : (p q : List PathStep) → p ≡ q → eq_by_cmp path_cmp p q ≡ true
path_ties p q e = subst (λ (x : List PathStep). eq_by_cmp path_cmp p x ≡ true) e ((eq_by_cmp_equiv path_cmp_total).refl p)

other_path : (p q : List PathStep) → p ≢ q → eq_by_cmp path_cmp p q ≡ false
other_path p q n = ⊎_elim (λ e. absurd (n (same_path p q e))) (λ e. e) (cases_Bool (eq_by_cmp path_cmp p q))

-- The entries on the way to a path

in_ways_up_to : (n : ℕ) (p w : List PathStep) → Contains (ways_up_to n p) w → (k : ℕ) × (k < n) × (has_keys_at p k ≡ true) × (w ≡ take (suc k) p)
in_ways_up_to zero p w c = absurd (omega (arith, c.1))
in_ways_up_to (suc n) p w c =
    ⊎_elim
    (λ front. let i = in_ways_up_to n p w front in (i.0, omega (arith, i.1), i.2, i.3))
    (elim (has_keys_at p n) as (λ b. has_keys_at p n ≡ b → Contains (cond b (take (suc n) p ∷ []) []) w → (k : ℕ) × (k < suc n) × (has_keys_at p k ≡ true) × (w ≡ take (suc k) p)) [
      | true ↦ λ h last. (n, omega arith, h, only _ _ last)
      | false ↦ λ h last. absurd (omega (arith, last.1))
    ] refl)
    (Contains-append_cases (ways_up_to n p) _ w c)
  where
    only : (x y : List PathStep) → Contains (x ∷ []) y → y ≡ x
    only x y c = let first : c.0 ≡ 0 = omega (arith, c.1) in sym (subst (λ k. get_or (x ∷ []) k y ≡ y) first c.2)

ways_up_to_has : (n : ℕ) (p : List PathStep) (k : ℕ) → k < n → has_keys_at p k ≡ true → Contains (ways_up_to n p) (take (suc k) p)
ways_up_to_has zero p k l h = absurd (omega arith)
ways_up_to_has (suc n) p k l h =
    ⊎_elim
    (λ l. Contains-append_left (ways_up_to n p) _ _ (ways_up_to_has n p k l h))
    (λ g. let last : n ≡ k = omega arith in
    Contains-append_right (ways_up_to n p) _ _
    (subst (λ j. Contains (cond (has_keys_at p j) (take (suc j) p ∷ []) []) (take (suc k) p)) (sym last)
    (subst (λ b. Contains (cond b (take (suc k) p ∷ []) []) (take (suc k) p)) (sym h) (0, omega arith, refl))))
    (cases_lt k n)

ends_in_keys-long : (w : List PathStep) → ends_in_keys w ≡ true → 0 < length w
ends_in_keys-long [] h = absurd (false≢true h)
ends_in_keys-long (s ∷ ss) h = omega arith

-- `ways` lists the entries on the way, and nothing else
pub ways_are : (p w : List PathStep) → Contains (ways p) w ↔ IsWay w p
ways_are p w = (from, to)
  where
    from : Contains (ways p) w → IsWay w p
    from c =
        let i = in_ways_up_to (length p - 1) p w c in
        let long : length (take (suc i.0) p) ≡ suc i.0 = length-take-le (suc i.0) p (omega (arith, i.1)) in
        let size : length w ≡ suc i.0 = ap length i.3 ∙ long in
        record {
          shorter = omega (arith, i.1, size);
          begins = i.3 ∙ ap (λ n. take n p) (sym size);
          keyed = ap ends_in_keys i.3 ∙ ends_in_keys-take p i.0 (omega (arith, i.1)) ∙ i.2;
        }

    to : IsWay w p → Contains (ways p) w
    to way =
        let size : length w ≡ suc (length w - 1) = omega (arith, ends_in_keys-long w way.keyed) in
        let is : w ≡ take (suc (length w - 1)) p = way.begins ∙ ap (λ n. take n p) size in
        let within : length w - 1 < length p = omega (arith, way.shorter) in
        let keyed : has_keys_at p (length w - 1) ≡ true = sym (ends_in_keys-take p (length w - 1) within) ∙ ap ends_in_keys (sym is) ∙ way.keyed in
        subst (Contains (ways p)) (sym is) (ways_up_to_has (length p - 1) p (length w - 1) (omega (arith, way.shorter, ends_in_keys-long w way.keyed)) keyed)

-- what is on the way to a way is on the way
pub IsWay-trans : (v w p : List PathStep) → IsWay v w → IsWay w p → IsWay v p
IsWay-trans v w p a b =
    record {
      shorter = omega (arith, a.shorter, b.shorter);
      begins = a.begins ∙ ap (take (length v)) b.begins ∙ take-take (length v) (length w) p (omega (arith, a.shorter));
      keyed = a.keyed;
    }

listed : (p w : List PathStep) → IsWay w p → list_any (eq_by_cmp path_cmp w) (ways p) ≡ true
listed p w way = list_any-from_Contains (eq_by_cmp_equiv path_cmp_total) w (ways p) ((ways_are p w).1 way)

way_listed : (p w : List PathStep) → list_any (eq_by_cmp path_cmp w) (ways p) ≡ true → IsWay w p
way_listed p w h = (ways_are p w).0 (Contains-from_any same_path w (ways p) h)

-- Setting

or_cond : {X : Type 0} (a b : Bool) (x y : X) → cond b x (cond a x y) ≡ cond (a || b) x y
or_cond true true x y = refl
or_cond true false x y = refl
or_cond false b x y = refl

pub get-enter_all : (ws : List (List PathStep)) (m : Config) (q : List PathStep) → get (enter_all ws m) q ≡ cond (list_any (eq_by_cmp path_cmp q) ws) (Some Entry) (get m q)
get-enter_all [] m q = refl
get-enter_all (w ∷ ws) m q =
    get-enter_all ws (insert m w Entry) q
    ∙ ap (cond (list_any (eq_by_cmp path_cmp q) ws) (Some Entry)) (get-insert path_cmp_total m w Entry q)
    ∙ or_cond (eq_by_cmp path_cmp q w) (list_any (eq_by_cmp path_cmp q) ws) (Some Entry) (get m q)

get-put_item : (m : Config) (p : List PathStep) (item : Item) (q : List PathStep)
    → get (put_item m p item) q ≡ cond (eq_by_cmp path_cmp q p) (Some item) (cond (list_any (eq_by_cmp path_cmp q) (ways p)) (Some Entry) (get m q))
get-put_item m p item q = get-insert path_cmp_total (enter_all (ways p) m) p item q ∙ ap (cond (eq_by_cmp path_cmp q p) (Some item)) (get-enter_all (ways p) m q)

-- at the path stands the item
pub get-put_item-here : (m : Config) (p : List PathStep) (item : Item) → get (put_item m p item) p ≡ Some item
get-put_item-here m p item = get-put_item m p item p ∙ cond-true _ _ _ (path_ties p p refl)

way_differs : (w p : List PathStep) → IsWay w p → w ≢ p
way_differs w p way e = omega (arith, way.shorter, ap length e)

-- at each way stands an entry
pub get-put_item-way : (m : Config) (p : List PathStep) (item : Item) (w : List PathStep) → IsWay w p → get (put_item m p item) w ≡ Some Entry
get-put_item-way m p item w way =
    get-put_item m p item w ∙ cond-false _ _ _ (other_path w p (way_differs w p way)) ∙ cond-true _ _ _ (listed p w way)

-- and elsewhere what stood there
pub get-put_item-elsewhere : (m : Config) (p : List PathStep) (item : Item) (q : List PathStep) → q ≢ p → (IsWay q p → ⊥) → get (put_item m p item) q ≡ get m q
get-put_item-elsewhere m p item q other off =
    get-put_item m p item q ∙ cond-false _ _ _ (other_path q p other)
    ∙ ⊎_elim (λ h. absurd (off (way_listed p q h))) (λ h. cond-false _ _ _ h) (cases_Bool (list_any (eq_by_cmp path_cmp q) (ways p)))

-- the three places of setting
pub put_item_cases : (m : Config) (p : List PathStep) (item : Item) (q : List PathStep)
    → ((q ≡ p) × (get (put_item m p item) q ≡ Some item)) ⊎ ((IsWay q p × (get (put_item m p item) q ≡ Some Entry)) ⊎ (get (put_item m p item) q ≡ get m q))
put_item_cases m p item q =
    ⊎_elim
    (λ e. inl (same_path q p e, get-put_item m p item q ∙ cond-true _ _ _ e))
    (λ e. inr (⊎_elim
    (λ h. inl (way_listed p q h, get-put_item m p item q ∙ cond-false _ _ _ e ∙ cond-true _ _ _ h))
    (λ h. inr (get-put_item m p item q ∙ cond-false _ _ _ e ∙ cond-false _ _ _ h))
    (cases_Bool (list_any (eq_by_cmp path_cmp q) (ways p)))))
    (cases_Bool (eq_by_cmp path_cmp q p))

-- an entry fits each path that ends in keys, and nothing else does
pub fits-Entry : (q : List PathStep) → ends_in_keys q ≡ true → fits q Entry ≡ true
fits-Entry [] h = h
fits-Entry (s ∷ ss) h = h

pub is_entry-keyed : (q : List PathStep) (item : Item) → fits q item ≡ true → ends_in_keys q ≡ true → is_entry (Some item) ≡ true
is_entry-keyed q Entry f h = refl
is_entry-keyed [] (Leaf text) f h = f
is_entry-keyed (s ∷ ss) (Leaf text) f h = absurd (false≢true (sym (ap not h) ∙ f))

-- an entry, where one stands
pub is_entry-some : (o : Option Item) → is_entry o ≡ true → o ≡ Some Entry
is_entry-some None h = absurd (false≢true h)
is_entry-some (Some Entry) h = refl
is_entry-some (Some (Leaf text)) h = absurd (false≢true h)

-- whatever is present at a path that ends in keys is an entry
pub entry_at_keys : (m : Config) (w : List PathStep) → IsConfig m → ends_in_keys w ≡ true → is_some (get m w) ≡ true → get m w ≡ Some Entry
entry_at_keys m w c k h = found (get m w) refl h
  where
    found : (o : Option Item) → get m w ≡ o → is_some o ≡ true → o ≡ Some Entry
    found None e h = absurd (false≢true h)
    found (Some item) e h = is_entry-some (Some item) (is_entry-keyed w item (c.fit w item e) k)

-- the empty map is a configuration
pub IsConfig-empty : IsConfig empty
IsConfig-empty = record {
  paths = λ p h. absurd (nothing p h);
  fit = λ p item e. absurd (none-some item (sym (get-empty path_cmp p) ∙ e));
  ways = λ p w h _. absurd (nothing p h);
}
  where
    nothing : (p : List PathStep) → is_some (get {X = Item} {R = path_cmp} empty p) ≡ true → ⊥
    nothing p h = false≢true (sym (ap is_some (get-empty path_cmp p)) ∙ h)

-- setting keeps a configuration one
pub IsConfig-put_item : (m : Config) (p : List PathStep) (item : Item) → IsConfig m → IsTrue (is_path p) → IsTrue (fits p item) → IsConfig (put_item m p item)
IsConfig-put_item m p item c path fit = record { paths = paths; fit = all_fit; ways = all_ways }
  where
    paths : (q : List PathStep) → IsSome (get (put_item m p item) q) → IsTrue (is_path q)
    paths q h =
        ⊎_elim (λ (here : (q ≡ p) × (get (put_item m p item) q ≡ Some item)). ap is_path here.0 ∙ path)
        (⊎_elim (λ (way : IsWay q p × (get (put_item m p item) q ≡ Some Entry)). ap is_path way.0.begins ∙ is_path-take p (length q) path)
        (λ (old : get (put_item m p item) q ≡ get m q). c.paths q (sym (ap is_some old) ∙ h)))
        (put_item_cases m p item q)

    all_fit : (q : List PathStep) (i : Item) → get (put_item m p item) q ≡ Some i → IsTrue (fits q i)
    all_fit q i e =
        ⊎_elim (λ (here : (q ≡ p) × (get (put_item m p item) q ≡ Some item)).
        subst (λ x. fits q x ≡ true) (same_Some _ _ (sym here.1 ∙ e)) (ap (λ x. fits x item) here.0 ∙ fit))
        (⊎_elim (λ (way : IsWay q p × (get (put_item m p item) q ≡ Some Entry)).
        subst (λ x. fits q x ≡ true) (same_Some _ _ (sym way.1 ∙ e)) (fits-Entry q way.0.keyed))
        (λ (old : get (put_item m p item) q ≡ get m q). c.fit q i (sym old ∙ e)))
        (put_item_cases m p item q)

    kept : (w : List PathStep) → ends_in_keys w ≡ true → is_entry (get m w) ≡ true → is_entry (get (put_item m p item) w) ≡ true
    kept w k h =
        ⊎_elim (λ (here : (w ≡ p) × (get (put_item m p item) w ≡ Some item)).
        ap is_entry here.1 ∙ is_entry-keyed p item fit (sym (ap ends_in_keys here.0) ∙ k))
        (⊎_elim (λ (way : IsWay w p × (get (put_item m p item) w ≡ Some Entry)). ap is_entry way.1)
        (λ (old : get (put_item m p item) w ≡ get m w). ap is_entry old ∙ h))
        (put_item_cases m p item w)

    all_ways : (q w : List PathStep) → IsSome (get (put_item m p item) q) → IsWay w q → IsTrue (is_entry (get (put_item m p item) w))
    all_ways q w h way =
        ⊎_elim (λ (here : (q ≡ p) × (get (put_item m p item) q ≡ Some item)).
        ap is_entry (get-put_item-way m p item w (subst (IsWay w) here.0 way)))
        (⊎_elim (λ (between : IsWay q p × (get (put_item m p item) q ≡ Some Entry)).
        ap is_entry (get-put_item-way m p item w (IsWay-trans w q p way between.0)))
        (λ (old : get (put_item m p item) q ≡ get m q). kept w way.keyed (c.ways q w (sym (ap is_some old) ∙ h) way)))
        (put_item_cases m p item q)

-- Removing

-- what is removed with the path is gone, and elsewhere stands what stood there
pub get-drop_item : (m : Config) (p q : List PathStep) → get (drop_item m p) q ≡ cond (is_removed_with p q) None (get m q)
get-drop_item m p q =
    elim (ends_in_keys p) as (λ b. get (cond b (retain_keys m (λ x. not (is_prefix p x))) (remove m p)) q ≡ cond (cond b (is_prefix p q) (eq_by_cmp path_cmp p q)) None (get m q)) [
      | true ↦ get-retain_keys m (λ x. not (is_prefix p x)) q (λ x t. ap (λ y. not (is_prefix p y)) (sym (path_cmp_exact q x t))) ∙ not_cond (is_prefix p q) (get m q) None
      | false ↦ get-remove path_cmp_total m p q ∙ ap (λ b. cond b None (get m q)) ((eq_by_cmp_equiv path_cmp_total).symm q p)
    ]

-- an entry on the way to what stays stays
pub way_stays : (p q w : List PathStep) → is_removed_with p q ≡ false → IsWay w q → is_removed_with p w ≡ false
way_stays p q w stays way =
    elim (ends_in_keys p) as (λ b. ends_in_keys p ≡ b → cond b (is_prefix p q) (eq_by_cmp path_cmp p q) ≡ false → cond b (is_prefix p w) (eq_by_cmp path_cmp p w) ≡ false) [
      | true ↦ λ k h. false_from_ne_true (is_prefix p w) (λ e. both_ways (is_prefix p q) h (is_prefix-from_take p q (length w) (ap (is_prefix p) (sym way.begins) ∙ e)))
      | false ↦ λ k h. false_from_ne_true (eq_by_cmp path_cmp p w) (λ e. both_ways (ends_in_keys p) k (ap ends_in_keys (same_path p w e) ∙ way.keyed))
    ] refl stays

-- removing keeps a configuration one
pub IsConfig-drop_item : (m : Config) (p : List PathStep) → IsConfig m → IsConfig (drop_item m p)
IsConfig-drop_item m p c = record {
  paths = λ q h. let k = kept q h in c.paths q k.1;
  fit = λ q i e. let k = kept q (ap is_some e) in c.fit q i (sym (at q k.0) ∙ e);
  ways = λ q w h way. let k = kept q h in ap is_entry (at w (way_stays p q w k.0 way)) ∙ c.ways q w k.1 way;
}
  where
    at : (q : List PathStep) → is_removed_with p q ≡ false → get (drop_item m p) q ≡ get m q
    at q h = get-drop_item m p q ∙ cond-false _ _ _ h

    kept : (q : List PathStep) → is_some (get (drop_item m p) q) ≡ true → (is_removed_with p q ≡ false) × (is_some (get m q) ≡ true)
    kept q h =
        ⊎_elim
        (λ gone. absurd (false≢true (sym (ap is_some (get-drop_item m p q ∙ cond-true _ _ _ gone)) ∙ h)))
        (λ stays. (stays, sym (ap is_some (at q stays)) ∙ h))
        (cases_Bool (is_removed_with p q))

-- Overlaying

not_tied : (o : Ordering) → T (is_lt o) → is_eq o ≡ false
not_tied Less h = refl
not_tied Equal h = absurd h
not_tied Greater h = refl

find-below : (q : List PathStep) (es : List (List PathStep × Item)) → T (below_all path_cmp q es) → find path_cmp q es ≡ None
find-below q [] h = refl
find-below q (e ∷ es) h =
    cond-false (eq_by_cmp path_cmp q e.0) (Some e.1) (find path_cmp q es) (not_tied (path_cmp q e.0) (first_of_both (is_lt (path_cmp q e.0)) (below_all path_cmp q es) h))
    ∙ find-below q es (second_of_both (is_lt (path_cmp q e.0)) (below_all path_cmp q es) h)

pub get-insert_all : (es : List (List PathStep × Item)) (m : Config) (q : List PathStep) → T (is_sorted path_cmp es) → get (insert_all es m) q ≡ option_or (find path_cmp q es) (get m q)
get-insert_all [] m q h = refl
get-insert_all (e ∷ es) m q h =
    get-insert_all es (insert m e.0 e.1) q (second_of_both _ _ h)
    ∙ ap (option_or (find path_cmp q es)) (get-insert path_cmp_total m e.0 e.1 q)
    ∙ elim (eq_by_cmp path_cmp q e.0) as (λ b. eq_by_cmp path_cmp q e.0 ≡ b → option_or (find path_cmp q es) (cond b (Some e.1) (get m q)) ≡ option_or (cond b (Some e.1) (find path_cmp q es)) (get m q)) [
      | true ↦ λ t. ap (λ o. option_or o (Some e.1)) (find-below q es (subst (λ (x : List PathStep). T (below_all path_cmp x es)) (sym (same_path q e.0 t)) (first_of_both _ _ h)))
      | false ↦ λ t. refl
    ] refl

-- at each path the item of the top, and else the base's
pub get-overlay : (top base : Config) (q : List PathStep) → get (overlay top base) q ≡ option_or (get top q) (get base q)
get-overlay top base q = get-insert_all (entries top) base q (entries_sorted top) ∙ ap (λ o. option_or o (get base q)) (sym (get-entries top q))

-- overlaying keeps a configuration one
pub IsConfig-overlay : (top base : Config) → IsConfig top → IsConfig base → IsConfig (overlay top base)
IsConfig-overlay top base t b = record { paths = paths; fit = all_fit; ways = all_ways }
  where
    by_top : (q : List PathStep) (P : Type 0) → ((i : Item) → get top q ≡ Some i → get (overlay top base) q ≡ Some i → P) → (get top q ≡ None → get (overlay top base) q ≡ get base q → P) → P
    by_top q P some none =
        elim (get top q) as (λ o. get top q ≡ o → P) [
          | Some i ↦ λ e. some i e (get-overlay top base q ∙ ap (λ o. option_or o (get base q)) e)
          | None ↦ λ e. none e (get-overlay top base q ∙ ap (λ o. option_or o (get base q)) e)
        ] refl

    paths : (q : List PathStep) → IsSome (get (overlay top base) q) → IsTrue (is_path q)
    paths q h = by_top q _ (λ i e _. t.paths q (ap is_some e)) (λ _ e. b.paths q (sym (ap is_some e) ∙ h))

    all_fit : (q : List PathStep) (i : Item) → get (overlay top base) q ≡ Some i → IsTrue (fits q i)
    all_fit q i h = by_top q _ (λ j e f. subst (λ x. fits q x ≡ true) (same_Some _ _ (sym f ∙ h)) (t.fit q j e)) (λ _ e. b.fit q i (sym e ∙ h))

    entry : (w : List PathStep) → ends_in_keys w ≡ true → (is_entry (get top w) ≡ true) ⊎ (is_entry (get base w) ≡ true) → is_entry (get (overlay top base) w) ≡ true
    entry w k h =
        by_top w _ (λ i e f. ap is_entry f ∙ is_entry-keyed w i (t.fit w i e) k)
        (λ none e. ap is_entry e ∙ ⊎_elim (λ above. absurd (false≢true (sym (ap is_entry none) ∙ above))) (λ below. below) h)

    all_ways : (q w : List PathStep) → IsSome (get (overlay top base) q) → IsWay w q → IsTrue (is_entry (get (overlay top base) w))
    all_ways q w h way =
        by_top q _ (λ i e _. entry w way.keyed (inl (t.ways q w (ap is_some e) way)))
        (λ _ e. entry w way.keyed (inr (b.ways q w (sym (ap is_some e) ∙ h) way)))

-- The entries of a list

-- the test decides it
pub is_entry_of_decides : (list p : List PathStep) → Decides (is_entry_of list p) ((ends_in_keys p ≡ true) × (list_of p ≡ list))
is_entry_of_decides list p = (
  λ h. let parts = and_parts (ends_in_keys p) (eq_by_cmp path_cmp (list_of p) list) h in (parts.0, same_path (list_of p) list parts.1),
  λ h. and_from _ _ h.0 (path_ties (list_of p) list h.1),
)

-- a list's path has as many steps as its entries'
pub length-list_of : (p : List PathStep) → length (list_of p) ≡ length p
length-list_of [] = refl
length-list_of (s ∷ []) = refl
length-list_of (s ∷ t ∷ ss) = ap suc (length-list_of (t ∷ ss))
