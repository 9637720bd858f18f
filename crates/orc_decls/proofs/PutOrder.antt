-- Putting items in another order: where those at one path keep their order, the configuration is the same.
use Rattle.std.proofs.Common.{◌≡◌, Bool, true, false, cond, not, ◌&&◌, ◌==◌, length, List, IsTrue, Bor, map, [], ◌∷◌, ◌++◌, Some, refl, sym, ap, subst, ◌∙◌}
use Rattle.std.specs.declared.option.Option.{Option}
use Rattle.std.specs.declared.cmp.Ordering.{Ordering}
use Rattle.std.specs.declared.cmp.Ordering.TheVariants.{Less, Equal, Greater}
use Rattle.std.specs.Ordering.{eq_by_cmp, is_eq, is_lt, ordering_reverse}
use Rattle.std.specs.List.{filter, list_any}
use Rattle.std.specs.List.Sorted.{ties, IsStableBy}
use Rattle.std.specs.Cmp.{IsStrictWeakOrder}
use Rattle.std.proofs.lemmas.List.MinMax.{ranks_by}
use Rattle.std.specs.FinMap.{get, get-insert}
use Rattle.std.specs.Cmp.{first_so, second_so}
use Rattle.std.proofs.lemmas.Bool.{false≢true, and_from, eqb-true}
use Rattle.std.proofs.lemmas.List.{append-nil, nil_from_length}
use Rattle.std.proofs.lemmas.List.Elements.{filter-append}
use Rattle.std.proofs.lemmas.List.Folds.{list_all-append}
use Rattle.std.proofs.lemmas.Map.Views.{Contains-from_any}
use Rattle.orc_path.specs.Steps.{PathStep, ends_in_keys}
use Rattle.orc_path.specs.Order.{path_cmp}
use Rattle.orc_path.specs.Items.{fits}
use Rattle.orc_path.specs.Configurations.{Config, ways, enter_all, put_item}
use Rattle.orc_path.specs.declared.item.Item.{Item}
use Rattle.orc_path.specs.declared.item.Item.TheVariants.{Entry, Leaf}
use Rattle.orc_path.proofs.PathOrder.{path_cmp_total}
use Rattle.orc_path.proofs.ConfigurationLaws.{same_config, same_path, path_ties, ways_are, get-enter_all}
use Rattle.orc_call.specs.declared.call.Put.{Put}
use Rattle.orc_decls.specs.Openings.{fits_puts}
use Rattle.orc_decls.specs.Openings.{put_all}
use Rattle.orc_decls.specs.inside.Orders.{is_at, KeepsOrder}

-- what stands at a path after an item is put there or below it
abbrev set_at : (here way : Bool) → Item → Option Item → Option Item
set_at here way item old = cond here (Some item) (cond way (Some Entry) old)

abbrev is_way_of : List PathStep → Put → Bool
is_way_of q put = list_any (eq_by_cmp path_cmp q) (ways put.path)

get-put : (m : Config) (put : Put) (q : List PathStep)
    → get (put_item m put.path put.item) q ≡ set_at (is_at q put) (is_way_of q put) put.item (get m q)
get-put m put q =
    get-insert path_cmp_total (enter_all (ways put.path) m) put.path put.item q
    ∙ ap (cond (is_at q put) (Some put.item)) (get-enter_all (ways put.path) m q)

set_swapped : (ea wa eb wb : Bool) (a b : Item) (o : Option Item)
    → (ea ≡ true → eb ≡ true → ⊥) → (ea ≡ true → wb ≡ true → a ≡ Entry) → (eb ≡ true → wa ≡ true → b ≡ Entry)
    → set_at eb wb b (set_at ea wa a o) ≡ set_at ea wa a (set_at eb wb b o)
set_swapped true wa true wb a b o apart one two = absurd (apart refl refl)
set_swapped true wa false true a b o apart one two = ap Some (sym (one refl refl))
set_swapped true wa false false a b o apart one two = refl
set_swapped false true true wb a b o apart one two = ap Some (two refl refl)
set_swapped false false true wb a b o apart one two = refl
set_swapped false true false true a b o apart one two = refl
set_swapped false true false false a b o apart one two = refl
set_swapped false false false true a b o apart one two = refl
set_swapped false false false false a b o apart one two = refl

-- what fits a path that ends in keys is an entry
entry_only : (q : List PathStep) (item : Item) → fits q item ≡ true → ends_in_keys q ≡ true → item ≡ Entry
entry_only q Entry f k = refl
entry_only [] (Leaf text) f k = absurd (false≢true f)
entry_only (s ∷ ss) (Leaf text) f k = absurd (false≢true (sym (ap not k) ∙ f))

-- two items that fit, at two paths, may be put in either order
put_swapped : (m : Config) (a b : Put) → fits a.path a.item ≡ true → fits b.path b.item ≡ true → is_at b.path a ≡ false
    → put_item (put_item m a.path a.item) b.path b.item ≡ put_item (put_item m b.path b.item) a.path a.item
put_swapped m a b fa fb apart = same_config _ _ at
  where
    both : (q : List PathStep) → is_at q a ≡ true → is_at q b ≡ true → ⊥
    both q ea eb = false≢true (sym apart ∙ path_ties b.path a.path (sym (same_path q b.path eb) ∙ same_path q a.path ea))

    entry : (q : List PathStep) (c d : Put) → fits c.path c.item ≡ true → is_at q c ≡ true → is_way_of q d ≡ true → c.item ≡ Entry
    entry q c d f e w =
        entry_only c.path c.item f
        (subst (λ (p : List PathStep). ends_in_keys p ≡ true) (same_path q c.path e) ((ways_are d.path q).0 (Contains-from_any same_path q (ways d.path) w)).keyed)

    one_then : (q : List PathStep) (c d : Put)
        → get (put_item (put_item m c.path c.item) d.path d.item) q
        ≡ set_at (is_at q d) (is_way_of q d) d.item (set_at (is_at q c) (is_way_of q c) c.item (get m q))
    one_then q c d = get-put (put_item m c.path c.item) d q ∙ ap (set_at (is_at q d) (is_way_of q d) d.item) (get-put m c q)

    at : (q : List PathStep) → get (put_item (put_item m a.path a.item) b.path b.item) q ≡ get (put_item (put_item m b.path b.item) a.path a.item) q
    at q =
        one_then q a b
        ∙ set_swapped (is_at q a) (is_way_of q a) (is_at q b) (is_way_of q b) a.item b.item (get m q) (both q) (entry q a b fa) (entry q b a fb)
        ∙ sym (one_then q b a)

-- an item that none of some others shares its path with may be put before them
put_before : (x : Put) (before later : List Put) (m : Config) → fits x.path x.item ≡ true → fits_puts before ≡ true → filter (is_at x.path) before ≡ []
    → put_all (before ++ x ∷ later) m ≡ put_all (before ++ later) (put_item m x.path x.item)
put_before x [] later m f fs none = refl
put_before x (y ∷ before) later m f fs none = on (put_before x before later (put_item m y.path y.item) f (second_so _ _ fs)) (is_at x.path y) refl
  where
    on : (filter (is_at x.path) before ≡ [] → put_all (before ++ x ∷ later) (put_item m y.path y.item) ≡ put_all (before ++ later) (put_item (put_item m y.path y.item) x.path x.item))
        → (t : Bool) → is_at x.path y ≡ t
        → put_all (before ++ x ∷ later) (put_item m y.path y.item) ≡ put_all (before ++ later) (put_item (put_item m x.path x.item) y.path y.item)
    on rest true is = let none' : y ∷ filter (is_at x.path) before ≡ [] = sym (ap (λ t. cond t (y ∷ filter (is_at x.path) before) (filter (is_at x.path) before)) is) ∙ none in cc
    on rest false is =
        rest (sym (ap (λ t. cond t (y ∷ filter (is_at x.path) before) (filter (is_at x.path) before)) is) ∙ none)
        ∙ ap (put_all (before ++ later)) (put_swapped m y x (first_so _ _ fs) f is)

-- a list in three parts: what fails the test, the first that passes it, and the rest
record IsParted (p : Put → Bool) (ys : List Put) (x : Put) (kept : List Put) : Type 0 where
  pub before : List Put
  pub later : List Put
  pub is : ys ≡ before ++ x ∷ later
  pub none : filter p before ≡ []
  pub rest : filter p later ≡ kept

parted : (p : Put → Bool) (ys : List Put) (x : Put) (kept : List Put) → filter p ys ≡ x ∷ kept → IsParted p ys x kept
parted p [] x kept h = cc
parted p (y ∷ ys) x kept h = on (parted p ys x kept) (p y) refl
  where
    on : (filter p ys ≡ x ∷ kept → IsParted p ys x kept) → (t : Bool) → p y ≡ t → IsParted p (y ∷ ys) x kept
    on below true is =
        let here : y ∷ filter p ys ≡ x ∷ kept = sym (ap (λ t. cond t (y ∷ filter p ys) (filter p ys)) is) ∙ h in
        let first : y ≡ x = cc in
        let rest : filter p ys ≡ kept = cc in
        record { before = []; later = ys; is = ap (λ (z : Put). z ∷ ys) first; none = refl; rest = rest }
    on below false is =
        let deep = below (sym (ap (λ t. cond t (y ∷ filter p ys) (filter p ys)) is) ∙ h) in
        record {
          before = y ∷ deep.before;
          later = deep.later;
          is = ap (λ (zs : List Put). y ∷ zs) deep.is;
          none = ap (λ t. cond t (y ∷ filter p deep.before) (filter p deep.before)) is ∙ deep.none;
          rest = deep.rest;
        }

without_first : (x : Put) (xs before later : List Put) → KeepsOrder (x ∷ xs) (before ++ x ∷ later) → filter (is_at x.path) before ≡ [] → KeepsOrder xs (before ++ later)
without_first x xs before later same none q = filter-append (is_at q) before later ∙ on (is_at q x) refl
  where
    whole : filter (is_at q) before ++ filter (is_at q) (x ∷ later) ≡ filter (is_at q) (x ∷ xs)
    whole = sym (filter-append (is_at q) before (x ∷ later)) ∙ same q

    on : (t : Bool) → is_at q x ≡ t → filter (is_at q) before ++ filter (is_at q) later ≡ filter (is_at q) xs
    on true is =
        let empty : filter (is_at q) before ≡ [] = subst (λ (p : List PathStep). filter (is_at p) before ≡ []) (sym (same_path q x.path is)) none in
        let led : x ∷ filter (is_at q) later ≡ x ∷ filter (is_at q) xs =
        sym (ap (λ t. cond t (x ∷ filter (is_at q) later) (filter (is_at q) later)) is)
        ∙ sym (ap (λ (zs : List Put). zs ++ filter (is_at q) (x ∷ later)) empty) ∙ whole
        ∙ ap (λ t. cond t (x ∷ filter (is_at q) xs) (filter (is_at q) xs)) is in
        ap (λ (zs : List Put). zs ++ filter (is_at q) later) empty ∙ cc
    on false is =
        sym (ap (λ t. filter (is_at q) before ++ cond t (x ∷ filter (is_at q) later) (filter (is_at q) later)) is) ∙ whole
        ∙ ap (λ t. cond t (x ∷ filter (is_at q) xs) (filter (is_at q) xs)) is

first_part : (x : Put) (xs ys : List Put) → KeepsOrder (x ∷ xs) ys → IsParted (is_at x.path) ys x (filter (is_at x.path) xs)
first_part x xs ys same =
    parted (is_at x.path) ys x (filter (is_at x.path) xs)
    (same x.path ∙ ap (λ t. cond t (x ∷ filter (is_at x.path) xs) (filter (is_at x.path) xs)) (path_ties x.path x.path refl))

-- then they make the same configuration
order_free : (xs ys : List Put) (m : Config) → fits_puts ys ≡ true → KeepsOrder xs ys → put_all ys m ≡ put_all xs m
order_free [] [] m fs same = refl
order_free [] (y ∷ ys) m fs same =
    let none : y ∷ filter (is_at y.path) ys ≡ [] = sym (ap (λ t. cond t (y ∷ filter (is_at y.path) ys) (filter (is_at y.path) ys)) (path_ties y.path y.path refl)) ∙ same y.path in cc
order_free (x ∷ xs) ys m fs same = on (first_part x xs ys same) (λ zs n gs s. order_free xs zs n gs s)
  where
    on : IsParted (is_at x.path) ys x (filter (is_at x.path) xs)
        → ((zs : List Put) (n : Config) → fits_puts zs ≡ true → KeepsOrder xs zs → put_all zs n ≡ put_all xs n)
        → put_all ys m ≡ put_all xs (put_item m x.path x.item)
    on parts rest =
        let before = parts.before in
        let later = parts.later in
        let both = sym (list_all-append (λ (z : Put). fits z.path z.item) before (x ∷ later)) ∙ subst (λ (zs : List Put). fits_puts zs ≡ true) parts.is fs in
        let front = first_so (fits_puts before) (fits_puts (x ∷ later)) both in
        let back = second_so (fits_puts before) (fits_puts (x ∷ later)) both in
        let fit = list_all-append (λ (z : Put). fits z.path z.item) before later ∙ and_from (fits_puts before) (fits_puts later) front (second_so (fits x.path x.item) (fits_puts later) back) in
        ap (λ (zs : List Put). put_all zs m) parts.is
        ∙ put_before x before later m (first_so (fits x.path x.item) (fits_puts later) back) front parts.none
        ∙ rest (before ++ later) (put_item m x.path x.item) fit
        (without_first x xs before later (subst (KeepsOrder (x ∷ xs)) parts.is same) parts.none)

-- and items that fit their paths in one of them do in the other
fits-kept : (xs ys : List Put) → fits_puts xs ≡ true → KeepsOrder xs ys → fits_puts ys ≡ true
fits-kept [] [] fs same = refl
fits-kept [] (y ∷ ys) fs same =
    let none : y ∷ filter (is_at y.path) ys ≡ [] = sym (ap (λ t. cond t (y ∷ filter (is_at y.path) ys) (filter (is_at y.path) ys)) (path_ties y.path y.path refl)) ∙ same y.path in cc
fits-kept (x ∷ xs) ys fs same = on (first_part x xs ys same) (λ zs s. fits-kept xs zs (second_so _ _ fs) s)
  where
    on : IsParted (is_at x.path) ys x (filter (is_at x.path) xs)
        → ((zs : List Put) → KeepsOrder xs zs → fits_puts zs ≡ true) → fits_puts ys ≡ true
    on parts rest =
        let before = parts.before in
        let later = parts.later in
        let both = sym (list_all-append (λ (z : Put). fits z.path z.item) before later)
        ∙ rest (before ++ later) (without_first x xs before later (subst (KeepsOrder (x ∷ xs)) parts.is same) parts.none) in
        ap fits_puts parts.is
        ∙ list_all-append (λ (z : Put). fits z.path z.item) before (x ∷ later)
        ∙ and_from (fits_puts before) (fits_puts (x ∷ later)) (first_so (fits_puts before) (fits_puts later) both)
        (and_from (fits x.path x.item) (fits_puts later) (first_so (fits x.path x.item) (fits_puts xs) fs) (second_so (fits_puts before) (fits_puts later) both))

-- items of which those at one path keep their order make the same configuration
pub put_all-kept : (xs ys : List Put) (m : Config) → IsTrue (fits_puts xs) → KeepsOrder xs ys → IsTrue (fits_puts ys) × (put_all ys m ≡ put_all xs m)
put_all-kept xs ys m fs same = let fit = fits-kept xs ys fs same in (fit, order_free xs ys m fit same)

-- the order of items by their paths
abbrev pub is_before : Put → Put → Bool
is_before one other = is_lt (path_cmp one.path other.path)

tied : (o : Ordering) → (not (is_lt o) && not (is_lt (ordering_reverse o))) ≡ is_eq o
tied Less = refl
tied Equal = refl
tied Greater = refl

ties_are : (x y : Put) → ties is_before x y ≡ is_at x.path y
ties_are x y = ap (λ r. not (is_before x y) && not (is_lt r)) (path_cmp_total.antisymm y.path x.path) ∙ tied (path_cmp x.path y.path)

filter_alike : {X : Type 0} (p r : X → Bool) → ((x : X) → p x ≡ r x) → (xs : List X) → filter p xs ≡ filter r xs
filter_alike p r alike [] = refl
filter_alike p r alike (x ∷ xs) = ap (λ t. cond t (x ∷ filter p xs) (filter p xs)) (alike x) ∙ ap (λ zs. cond (r x) (x ∷ zs) zs) (filter_alike p r alike xs)

pub is_before_ranks : {X : Type 0} (item : X → Put) → IsStrictWeakOrder (λ one other. is_before (item one) (item other))
is_before_ranks item = ranks_by path_cmp_total (λ x. (item x).path)

-- a stable sort by the paths keeps the order of those at one path
pub sorted-keeps : (xs ys : List Put) → IsStableBy is_before xs ys → KeepsOrder xs ys
sorted-keeps xs ys stable q =
    let here : Put = record { path = q; item = Entry } in
    sym (filter_alike (ties is_before here) (is_at q) (ties_are here) ys) ∙ stable here
    ∙ filter_alike (ties is_before here) (is_at q) (ties_are here) xs

-- the items that references refer to
abbrev pub referred : List (Bor Put) → List Put
referred = map (λ (put : Bor Put). put.now)

filter-referred : (p : Put → Bool) (xs : List (Bor Put)) → filter p (referred xs) ≡ referred (filter (λ x. p x.now) xs)
filter-referred p [] = refl
filter-referred p (x ∷ xs) = ap (λ zs. cond (p x.now) (x.now ∷ zs) zs) (filter-referred p xs) ∙ on (p x.now)
  where
    on : (t : Bool) → cond t (x.now ∷ referred (filter (λ x. p x.now) xs)) (referred (filter (λ x. p x.now) xs)) ≡ referred (cond t (x ∷ filter (λ x. p x.now) xs) (filter (λ x. p x.now) xs))
    on true = refl
    on false = refl

-- a stable sort of references by the paths keeps the order of those at one path
pub sorted-keeps_referred : (xs ys : List (Bor Put)) → IsStableBy (λ one other. is_before one.now other.now) xs ys → KeepsOrder (referred xs) (referred ys)
sorted-keeps_referred xs ys stable q =
    let here : Bor Put = record { ref_ptr = (0, 0); now = record { path = q; item = Entry } } in
    let lt : Bor Put → Bor Put → Bool = λ one other. is_before one.now other.now in
    let alike : (x : Bor Put) → is_at q x.now ≡ ties lt here x = λ x. sym (ties_are here.now x.now) in
    filter-referred (is_at q) ys
    ∙ ap referred (filter_alike _ _ alike ys ∙ stable here ∙ sym (filter_alike _ _ alike xs))
    ∙ sym (filter-referred (is_at q) xs)

pub KeepsOrder-then : (xs ys zs : List Put) → KeepsOrder xs ys → KeepsOrder ys zs → KeepsOrder xs zs
KeepsOrder-then xs ys zs one other q = other q ∙ one q

-- where nothing is left
pub KeepsOrder-ended : (puts xs rest : List Put) → (length rest == 0) ≡ true → KeepsOrder puts (xs ++ rest) → KeepsOrder puts xs
KeepsOrder-ended puts xs rest h same = subst (KeepsOrder puts) (ap (λ zs. xs ++ zs) (nil_from_length rest (eqb-true _ _ h)) ∙ append-nil xs) same
