-- What is found unequal of a service is a clash of it, at the least path.
use Rattle.std.proofs.Common.{◌≡◌, ℕ, zero, suc, Bool, true, false, cond, not, ◌||◌, T, List, [], ◌∷◌, ◌⊎◌, inl, inr, map, All, None, Some, slice_get, refl, sym, ap, subst, ◌∙◌, arith}
use Rattle.std.specs.declared.option.Option.{Option}
use Rattle.std.specs.declared.cmp.Ordering.{Ordering}
use Rattle.std.specs.declared.cmp.Ordering.TheVariants.{Less, Equal, Greater}
use Rattle.std.specs.Ordering.{is_lt, is_eq, ordering_reverse}
use Rattle.std.specs.Option.{option_map_or}
use Rattle.std.specs.List.{filter, fold, list_any, Contains}
use Rattle.std.specs.Cmp.{tied_itself}
use Rattle.std.specs.Cmp.Lexicographic.{bytes_decides, nat_list_cmp_total}
use Rattle.std.specs.FinMap.{find, get, entries, is_sorted, get-entries, entries_sorted}
use Rattle.std.specs.FinMap.Entries.{below_all}
use Rattle.std.proofs.lemmas.List.Elements.{All-contains, All-nil, All-cons, All-tail}
use Rattle.std.proofs.lemmas.Bool.{or_right}
use Rattle.orc_path.specs.Steps.{PathStep}
use Rattle.orc_path.specs.Order.{path_cmp, text_cmp}
use Rattle.orc_path.proofs.PathOrder.{path_cmp_exact, path_cmp_total}
use Rattle.orc_path.proofs.Bools.{first_of_both, second_of_both}
use Rattle.orc_path.specs.declared.item.Item.{Item}
use Rattle.orc_path.specs.declared.item.Item.TheVariants.{Entry, Leaf}
use Rattle.orc_datastore.specs.States.{has_id, others, part}
use Rattle.orc_decls.specs.Devices.{is_same_text}
use Rattle.orc_datastore.specs.Clashes.{differs, least, lesser, rivals, unequal_among, unequal_of, IsClash}
use Rattle.orc_datastore.specs.declared.service.Service.{Service}
use Rattle.orc_decls.proofs.Lists.{filter_from, passes, not_true}
use Rattle.orc_datastore.proofs.Agreement.{no_unequal_among, same_items, none_in_nil, first_in, later_in, in_cases, in_filter}

-- the least of names

-- a name is no greater than another
abbrev IsUpTo : List ℕ → List ℕ → Type 0
IsUpTo a b = text_cmp b a ≡ Less → ⊥

pub less_not_greater : Less ≡ Greater → ⊥
less_not_greater e = cc

up_to_itself : (a : List ℕ) → IsUpTo a a
up_to_itself a h =
    less_not_greater (sym h ∙ nat_list_cmp_total.antisymm a a ∙ ap ordering_reverse h)

less_up_to : (a b : List ℕ) → text_cmp a b ≡ Less → IsUpTo a b
less_up_to a b h back = less_not_greater (sym h ∙ nat_list_cmp_total.antisymm a b ∙ ap ordering_reverse back)

up_to_trans : (a b c : List ℕ) → IsUpTo a b → IsUpTo b c → IsUpTo a c
up_to_trans a b c ab bc ca = on (text_cmp c b) refl
  where
    on : (o : Ordering) → text_cmp c b ≡ o → ⊥
    on Less is = bc is
    on Equal is = ab (sym (nat_list_cmp_total.congr c b a is) ∙ ca)
    on Greater is = ab (nat_list_cmp_total.trans b c a (nat_list_cmp_total.antisymm b c ∙ ap ordering_reverse is) ca)

-- the result of a search for the least is up to all, and one of them
pub record IsLeastOf (ids : List (List ℕ)) (id : List ℕ) : Type 0 where
  pub least : All (IsUpTo id) ids
  pub among : Contains ids id

fold_least : (a : List ℕ) (ids : List (List ℕ)) → IsLeastOf (a ∷ ids) (fold lesser a ids)
fold_least a [] = record {
  least = All-cons (IsUpTo a) a [] (up_to_itself a) (All-nil (IsUpTo a));
  among = first_in a [];
}
fold_least a (b ∷ ids) = on (is_lt (text_cmp b a)) refl (fold_least (lesser a b) ids)
  where
    less : (o : Ordering) → is_lt o ≡ true → o ≡ Less
    less Less h = refl
    less Equal h = cc
    less Greater h = cc

    not_less : (o : Ordering) → is_lt o ≡ false → o ≡ Less → ⊥
    not_less Less h e = cc
    not_less Equal h e = cc
    not_less Greater h e = cc

    joined : (r : List ℕ) → IsUpTo r a → IsUpTo r b → All (IsUpTo r) ids → Contains (a ∷ b ∷ ids) r → IsLeastOf (a ∷ b ∷ ids) r
    joined r ra rb rest among = record {
      least = All-cons (IsUpTo r) a (b ∷ ids) ra (All-cons (IsUpTo r) b ids rb rest);
      among = among;
    }

    with_first : (r : List ℕ) → IsUpTo a b → IsLeastOf (a ∷ ids) r → IsLeastOf (a ∷ b ∷ ids) r
    with_first r ab h =
        let ra : IsUpTo r a = h.least 0 a (omega arith) in
        joined r ra (up_to_trans r a b ra ab) (All-tail (IsUpTo r) a ids h.least)
        (elim (in_cases a r ids h.among) [
          | inl one ↦ subst (λ (x : List ℕ). Contains (a ∷ b ∷ ids) x) one (first_in a (b ∷ ids))
          | inr later ↦ later_in a r (b ∷ ids) (later_in b r ids later)
        ])

    with_second : (r : List ℕ) → IsUpTo b a → IsLeastOf (b ∷ ids) r → IsLeastOf (a ∷ b ∷ ids) r
    with_second r ba h =
        let rb : IsUpTo r b = h.least 0 b (omega arith) in
        joined r (up_to_trans r b a rb ba) rb (All-tail (IsUpTo r) b ids h.least) (later_in a r (b ∷ ids) h.among)

    on : (t : Bool) → is_lt (text_cmp b a) ≡ t → IsLeastOf (lesser a b ∷ ids) (fold lesser (lesser a b) ids)
        → IsLeastOf (a ∷ b ∷ ids) (fold lesser (lesser a b) ids)
    on true is h =
        let chosen : lesser a b ≡ b = ap (λ t. cond t b a) is in
        with_second _ (less_up_to b a (less _ is)) (subst (λ (x : List ℕ). IsLeastOf (x ∷ ids) (fold lesser (lesser a b) ids)) chosen h)
    on false is h =
        let chosen : lesser a b ≡ a = ap (λ t. cond t b a) is in
        with_first _ (not_less _ is) (subst (λ (x : List ℕ). IsLeastOf (x ∷ ids) (fold lesser (lesser a b) ids)) chosen h)

least_of : (ids : List (List ℕ)) (id : List ℕ) → least ids ≡ Some id → IsLeastOf ids id
least_of [] id h = cc
least_of (a ∷ ids) id h =
    let same : fold lesser a ids ≡ id = cc in
    subst (IsLeastOf (a ∷ ids)) same (fold_least a ids)

all_map : {X Y : Type 0} (P : Y → Type 0) (f : X → Y) (xs : List X) → All P (map f xs) → All (λ x. P (f x)) xs
all_map P f [] h = All-nil (λ x. P (f x))
all_map P f (x ∷ xs) h =
    All-cons (λ y. P (f y)) x xs (h 0 (f x) (omega arith)) (all_map P f xs (All-tail P (f x) (map f xs) h))

in_map : {X Y : Type 0} (f : X → Y) (xs : List X) (y : Y) → Contains (map f xs) y → (x : X) × Contains xs x × (f x ≡ y)
in_map f [] y c = absurd (none_in_nil y c)
in_map f (x ∷ xs) y c =
    on (λ later. in_map f xs y later) (in_cases (f x) y (map f xs) c)
  where
    on : (Contains (map f xs) y → (z : _) × Contains xs z × (f z ≡ y)) → (f x ≡ y) ⊎ Contains (map f xs) y
        → (z : _) × Contains (x ∷ xs) z × (f z ≡ y)
    on rest (inl here) = (x, first_in x xs, here)
    on rest (inr later) = let found = rest later in (found.0, later_in x found.0 xs found.1, found.2)

-- items

differs_unequal : (x y : Item) → differs x (Some y) ≡ true → x ≡ y → ⊥
differs_unequal Entry Entry h e = cc
differs_unequal Entry (Leaf u) h e = cc
differs_unequal (Leaf t) Entry h e = cc
differs_unequal (Leaf t) (Leaf u) h e = on (is_same_text t u) ((bytes_decides t u).1 texts) h
  where
    texts : t ≡ u
    texts = cc

    on : (b : Bool) → b ≡ true → not b ≡ true → ⊥
    on true same other = cc
    on false same other = cc

-- an item that another one stands against
differs_from : (x : Item) (o : Option Item) → differs x o ≡ true → (y : Item) × (o ≡ Some y) × (x ≡ y → ⊥)
differs_from x None h = cc
differs_from x (Some y) h = (y, refl, differs_unequal x y h)

-- what is unequal differs
unequal_differs : (x y : Item) → (x ≡ y → ⊥) → differs x (Some y) ≡ false → ⊥
unequal_differs x y unequal h = unequal (same_items x y h)

-- another item that is unequal differs
differing : (x : Item) (o : Option Item) (y : Item) → o ≡ Some y → (x ≡ y → ⊥) → differs x o ≡ true
differing x o y is unequal = ap (differs x) is ∙ on (differs x (Some y)) refl
  where
    on : (t : Bool) → differs x (Some y) ≡ t → differs x (Some y) ≡ true
    on true e = e
    on false e = absurd (unequal_differs x y unequal e)

-- rows in path order

less_is : (o : Ordering) → T (is_lt o) → o ≡ Less
less_is Less h = refl
less_is Equal h = absurd h
less_is Greater h = absurd h

-- at a path that comes before all rows stands none
below_none : (q : List PathStep) (rows : List (List PathStep × Item)) → T (below_all path_cmp q rows) → find path_cmp q rows ≡ None
below_none q [] h = refl
below_none q (row ∷ rows) h =
    ap (λ o. cond (is_eq o) (Some row.1) (find path_cmp q rows)) (less_is _ (first_of_both _ _ h)) ∙ below_none q rows (second_of_both _ _ h)

-- nor at one that comes before such a path
lesser_none : (p q : List PathStep) (rows : List (List PathStep × Item)) → path_cmp p q ≡ Less → T (below_all path_cmp q rows)
    → find path_cmp p rows ≡ None
lesser_none p q [] lt h = refl
lesser_none p q (row ∷ rows) lt h =
    ap (λ o. cond (is_eq o) (Some row.1) (find path_cmp p rows)) (path_cmp_total.trans p q row.0 lt (less_is _ (first_of_both _ _ h)))
    ∙ lesser_none p q rows lt (second_of_both _ _ h)

-- on one device

-- the first of some rows at which a living service differs, and the least name of those that do
pub record Found (live : List Service) (d : ℕ) (rows : List (List PathStep × Item)) (path : List PathStep) (id : List ℕ) : Type 0 where
  item : Item
  here : find path_cmp path rows ≡ Some item
  name : least (map (λ (service : Service). service.id) (rivals live d (path, item))) ≡ Some id
  before : (p : List PathStep) (x : Item) (s : Service) → find path_cmp p rows ≡ Some x → path_cmp p path ≡ Less
      → Contains live s → differs x (get (part s d) p) ≡ false

pub some_is : {A : Type 0} {a b : A} → Some a ≡ Some b → a ≡ b
some_is q = cc

pub none_some : {A : Type 0} {a : A} → None ≡ Some a → ⊥
none_some q = cc

found_among : (live : List Service) (d : ℕ) (rows : List (List PathStep × Item)) (at : List PathStep × List ℕ) → T (is_sorted path_cmp rows)
    → unequal_among live d rows ≡ Some at
    → Found live d rows at.0 at.1
found_among live d [] at sorted h = absurd (none_some h)
found_among live d (row ∷ rows) at sorted h =
    by_least (λ (later : unequal_among live d rows ≡ Some at). found_among live d rows at (second_of_both _ _ sorted) later)
    (least (map (λ (service : Service). service.id) (rivals live d row))) refl
  where
    below : T (below_all path_cmp row.0 rows)
    below = first_of_both _ _ sorted

    at_head : (p : List PathStep) → path_cmp p row.0 ≡ Equal → find path_cmp p (row ∷ rows) ≡ Some row.1
    at_head p is = ap (λ o. cond (is_eq o) (Some row.1) (find path_cmp p rows)) is

    passed : (p : List PathStep) (o : Ordering) → path_cmp p row.0 ≡ o → is_eq o ≡ false
        → find path_cmp p (row ∷ rows) ≡ find path_cmp p rows
    passed p o is other = ap (λ t. cond t (Some row.1) (find path_cmp p rows)) (ap is_eq is ∙ other)

    head_first : (p : List PathStep) (x : Item) (s : Service) → find path_cmp p (row ∷ rows) ≡ Some x → path_cmp p row.0 ≡ Less
        → Contains live s → differs x (get (part s d) p) ≡ false
    head_first p x s f lt c = absurd (none_some (sym (lesser_none p row.0 rows lt below) ∙ sym (passed p Less lt refl) ∙ f))

    later_here : (path : List PathStep) (item : Item) → find path_cmp path rows ≡ Some item → find path_cmp path (row ∷ rows) ≡ Some item
    later_here path item f = on (path_cmp path row.0) refl
      where
        on : (o : Ordering) → path_cmp path row.0 ≡ o → find path_cmp path (row ∷ rows) ≡ Some item
        on Less is = passed path Less is refl ∙ f
        on Equal is =
            let same : path ≡ row.0 = path_cmp_exact path row.0 is in
            absurd (none_some (sym (below_none row.0 rows below) ∙ subst (λ (q : List PathStep). find path_cmp q rows ≡ Some item) same f))
        on Greater is = passed path Greater is refl ∙ f

    later_before : (path : List PathStep) → least (map (λ (service : Service). service.id) (rivals live d row)) ≡ None
        → ((p : List PathStep) (x : Item) (s : Service) → find path_cmp p rows ≡ Some x → path_cmp p path ≡ Less
        → Contains live s → differs x (get (part s d) p) ≡ false)
        → (p : List PathStep) (x : Item) (s : Service) → find path_cmp p (row ∷ rows) ≡ Some x → path_cmp p path ≡ Less
        → Contains live s → differs x (get (part s d) p) ≡ false
    later_before path none rest p x s f lt c = on (path_cmp p row.0) refl
      where
        on : (o : Ordering) → path_cmp p row.0 ≡ o → differs x (get (part s d) p) ≡ false
        on Less is = rest p x s (sym (passed p Less is refl) ∙ f) lt c
        on Equal is =
            no_unequal_among live d (row ∷ []) p x s
            (ap (λ o. option_map_or (λ id. Some (row.0, id)) o (unequal_among live d [])) none)
            (ap (λ o. cond (is_eq o) (Some row.1) (find path_cmp p [])) is ∙ sym (at_head p is) ∙ f) c
        on Greater is = rest p x s (sym (passed p Greater is refl) ∙ f) lt c

    by_least : (unequal_among live d rows ≡ Some at → Found live d rows at.0 at.1)
        → (o : Option (List ℕ)) → least (map (λ (service : Service). service.id) (rivals live d row)) ≡ o
        → Found live d (row ∷ rows) at.0 at.1
    by_least later (Some id) is =
        let found : Some (row.0, id) ≡ Some at =
        sym (ap (λ o. option_map_or (λ id. Some (row.0, id)) o (unequal_among live d rows)) is) ∙ h in
        subst (λ (a : List PathStep × List ℕ). Found live d (row ∷ rows) a.0 a.1) (some_is found) (record {
          item = row.1;
          here = at_head row.0 (tied_itself path_cmp_total row.0);
          name = is;
          before = λ p x s f lt c. head_first p x s f lt c;
        })
    by_least later None is =
        let rest = later (sym (ap (λ o. option_map_or (λ id. Some (row.0, id)) o (unequal_among live d rows)) is) ∙ h) in
        record {
          item = rest.item;
          here = later_here at.0 rest.item rest.here;
          name = rest.name;
          before = later_before at.0 is rest.before;
        }

pub at_place : {X : Type 0} (xs : List X) (k : ℕ) (x : X) → slice_get xs k ≡ Some x → Contains xs x
at_place [] k x h = absurd (none_some h)
at_place (y ∷ ys) zero x h = subst (Contains (y ∷ ys)) (some_is h) (first_in y ys)
at_place (y ∷ ys) (suc k) x h = later_in y x ys (at_place ys k x h)

abbrev pub At : Type 0
At = List PathStep × List ℕ

-- the law

-- where nothing is unequal of a service, it has no clash
pub none_of : (live : List Service) (d : ℕ) (path : List PathStep) (s rival : Service) → unequal_of live d s ≡ None → IsClash live d path s rival → ⊥
none_of live d path s rival none c =
    let beside : Contains (others live s.id) rival = in_filter (λ (x : Service). not (has_id s.id x)) live rival c.living (ap not c.another) in
    unequal_differs c.item c.other c.unequal
    (sym (ap (differs c.item) c.holds)
    ∙ no_unequal_among (others live s.id) d (entries (part s d)) path c.item rival none (sym (get-entries (part s d) path) ∙ c.written) beside)

-- a clash of a service comes no earlier than what is unequal of it
pub clash_has : (live : List Service) (d : ℕ) (path : List PathStep) (s rival : Service) → IsClash live d path s rival
    → (at : At) × (unequal_of live d s ≡ Some at) × (path_cmp path at.0 ≡ Less → ⊥)
clash_has live d path s rival c = on (unequal_of live d s) refl
  where
    beside : Contains (others live s.id) rival
    beside = in_filter (λ (x : Service). not (has_id s.id x)) live rival c.living (ap not c.another)

    on : (o : Option At) → unequal_of live d s ≡ o → (at : At) × (unequal_of live d s ≡ Some at) × (path_cmp path at.0 ≡ Less → ⊥)
    on None is = absurd (none_of live d path s rival is c)
    on (Some at) is =
        let found = found_among (others live s.id) d (entries (part s d)) at (entries_sorted (part s d)) is in (
          at,
          is,
          λ lt. unequal_differs c.item c.other c.unequal
              (sym (ap (differs c.item) c.holds) ∙ found.before path c.item rival (sym (get-entries (part s d) path) ∙ c.written) lt beside),
        )

-- what is unequal of a service is a clash of it, and no other one there has a lesser name
pub record LeastAt (live : List Service) (d : ℕ) (s : Service) (at : At) : Type 0 where
  pub rival : Service
  pub named : rival.id ≡ at.1
  pub clash : IsClash live d at.0 s rival
  pub least_name : (r' : Service) → IsClash live d at.0 s r' → text_cmp r'.id at.1 ≡ Less → ⊥

pub least_at : (live : List Service) (device : ℕ) (s : Service) (at : At) → unequal_of live device s ≡ Some at → LeastAt live device s at
least_at live device s at has =
    let found = found_among (others live s.id) device (entries (part s device)) at (entries_sorted (part s device)) has in
    let differs_here : Service → Bool = λ x. differs found.item (get (part x device) at.0) in
    let names = least_of _ at.1 found.name in
    let rival = in_map (λ (x : Service). x.id) (filter differs_here (others live s.id)) at.1 names.among in
    let against = differs_from found.item (get (part rival.0 device) at.0) (passes differs_here (others live s.id) rival.0 rival.1) in
    let beside : Contains (others live s.id) rival.0 = filter_from differs_here (others live s.id) rival.0 rival.1 in
    let written : get (part s device) at.0 ≡ Some found.item = get-entries (part s device) at.0 ∙ found.here in
    record {
      rival = rival.0;
      named = rival.2;
      clash = record {
        living = filter_from (λ (x : Service). not (has_id s.id x)) live rival.0 beside;
        another = not_true (has_id s.id rival.0) (passes (λ (x : Service). not (has_id s.id x)) live rival.0 beside);
        item = found.item;
        written = written;
        other = against.0;
        holds = against.1;
        unequal = against.2;
      };
      least_name = λ r' clash lt. name_least found.item written names.least r' clash lt;
    }
  where
    -- what the clash writes is what was found, so its rival is among those whose names were compared
    name_least : (item : Item) → get (part s device) at.0 ≡ Some item
        → All (IsUpTo at.1) (map (λ (x : Service). x.id) (filter (λ (x : Service). differs item (get (part x device) at.0)) (others live s.id)))
        → (r' : Service) (c : IsClash live device at.0 s r') → text_cmp r'.id at.1 ≡ Less → ⊥
    name_least item written all r' c lt =
        let here : Service → Bool = λ x. differs item (get (part x device) at.0) in
        let each = all_map (IsUpTo at.1) (λ (x : Service). x.id) (filter here (others live s.id)) all in
        let same : c.item ≡ item = some_is (sym c.written ∙ written) in
        let rival_differs : here r' ≡ true = differing item (get (part r' device) at.0) c.other c.holds (λ e. c.unequal (same ∙ e)) in
        let beside : Contains (others live s.id) r' = in_filter (λ (x : Service). not (has_id s.id x)) live r' c.living (ap not c.another) in
        All-contains (λ (x : Service). IsUpTo at.1 x.id) (filter here (others live s.id)) r' each
        (in_filter here (others live s.id) r' beside rival_differs) lt

pub any_of : {X : Type 0} (p : X → Bool) (xs : List X) (x : X) → Contains xs x → p x ≡ true → list_any p xs ≡ true
any_of p [] x c h = absurd (none_in_nil x c)
any_of p (y ∷ ys) x c h = on (any_of p ys x) (in_cases y x ys c)
  where
    on : (Contains ys x → p x ≡ true → list_any p ys ≡ true) → (y ≡ x) ⊎ Contains ys x → (p y || list_any p ys) ≡ true
    on rest (inl one) = ap (λ t. t || list_any p ys) (ap p one ∙ h)
    on rest (inr later) = or_right (p y) _ (rest later h)
