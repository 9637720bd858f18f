-- What a store knows of a path is what the living services write there.
use Rattle.std.proofs.Common.{◌≡◌, ℕ, Bool, true, false, cond, ◌||◌, List, [], ◌∷◌, suc, ◌<◌, map, length, IsTrue, IfSome, None, Some, is_none, is_some, get_or, slice_get, refl, sym, ap, subst, ◌∙◌, ◌↔◌}
use Rattle.std.specs.declared.option.Option.{Option}
use Rattle.std.specs.declared.cmp.Ordering.{Ordering}
use Rattle.std.specs.declared.cmp.Ordering.TheVariants.{Less, Equal, Greater}
use Rattle.std.specs.Ordering.{is_lt, ordering_reverse}
use Rattle.std.specs.Option.{option_copied}
use Rattle.std.specs.List.{filter, list_any, AllByRecursion, Contains, IsDistinct}
use Rattle.std.specs.Set.{is_member}
use Rattle.std.specs.Cmp.{first_so, second_so}
use Rattle.std.specs.Cmp.Lexicographic.{bytes_decides, nat_list_cmp_total}
use Rattle.std.specs.FinMap.{get}
use Rattle.std.proofs.lemmas.Cmp.{nat_list_eq_equiv}
use Rattle.std.proofs.lemmas.Map.Keys.{IsDistinct-cons, IsDistinct-head, IsDistinct-tail}
use Rattle.std.proofs.lemmas.Map.Made.{length-from_same_keys}
use Rattle.orc_path.specs.Steps.{PathStep}
use Rattle.orc_path.specs.Order.{text_cmp}
use Rattle.orc_path.specs.Configurations.{Config}
use Rattle.orc_path.specs.declared.item.Item.{Item}
use Rattle.orc_refs.specs.Ids.{are_rising, comes_before, holds_id}
use Rattle.orc_refs.specs.Stores.{Store, ids_at}
use Rattle.orc_refs.specs.declared.moves.Meta.{Meta}
use Rattle.orc_datastore.specs.States.{Datastore, config_of, has_id, part}
use Rattle.orc_decls.specs.Devices.{is_same_text}
use Rattle.orc_datastore.specs.Metas.{AreNamesOf, IsMeta, writers}
use Rattle.orc_datastore.specs.inside.Keeping.{AreKept, IsStoreFor}
use Rattle.orc_datastore.specs.inside.Placed.{AreNamedOnce}
use Rattle.orc_datastore.specs.declared.service.Service.{Service}
use Rattle.orc_datastore.proofs.Agreement.{AreUnique, first_in, in_filter, later_in}
use Rattle.orc_datastore.proofs.Clashing.{own_writes, writer_of}
use Rattle.orc_datastore.proofs.LeastClash.{any_of}
use Rattle.orc_decls.proofs.Lists.{filter_from, passes, true_not_false}
use Rattle.orc_datastore.proofs.Named.{is_text_itself, other_way}
use Rattle.orc_datastore.proofs.OnDevice.{written}
use Rattle.orc_datastore.proofs.Placing.{based, named_unique, placed_at}
use Rattle.orc_datastore.proofs.Residents.{same_test}

some_none : {A : Type 0} {a : A} → Some a ≡ None → ⊥
some_none q = cc

-- names that rise differ

greater_itself : (a : List ℕ) → text_cmp a a ≡ Less → ⊥
greater_itself a h = let turned : Less ≡ Greater = sym h ∙ nat_list_cmp_total.antisymm a a ∙ ap ordering_reverse h in cc

less_differs : (a b : List ℕ) → is_lt (text_cmp a b) ≡ true → is_same_text a b ≡ false
less_differs a b h = on (is_same_text a b) refl
  where
    less : (o : Ordering) → is_lt o ≡ true → o ≡ Less
    less Less e = refl
    less Equal e = cc
    less Greater e = cc

    on : (t : Bool) → is_same_text a b ≡ t → t ≡ false
    on false is = refl
    on true is =
        absurd (greater_itself a (ap (text_cmp a) ((bytes_decides a b).0 is) ∙ less (text_cmp a b) h))

before_differs : (id : List ℕ) (ids : List (List ℕ)) → comes_before id ids ≡ true → AllByRecursion (λ other. is_same_text id other ≡ false) ids
before_differs id [] h = tt
before_differs id (other ∷ ids) h = (
  less_differs id other (first_so (is_lt (text_cmp id other)) (comes_before id ids) h),
  before_differs id ids (second_so (is_lt (text_cmp id other)) (comes_before id ids) h),
)

rising_distinct : (ids : List (List ℕ)) → are_rising ids ≡ true → IsDistinct is_same_text ids
unfolding IsDistinct
rising_distinct [] h = tt
rising_distinct (id ∷ ids) h =
    IsDistinct-cons is_same_text id ids (before_differs id ids (first_so (comes_before id ids) (are_rising ids) h))
    (rising_distinct ids (second_so (comes_before id ids) (are_rising ids) h))

-- of services with names of their own, some

abbrev name_list : List Service → List (List ℕ)
name_list live = map (λ (service : Service). service.id) live

differ_filter : (id : List ℕ) (p : Service → Bool) (live : List Service) → AllByRecursion (λ other. is_same_text id other ≡ false) (name_list live)
    → AllByRecursion (λ other. is_same_text id other ≡ false) (name_list (filter p live))
differ_filter id p [] h = tt
differ_filter id p (s ∷ ss) h = on (p s) (differ_filter id p ss h.1)
  where
    on : (t : Bool) → AllByRecursion (λ other. is_same_text id other ≡ false) (name_list (filter p ss))
        → AllByRecursion (λ other. is_same_text id other ≡ false) (name_list (cond t (s ∷ filter p ss) (filter p ss)))
    on true rest = (h.0, rest)
    on false rest = rest

distinct_filter : (p : Service → Bool) (live : List Service) → IsDistinct is_same_text (name_list live) → IsDistinct is_same_text (name_list (filter p live))
distinct_filter p [] h = h
distinct_filter p (s ∷ ss) h = on (p s) (distinct_filter p ss (IsDistinct-tail is_same_text s.id (name_list ss) h))
  where
    on : (t : Bool) → IsDistinct is_same_text (name_list (filter p ss)) → IsDistinct is_same_text (name_list (cond t (s ∷ filter p ss) (filter p ss)))
    on true rest =
        IsDistinct-cons is_same_text s.id (name_list (filter p ss)) (differ_filter s.id p ss (IsDistinct-head is_same_text s.id (name_list ss) h)) rest
    on false rest = rest

-- either way round
turned : (a b : List ℕ) → is_same_text a b ≡ is_same_text b a
turned a b = on (is_same_text b a) refl
  where
    on : (t : Bool) → is_same_text b a ≡ t → is_same_text a b ≡ t
    on true is = (bytes_decides a b).1 (sym ((bytes_decides b a).0 is))
    on false is = other_way b a is

member_ids : (id : List ℕ) (ids : List (List ℕ)) → is_member is_same_text ids id ≡ holds_id id ids
member_ids id [] = refl
member_ids id (other ∷ ids) =
    ap (λ t. t || is_member is_same_text ids id) (turned id other) ∙ ap (λ t. is_same_text other id || t) (member_ids id ids)

member_services : (id : List ℕ) (live : List Service) → is_member is_same_text (name_list live) id ≡ list_any (has_id id) live
member_services id [] = refl
member_services id (s ∷ ss) =
    ap (λ t. t || is_member is_same_text (name_list ss) id) (turned id s.id) ∙ ap (λ t. has_id id s || t) (member_services id ss)

length_names : (live : List Service) → length (name_list live) ≡ length live
length_names [] = refl
length_names (s ∷ ss) = ap suc (length_names ss)

names_count : (live : List Service) (p : Service → Bool) (ids : List (List ℕ)) → AreNamedOnce live → AreNamesOf (filter p live) ids
    → length ids ≡ length (filter p live)
names_count live p ids once of =
    length-from_same_keys nat_list_eq_equiv ids (name_list (filter p live)) (rising_distinct ids of.rising) (distinct_filter p live once)
    (λ id. member_ids id ids ∙ of.exact id ∙ sym (member_services id (filter p live)))
    ∙ length_names (filter p live)

-- who writes a path

any_in : (p : Service → Bool) (xs : List Service) → list_any p xs ≡ true → (s : Service) × Contains xs s × (p s ≡ true)
any_in p [] h = absurd (true_not_false (sym h))
any_in p (x ∷ xs) h = on (p x) refl h (any_in p xs)
  where
    on : (t : Bool) → p x ≡ t → (t || list_any p xs) ≡ true → (list_any p xs ≡ true → (s : Service) × Contains xs s × (p s ≡ true))
        → (s : Service) × Contains (x ∷ xs) s × (p s ≡ true)
    on true is e rest = (x, first_in x xs, is)
    on false is e rest = let found = rest e in (found.0, later_in x found.0 xs found.1, found.2)

item_of : (o : Option Item) → is_some o ≡ true → (item : Item) × (o ≡ Some item)
item_of None h = absurd (true_not_false (sym h))
item_of (Some item) h = (item, refl)

pub names_of_writers : (live : List Service) (d : ℕ) (store : Store) (path : List PathStep) → AreNamedOnce live → IsStoreFor live d store
    → AreNamesOf (filter (λ service. is_some (get (part service d) path)) live) (ids_at store path)
names_of_writers live d store path once for = record {
  rising = for.sound.rising path;
  exact = λ id. same_test _ _ (there id) (back id);
}
  where
    p : Service → Bool
    p s = is_some (get (part s d) path)

    unique : AreUnique live
    unique = named_unique live once

    there : (id : List ℕ) → holds_id id (ids_at store path) ≡ true → list_any (has_id id) (filter (λ service. is_some (get (part service d) path)) live) ≡ true
    there id holds =
        let some = item_of (get store.tree path)
        (for.sound.covered path (λ none. true_not_false (sym holds ∙ ap (holds_id id) none))) in
        let writes : written live d id path ≡ Some some.0 =
        sym (for.of.writers id path) ∙ ap (λ t. cond t (get store.tree path) None) holds ∙ some.1 in
        let who = writer_of live d id path some.0 writes in
        any_of (has_id id) (filter (λ service. is_some (get (part service d) path)) live) who.0
        (in_filter (λ service. is_some (get (part service d) path)) live who.0 who.1 (ap is_some who.3))
        (ap (λ i. is_same_text i id) who.2 ∙ is_text_itself id)

    back : (id : List ℕ) → list_any (has_id id) (filter (λ service. is_some (get (part service d) path)) live) ≡ true → holds_id id (ids_at store path) ≡ true
    back id any =
        let who = any_in (has_id id) (filter (λ service. is_some (get (part service d) path)) live) any in
        let living : Contains live who.0 = filter_from (λ service. is_some (get (part service d) path)) live who.0 who.1 in
        let some = item_of (get (part who.0 d) path) (passes (λ service. is_some (get (part service d) path)) live who.0 who.1) in
        let writes : written live d who.0.id path ≡ Some some.0 = own_writes live d who.0 path unique living ∙ some.1 in
        ap (λ i. holds_id i (ids_at store path)) (sym ((bytes_decides who.0.id id).0 who.2))
        ∙ held_by who.0.id some.0 (for.of.writers who.0.id path ∙ writes)
      where
        held_by : (i : List ℕ) (item : Item) → cond (holds_id i (ids_at store path)) (get store.tree path) None ≡ Some item → holds_id i (ids_at store path) ≡ true
        held_by i item e = on (holds_id i (ids_at store path)) refl e
          where
            on : (t : Bool) → holds_id i (ids_at store path) ≡ t → cond t (get store.tree path) None ≡ Some item → t ≡ true
            on true is e = refl
            on false is e = absurd (some_none (sym e))

no_names : (services : List Service) → AreNamesOf services [] → services ≡ []
no_names [] of = refl
no_names (s ∷ ss) of =
    absurd (true_not_false (sym (ap (λ t. t || list_any (has_id s.id) ss) (is_text_itself s.id)) ∙ sym (of.exact s.id)))

some_names : (services : List Service) (ids : List (List ℕ)) → AreNamesOf services ids → services ≡ [] → ids ≡ []
some_names services [] of none = refl
some_names services (id ∷ ids) of none =
    absurd (true_not_false (sym (ap (λ t. t || holds_id id ids) (is_text_itself id)) ∙ of.exact id ∙ ap (list_any (has_id id)) none))

pub meta-kept : (state : Datastore) (stores : List Store) (d : ℕ) (store : Store) (path : List PathStep) (result : Option Meta)
    → AreKept stores state.live → AreNamedOnce state.live → state.bases ≡ map (λ (s : Store). s.base) stores → slice_get stores d ≡ Some store
    → (IsTrue (is_none result) ↔ (ids_at store path ≡ []))
    → IfSome result (λ meta. meta.count ≡ length (ids_at store path))
    → IfSome result (λ meta. meta.back.now ≡ ids_at store path)
    → IfSome result (λ meta. option_copied meta.original ≡ get store.base path)
    → IsMeta state d path result
meta-kept state stores d store path None kept once bases at none count back original =
    let of = names_of_writers state.live d store path once (kept.each d store at) in
    no_names (writers state d path) (subst (AreNamesOf (writers state d path)) (none.0 refl) of)
meta-kept state stores d store path (Some meta) kept once bases at none count back original =
    let of = names_of_writers state.live d store path once (kept.each d store at) in (
      λ nobody. true_not_false (sym (none.1 (some_names (writers state d path) (ids_at store path) of nobody))),
      count ∙ names_count state.live (λ service. is_some (get (part service d) path)) (ids_at store path) once of,
      subst (AreNamesOf (writers state d path)) (sym back) of,
      original ∙ sym (ap (λ (b : Config). get b path) (ap (λ (l : List Config). config_of l d) bases ∙ based stores d store at)),
    )

pub meta-of : (state : Datastore) (config : Config) (stores slice : List Store) (live : List Service) (d : ℕ) (store : Store) (path : List PathStep) (result : Option Meta)
    → record { «data» = config; bases = map (λ (s : Store). s.base) stores; live = live } ≡ state → AreKept stores live → AreNamedOnce live
    → slice ≡ stores → d < length state.bases → store ≡ get_or slice d store
    → (IsTrue (is_none result) ↔ (ids_at store path ≡ []))
    → IfSome result (λ meta. meta.count ≡ length (ids_at store path))
    → IfSome result (λ meta. meta.back.now ≡ ids_at store path)
    → IfSome result (λ meta. option_copied meta.original ≡ get store.base path)
    → IsMeta state d path result
meta-of state config stores slice live d store path result view kept once same lt is none count back original =
    subst (λ (z : Datastore). IsMeta z d path result) view
    (meta-kept (record { «data» = config; bases = map (λ (s : Store). s.base) stores; live = live }) stores d store path result kept once refl
    (placed_at state config stores slice live d store view same lt is) none count back original)
