-- The stores in their places, and the living services, after a call.
use Rattle.std.proofs.Common.{◌≡◌, ℕ, zero, suc, ◌+◌, ◌<◌, Bool, true, false, cond, not, ◌&&◌, ◌||◌, List, [], ◌∷◌, ◌++◌, ◌⊎◌, inl, inr, map, length, All, None, Some, get_or, slice_get, slice_set, refl, sym, ap, subst, ◌∙◌, arith}
use Rattle.std.specs.declared.option.Option.{Option}
use Rattle.std.specs.Option.{option_or}
use Rattle.std.specs.Cmp.Lexicographic.{bytes_decides}
use Rattle.std.specs.List.{filter, flat_map, fold, list_any, AllByRecursion, Contains}
use Rattle.std.proofs.lemmas.Bool.{cases_lt}
use Rattle.std.proofs.lemmas.List.{length-map}
use Rattle.std.proofs.lemmas.Option.{slice_get_read}
use Rattle.std.proofs.lemmas.Map.Keys.{IsDistinct-head, IsDistinct-tail}
use Rattle.std.proofs.lemmas.List.Elements.{All-nil, All-cons, filter_agree}
use Rattle.orc_path.specs.Configurations.{Config, overlay}
use Rattle.orc_call.specs.declared.answer.Answer.{Answer}
use Rattle.orc_call.specs.declared.call.Action.{Action}
use Rattle.orc_call.specs.declared.call.Action.TheVariants.{Literal, Delete}
use Rattle.orc_refs.specs.Live.{StoreIsOverlay, are_apart, overlaid}
use Rattle.orc_refs.specs.Stores.{Store}
use Rattle.orc_datastore.specs.States.{Datastore, config_of, expansion, has_id, lives, others, part, tree_due}
use Rattle.orc_decls.specs.Devices.{is_same_text, name_of}
use Rattle.orc_datastore.specs.Actions.{base_step, bases_after, is_named_by, live_after, name_each_once, names, new_services, touched}
use Rattle.orc_datastore.specs.Clashes.{clash_at, clash_from}
use Rattle.orc_datastore.specs.Next.{clash}
use Rattle.orc_datastore.specs.inside.Behind.{changed_by}
use Rattle.orc_datastore.specs.inside.Placed.{AreNamedOnce}
use Rattle.orc_datastore.specs.inside.Turns.{AreFresh, comers, left_by, turn_id, turns_of}
use Rattle.orc_datastore.specs.inside.Keeping.{AreChanges, AreKept, IsBehind, IsStoreFor, clash_on, on_device, picked, placed}
use Rattle.orc_datastore.specs.declared.service.Service.{Service}
use Rattle.orc_datastore.proofs.Agreement.{AreUnique, in_cases, none_in_nil, some}
use Rattle.orc_datastore.proofs.Kept.{behind-complete}
use Rattle.orc_decls.proofs.Lists.{filter_all, not_true, or_first, or_second, or_true, true_not_false}
use Rattle.orc_datastore.proofs.Named.{behind-once, is_text_itself, once_first, once_later, other_way}

none_some : {A : Type 0} {a : A} → None ≡ Some a → ⊥
none_some q = cc

-- names

other_name : (id : List ℕ) (live : List Service) → AllByRecursion (λ y. is_same_text id y ≡ false) (map (λ (s : Service). s.id) live)
    → (s : Service) → Contains live s → id ≡ s.id → ⊥
other_name id [] all s c e = none_in_nil s c
other_name id (x ∷ xs) all s c e = on (in_cases x s xs c) (λ later. other_name id xs all.1 s later e)
  where
    on : (x ≡ s) ⊎ Contains xs s → (Contains xs s → ⊥) → ⊥
    on (inl one) rest =
        true_not_false (sym (is_text_itself id) ∙ ap (is_same_text id) (e ∙ ap (λ (z : Service). z.id) (sym one)) ∙ all.0)
    on (inr later) rest = rest later

pub named_unique : (live : List Service) → AreNamedOnce live → AreUnique live
named_unique [] once a b ca cb same = absurd (none_in_nil a ca)
named_unique (x ∷ xs) once a b ca cb same =
    on (in_cases x a xs ca) (in_cases x b xs cb) (λ l m. named_unique xs (IsDistinct-tail is_same_text x.id (map (λ (s : Service). s.id) xs) once) a b l m same)
  where
    on : (x ≡ a) ⊎ Contains xs a → (x ≡ b) ⊎ Contains xs b → (Contains xs a → Contains xs b → a ≡ b) → a ≡ b
    on (inl one) (inl two) rest = sym one ∙ two
    on (inl one) (inr later) rest = absurd (other_name x.id xs (IsDistinct-head is_same_text x.id (map (λ (s : Service). s.id) xs) once) b later (ap (λ (z : Service). z.id) one ∙ same))
    on (inr later) (inl two) rest = absurd (other_name x.id xs (IsDistinct-head is_same_text x.id (map (λ (s : Service). s.id) xs) once) a later (ap (λ (z : Service). z.id) two ∙ sym same))
    on (inr later) (inr also) rest = rest later also

none_other : (id : List ℕ) (live : List Service) (d : ℕ) → AllByRecursion (λ y. is_same_text id y ≡ false) (map (λ (s : Service). s.id) live)
    → list_any (λ other. is_same_text other.id id) (on_device live d) ≡ false
none_other id [] d all = refl
none_other id (x ∷ xs) d all =
    ap (λ t. t || list_any (λ other. is_same_text other.id id) (on_device xs d)) (other_way id x.id (all.0)) ∙ none_other id xs d all.1

pub named_apart : (live : List Service) (d : ℕ) → AreNamedOnce live → are_apart (on_device live d) ≡ true
named_apart [] d once = refl
named_apart (x ∷ xs) d once =
    ap (λ t. not t && are_apart (on_device xs d)) (none_other x.id xs d (IsDistinct-head is_same_text x.id (map (λ (s : Service). s.id) xs) once)) ∙ named_apart xs d (IsDistinct-tail is_same_text x.id (map (λ (s : Service). s.id) xs) once)

-- the tree of a store

pub laid_same : (live : List Service) (d : ℕ) (base : Config)
    → overlaid (map (λ a. a.items) (on_device live d)) base ≡ overlaid (map (λ service. part service d) live) base
laid_same [] d base = refl
laid_same (x ∷ xs) d base = laid_same xs d (overlay (part x d) base)

pub based : (stores : List Store) (d : ℕ) (store : Store) → slice_get stores d ≡ Some store
    → config_of (map (λ (s : Store). s.base) stores) d ≡ store.base
based [] d store is = absurd (none_some is)
based (x ∷ xs) zero store is = ap (λ (s : Store). s.base) (some is)
based (x ∷ xs) (suc d) store is = based xs d store is

pub tree-kept : StoreIsOverlay → (state : Datastore) (stores : List Store) (d : ℕ) (store : Store) → AreKept stores state.live → AreNamedOnce state.live
    → state.bases ≡ map (λ (s : Store). s.base) stores → slice_get stores d ≡ Some store → store.tree ≡ tree_due state d
tree-kept law state stores d store kept once bases is =
    let for = kept.each d store is in
    (law (on_device state.live d) store.base store for.sound for.of (named_apart state.live d once)).0
    ∙ laid_same state.live d store.base
    ∙ sym (ap (overlaid (map (λ service. part service d) state.live)) (ap (λ (l : List Config). config_of l d) bases ∙ based stores d store is))

-- changes

pushed : {X : Type 0} (xs : List X) (x : X) (d : ℕ) (y : X) → slice_get (xs ++ x ∷ []) d ≡ Some y
    → (slice_get xs d ≡ Some y) ⊎ ((d ≡ length xs) × (y ≡ x))
pushed [] x zero y h = inr (refl, sym (some h))
pushed [] x (suc d) y h = absurd (none_some h)
pushed (z ∷ zs) x zero y h = inl h
pushed (z ∷ zs) x (suc d) y h = on (pushed zs x d y h)
  where
    on : (slice_get zs d ≡ Some y) ⊎ ((d ≡ length zs) × (y ≡ x)) → (slice_get zs d ≡ Some y) ⊎ ((suc d ≡ suc (length zs)) × (y ≡ x))
    on (inl there) = inl there
    on (inr last) = inr (ap suc last.0, last.1)

pub more-changes : (devices : List (List ℕ)) (live : List Service) (actions : List Action) (stores : List Store) (changes : List (Option Store))
    (store : Store) (change : Option Store) → AreChanges devices live actions stores changes → slice_get stores (length changes) ≡ Some store
    → IsBehind devices live actions (length changes) store.base (picked store change)
    → AreChanges devices live actions stores (changes ++ change ∷ [])
more-changes devices live actions stores changes store change before is new = record {
  each = λ d s c hs hc. on d s c hs (pushed changes change d c hc);
}
  where
    on : (d : ℕ) (s : Store) (c : Option Store) → slice_get stores d ≡ Some s
        → (slice_get changes d ≡ Some c) ⊎ ((d ≡ length changes) × (c ≡ change)) → IsBehind devices live actions d s.base (picked s c)
    on d s c hs (inl there) = before.each d s c hs there
    on d s c hs (inr last) =
        let here : slice_get stores (length changes) ≡ Some s = ap (slice_get stores) (sym last.0) ∙ hs in
        let same : store ≡ s = some (sym is ∙ here) in
        subst (λ n. IsBehind devices live actions n s.base (picked s c)) (sym last.0)
        (subst (λ (x : Option Store). IsBehind devices live actions (length changes) s.base (picked s x)) (sym last.1)
        (subst (λ (x : Store). IsBehind devices live actions (length changes) x.base (picked x change)) same new))

pub clear-more : (f : ℕ → Option Answer) (n : ℕ) → ((j : ℕ) → j < n → f j ≡ None) → f n ≡ None → (j : ℕ) → j < n + 1 → f j ≡ None
clear-more f n before here j lt =
    elim (cases_lt j n) [
      | inl less ↦ before j less
      | inr upto ↦ ap f (omega (arith, lt, upto)) ∙ here
    ]

clash-none_from : (live services : List Service) (k : ℕ) (devices : List (List ℕ))
    → ((j : ℕ) → j < length devices → clash_at live services (k + j) ≡ None) → clash_from live services k devices ≡ None
clash-none_from live services k [] h = refl
clash-none_from live services k (name ∷ devices) h =
    ap (λ o. option_or o (clash_from live services (suc k) devices))
    (subst (λ n. clash_at live services n ≡ None) (omega arith) (h 0 (omega arith)))
    ∙ clash-none_from live services (suc k) devices
    (λ j lt. subst (λ n. clash_at live services n ≡ None) (omega arith) (h (suc j) (omega (arith, lt))))

clash-some_from : (live services : List Service) (k : ℕ) (devices : List (List ℕ)) (i : ℕ) (answer : Answer) → i < length devices
    → ((j : ℕ) → j < i → clash_at live services (k + j) ≡ None) → clash_at live services (k + i) ≡ Some answer
    → clash_from live services k devices ≡ Some answer
clash-some_from live services k [] i answer lt h here = absurd (omega (arith, lt))
clash-some_from live services k (name ∷ devices) zero answer lt h here =
    ap (λ o. option_or o (clash_from live services (suc k) devices))
    (subst (λ n. clash_at live services n ≡ Some answer) (omega arith) here)
clash-some_from live services k (name ∷ devices) (suc i) answer lt h here =
    ap (λ o. option_or o (clash_from live services (suc k) devices))
    (subst (λ n. clash_at live services n ≡ None) (omega arith) (h 0 (omega arith)))
    ∙ clash-some_from live services (suc k) devices i answer (omega (arith, lt))
    (λ j less. subst (λ n. clash_at live services n ≡ None) (omega arith) (h (suc j) (omega (arith, less))))
    (subst (λ n. clash_at live services n ≡ Some answer) (omega arith) here)

pub clash-none : (devices : List (List ℕ)) (live : List Service) (actions : List Action)
    → ((j : ℕ) → j < length devices → clash_on devices live actions j ≡ None) → clash devices live actions ≡ None
clash-none devices live actions h =
    let behind = live_after devices actions live in
    clash-none_from behind (touched actions behind) 0 devices
    (λ j lt. subst (λ n. clash_at behind (touched actions behind) n ≡ None) (omega arith) (h j lt))

pub clash-some : (devices : List (List ℕ)) (live : List Service) (actions : List Action) (i : ℕ) (answer : Answer) → i < length devices
    → ((j : ℕ) → j < i → clash_on devices live actions j ≡ None) → clash_on devices live actions i ≡ Some answer
    → clash devices live actions ≡ Some answer
clash-some devices live actions i answer lt h here =
    let behind = live_after devices actions live in
    clash-some_from behind (touched actions behind) 0 devices i answer lt
    (λ j less. subst (λ n. clash_at behind (touched actions behind) n ≡ None) (omega arith) (h j less))
    (subst (λ n. clash_at behind (touched actions behind) n ≡ Some answer) (omega arith) here)

-- stores in their places

pub placed-get : (stores : List Store) (changes : List (Option Store)) → length changes ≡ length stores → (d : ℕ) (t : Store)
    → slice_get (placed stores changes) d ≡ Some t
    → (s : Store) × (c : Option Store) × (slice_get stores d ≡ Some s) × (slice_get changes d ≡ Some c) × (t ≡ picked s c)
placed-get [] changes n d t h = absurd (none_some h)
placed-get (s ∷ stores) [] n d t h = absurd (omega (arith, n))
placed-get (s ∷ stores) (c ∷ changes) n zero t h = (s, c, refl, refl, sym (some h))
placed-get (s ∷ stores) (c ∷ changes) n (suc d) t h = placed-get stores changes (omega (arith, n)) d t h

pub placed-count : (stores : List Store) (changes : List (Option Store)) → length (placed stores changes) ≡ length stores
placed-count [] changes = refl
placed-count (s ∷ stores) [] = refl
placed-count (s ∷ stores) (c ∷ changes) = ap suc (placed-count stores changes)

pub placed-kept : (devices : List (List ℕ)) (live : List Service) (actions : List Action) (stores : List Store) (changes : List (Option Store))
    → AreKept stores live → length stores ≡ length devices → length changes ≡ length stores → AreChanges devices live actions stores changes
    → AreKept (placed stores changes) (live_after devices actions live)
placed-kept devices live actions stores changes kept count n new = record {
  each = λ d t h.
      let at = placed-get stores changes n d t h in
      subst (IsStoreFor (live_after devices actions live) d) (sym at.4) (new.each d at.0 at.1 at.2 at.3).holds;
  parts = subst (λ m. All (λ (service : Service). length service.parts ≡ m) (live_after devices actions live)) (sym (placed-count stores changes))
      (behind-complete devices actions live (length stores) count kept.parts);
}

bases_placed : (devices : List (List ℕ)) (actions : List Action) (stores : List Store) (changes : List (Option Store))
    → length stores ≡ length devices → length changes ≡ length stores
    → ((d : ℕ) (s : Store) (c : Option Store) → slice_get stores d ≡ Some s → slice_get changes d ≡ Some c
    → (picked s c).base ≡ fold (base_step (name_of devices d)) s.base actions)
    → map (λ (s : Store). s.base) (placed stores changes) ≡ bases_after devices actions (map (λ (s : Store). s.base) stores)
bases_placed devices actions [] changes count n h = refl
bases_placed devices actions (s ∷ stores) [] count n h = absurd (omega (arith, n))
bases_placed [] actions (s ∷ stores) (c ∷ changes) count n h = absurd (omega (arith, count))
bases_placed (name ∷ devices) actions (s ∷ stores) (c ∷ changes) count n h =
    ap (λ (b : Config). b ∷ map (λ (x : Store). x.base) (placed stores changes)) (h 0 s c refl refl)
    ∙ ap (λ l. fold (base_step name) s.base actions ∷ l)
    (bases_placed devices actions stores changes (omega (arith, count)) (omega (arith, n)) (λ d x y hx hy. h (suc d) x y hx hy))

pub placed-bases : (devices : List (List ℕ)) (live : List Service) (actions : List Action) (stores : List Store) (changes : List (Option Store))
    → length stores ≡ length devices → length changes ≡ length stores → AreChanges devices live actions stores changes
    → map (λ (s : Store). s.base) (placed stores changes) ≡ bases_after devices actions (map (λ (s : Store). s.base) stores)
placed-bases devices live actions stores changes count n new =
    bases_placed devices actions stores changes count n (λ d s c hs hc. (new.each d s c hs hc).edited)

-- living services

-- a name that one of the actions names is that of no living one that none of them names
named_gone : (actions : List Action) (live : List Service) (id : List ℕ) → is_named_by actions id ≡ true
    → lives (filter (λ (s : Service). not (is_named_by actions s.id)) live) id ≡ false
named_gone actions [] id h = refl
named_gone actions (s ∷ ss) id h = on (has_id id s) refl (is_named_by actions s.id) refl (named_gone actions ss id h)
  where
    left : List Service
    left = filter (λ (x : Service). not (is_named_by actions x.id)) ss

    on : (t : Bool) → has_id id s ≡ t → (b : Bool) → is_named_by actions s.id ≡ b → lives left id ≡ false
        → lives (cond (not b) (s ∷ left) left) id ≡ false
    on t has true is rest = rest
    on false has false is rest = ap (λ x. x || lives left id) has ∙ rest
    on true has false is rest =
        absurd (true_not_false (sym h ∙ sym (ap (is_named_by actions) ((bytes_decides s.id id).0 has)) ∙ is))

-- no service lives that one of the actions makes
abbrev AreAway : List Service → List Action → Type 0
AreAway live [] = Unit {0}
AreAway live (Literal id ws ∷ actions) = (lives live id ≡ false) × AreAway live actions
AreAway live (other ∷ actions) = AreAway live actions

away : (all : List Action) (live : List Service) (actions : List Action) → ((id : List ℕ) → is_named_by actions id ≡ true → lives live id ≡ false)
    → AreAway live actions
away all live [] h = tt
away all live (Literal id ws ∷ actions) h = (
  h id (ap (λ t. t || is_named_by actions id) (is_text_itself id)),
  away all live actions (λ i is. h i (or_true (is_same_text i id) (is_named_by actions i) is)),
)
away all live (other ∷ actions) h = away all live actions (λ i is. h i (or_true (names other i) (is_named_by actions i) is))

lives_more : (live : List Service) (s : Service) (id : List ℕ) → lives live id ≡ false → is_same_text s.id id ≡ false → lives (live ++ s ∷ []) id ≡ false
lives_more [] s id h o = ap (λ t. t || false) o
lives_more (x ∷ xs) s id h o =
    ap (λ t. t || lives (xs ++ s ∷ []) id) (or_first (has_id id x) (lives xs id) h) ∙ lives_more xs s id (or_second (has_id id x) (lives xs id) h) o

away_more : (live : List Service) (s : Service) (actions : List Action) → is_named_by actions s.id ≡ false → AreAway live actions → AreAway (live ++ s ∷ []) actions
away_more live s [] h f = tt
away_more live s (Literal id ws ∷ actions) h f = (
  lives_more live s id f.0 (or_first (is_same_text s.id id) (is_named_by actions s.id) h),
  away_more live s actions (or_second (is_same_text s.id id) (is_named_by actions s.id) h) f.1,
)
away_more live s (other ∷ actions) h f = away_more live s actions (or_second (names other s.id) (is_named_by actions s.id) h) f

away_fresh : (devices : List (List ℕ)) (live : List Service) (actions : List Action) → name_each_once actions ≡ true → AreAway live actions
    → AreFresh live (flat_map (new_services devices) actions)
away_fresh devices live [] once f = tt
away_fresh devices live (Literal id ws ∷ actions) once f = (
  f.0,
  away_fresh devices (live ++ record { id = id; parts = expansion devices ws } ∷ []) actions (once_later (Literal id ws) actions once)
      (away_more live (record { id = id; parts = expansion devices ws }) actions (not_true (is_named_by actions id) (once_first (Literal id ws) actions once)) f.1),
)
away_fresh devices live (other ∷ actions) once f = away_fresh devices live actions (once_later other actions once) f

pub comers-made : (devices : List (List ℕ)) (actions : List Action)
    → flat_map comers (flat_map (turns_of devices) actions) ≡ flat_map (new_services devices) actions
comers-made devices [] = refl
comers-made devices (Literal id ws ∷ actions) = ap (λ l. record { id = id; parts = expansion devices ws } ∷ l) (comers-made devices actions)
comers-made devices (Delete id ∷ actions) = comers-made devices actions
comers-made devices (other ∷ actions) = comers-made devices actions

-- the names of the services that come or go are those that the actions name
others_unnamed : (live : List Service) (own : List ℕ) (q : Service → Bool)
    → filter q (others live own) ≡ filter (λ s. not (has_id own s || not (q s))) live
others_unnamed [] own q = refl
others_unnamed (s ∷ ss) own q = on (has_id own s) (q s) refl (others_unnamed ss own q)
  where
    left : List Service
    left = filter (λ x. not (has_id own x || not (q x))) ss

    on : (t b : Bool) → q s ≡ b → filter q (others ss own) ≡ left
        → filter q (cond (not t) (s ∷ others ss own) (others ss own)) ≡ cond (not (t || not b)) (s ∷ left) left
    on true b is rest = rest
    on false true is rest = ap (λ t. cond t (s ∷ filter q (others ss own)) (filter q (others ss own))) is ∙ ap (λ l. s ∷ l) rest
    on false false is rest = ap (λ t. cond t (s ∷ filter q (others ss own)) (filter q (others ss own))) is ∙ rest

not_twice : (b : Bool) → not (not b) ≡ b
not_twice true = refl
not_twice false = refl

left_first : (devices : List (List ℕ)) (live : List Service) (own : List ℕ) (action : Action) (actions : List Action)
    → ((id : List ℕ) → names action id ≡ is_same_text id own)
    → left_by (others live own) (map turn_id (flat_map (turns_of devices) actions)) ≡ filter (λ s. not (is_named_by actions s.id)) (others live own)
    → left_by (others live own) (map turn_id (flat_map (turns_of devices) actions)) ≡ filter (λ s. not (is_named_by (action ∷ actions) s.id)) live
left_first devices live own action actions named_so rest =
    rest ∙ others_unnamed live own (λ s. not (is_named_by actions s.id))
    ∙ filter_agree (λ (s : Service). not (has_id own s || not (not (is_named_by actions s.id)))) (λ (s : Service). not (is_named_by (action ∷ actions) s.id))
    (λ s. ap not (ap (λ t. has_id own s || t) (not_twice (is_named_by actions s.id))
    ∙ ap (λ t. t || is_named_by actions s.id) (sym (named_so s.id)))) live

pub left-unnamed : (devices : List (List ℕ)) (live : List Service) (actions : List Action)
    → left_by live (map turn_id (flat_map (turns_of devices) actions)) ≡ filter (λ s. not (is_named_by actions s.id)) live
left-unnamed devices live [] = sym (filter_all (λ (s : Service). true) live (every live))
  where
    every : (xs : List Service) → All (λ (s : Service). true ≡ true) xs
    every [] = All-nil (λ (s : Service). true ≡ true)
    every (x ∷ xs) = All-cons (λ (s : Service). true ≡ true) x xs refl (every xs)
left-unnamed devices live (Literal own ws ∷ actions) = left_first devices live own (Literal own ws) actions (λ id. refl) (left-unnamed devices (others live own) actions)
left-unnamed devices live (Delete own ∷ actions) = left_first devices live own (Delete own) actions (λ id. refl) (left-unnamed devices (others live own) actions)
left-unnamed devices live (other ∷ actions) = left-unnamed devices live actions

-- the living services after expanded actions are those that none of them names, and those that are made
pub live-behind : (devices : List (List ℕ)) (live new : List Service) (actions : List Action) (ids : List (List ℕ)) (services : List Service)
    → name_each_once actions ≡ true → ids ≡ map turn_id (flat_map (turns_of devices) actions)
    → services ≡ flat_map comers (flat_map (turns_of devices) actions) → new ≡ left_by live ids ++ services → new ≡ live_after devices actions live
live-behind devices live new actions ids services once is made whole =
    whole
    ∙ ap (λ (l : List (List ℕ)). left_by live l ++ services) is
    ∙ ap (λ (l : List Service). l ++ services) (left-unnamed devices live actions)
    ∙ ap (λ (l : List Service). filter (λ (s : Service). not (is_named_by actions s.id)) live ++ l) (made ∙ comers-made devices actions)
    ∙ sym (behind-once devices actions live once)

pub comers-fresh : (devices : List (List ℕ)) (live : List Service) (actions : List Action) (ids : List (List ℕ)) (services : List Service)
    → name_each_once actions ≡ true → ids ≡ map turn_id (flat_map (turns_of devices) actions)
    → services ≡ flat_map comers (flat_map (turns_of devices) actions) → AreFresh (left_by live ids) services
comers-fresh devices live actions ids services once is made =
    let rest = filter (λ (s : Service). not (is_named_by actions s.id)) live in
    subst (λ (l : List Service). AreFresh (left_by live ids) l) (sym (made ∙ comers-made devices actions))
    (subst (λ (l : List Service). AreFresh l (flat_map (new_services devices) actions))
    (sym (ap (left_by live) is ∙ left-unnamed devices live actions))
    (away_fresh devices rest actions once (away actions rest actions (λ id h. named_gone actions live id h))))

-- the state after expanded actions
pub after-is : (names : List (List ℕ)) (acts : List Action) (s : Datastore) (config : Config) (bases : List Config) (live : List Service)
    → bases ≡ bases_after names acts s.bases → live ≡ live_after names acts s.live
    → record { «data» = config; bases = bases; live = live } ≡ changed_by names acts config s
after-is names acts s config bases live bs ls =
    ap (λ (b : List Config). record s { «data» = config; bases = b; live = live }) bs
    ∙ ap (λ (l : List Service). record s { «data» = config; bases = bases_after names acts s.bases; live = l }) ls

-- what is looked up in a state

pub placed_at : (state : Datastore) (config : Config) (stores slice : List Store) (live : List Service) (d : ℕ) (store : Store)
    → record { «data» = config; bases = map (λ (s : Store). s.base) stores; live = live } ≡ state → slice ≡ stores → d < length state.bases
    → store ≡ get_or slice d store → slice_get stores d ≡ Some store
placed_at state config stores slice live d store view same lt is =
    ap (λ (l : List Store). slice_get l d) (sym same)
    ∙ slice_get_read slice _ d store refl
    (omega (arith, lt, ap (λ (z : Datastore). length z.bases) view, length-map stores (λ (s : Store). s.base), ap (λ (l : List Store). length l) same)) is

pub tree-of : StoreIsOverlay → (state : Datastore) (config : Config) (stores slice : List Store) (live : List Service) (d : ℕ) (store : Store)
    → record { «data» = config; bases = map (λ (s : Store). s.base) stores; live = live } ≡ state → AreKept stores live → AreNamedOnce live
    → slice ≡ stores → d < length state.bases → store ≡ get_or slice d store → store.tree ≡ tree_due state d
tree-of law state config stores slice live d store view kept once same lt is =
    subst (λ (z : Datastore). store.tree ≡ tree_due z d) view
    (tree-kept law (record { «data» = config; bases = map (λ (s : Store). s.base) stores; live = live }) stores d store kept once refl
    (placed_at state config stores slice live d store view same lt is))

-- changes put in their places, one after another

-- the stores with the changes of those from a place on
abbrev pub placed_from : ℕ → List Store → List (Option Store) → List Store
placed_from zero stores changes = placed stores changes
placed_from (suc n) [] changes = []
placed_from (suc n) (s ∷ stores) changes = s ∷ placed_from n stores changes

pub placed-none : (n : ℕ) (stores : List Store) → placed_from n stores [] ≡ stores
placed-none zero [] = refl
placed-none zero (s ∷ stores) = refl
placed-none (suc n) [] = refl
placed-none (suc n) (s ∷ stores) = ap (λ l. s ∷ l) (placed-none n stores)

pub placed-same : (n : ℕ) (stores : List Store) (later : List (Option Store)) → placed_from (suc n) stores later ≡ placed_from n stores (None ∷ later)
placed-same zero [] later = refl
placed-same zero (s ∷ stores) later = refl
placed-same (suc n) [] later = refl
placed-same (suc n) (s ∷ stores) later = ap (λ l. s ∷ l) (placed-same n stores later)

pub placed-set : (n : ℕ) (stores : List Store) (store : Store) (later : List (Option Store))
    → placed_from (suc n) (slice_set stores n store) later ≡ placed_from n stores (Some store ∷ later)
placed-set zero [] store later = refl
placed-set zero (s ∷ stores) store later = refl
placed-set (suc n) [] store later = refl
placed-set (suc n) (s ∷ stores) store later = ap (λ l. s ∷ l) (placed-set n stores store later)
