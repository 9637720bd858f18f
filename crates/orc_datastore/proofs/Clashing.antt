-- The clash that a store finds is the clash of the call on its device, and where there is a store there is no clash.
use Rattle.std.proofs.Common.{◌≡◌, ℕ, Bool, true, false, cond, not, ◌||◌, List, [], ◌∷◌, ◌++◌, ◌⊎◌, inl, inr, None, Some, refl, sym, ap, subst, ◌∙◌}
use Rattle.std.specs.declared.option.Option.{Option}
use Rattle.std.specs.declared.cmp.Ordering.{Ordering}
use Rattle.std.specs.declared.cmp.Ordering.TheVariants.{Less, Equal, Greater}
use Rattle.std.specs.Prelude.{option_map}
use Rattle.std.specs.Ordering.{is_lt, ordering_reverse}
use Rattle.std.specs.Option.{option_map_or}
use Rattle.std.specs.List.{find, flat_map, fold, Contains}
use Rattle.std.specs.Cmp.Lexicographic.{bytes_decides}
use Rattle.std.specs.FinMap.{get, nat_cmp-IsAntisymmetric, slice_cmp-IsAntisymmetric}
use Rattle.std.proofs.lemmas.List.Elements.{All-weaker, All-contains_itself, Contains-append_left, Contains-append_right}
use Rattle.std.proofs.lemmas.Bool.{or_right}
use Rattle.orc_path.specs.Steps.{PathStep}
use Rattle.orc_path.specs.Order.{path_cmp, text_cmp}
use Rattle.orc_path.proofs.PathOrder.{path_cmp_exact, path_cmp_total}
use Rattle.orc_path.specs.declared.item.Item.{Item}
use Rattle.orc_call.specs.declared.answer.Answer.TheVariants.{Clash}
use Rattle.orc_call.specs.declared.call.Action.{Action}
use Rattle.orc_call.specs.declared.call.Action.TheVariants.{Literal, Delete}
use Rattle.orc_change.specs.Differences.{has_item}
use Rattle.orc_change.proofs.Exact.{has_item_is, has_itself}
use Rattle.orc_refs.specs.Ids.{holds_id}
use Rattle.orc_refs.specs.Stores.{Store, ids_at}
use Rattle.orc_refs.specs.Moves.{are_distinct, is_moved, items_of, put_at, writes_after}
use Rattle.orc_refs.specs.Clashes.{AreUnrivalled, ClashesAt, HasRival, are_unequal}
use Rattle.orc_refs.specs.declared.moves.Move.{Move}
use Rattle.orc_datastore.specs.States.{expansion, has_id, part}
use Rattle.orc_decls.specs.Devices.{is_same_text}
use Rattle.orc_datastore.specs.Actions.{live_after, name_each_once, new_services}
use Rattle.orc_datastore.specs.Clashes.{clash_at, lesser_unequal, unequal_of, unequal_on, IsClash}
use Rattle.orc_datastore.specs.inside.Turns.{held_by}
use Rattle.orc_datastore.specs.inside.Keeping.{IsStoreFor, clash_on}
use Rattle.orc_datastore.specs.declared.service.Service.{Service}
use Rattle.orc_datastore.proofs.Agreement.{AreUnique, first_in, in_cases, later_in, none_in_nil, on_none}
use Rattle.orc_decls.proofs.Lists.{true_not_false}
use Rattle.orc_datastore.proofs.LeastClash.{At, LeastAt, clash_has, least_at, some_is}
use Rattle.orc_datastore.proofs.Named.{behind-once, is_text_itself, touched-once, unnamed}
use Rattle.orc_datastore.proofs.OnDevice.{moves-distinct, moves_in, written}

some_none : {A : Type 0} {a : A} → Some a ≡ None → ⊥
some_none q = cc

-- who writes

-- what is written of a name is written by a service of that name
pub writer_of : (live : List Service) (d : ℕ) (id : List ℕ) (p : List PathStep) (x : Item) → written live d id p ≡ Some x
    → (s : Service) × Contains live s × (s.id ≡ id) × (get (part s d) p ≡ Some x)
writer_of [] d id p x h = absurd (some_none (sym h))
writer_of (s ∷ ss) d id p x h = on (has_id id s) refl h (writer_of ss d id p x)
  where
    on : (t : Bool) → has_id id s ≡ t → cond t (get (part s d) p) (written ss d id p) ≡ Some x
        → (written ss d id p ≡ Some x → (z : Service) × Contains ss z × (z.id ≡ id) × (get (part z d) p ≡ Some x))
        → (z : Service) × Contains (s ∷ ss) z × (z.id ≡ id) × (get (part z d) p ≡ Some x)
    on true is e rest = (s, first_in s ss, (bytes_decides s.id id).0 is, e)
    on false is e rest = let found = rest e in (found.0, later_in s found.0 ss found.1, found.2, found.3)

-- a living service writes what it has
pub own_writes : (live : List Service) (d : ℕ) (s : Service) (p : List PathStep) → AreUnique live → Contains live s
    → written live d s.id p ≡ get (part s d) p
own_writes [] d s p unique c = absurd (none_in_nil s c)
own_writes (a ∷ live) d s p unique c =
    on (has_id s.id a) refl (in_cases a s live c)
    (λ later. own_writes live d s p (λ x y cx cy same. unique x y (later_in a x live cx) (later_in a y live cy) same) later)
  where
    on : (t : Bool) → has_id s.id a ≡ t → (a ≡ s) ⊎ Contains live s → (Contains live s → written live d s.id p ≡ get (part s d) p)
        → cond t (get (part a d) p) (written live d s.id p) ≡ get (part s d) p
    on true is where_ rest =
        ap (λ (x : Service). get (part x d) p) (unique a s (first_in a live) c ((bytes_decides a.id s.id).0 is))
    on false is (inl one) rest = absurd (true_not_false (sym (ap (has_id s.id) one ∙ is_text_itself s.id) ∙ is))
    on false is (inr later) rest = rest later

-- unequal items

unequal_apart : (x y : Item) → are_unequal (Some x) (Some y) ≡ true → x ≡ y → ⊥
unequal_apart x y h e =
    true_not_false (sym h ∙ ap (λ (z : Item). not (has_item (Some x) z)) (sym e) ∙ ap not (has_itself x))

apart_unequal : (x y : Item) → (x ≡ y → ⊥) → are_unequal (Some x) (Some y) ≡ true
apart_unequal x y h = on (has_item (Some x) y) refl
  where
    on : (t : Bool) → has_item (Some x) y ≡ t → not (has_item (Some x) y) ≡ true
    on true is = absurd (h (some_is (has_item_is (Some x) y is)))
    on false is = ap not is

-- both are there
unequal_items : (a b : Option Item) → are_unequal a b ≡ true → (x : Item) × (y : Item) × (a ≡ Some x) × (b ≡ Some y) × (x ≡ y → ⊥)
unequal_items None b h = absurd (true_not_false (sym h))
unequal_items (Some x) None h = absurd (true_not_false (sym h))
unequal_items (Some x) (Some y) h = (x, y, refl, refl, unequal_apart x y h)

-- where there is one store

pub no_clash_of : (live : List Service) (d : ℕ) (store : Store) (s : Service) → AreUnique live → IsStoreFor live d store → Contains live s
    → unequal_of live d s ≡ None
no_clash_of live d store s unique for c = on (unequal_of live d s) refl
  where
    tree_has : (id : List ℕ) (p : List PathStep) (x : Item) → written live d id p ≡ Some x → get store.tree p ≡ Some x
    tree_has id p x h = by (holds_id id (ids_at store p)) (for.of.writers id p ∙ h)
      where
        by : (t : Bool) → cond t (get store.tree p) None ≡ Some x → get store.tree p ≡ Some x
        by true e = e
        by false e = absurd (some_none (sym e))

    on : (o : Option At) → unequal_of live d s ≡ o → unequal_of live d s ≡ None
    on None is = is
    on (Some at) is =
        let least = least_at live d s at is in
        let clash = least.clash in
        absurd (clash.unequal (some_is (
        sym (tree_has s.id at.0 clash.item (own_writes live d s at.0 unique c ∙ clash.written))
        ∙ tree_has least.rival.id at.0 clash.other (own_writes live d least.rival at.0 unique clash.living ∙ clash.holds)
        )))

-- the services that a call makes live after it
made_living : (devices : List (List ℕ)) (live : List Service) (actions : List Action) (s : Service) → name_each_once actions ≡ true
    → Contains (flat_map (new_services devices) actions) s → Contains (live_after devices actions live) s
made_living devices live actions s once c =
    subst (λ (l : List Service). Contains l s) (sym (behind-once devices actions live once))
    (Contains-append_right (unnamed actions live) (flat_map (new_services devices) actions) s c)

pub no_clash_on : (devices : List (List ℕ)) (live : List Service) (actions : List Action) (d : ℕ) (store : Store) → name_each_once actions ≡ true
    → AreUnique (live_after devices actions live) → IsStoreFor (live_after devices actions live) d store
    → clash_on devices live actions d ≡ None
no_clash_on devices live actions d store once unique for =
    let behind = live_after devices actions live in
    let made = flat_map (new_services devices) actions in
    ap (λ l. clash_at behind l d) (touched-once devices actions live once)
    ∙ ap (option_map (λ (at : At). Clash d at.0 at.1))
    (on_none behind made d
    (All-weaker (Contains made) (λ s. unequal_of behind d s ≡ None)
    (λ s c. no_clash_of behind d store s unique for (made_living devices live actions s once c)) made (All-contains_itself made)))

-- a search for the lesser

-- at no path up to this one
abbrev IsBeyond : List PathStep → Option At → Type 0
IsBeyond p None = Unit {0}
IsBeyond p (Some at) = path_cmp p at.0 ≡ Less

lesser_beyond : (p : List PathStep) (a b : Option At) → IsBeyond p a → IsBeyond p b → IsBeyond p (lesser_unequal a b)
lesser_beyond p None b ha hb = hb
lesser_beyond p (Some a) None ha hb = ha
lesser_beyond p (Some a) (Some b) ha hb = on (is_lt (path_cmp b.0 a.0))
  where
    on : (t : Bool) → IsBeyond p (cond t (Some b) (Some a))
    on true = hb
    on false = ha

fold_beyond : (g : Service → Option At) (p : List PathStep) (found : Option At) (xs : List Service) → IsBeyond p found
    → ((s : Service) → Contains xs s → IsBeyond p (g s)) → IsBeyond p (fold (λ a s. lesser_unequal a (g s)) found xs)
fold_beyond g p found [] h all = h
fold_beyond g p found (x ∷ xs) h all =
    fold_beyond g p (lesser_unequal found (g x)) xs (lesser_beyond p found (g x) h (all x (first_in x xs)))
    (λ s c. all s (later_in x s xs c))

beyond_chosen : (at : At) (found : Option At) → IsBeyond at.0 found → lesser_unequal found (Some at) ≡ Some at
beyond_chosen at None h = refl
beyond_chosen at (Some f) h = ap (λ o. cond (is_lt o) (Some at) (Some f)) h

-- nothing at a lesser path
abbrev NotLess : At → Option At → Type 0
NotLess at None = Unit {0}
NotLess at (Some o) = path_cmp o.0 at.0 ≡ Less → ⊥

not_less_stays : (at : At) (o : Option At) → NotLess at o → lesser_unequal (Some at) o ≡ Some at
not_less_stays at None h = refl
not_less_stays at (Some o) h = on (path_cmp o.0 at.0) refl
  where
    on : (r : Ordering) → path_cmp o.0 at.0 ≡ r → lesser_unequal (Some at) (Some o) ≡ Some at
    on Less is = absurd (h is)
    on Equal is = ap (λ (z : Ordering). cond (is_lt z) (Some o) (Some at)) is
    on Greater is = ap (λ (z : Ordering). cond (is_lt z) (Some o) (Some at)) is

fold_stays : (g : Service → Option At) (at : At) (xs : List Service) → ((s : Service) → Contains xs s → NotLess at (g s))
    → fold (λ a s. lesser_unequal a (g s)) (Some at) xs ≡ Some at
fold_stays g at [] all = refl
fold_stays g at (x ∷ xs) all =
    ap (λ o. fold (λ a s. lesser_unequal a (g s)) o xs) (not_less_stays at (g x) (all x (first_in x xs)))
    ∙ fold_stays g at xs (λ s c. all s (later_in x s xs c))

fold_appended : (g : Service → Option At) (found : Option At) (xs ys : List Service)
    → fold (λ a s. lesser_unequal a (g s)) found (xs ++ ys) ≡ fold (λ a s. lesser_unequal a (g s)) (fold (λ a s. lesser_unequal a (g s)) found xs) ys
fold_appended g found [] ys = refl
fold_appended g found (x ∷ xs) ys = fold_appended g (lesser_unequal found (g x)) xs ys

-- the first that has something at a path, where nobody has any at a lesser one
first_at : (g : Service → Option At) (at : At) (front : List Service) (s : Service) (back : List Service)
    → ((x : Service) → Contains front x → IsBeyond at.0 (g x)) → g s ≡ Some at → ((x : Service) → Contains back x → NotLess at (g x))
    → fold (λ a x. lesser_unequal a (g x)) None (front ++ s ∷ back) ≡ Some at
first_at g at front s back before here behind =
    let reached = fold (λ a x. lesser_unequal a (g x)) None front in
    fold_appended g None front (s ∷ back)
    ∙ ap (λ o. fold (λ a x. lesser_unequal a (g x)) (lesser_unequal reached o) back) here
    ∙ ap (λ o. fold (λ a x. lesser_unequal a (g x)) o back) (beyond_chosen at reached (fold_beyond g at.0 None front tt before))
    ∙ fold_stays g at back behind

-- moves and the services that are made

-- the service that moves, among those that are made
pub record IsMover (made : List Service) (front : List Move) (id : List ℕ) : Type 0 where
  before : List Service
  service : Service
  later : List Service
  parts : made ≡ before ++ service ∷ later
  named : service.id ≡ id
  moved : (s : Service) → Contains before s → is_moved front s.id ≡ true

-- those that are made move
made_moves : (devices : List (List ℕ)) (live : List Service) (d : ℕ) (actions : List Action) (s : Service)
    → Contains (flat_map (new_services devices) actions) s → is_moved (moves_in devices live d actions) s.id ≡ true
made_moves devices live d [] s c = absurd (none_in_nil s c)
made_moves devices live d (Literal own ws ∷ actions) s c =
    on (in_cases (record { id = own; parts = expansion devices ws }) s (flat_map (new_services devices) actions) c) (made_moves devices live d actions s)
  where
    made : Service
    made = record { id = own; parts = expansion devices ws }

    on : (made ≡ s) ⊎ Contains (flat_map (new_services devices) actions) s
        → (Contains (flat_map (new_services devices) actions) s → is_moved (moves_in devices live d actions) s.id ≡ true)
        → (is_same_text own s.id || is_moved (moves_in devices live d actions) s.id) ≡ true
    on (inl one) rest =
        ap (λ t. t || is_moved (moves_in devices live d actions) s.id) (ap (λ (x : Service). is_same_text own x.id) (sym one) ∙ is_text_itself own)
    on (inr later) rest = or_right (is_same_text own s.id) _ (rest later)
made_moves devices live d (Delete own ∷ actions) s c = on (find (has_id own) live) (made_moves devices live d actions s c)
  where
    on : (o : Option Service) → is_moved (moves_in devices live d actions) s.id ≡ true
        → is_moved (option_map_or (λ (x : Service). record { service = own; old = items_of (part x d); new = [] } ∷ []) o []
        ++ moves_in devices live d actions) s.id ≡ true
    on None rest = rest
    on (Some x) rest = or_right (is_same_text own s.id) _ rest
made_moves devices live d (other ∷ actions) s c = made_moves devices live d actions s c

-- a mover before others brings what it brings
distinct_later : (m : Move) (ms : List Move) → are_distinct (m ∷ ms) ≡ true → (is_moved ms m.service ≡ false) × (are_distinct ms ≡ true)
distinct_later m ms h = on (is_moved ms m.service) refl h
  where
    on : (t : Bool) → is_moved ms m.service ≡ t → cond t false (are_distinct ms) ≡ true → (is_moved ms m.service ≡ false) × (are_distinct ms ≡ true)
    on true is e = absurd (true_not_false (sym e))
    on false is e = (is, e)

moved_there : (fs : List Move) (m : Move) (bs : List Move) → is_moved (fs ++ m ∷ bs) m.service ≡ true
moved_there [] m bs = ap (λ t. t || is_moved bs m.service) (is_text_itself m.service)
moved_there (f ∷ fs) m bs = or_right (is_same_text f.service m.service) _ (moved_there fs m bs)

other_mover : (f : Move) (fs : List Move) (m : Move) (bs : List Move) → are_distinct (f ∷ fs ++ m ∷ bs) ≡ true → is_same_text f.service m.service ≡ false
other_mover f fs m bs h = on (is_same_text f.service m.service) refl
  where
    on : (t : Bool) → is_same_text f.service m.service ≡ t → t ≡ false
    on false is = refl
    on true is =
        absurd (true_not_false (sym (moved_there fs m bs)
        ∙ ap (is_moved (fs ++ m ∷ bs)) (sym ((bytes_decides f.service m.service).0 is)) ∙ (distinct_later f (fs ++ m ∷ bs) h).0))

brought : (writes : List ℕ → List PathStep → Option Item) (p : List PathStep) (fs : List Move) (m : Move) (bs : List Move)
    → are_distinct (fs ++ m ∷ bs) ≡ true → writes_after (fs ++ m ∷ bs) writes m.service p ≡ put_at m.new p
brought writes p [] m bs h = ap (λ t. cond t (put_at m.new p) (writes_after bs writes m.service p)) (is_text_itself m.service)
brought writes p (f ∷ fs) m bs h =
    ap (λ t. cond t (put_at f.new p) (writes_after (fs ++ m ∷ bs) writes m.service p)) (other_mover f fs m bs h)
    ∙ brought writes p fs m bs (distinct_later f (fs ++ m ∷ bs) h).1

-- the service of a move that brings an item is one that is made, and those made before it move before it
pub mover_made : (devices : List (List ℕ)) (live : List Service) (d : ℕ) (p : List PathStep) (x : Item) (actions : List Action) (front : List Move) (m : Move) (back : List Move)
    → moves_in devices live d actions ≡ front ++ m ∷ back → put_at m.new p ≡ Some x
    → IsMover (flat_map (new_services devices) actions) front m.service
mover_made devices live d p x [] front m back is brings = absurd (nothing front is)
  where
    nothing : (fs : List Move) → [] ≡ fs ++ m ∷ back → ⊥
    nothing [] e = cc
    nothing (f ∷ fs) e = cc
mover_made devices live d p x (Literal own ws ∷ actions) front m back is brings =
    on front is (λ fs e. mover_made devices live d p x actions fs m back e brings)
  where
    made : Service
    made = record { id = own; parts = expansion devices ws }

    rest : List Service
    rest = flat_map (new_services devices) actions

    mine : Move
    mine = record { service = own; old = held_by live d own; new = items_of (part made d) }

    more : (f : Move) (fs : List Move) → mine ≡ f → IsMover rest fs m.service → IsMover (made ∷ rest) (f ∷ fs) m.service
    more f fs same found = record {
      before = made ∷ found.before;
      service = found.service;
      later = found.later;
      parts = ap (λ l. made ∷ l) found.parts;
      named = found.named;
      moved = λ s c. by s (in_cases made s found.before c);
    }
      where
        by : (s : Service) → (made ≡ s) ⊎ Contains found.before s → is_moved (f ∷ fs) s.id ≡ true
        by s (inl one) =
            ap (λ t. t || is_moved fs s.id)
            (ap (λ (z : Move). is_same_text z.service s.id) (sym same) ∙ ap (λ (z : Service). is_same_text own z.id) (sym one) ∙ is_text_itself own)
        by s (inr later) = or_right (is_same_text f.service s.id) _ (found.moved s later)

    on : (fs : List Move) → mine ∷ moves_in devices live d actions ≡ fs ++ m ∷ back
        → ((gs : List Move) → moves_in devices live d actions ≡ gs ++ m ∷ back → IsMover rest gs m.service)
        → IsMover (made ∷ rest) fs m.service
    on [] e later =
        let same : mine ≡ m = cc in
        record {
          before = [];
          service = made;
          later = rest;
          parts = refl;
          named = ap (λ (z : Move). z.service) same;
          moved = λ s c. absurd (none_in_nil s c);
        }
    on (f ∷ fs) e later =
        let same : mine ≡ f = cc in
        let tail : moves_in devices live d actions ≡ fs ++ m ∷ back = cc in
        more f fs same (later fs tail)
mover_made devices live d p x (Delete own ∷ actions) front m back is brings =
    on (find (has_id own) live) front is (λ fs e. mover_made devices live d p x actions fs m back e brings)
  where
    rest : List Service
    rest = flat_map (new_services devices) actions

    gone : Service → Move
    gone s = record { service = own; old = items_of (part s d); new = [] }

    with_more : (f : Move) (fs : List Move) → IsMover rest fs m.service → IsMover rest (f ∷ fs) m.service
    with_more f fs found = record {
      before = found.before;
      service = found.service;
      later = found.later;
      parts = found.parts;
      named = found.named;
      moved = λ s c. or_right (is_same_text f.service s.id) _ (found.moved s c);
    }

    on : (o : Option Service) (fs : List Move)
        → option_map_or (λ (s : Service). record { service = own; old = items_of (part s d); new = [] } ∷ []) o [] ++ moves_in devices live d actions ≡ fs ++ m ∷ back
        → ((gs : List Move) → moves_in devices live d actions ≡ gs ++ m ∷ back → IsMover rest gs m.service)
        → IsMover rest fs m.service
    on None fs e later = later fs e
    on (Some s) [] e later =
        let same : gone s ≡ m = cc in
        absurd (some_none (sym brings ∙ ap (λ (z : Move). put_at z.new p) (sym same)))
    on (Some s) (f ∷ fs) e later =
        let tail : moves_in devices live d actions ≡ fs ++ m ∷ back = cc in
        with_more f fs (later fs tail)
mover_made devices live d p x (other ∷ actions) front m back is brings = mover_made devices live d p x actions front m back is brings

-- the clash

unrivalled_at : (writes : List ℕ → List PathStep → Option Item) (p : List PathStep) (ms : List Move) (id : List ℕ) → AreUnrivalled writes p ms
    → is_moved ms id ≡ true → HasRival writes p id → ⊥
unrivalled_at writes p [] id none there = absurd (true_not_false (sym there))
unrivalled_at writes p (m ∷ ms) id none there = on (is_same_text m.service id) refl there (unrivalled_at writes p ms id none.1)
  where
    on : (t : Bool) → is_same_text m.service id ≡ t → (t || is_moved ms id) ≡ true → (is_moved ms id ≡ true → HasRival writes p id → ⊥)
        → HasRival writes p id → ⊥
    on true is e rest rival = none.0 (subst (λ (i : List ℕ). HasRival writes p i) (sym ((bytes_decides m.service id).0 is)) rival)
    on false is e rest rival = rest e rival

less_not_greater : Less ≡ Greater → ⊥
less_not_greater e = cc

pub clashes_at : (devices : List (List ℕ)) (live : List Service) (d : ℕ) (actions : List Action)
    (writes : List ℕ → List PathStep → Option Item) (path : List PathStep) (other : List ℕ)
    → name_each_once actions ≡ true → AreUnique (live_after devices actions live)
    → ((id : List ℕ) (p : List PathStep) → written (live_after devices actions live) d id p ≡ writes_after (moves_in devices live d actions) writes id p)
    → ClashesAt (writes_after (moves_in devices live d actions) writes) (moves_in devices live d actions) path other
    → unequal_on (live_after devices actions live) (flat_map (new_services devices) actions) d ≡ Some (path, other)
clashes_at devices live d actions writes path other once unique same clash =
    ap (λ l. unequal_on behind l d) mover.parts
    ∙ first_at (unequal_of behind d) (path, other) mover.before s mover.later in_front here in_back
  where
    behind : List Service
    behind = live_after devices actions live

    moves : List Move
    moves = moves_in devices live d actions

    after : List ℕ → List PathStep → Option Item
    after = writes_after moves writes

    items : (x : Item) × (y : Item) × (after clash.mover.service path ≡ Some x) × (after other path ≡ Some y) × (x ≡ y → ⊥)
    items = unequal_items (after clash.mover.service path) (after other path) clash.unequal

    brings : put_at clash.mover.new path ≡ Some items.0
    brings =
        sym (ap (λ ms. writes_after ms writes clash.mover.service path) clash.parts
        ∙ brought writes path clash.front clash.mover clash.back
        (subst (λ ms. are_distinct ms ≡ true) clash.parts (moves-distinct devices live d actions once)))
        ∙ items.2

    mover : IsMover (flat_map (new_services devices) actions) clash.front clash.mover.service
    mover = mover_made devices live d path items.0 actions clash.front clash.mover clash.back clash.parts brings

    s : Service
    s = mover.service

    made_in : (x : Service) → Contains (flat_map (new_services devices) actions) x → Contains behind x
    made_in x c = made_living devices live actions x once c

    in_made : (x : Service) → Contains (mover.before ++ s ∷ mover.later) x → Contains (flat_map (new_services devices) actions) x
    in_made x c = subst (λ (l : List Service). Contains l x) (sym mover.parts) c

    s_made : Contains (flat_map (new_services devices) actions) s
    s_made = in_made s (Contains-append_right mover.before (s ∷ mover.later) s (first_in s mover.later))

    -- a clash of a living service is a rival of it
    rivals : (x r : Service) (p : List PathStep) → Contains behind x → IsClash behind d p x r
        → are_unequal (after x.id p) (after r.id p) ≡ true
    rivals x r p c k =
        ap (λ o. are_unequal o (after r.id p)) (sym (same x.id p) ∙ own_writes behind d x p unique c ∙ k.written)
        ∙ ap (are_unequal (Some k.item)) (sym (same r.id p) ∙ own_writes behind d r p unique k.living ∙ k.holds)
        ∙ apart_unequal k.item k.other k.unequal

    -- nobody that is made has one at a lesser path, and none of the earlier ones has one at this path
    not_before : (x : Service) (at : At) → Contains (flat_map (new_services devices) actions) x → unequal_of behind d x ≡ Some at
        → path_cmp at.0 path ≡ Less → ⊥
    not_before x at c is lt =
        let least = least_at behind d x at is in
        unrivalled_at after at.0 moves x.id (clash.before at.0 lt) (made_moves devices live d actions x c)
        (least.rival.id, rivals x least.rival at.0 (made_in x c) least.clash)

    not_in_front : (x : Service) (at : At) → Contains mover.before x → unequal_of behind d x ≡ Some at → at.0 ≡ path → ⊥
    not_in_front x at c is e =
        let least = least_at behind d x at is in
        let within : Contains (flat_map (new_services devices) actions) x =
        in_made x (Contains-append_left mover.before (s ∷ mover.later) x c) in
        unrivalled_at after path clash.front x.id clash.first (mover.moved x c)
        (subst (λ (p : List PathStep). HasRival after p x.id) e (least.rival.id, rivals x least.rival at.0 (made_in x within) least.clash))

    in_front : (x : Service) → Contains mover.before x → IsBeyond path (unequal_of behind d x)
    in_front x c = on (unequal_of behind d x) refl
      where
        within : Contains (flat_map (new_services devices) actions) x
        within = in_made x (Contains-append_left mover.before (s ∷ mover.later) x c)

        on : (o : Option At) → unequal_of behind d x ≡ o → IsBeyond path o
        on None is = tt
        on (Some at) is = by (path_cmp at.0 path) refl
          where
            by : (o : Ordering) → path_cmp at.0 path ≡ o → path_cmp path at.0 ≡ Less
            by Less e = absurd (not_before x at within is e)
            by Equal e = absurd (not_in_front x at c is (path_cmp_exact at.0 path e))
            by Greater e = path_cmp_total.antisymm path at.0 ∙ ap ordering_reverse e

    in_back : (x : Service) → Contains mover.later x → NotLess (path, other) (unequal_of behind d x)
    in_back x c = on (unequal_of behind d x) refl
      where
        within : Contains (flat_map (new_services devices) actions) x
        within = in_made x (Contains-append_right mover.before (s ∷ mover.later) x (later_in s x mover.later c))

        on : (o : Option At) → unequal_of behind d x ≡ o → NotLess (path, other) o
        on None is = tt
        on (Some at) is = λ lt. not_before x at within is lt

    -- the mover's own
    rival : (r : Service) × Contains behind r × (r.id ≡ other) × (get (part r d) path ≡ Some items.1)
    rival = writer_of behind d other path items.1 (same other path ∙ items.3)

    has : get (part s d) path ≡ Some items.0
    has =
        sym (own_writes behind d s path unique (made_in s s_made)) ∙ same s.id path
        ∙ ap (λ i. after i path) mover.named ∙ items.2

    differ : has_id s.id rival.0 ≡ false
    differ = on (has_id s.id rival.0) refl
      where
        on : (t : Bool) → has_id s.id rival.0 ≡ t → t ≡ false
        on false is = refl
        on true is =
            absurd (items.4 (some_is (sym items.2 ∙ ap (λ i. after i path)
            (sym mover.named ∙ sym ((bytes_decides rival.0.id s.id).0 is) ∙ rival.2) ∙ items.3)))

    own : IsClash behind d path s rival.0
    own = record {
      living = rival.1;
      another = differ;
      item = items.0;
      written = has;
      other = items.1;
      holds = rival.3;
      unequal = items.4;
    }

    here : unequal_of behind d s ≡ Some (path, other)
    here = on (clash_has behind d path s rival.0 own)
      where
        on : (at : At) × (unequal_of behind d s ≡ Some at) × (path_cmp path at.0 ≡ Less → ⊥) → unequal_of behind d s ≡ Some (path, other)
        on found = found.1 ∙ by (path_cmp found.0.0 path) refl
          where
            named_same : found.0.0 ≡ path → found.0.1 ≡ other
            named_same e = by_name (text_cmp other found.0.1) refl
              where
                least : LeastAt behind d s found.0
                least = least_at behind d s found.0 found.1

                up_to : text_cmp other found.0.1 ≡ Less → ⊥
                up_to lt =
                    least.least_name rival.0 (subst (λ (p : List PathStep). IsClash behind d p s rival.0) (sym e) own)
                    (ap (λ i. text_cmp i found.0.1) rival.2 ∙ lt)

                its : are_unequal (after clash.mover.service path) (after found.0.1 path) ≡ true
                its =
                    ap (λ i. are_unequal (after i path) (after found.0.1 path)) (sym mover.named)
                    ∙ ap (λ i. are_unequal (after s.id path) (after i path)) (sym least.named)
                    ∙ ap (λ q. are_unequal (after s.id q) (after least.rival.id q)) (sym e)
                    ∙ rivals s least.rival found.0.0 (made_in s s_made) least.clash

                by_name : (o : Ordering) → text_cmp other found.0.1 ≡ o → found.0.1 ≡ other
                by_name Less is = absurd (up_to is)
                by_name Equal is = sym (slice_cmp-IsAntisymmetric nat_cmp-IsAntisymmetric other found.0.1 is)
                by_name Greater is = absurd (clash.least found.0.1 its is)

            by : (o : Ordering) → path_cmp found.0.0 path ≡ o → Some found.0 ≡ Some (path, other)
            by Less is = absurd (not_before s found.0 s_made found.1 is)
            by Equal is =
                let one = path_cmp_exact found.0.0 path is in
                ap (λ q. Some (q, found.0.1)) one ∙ ap (λ i. Some (path, i)) (named_same one)
            by Greater is = absurd (found.2 (path_cmp_total.antisymm path found.0.0 ∙ ap ordering_reverse is))

pub clash_found : (devices : List (List ℕ)) (live : List Service) (d : ℕ) (actions : List Action)
    (writes : List ℕ → List PathStep → Option Item) (path : List PathStep) (other : List ℕ)
    → name_each_once actions ≡ true → AreUnique (live_after devices actions live)
    → ((id : List ℕ) (p : List PathStep) → written (live_after devices actions live) d id p ≡ writes_after (moves_in devices live d actions) writes id p)
    → ClashesAt (writes_after (moves_in devices live d actions) writes) (moves_in devices live d actions) path other
    → clash_on devices live actions d ≡ Some (Clash d path other)
clash_found devices live d actions writes path other once unique same clash =
    let behind = live_after devices actions live in
    ap (λ l. clash_at behind l d) (touched-once devices actions live once)
    ∙ ap (option_map (λ (at : At). Clash d at.0 at.1)) (clashes_at devices live d actions writes path other once unique same clash)
