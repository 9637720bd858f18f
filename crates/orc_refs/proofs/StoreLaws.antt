-- The store before and after moves.
use Rattle.std.proofs.Common.{◌≡◌, ◌≢◌, ◌⊎◌, inl, inr, ⊎_elim, ℕ, Bool, true, false, cond, not, ◌&&◌, ◌||◌, List, [], ◌∷◌, Some, None, refl, sym, ap, subst, ◌∙◌, is_some}
use Rattle.std.specs.declared.option.Option.{Option}
use Rattle.std.specs.Option.{option_map_or}
use Rattle.std.specs.Ordering.{eq_by_cmp}
use Rattle.std.specs.Cmp.Lexicographic.{bytes_decides}
use Rattle.std.specs.FinMap.{get, from_sorted, get-empty, get-from_sorted, same_map}
use Rattle.std.proofs.lemmas.Bool.{false≢true, cond-true, cond-false}
use Rattle.std.proofs.lemmas.Option.{none-some}
use Rattle.orc_path.specs.Steps.{PathStep}
use Rattle.orc_path.specs.Order.{path_cmp}
use Rattle.orc_path.proofs.PathOrder.{path_cmp_total, path_cmp_exact}
use Rattle.orc_path.specs.Items.{fits}
use Rattle.orc_path.specs.Configurations.{Config, IsConfig, IsWay, is_entry}
use Rattle.orc_path.proofs.ConfigurationLaws.{entry_at_keys, is_entry-keyed}
use Rattle.orc_path.specs.declared.item.Item.{Item}
use Rattle.orc_path.specs.declared.item.Item.TheVariants.{Entry, Leaf}
use Rattle.orc_change.specs.Differences.{has_item}
use Rattle.orc_change.proofs.Towards.{HasWays, HasWays-config}
use Rattle.orc_call.specs.declared.call.Put.{Put}
use Rattle.orc_refs.specs.Ids.{is_id, holds_id, are_rising}
use Rattle.orc_refs.specs.inside.Settling.{enter_id}
use Rattle.orc_refs.specs.Stores.{Store, Backs, IsStore, store_of, ids_at, written_by, empty_store}
use Rattle.orc_refs.specs.inside.Kept.{AreKept}
use Rattle.orc_refs.specs.Moves.{put_at, is_moved, writes_after, are_distinct, StartAt, BringWhole}
use Rattle.orc_refs.specs.inside.Settling.{staying, brought, ids_after, first_brought, or_else, item_after, all_bring, has_path, moves_touch}
use Rattle.orc_refs.specs.declared.moves.Move.{Move}
use Rattle.orc_refs.proofs.IdsLaws.{enters_some}
use Rattle.orc_refs.proofs.PathLaws.{brings, holds_id-after, rising-after, item-stays, stays_some, written_settled, all_bring_rest, all_bring_first}

-- A new store

abbrev pub nil : List (List PathStep × List (List ℕ))
nil = []

no_backs : (p : List PathStep) → get (from_sorted {R = path_cmp} nil) p ≡ None
no_backs p = get-from_sorted path_cmp nil p tt

no_ids : (base : Config) (p : List PathStep) → ids_at (store_of base base nil) p ≡ []
no_ids base p = ap (λ (o : Option (List (List ℕ))). option_map_or (λ ids. ids) o []) (no_backs p)

pub AreKept-new : (base : Config) → IsConfig base → AreKept base base nil
AreKept-new base c = record {
  sorted = refl;
  store = record {
    base = c;
    tree = c;
    some = λ p e. none-some [] (sym (no_backs p) ∙ e);
    rising = λ p. ap are_rising (no_ids base p);
    covered = λ p some. absurd (some (no_ids base p));
    uncovered = λ p none. refl;
    ways = λ id p w has way. absurd (false≢true (sym (ap (holds_id id) (no_ids base p)) ∙ has));
  };
}

pub store_of-nil : (base : Config) → store_of base base nil ≡ empty_store base
store_of-nil base = ap (λ (b : Backs). record { base = base; tree = base; backs = b }) (same_map path_cmp_total path_cmp_exact _ _ (λ p. no_backs p ∙ sym (get-empty path_cmp p)))

-- Moves and the entries on the way

brings_ways : (ms : List Move) (id : List ℕ) (p w : List PathStep) → BringWhole ms → IsWay w p → brings ms id p ≡ true → brings ms id w ≡ true
brings_ways [] id p w parts way h = h
brings_ways (m ∷ ms) id p w parts way h = by (λ g. brings_ways ms id p w parts.1 way g) (is_id m.service id) (put_at m.new p) refl h
  where
    or_right : (a b : Bool) → b ≡ true → (a || b) ≡ true
    or_right true b e = refl
    or_right false b e = e

    by : (brings ms id p ≡ true → brings ms id w ≡ true) → (b : Bool) (o : Option Item) → put_at m.new p ≡ o → ((b && is_some o) || brings ms id p) ≡ true → ((b && is_some (put_at m.new w)) || brings ms id w) ≡ true
    by rest true (Some item) e g = ap (λ (x : Option Item). is_some x || brings ms id w) (parts.0.ways p w (ap is_some e) way)
    by rest true None e g = or_right (is_some (put_at m.new w)) _ (rest g)
    by rest false o e g = rest g

first_ways : (ms : List Move) (p w : List PathStep) (o : Option Item) → BringWhole ms → IsWay w p → is_some (first_brought ms p) ≡ true → all_bring ms w o ≡ true → o ≡ Some Entry
first_ways [] p w o parts way h a = absurd (false≢true h)
first_ways (m ∷ ms) p w o parts way h a = by (λ g. first_ways ms p w o parts.1 way g (all_bring_rest m ms w o a)) (put_at m.new p) refl h
  where
    by : (is_some (first_brought ms p) ≡ true → o ≡ Some Entry) → (x : Option Item) → put_at m.new p ≡ x → is_some (elim x [ None ↦ first_brought ms p | Some item ↦ Some item ]) ≡ true → o ≡ Some Entry
    by rest None e g = rest g
    by rest (Some item) e g = all_bring_first m ms w o Entry a (parts.0.ways p w (ap is_some e) way)

pub first_fits : (ms : List Move) (p : List PathStep) (item : Item) → BringWhole ms → first_brought ms p ≡ Some item → fits p item ≡ true
first_fits [] p item parts h = let never : ⊥ = cc in absurd never
first_fits (m ∷ ms) p item parts h = by (λ g. first_fits ms p item parts.1 g) (put_at m.new p) refl h
  where
    by : (first_brought ms p ≡ Some item → fits p item ≡ true) → (x : Option Item) → put_at m.new p ≡ x → elim x [ None ↦ first_brought ms p | Some item ↦ Some item ] ≡ Some item → fits p item ≡ true
    by rest None e g = rest g
    by rest (Some other) e g = parts.0.fit p item (e ∙ g)

first_none : (ms : List Move) (p : List PathStep) (ids : List (List ℕ)) → first_brought ms p ≡ None → brought ms p ids ≡ ids
first_none [] p ids h = refl
first_none (m ∷ ms) p ids h = by (λ g. first_none ms p ids g) (put_at m.new p) h
  where
    by : (first_brought ms p ≡ None → brought ms p ids ≡ ids) → (x : Option Item) → ◌≡◌ {A = Option Item} (elim x [ None ↦ first_brought ms p | Some item ↦ Some item ]) None
        → ◌≡◌ {A = List (List ℕ)} (elim x [ None ↦ brought ms p ids | Some item ↦ brought ms p (enter_id m.service ids) ]) ids
    by rest None g = rest g
    by rest (Some item) g = absurd (none-some item (sym g))

some_brought : (ms : List Move) (p : List PathStep) (ids : List (List ℕ)) → ids ≢ [] → brought ms p ids ≢ []
some_brought [] p ids some = some
some_brought (m ∷ ms) p ids some = by (λ xs s. some_brought ms p xs s) (put_at m.new p)
  where
    by : ((xs : List (List ℕ)) → xs ≢ [] → brought ms p xs ≢ []) → (x : Option Item) → ◌≢◌ {A = List (List ℕ)} (elim x [ None ↦ brought ms p ids | Some item ↦ brought ms p (enter_id m.service ids) ]) []
    by rest None = rest ids some
    by rest (Some item) = rest (enter_id m.service ids) (enters_some m.service ids)

first_some : (ms : List Move) (p : List PathStep) (ids : List (List ℕ)) → is_some (first_brought ms p) ≡ true → brought ms p ids ≢ []
first_some [] p ids h = absurd (false≢true h)
first_some (m ∷ ms) p ids h = by (λ g. first_some ms p ids g) (put_at m.new p) h
  where
    by : (is_some (first_brought ms p) ≡ true → brought ms p ids ≢ []) → (x : Option Item) → is_some (elim x [ None ↦ first_brought ms p | Some item ↦ Some item ]) ≡ true
        → ◌≢◌ {A = List (List ℕ)} (elim x [ None ↦ brought ms p ids | Some item ↦ brought ms p (enter_id m.service ids) ]) []
    by rest None g = rest g
    by rest (Some item) g = some_brought ms p (enter_id m.service ids) (enters_some m.service ids)

-- Paths that no move touches

or_none : (a b : Bool) → (a || b) ≡ false → (a ≡ false) × (b ≡ false)
or_none true b h = absurd (false≢true (sym h))
or_none false b h = (refl, h)

put_at-none : (puts : List Put) (p : List PathStep) → has_path puts p ≡ false → put_at puts p ≡ None
put_at-none [] p h = refl
put_at-none (w ∷ ws) p h = let parts = or_none (eq_by_cmp path_cmp p w.path) (has_path ws p) h in cond-false _ _ _ parts.0 ∙ put_at-none ws p parts.1

touched_parts : (m : Move) (ms : List Move) (p : List PathStep) → moves_touch (m ∷ ms) p ≡ false → (put_at m.old p ≡ None) × (put_at m.new p ≡ None) × (moves_touch ms p ≡ false)
touched_parts m ms p h =
    let parts = or_none (has_path m.old p || has_path m.new p) (moves_touch ms p) h in
    let both_none = or_none (has_path m.old p) (has_path m.new p) parts.0 in
    (put_at-none m.old p both_none.0, put_at-none m.new p both_none.1, parts.1)

untouched_first : (ms : List Move) (p : List PathStep) → moves_touch ms p ≡ false → first_brought ms p ≡ None
untouched_first [] p h = refl
untouched_first (m ∷ ms) p h =
    let parts = touched_parts m ms p h in
    ap (λ (x : Option Item). elim x [ None ↦ first_brought ms p | Some item ↦ Some item ]) parts.1 ∙ untouched_first ms p parts.2

-- nothing is brought there that could differ
pub untouched_bring : (ms : List Move) (p : List PathStep) (o : Option Item) → moves_touch ms p ≡ false → all_bring ms p o ≡ true
untouched_bring [] p o h = refl
untouched_bring (m ∷ ms) p o h =
    let parts = touched_parts m ms p h in
    ap (λ (x : Option Item). elim x [ None ↦ all_bring ms p o | Some item ↦ cond (has_item o item) (all_bring ms p o) false ]) parts.1 ∙ untouched_bring ms p o parts.2

-- a service that writes an untouched path doesn't move
untouched_unmoved : (s : Store) (ms : List Move) (p : List PathStep) (id : List ℕ) → IsStore s → StartAt s ms → moves_touch ms p ≡ false → holds_id id (ids_at s p) ≡ true → is_moved ms id ≡ false
untouched_unmoved s [] p id is start h has = refl
untouched_unmoved s (m ∷ ms) p id is start h has = by (untouched_unmoved s ms p id is start.1 (touched_parts m ms p h).2 has) (is_id m.service id) refl
  where
    some_ids : ids_at s p ≢ []
    some_ids e = false≢true (sym (ap (holds_id id) e) ∙ has)

    by : is_moved ms id ≡ false → (b : Bool) → is_id m.service id ≡ b → (b || is_moved ms id) ≡ false
    by rest false e = rest
    by rest true e =
        let same : m.service ≡ id = (bytes_decides m.service id).0 e in
        let there : written_by s m.service p ≡ get s.tree p = ap (λ (x : List ℕ). written_by s x p) same ∙ cond-true _ _ _ has in
        let none : get s.tree p ≡ None = sym there ∙ sym (start.0 p) ∙ (touched_parts m ms p h).0 in
        absurd (false≢true (sym (ap is_some none) ∙ is.covered p some_ids))

staying-all : (ms : List Move) (ids : List (List ℕ)) → ((id : List ℕ) → holds_id id ids ≡ true → is_moved ms id ≡ false) → staying ms ids ≡ ids
staying-all ms [] h = refl
staying-all ms (x ∷ xs) h =
    cond-true _ _ _ (ap not (h x (ap (λ b. b || holds_id x xs) ((bytes_decides x x).1 refl))))
    ∙ ap (λ l. x ∷ l) (staying-all ms xs (λ id has. h id (later (is_id x id) (holds_id id xs) has)))
  where
    later : (a b : Bool) → b ≡ true → (a || b) ≡ true
    later true b e = refl
    later false b e = e

-- where no move touches a path and the base stays, its back pointers and its item stay
pub untouched_ids : (s : Store) (ms : List Move) (p : List PathStep) → IsStore s → StartAt s ms → moves_touch ms p ≡ false → ids_after ms p (ids_at s p) ≡ ids_at s p
untouched_ids s ms p is start h =
    ap (brought ms p) (staying-all ms (ids_at s p) (λ id has. untouched_unmoved s ms p id is start h has)) ∙ first_none ms p (ids_at s p) (untouched_first ms p h)

pub untouched_item : (s : Store) (base : Config) (ms : List Move) (p : List PathStep) → IsStore s → StartAt s ms → moves_touch ms p ≡ false → get base p ≡ get s.base p
    → item_after ms p (ids_at s p) (get s.tree p) (get base p) ≡ get s.tree p
untouched_item s base ms p is start h stays = by (staying ms (ids_at s p)) refl
  where
    by : (xs : List (List ℕ)) → staying ms (ids_at s p) ≡ xs → elim xs [ [] ↦ or_else (first_brought ms p) (get base p) | id ∷ others ↦ get s.tree p ] ≡ get s.tree p
    by [] e =
        ap (λ (o : Option Item). or_else o (get base p)) (untouched_first ms p h) ∙ stays
        ∙ sym (is.uncovered p (sym (staying-all ms (ids_at s p) (λ id has. untouched_unmoved s ms p id is start h has)) ∙ e))
    by (x ∷ xs) e = refl

-- The store once the moves are done

-- what stands at a path once the moves are done on this base
abbrev pub after : Store → Config → List Move → List PathStep → Option Item
after s base ms p = item_after ms p (ids_at s p) (get s.tree p) (get base p)

-- that which some service that stays, or some move, writes; or else nobody does
pub after_cases : (s : Store) (base : Config) (ms : List Move) (p : List PathStep)
    → ((staying ms (ids_at s p) ≢ []) × (after s base ms p ≡ get s.tree p))
    ⊎ ((staying ms (ids_at s p) ≡ []) × ((is_some (first_brought ms p) ≡ true) × (after s base ms p ≡ first_brought ms p))
    ⊎ ((staying ms (ids_at s p) ≡ []) × (first_brought ms p ≡ None) × (after s base ms p ≡ get base p)))
after_cases s base ms p = by (staying ms (ids_at s p)) refl
  where
    none : (o : Option Item) → first_brought ms p ≡ o → staying ms (ids_at s p) ≡ []
        → ((staying ms (ids_at s p) ≡ []) × ((is_some (first_brought ms p) ≡ true) × (after s base ms p ≡ first_brought ms p))
        ⊎ ((staying ms (ids_at s p) ≡ []) × (first_brought ms p ≡ None) × (after s base ms p ≡ get base p)))
    none None f e = inr (e, f, ap (λ (xs : List (List ℕ)). chosen xs) e ∙ ap (λ (o : Option Item). or_else o (get base p)) f)
      where
        chosen : List (List ℕ) → Option Item
        chosen xs = elim xs [ [] ↦ or_else (first_brought ms p) (get base p) | id ∷ others ↦ get s.tree p ]
    none (Some item) f e = inl (e, (ap is_some f, ap (λ (xs : List (List ℕ)). chosen xs) e ∙ ap (λ (o : Option Item). or_else o (get base p)) f ∙ sym f))
      where
        chosen : List (List ℕ) → Option Item
        chosen xs = elim xs [ [] ↦ or_else (first_brought ms p) (get base p) | id ∷ others ↦ get s.tree p ]

    by : (xs : List (List ℕ)) → staying ms (ids_at s p) ≡ xs
        → ((staying ms (ids_at s p) ≢ []) × (after s base ms p ≡ get s.tree p))
        ⊎ ((staying ms (ids_at s p) ≡ []) × ((is_some (first_brought ms p) ≡ true) × (after s base ms p ≡ first_brought ms p))
        ⊎ ((staying ms (ids_at s p) ≡ []) × (first_brought ms p ≡ None) × (after s base ms p ≡ get base p)))
    by [] e = inr (none (first_brought ms p) refl e)
    by (x ∷ xs) e = let some : staying ms (ids_at s p) ≢ [] = λ nothing. (let not_so : ⊥ = cc in not_so) in inl (some, item-stays ms p (ids_at s p) (get s.tree p) (get base p) some)

-- every entry on the way to what stands there once the moves are done stands there too
pub after_ways : (s : Store) (base : Config) (ms : List Move) → IsStore s → IsConfig base → BringWhole ms
    → ((p : List PathStep) → all_bring ms p (after s base ms p) ≡ true) → HasWays (after s base ms)
after_ways s base ms is base_is parts agree p w h way =
    ⊎_elim
    (λ (stays : (staying ms (ids_at s p) ≢ []) × (after s base ms p ≡ get s.tree p)). by_tree stays.0 (sym (ap is_some stays.1) ∙ h))
    (⊎_elim
    (λ (comes : (staying ms (ids_at s p) ≡ []) × ((is_some (first_brought ms p) ≡ true) × (after s base ms p ≡ first_brought ms p))).
    first_ways ms p w (after s base ms w) parts way comes.1.0 (agree w))
    (λ (base_stays : (staying ms (ids_at s p) ≡ []) × (first_brought ms p ≡ None) × (after s base ms p ≡ get base p)).
    by_base (HasWays-config base base_is p w (sym (ap is_some base_stays.2) ∙ h) way)))
    (after_cases s base ms p)
  where
    keyed_there : (ids_at s w ≢ []) → get s.tree w ≡ Some Entry
    keyed_there some = entry_at_keys s.tree w is.tree way.keyed (is.covered w some)

    nonempty : staying ms (ids_at s w) ≢ [] → ids_at s w ≢ []
    nonempty some e = some (ap (staying ms) e)

    -- a service that stays writes the entry too
    by_tree : staying ms (ids_at s p) ≢ [] → is_some (get s.tree p) ≡ true → after s base ms w ≡ Some Entry
    by_tree some there = at_way (one_stays (ids_at s p) some)
      where
        one_stays : (xs : List (List ℕ)) → staying ms xs ≢ [] → (id : List ℕ) × (holds_id id xs ≡ true) × (is_moved ms id ≡ false)
        one_stays [] none = absurd (none refl)
        one_stays (x ∷ xs) none = on (λ f. one_stays xs f) (is_moved ms x) refl none
          where
            later : (a b : Bool) → b ≡ true → (a || b) ≡ true
            later true b e = refl
            later false b e = e

            on : (staying ms xs ≢ [] → (id : List ℕ) × (holds_id id xs ≡ true) × (is_moved ms id ≡ false)) → (b : Bool) → is_moved ms x ≡ b
                → ◌≢◌ {A = List (List ℕ)} (cond (not b) (x ∷ staying ms xs) (staying ms xs)) [] → (id : List ℕ) × (holds_id id (x ∷ xs) ≡ true) × (is_moved ms id ≡ false)
            on rest true e f = let more = rest f in (more.0, later (is_id x more.0) (holds_id more.0 xs) more.1, more.2)
            on rest false e f = (x, ap (λ b. b || holds_id x xs) ((bytes_decides x x).1 refl), e)

        at_way : (id : List ℕ) × (holds_id id (ids_at s p) ≡ true) × (is_moved ms id ≡ false) → after s base ms w ≡ Some Entry
        at_way one =
            let has : holds_id one.0 (ids_at s w) ≡ true = is.ways one.0 p w one.1 way in
            let stays = stays_some ms (ids_at s w) one.0 one.2 has in
            item-stays ms w (ids_at s w) (get s.tree w) (get base w) stays ∙ keyed_there (nonempty stays)

    -- the base has the entry, or what is written there is one
    by_base : get base w ≡ Some Entry → after s base ms w ≡ Some Entry
    by_base there =
        ⊎_elim
        (λ (stays : (staying ms (ids_at s w) ≢ []) × (after s base ms w ≡ get s.tree w)). stays.1 ∙ keyed_there (nonempty stays.0))
        (⊎_elim
        (λ (comes : (staying ms (ids_at s w) ≡ []) × ((is_some (first_brought ms w) ≡ true) × (after s base ms w ≡ first_brought ms w))).
        comes.1.1 ∙ brought_entry (first_brought ms w) refl comes.1.0)
        (λ (base_stays : (staying ms (ids_at s w) ≡ []) × (first_brought ms w ≡ None) × (after s base ms w ≡ get base w)). base_stays.2 ∙ there))
        (after_cases s base ms w)
      where
        brought_entry : (o : Option Item) → first_brought ms w ≡ o → is_some o ≡ true → o ≡ Some Entry
        brought_entry None e g = absurd (false≢true g)
        brought_entry (Some item) e g = entry (Some item) (is_entry-keyed w item (first_fits ms w item parts e) way.keyed)
          where
            entry : (o : Option Item) → is_entry o ≡ true → o ≡ Some Entry
            entry None k = absurd (false≢true k)
            entry (Some Entry) k = refl
            entry (Some (Leaf t)) k = absurd (false≢true k)

-- A store whose back pointers, tree and base are those once the moves are done is one, and its services write what the moves say.

pub record IsAfter (s t : Store) (edited : Config) (ms : List Move) : Type 0 where
  pub base : t.base ≡ edited
  pub ids : (p : List PathStep) → ids_at t p ≡ ids_after ms p (ids_at s p)
  pub tree : (p : List PathStep) → get t.tree p ≡ after s edited ms p
  pub some : (p : List PathStep) → get t.backs p ≢ Some []

pub after_written : (s t : Store) (base : Config) (ms : List Move) → IsAfter s t base ms → are_distinct ms ≡ true → ((p : List PathStep) → all_bring ms p (after s base ms p) ≡ true)
    → (id : List ℕ) (p : List PathStep) → written_by t id p ≡ writes_after ms (written_by s) id p
after_written s t base ms done distinct agree id p =
    ap (λ (ids : List (List ℕ)). cond (holds_id id ids) (get t.tree p) None) (done.ids p)
    ∙ ap (λ (o : Option Item). cond (holds_id id (ids_after ms p (ids_at s p))) o None) (done.tree p)
    ∙ written_settled ms id p (ids_at s p) (get s.tree p) (get base p) distinct (agree p)
    ∙ moved_same ms (λ i q. cond (holds_id i (ids_at s p)) (get s.tree p) None) (written_by s) id p refl
  where
    moved_same : (ms : List Move) (f g : List ℕ → List PathStep → Option Item) (id : List ℕ) (p : List PathStep) → f id p ≡ g id p → writes_after ms f id p ≡ writes_after ms g id p
    moved_same [] f g id p e = e
    moved_same (m ∷ ms) f g id p e = ap (cond (is_id m.service id) (put_at m.new p)) (moved_same ms f g id p e)

pub after_is_store : (s t : Store) (base : Config) (ms : List Move) → IsStore s → IsConfig base → BringWhole ms → IsAfter s t base ms → IsConfig t.tree → IsStore t
after_is_store s t base ms is base_is parts done config = record {
  base = subst IsConfig (sym done.base) base_is;
  tree = config;
  some = done.some;
  rising = λ p. ap are_rising (done.ids p) ∙ rising-after ms p (ids_at s p) (is.rising p);
  covered = λ p some. ap is_some (done.tree p) ∙ covered p (λ e. some (done.ids p ∙ e));
  uncovered = λ p none. done.tree p ∙ uncovered p (sym (done.ids p) ∙ none) ∙ ap (λ (m : Config). get m p) (sym done.base);
  ways = λ id p w has way. ap (holds_id id) (done.ids w) ∙ holds_id-after ms w (ids_at s w) id ∙ at_way id p w way (sym (holds_id-after ms p (ids_at s p) id) ∙ sym (ap (holds_id id) (done.ids p)) ∙ has);
}
  where
    covered : (p : List PathStep) → ids_after ms p (ids_at s p) ≢ [] → is_some (after s base ms p) ≡ true
    covered p some =
        ⊎_elim
        (λ (stays : (staying ms (ids_at s p) ≢ []) × (after s base ms p ≡ get s.tree p)). ap is_some stays.1 ∙ is.covered p (λ e. stays.0 (ap (staying ms) e)))
        (⊎_elim
        (λ (comes : (staying ms (ids_at s p) ≡ []) × ((is_some (first_brought ms p) ≡ true) × (after s base ms p ≡ first_brought ms p))). ap is_some comes.1.1 ∙ comes.1.0)
        (λ (none : (staying ms (ids_at s p) ≡ []) × (first_brought ms p ≡ None) × (after s base ms p ≡ get base p)).
        absurd (some (first_none ms p (staying ms (ids_at s p)) none.1 ∙ none.0))))
        (after_cases s base ms p)

    uncovered : (p : List PathStep) → ids_after ms p (ids_at s p) ≡ [] → after s base ms p ≡ get base p
    uncovered p nothing =
        ⊎_elim
        (λ (stays : (staying ms (ids_at s p) ≢ []) × (after s base ms p ≡ get s.tree p)). absurd (some_brought ms p (staying ms (ids_at s p)) stays.0 nothing))
        (⊎_elim
        (λ (comes : (staying ms (ids_at s p) ≡ []) × ((is_some (first_brought ms p) ≡ true) × (after s base ms p ≡ first_brought ms p))).
        absurd (first_some ms p (staying ms (ids_at s p)) comes.1.0 nothing))
        (λ (none : (staying ms (ids_at s p) ≡ []) × (first_brought ms p ≡ None) × (after s base ms p ≡ get base p)). none.2))
        (after_cases s base ms p)

    at_way : (id : List ℕ) (p w : List PathStep) → IsWay w p → (brings ms id p || (not (is_moved ms id) && holds_id id (ids_at s p))) ≡ true
        → (brings ms id w || (not (is_moved ms id) && holds_id id (ids_at s w))) ≡ true
    at_way id p w way h = on (brings ms id p) refl (is_moved ms id) h
      where
        or_right : (a b : Bool) → b ≡ true → (a || b) ≡ true
        or_right true b e = refl
        or_right false b e = e

        on : (b : Bool) → brings ms id p ≡ b → (m : Bool) → (b || (not m && holds_id id (ids_at s p))) ≡ true → (brings ms id w || (not m && holds_id id (ids_at s w))) ≡ true
        on true e m g = ap (λ b. b || (not m && holds_id id (ids_at s w))) (brings_ways ms id p w parts way e)
        on false e true g = absurd (false≢true g)
        on false e false g = or_right (brings ms id w) (holds_id id (ids_at s w)) (is.ways id p w g way)
