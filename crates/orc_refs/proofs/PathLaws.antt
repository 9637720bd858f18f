-- What moves make of one path.
use Rattle.std.proofs.Common.{◌≡◌, ◌≢◌, ℕ, Bool, true, false, cond, not, ◌&&◌, ◌||◌, List, [], ◌∷◌, Some, None, refl, sym, ap, subst, ◌∙◌, is_some, Bor, length, arith}
use Rattle.std.specs.declared.option.Option.{Option}
use Rattle.std.specs.Option.{option_copied}
use Rattle.std.specs.Cmp.Lexicographic.{bytes_decides}
use Rattle.std.proofs.lemmas.Bool.{false≢true, cond-false, both_ways}
use Rattle.std.specs.List.{filter, list_any}
use Rattle.orc_path.specs.Steps.{PathStep}
use Rattle.orc_path.specs.declared.item.Item.{Item}
use Rattle.orc_change.specs.Differences.{has_item}
use Rattle.orc_change.proofs.Exact.{has_item_is}
use Rattle.orc_refs.specs.Ids.{is_id, holds_id, are_rising}
use Rattle.orc_refs.specs.inside.Settling.{enter_id}
use Rattle.orc_refs.specs.Moves.{put_at, is_moved, writes_after, are_distinct}
use Rattle.orc_refs.specs.inside.Settling.{staying, brought, ids_after, first_brought, or_else, item_after, all_bring}
use Rattle.orc_refs.specs.declared.moves.Move.{Move}
use Rattle.orc_refs.proofs.IdsLaws.{holds_id-enter, rising-enter, rising-filter, holds_id-filter, both}

-- the move that names the service brings an item there
abbrev pub brings : List Move → List ℕ → List PathStep → Bool
brings [] id p = false
brings (m ∷ ms) id p = (is_id m.service id && is_some (put_at m.new p)) || brings ms id p

rotate : (a b c : Bool) → (a || (b || c)) ≡ ((b || a) || c)
rotate true true c = refl
rotate true false c = refl
rotate false true c = refl
rotate false false c = refl

pub holds_id-brought : (ms : List Move) (p : List PathStep) (ids : List (List ℕ)) (id : List ℕ) → holds_id id (brought ms p ids) ≡ (brings ms id p || holds_id id ids)
holds_id-brought [] p ids id = refl
holds_id-brought (m ∷ ms) p ids id = by (λ xs. holds_id-brought ms p xs id) (put_at m.new p)
  where
    by : ((xs : List (List ℕ)) → holds_id id (brought ms p xs) ≡ (brings ms id p || holds_id id xs)) → (o : Option Item)
        → holds_id id (elim o [ None ↦ brought ms p ids | Some item ↦ brought ms p (enter_id m.service ids) ]) ≡ (((is_id m.service id && is_some o) || brings ms id p) || holds_id id ids)
    by rest None = rest ids ∙ no (is_id m.service id)
      where
        no : (b : Bool) → (brings ms id p || holds_id id ids) ≡ (((b && false) || brings ms id p) || holds_id id ids)
        no true = refl
        no false = refl
    by rest (Some item) =
        rest (enter_id m.service ids) ∙ ap (λ b. brings ms id p || b) (holds_id-enter id m.service ids)
        ∙ rotate (brings ms id p) (is_id m.service id) (holds_id id ids) ∙ ap (λ b. (b || brings ms id p) || holds_id id ids) (yes (is_id m.service id))
      where
        yes : (b : Bool) → b ≡ (b && true)
        yes true = refl
        yes false = refl

-- an id is there once the moves are done where its move brings an item, or no move names it and it was there
pub holds_id-after : (ms : List Move) (p : List PathStep) (ids : List (List ℕ)) (id : List ℕ)
    → holds_id id (ids_after ms p ids) ≡ (brings ms id p || (not (is_moved ms id) && holds_id id ids))
holds_id-after ms p ids id = holds_id-brought ms p (staying ms ids) id ∙ ap (λ b. brings ms id p || b) (holds_id-filter (λ x. not (is_moved ms x)) id ids)

rising-brought : (ms : List Move) (p : List PathStep) (ids : List (List ℕ)) → are_rising ids ≡ true → are_rising (brought ms p ids) ≡ true
rising-brought [] p ids h = h
rising-brought (m ∷ ms) p ids h = by (λ xs g. rising-brought ms p xs g) (put_at m.new p)
  where
    by : ((xs : List (List ℕ)) → are_rising xs ≡ true → are_rising (brought ms p xs) ≡ true) → (o : Option Item)
        → are_rising (elim o [ None ↦ brought ms p ids | Some item ↦ brought ms p (enter_id m.service ids) ]) ≡ true
    by rest None = rest ids h
    by rest (Some item) = rest (enter_id m.service ids) (rising-enter m.service ids h)

pub rising-after : (ms : List Move) (p : List PathStep) (ids : List (List ℕ)) → are_rising ids ≡ true → are_rising (ids_after ms p ids) ≡ true
rising-after ms p ids h = rising-brought ms p (staying ms ids) (rising-filter (λ x. not (is_moved ms x)) ids h)

-- only a service that a move names is brought anything
pub brings-writes_after : (ms : List Move) (id : List ℕ) (p : List PathStep) → brings ms id p ≡ true → is_moved ms id ≡ true
brings-writes_after [] id p h = h
brings-writes_after (m ∷ ms) id p h =
    elim (is_id m.service id) as (λ b. ((b && is_some (put_at m.new p)) || brings ms id p) ≡ true → (b || is_moved ms id) ≡ true) [
      | true ↦ λ g. refl
      | false ↦ λ g. brings-writes_after ms id p g
    ] h

not_true : (b : Bool) → (b ≡ true → ⊥) → b ≡ false
not_true true f = absurd (f refl)
not_true false f = refl

pub unmoved : (ms : List Move) (id : List ℕ) (p : List PathStep) → is_moved ms id ≡ false → brings ms id p ≡ false
unmoved ms id p h = not_true (brings ms id p) (λ e. both_ways (is_moved ms id) h (brings-writes_after ms id p e))

pub distinct_rest : (m : Move) (ms : List Move) → are_distinct (m ∷ ms) ≡ true → (is_moved ms m.service ≡ false) × (are_distinct ms ≡ true)
distinct_rest m ms h = by (is_moved ms m.service) refl h
  where
    by : (b : Bool) → is_moved ms m.service ≡ b → cond b false (are_distinct ms) ≡ true → (is_moved ms m.service ≡ false) × (are_distinct ms ≡ true)
    by true e g = absurd (false≢true g)
    by false e g = (e, g)

pub all_bring_rest : (m : Move) (ms : List Move) (p : List PathStep) (o : Option Item) → all_bring (m ∷ ms) p o ≡ true → all_bring ms p o ≡ true
all_bring_rest m ms p o h = by (put_at m.new p) h
  where
    by : (x : Option Item) → elim x [ None ↦ all_bring ms p o | Some item ↦ cond (has_item o item) (all_bring ms p o) false ] ≡ true → all_bring ms p o ≡ true
    by None g = g
    by (Some item) g = under (has_item o item) g
      where
        under : (b : Bool) → cond b (all_bring ms p o) false ≡ true → all_bring ms p o ≡ true
        under true k = k
        under false k = absurd (false≢true k)

pub all_bring_first : (m : Move) (ms : List Move) (p : List PathStep) (o : Option Item) (item : Item) → all_bring (m ∷ ms) p o ≡ true → put_at m.new p ≡ Some item → o ≡ Some item
all_bring_first m ms p o item h is = under (has_item o item) refl (subst (λ (x : Option Item). elim x [ None ↦ all_bring ms p o | Some item ↦ cond (has_item o item) (all_bring ms p o) false ] ≡ true) is h)
  where
    under : (b : Bool) → has_item o item ≡ b → cond b (all_bring ms p o) false ≡ true → o ≡ Some item
    under true e k = has_item_is o item e
    under false e k = absurd (false≢true k)

-- what the services that moves name write once the moves are done
moved_brings : (ms : List Move) (live : List ℕ → List PathStep → Option Item) (id : List ℕ) (p : List PathStep) (o : Option Item)
    → are_distinct ms ≡ true → all_bring ms p o ≡ true → is_moved ms id ≡ true → cond (brings ms id p) o None ≡ writes_after ms live id p
moved_brings [] live id p o d a h = absurd (false≢true h)
moved_brings (m ∷ ms) live id p o d a h =
    by (is_id m.service id) refl h (λ g. moved_brings ms live id p o (distinct_rest m ms d).1 (all_bring_rest m ms p o a) g)
  where
    here : (x : Option Item) → put_at m.new p ≡ x → brings ms id p ≡ false → cond (is_some x || brings ms id p) o None ≡ x
    here None is none = cond-false _ _ _ none
    here (Some item) is none = all_bring_first m ms p o item a is

    by : (b : Bool) → is_id m.service id ≡ b → (b || is_moved ms id) ≡ true → (is_moved ms id ≡ true → cond (brings ms id p) o None ≡ writes_after ms live id p)
        → cond ((b && is_some (put_at m.new p)) || brings ms id p) o None ≡ cond b (put_at m.new p) (writes_after ms live id p)
    by true e g rest = here (put_at m.new p) refl (unmoved ms id p (subst (λ (x : List ℕ). is_moved ms x ≡ false) ((bytes_decides m.service id).0 e) (distinct_rest m ms d).0))
    by false e g rest = rest g

pub moved_none : (ms : List Move) (live : List ℕ → List PathStep → Option Item) (id : List ℕ) (p : List PathStep) → is_moved ms id ≡ false → writes_after ms live id p ≡ live id p
moved_none [] live id p h = refl
moved_none (m ∷ ms) live id p h = by (is_id m.service id) h (moved_none ms live id p)
  where
    by : (b : Bool) → (b || is_moved ms id) ≡ false → (is_moved ms id ≡ false → writes_after ms live id p ≡ live id p) → cond b (put_at m.new p) (writes_after ms live id p) ≡ live id p
    by true g rest = absurd (false≢true (sym g))
    by false g rest = rest g

-- where some service stays, its item stays
pub item-stays : (ms : List Move) (p : List PathStep) (ids : List (List ℕ)) (here base : Option Item) → staying ms ids ≢ [] → item_after ms p ids here base ≡ here
item-stays ms p ids here base some = by (staying ms ids) refl
  where
    by : (xs : List (List ℕ)) → staying ms ids ≡ xs → elim xs [ [] ↦ or_else (first_brought ms p) base | id ∷ others ↦ here ] ≡ here
    by [] e = absurd (some e)
    by (x ∷ xs) e = refl

has_some : (id : List ℕ) (xs : List (List ℕ)) → holds_id id xs ≡ true → xs ≢ []
has_some id [] h e = false≢true h
has_some id (x ∷ xs) h e = let not_so : ⊥ = cc in not_so

pub stays_some : (ms : List Move) (ids : List (List ℕ)) (id : List ℕ) → is_moved ms id ≡ false → holds_id id ids ≡ true → staying ms ids ≢ []
stays_some ms ids id free has = has_some id (staying ms ids) (holds_id-filter (λ x. not (is_moved ms x)) id ids ∙ both _ _ (ap not free) has)

-- what each service writes at a path once the moves are done
pub written_settled : (ms : List Move) (id : List ℕ) (p : List PathStep) (ids : List (List ℕ)) (here base : Option Item)
    → are_distinct ms ≡ true → all_bring ms p (item_after ms p ids here base) ≡ true
    → cond (holds_id id (ids_after ms p ids)) (item_after ms p ids here base) None ≡ writes_after ms (λ id p. cond (holds_id id ids) here None) id p
written_settled ms id p ids here base d a =
    ap (λ b. cond b n None) (holds_id-after ms p ids id)
    ∙ by (is_moved ms id) refl
  where
    n : Option Item
    n = item_after ms p ids here base

    stay : is_moved ms id ≡ false → (h : Bool) → holds_id id ids ≡ h → cond h n None ≡ cond h here None
    stay free true has = item-stays ms p ids here base (stays_some ms ids id free has)
    stay free false has = refl

    none_more : (b : Bool) → cond (b || false) n None ≡ cond b n None
    none_more true = refl
    none_more false = refl

    by : (b : Bool) → is_moved ms id ≡ b → cond (brings ms id p || (not b && holds_id id ids)) n None ≡ writes_after ms (λ id p. cond (holds_id id ids) here None) id p
    by true e = none_more (brings ms id p) ∙ moved_brings ms (λ id p. cond (holds_id id ids) here None) id p n d a e
    by false e =
        ap (λ b. cond (b || holds_id id ids) n None) (unmoved ms id p e)
        ∙ stay e (holds_id id ids) refl
        ∙ sym (moved_none ms (λ id p. cond (holds_id id ids) here None) id p e)

any_filter : (p : List ℕ → Bool) (xs : List (List ℕ)) → list_any p xs ≡ true → filter p xs ≢ []
any_filter p [] h = absurd (false≢true h)
any_filter p (x ∷ xs) h = by (λ g. any_filter p xs g) (p x) h
  where
    by : (list_any p xs ≡ true → filter p xs ≢ []) → (b : Bool) → (b || list_any p xs) ≡ true → ◌≢◌ {A = List (List ℕ)} (cond b (x ∷ filter p xs) (filter p xs)) []
    by rest true g = λ e. (let not_so : ⊥ = cc in not_so)
    by rest false g = rest g

none_filter : (p : List ℕ → Bool) (xs : List (List ℕ)) → list_any p xs ≡ false → filter p xs ≡ []
none_filter p [] h = refl
none_filter p (x ∷ xs) h = by (λ g. none_filter p xs g) (p x) h
  where
    by : (list_any p xs ≡ false → filter p xs ≡ []) → (b : Bool) → (b || list_any p xs) ≡ false → ◌≡◌ {A = List (List ℕ)} (cond b (x ∷ filter p xs) (filter p xs)) []
    by rest true g = absurd (false≢true (sym g))
    by rest false g = rest g

-- the item where some service stays
pub item-any_stays : (ms : List Move) (p : List PathStep) (ids : List (List ℕ)) (here base : Option Item) → true ≡ list_any (λ id. not (is_moved ms id)) ids → here ≡ item_after ms p ids here base
item-any_stays ms p ids here base h = sym (item-stays ms p ids here base (any_filter (λ id. not (is_moved ms id)) ids (sym h)))

-- and where none does
pub item-none_stays : (ms : List Move) (p : List PathStep) (ids : List (List ℕ)) (here base first : Option Item) → false ≡ list_any (λ id. not (is_moved ms id)) ids → first ≡ first_brought ms p
    → or_else first base ≡ item_after ms p ids here base
item-none_stays ms p ids here base first h is =
    sym (ap chosen (none_filter (λ id. not (is_moved ms id)) ids (sym h)) ∙ ap (λ (o : Option Item). or_else o base) (sym is))
  where
    chosen : List (List ℕ) → Option Item
    chosen xs = elim xs [ [] ↦ or_else (first_brought ms p) base | id ∷ others ↦ here ]

-- The ids at a path where no item stands

pub some_copied : (o : Option (Bor Item)) (item : Option Item) → option_copied o ≡ item → is_some o ≡ is_some item
some_copied o item is = same o ∙ ap is_some is
  where
    same : (o : Option (Bor Item)) → is_some o ≡ is_some (option_copied o)
    same None = refl
    same (Some x) = refl

pub no_ids : (ids : List (List ℕ)) → (ids ≢ [] → false ≡ true) → ids ≡ []
no_ids [] some = refl
no_ids (id ∷ ids) some = absurd (false≢true (some (λ e. omega (arith, ap length e))))
