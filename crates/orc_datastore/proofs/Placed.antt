-- Services in slots: which one is found by a name, and what one that is added or taken away makes of them.
use Rattle.std.proofs.Common.{◌≡◌, ℕ, zero, suc, ◌<◌, ◌+◌, Bool, true, false, cond, not, ◌||◌, List, [], ◌∷◌, ◌++◌, ◌⊎◌, inl, inr, map, length, get_or, take, slice_index_or, slice_set, is_some, None, Some, refl, sym, ap, subst, ◌∙◌, arith}
use Rattle.std.specs.Prelude.{Option, slice_get, if◌then◌else◌}
use Rattle.std.specs.Option.{option_and_then, option_map_or}
use Rattle.std.specs.BTreeMap.{BTreeMap}
use Rattle.std.specs.List.{find, list_any, AllByRecursion, IsDistinct}
use Rattle.orc_datastore.specs.States.{has_id, lives, others}
use Rattle.orc_decls.specs.Devices.{is_same_text}
use Rattle.orc_datastore.specs.inside.Placed.{AreNamedOnce, AreNoted, HasNames, IsPlaced, KeepsNames, KeepsNoted, filled, is_at, noted, place_among}
use Rattle.orc_datastore.specs.inside.Turns.{left_by}
use Rattle.orc_datastore.specs.declared.service.Service.{Service}
use Rattle.std.proofs.lemmas.Bool.{or_right, false_from_ne_true}
use Rattle.std.proofs.lemmas.List.Elements.{All-more, All-tail, All-weaker}
use Rattle.orc_decls.proofs.Lists.{true_not_false}
use Rattle.orc_datastore.proofs.Named.{is_text_itself, other_way}
use Rattle.std.specs.Ordering.{is_eq, nat_cmp}
use Rattle.std.specs.Cmp.Lexicographic.{bytes_decides, slice_cmp}
use Rattle.std.proofs.lemmas.Map.Text.{is_eq-slice_cmp}
use Rattle.std.proofs.lemmas.Option.{same_Some}

-- small facts

less : (i j : ℕ) → suc i ≡ suc j → i ≡ j
less i j e = omega (arith, e)

zero_suc : (i : ℕ) → 0 ≡ suc i → ⊥
zero_suc i e = absurd (omega (arith, e))

pub any_find : {X : Type 0} (p : X → Bool) (xs : List X) → list_any p xs ≡ is_some (find p xs)
any_find p [] = refl
any_find p (x ∷ xs) = on (p x) (any_find p xs)
  where
    on : (t : Bool) → list_any p xs ≡ is_some (find p xs) → (t || list_any p xs) ≡ is_some (if t then Some x else find p xs)
    on true rest = refl
    on false rest = rest

-- each name stands at one place
abbrev StandAlone : List (Option Service) → Type 0
StandAlone slots = (id : List ℕ) (i j : ℕ) → is_at slots id i ≡ true → is_at slots id j ≡ true → i ≡ j

later_alone : (slot : Option Service) (slots : List (Option Service)) → StandAlone (slot ∷ slots) → StandAlone slots
later_alone slot slots u id i j h k = less i j (u id (suc i) (suc j) h k)

placed_alone : (slots : List (Option Service)) (places : List ℕ → Option ℕ) → IsPlaced slots places → StandAlone slots
placed_alone slots places is id i j h k = same_Some i j (sym (is.alone id i h) ∙ is.alone id j k)

-- where each service's place is noted, it is found there
pub placed-noted : (slots : List (Option Service)) (places : BTreeMap (List ℕ) ℕ) → AreNoted slots places → IsPlaced slots (place_among slots places)
placed-noted slots places is = record {
  there = λ id i h. there id i (noted places id) h;
  alone = λ id i h. ap (option_and_then (λ (j : ℕ). if is_at slots id j then Some j else None)) (is.place id i h) ∙ ap (λ t. cond t (Some i) None) h;
}
  where
    there : (id : List ℕ) (i : ℕ) (o : Option ℕ) → option_and_then (λ (j : ℕ). if is_at slots id j then Some j else None) o ≡ Some i → is_at slots id i ≡ true
    there id i None h = let not_so : None ≡ Some i = h in absurd cc
    there id i (Some j) h = on (is_at slots id j) refl h
      where
        on : (t : Bool) → is_at slots id j ≡ t → cond t (Some j) None ≡ Some i → is_at slots id i ≡ true
        on true e k = ap (is_at slots id) (sym (same_Some j i k)) ∙ e
        on false e k = let not_so : None ≡ Some i = k in absurd cc

pub place_same : (slots slots' : List (Option Service)) (places : BTreeMap (List ℕ) ℕ) (id : List ℕ) (o : Option ℕ) → slots ≡ slots'
    → o ≡ place_among slots places id → place_among slots' places id ≡ o
place_same slots slots' places id o same is = sym (is ∙ ap (λ (l : List (Option Service)). place_among l places id) same)

-- so no two services have one name

others_differ : (slots : List (Option Service)) (x : Service) → ((i : ℕ) → is_at slots x.id i ≡ true → ⊥)
    → AllByRecursion (λ other. is_same_text x.id other ≡ false) (map (λ service. service.id) (filled slots))
others_differ [] x none = tt
others_differ (None ∷ slots) x none = others_differ slots x (λ i h. none (suc i) h)
others_differ (Some y ∷ slots) x none = (other_way y.id x.id (false_from_ne_true (is_same_text y.id x.id) (none 0)), others_differ slots x (λ i h. none (suc i) h))

named_once : (slots : List (Option Service)) → StandAlone slots → AreNamedOnce (filled slots)
unfolding IsDistinct
named_once [] u = tt
named_once (None ∷ slots) u = named_once slots (later_alone None slots u)
named_once (Some x ∷ slots) u = (
  others_differ slots x (λ i h. zero_suc i (u x.id 0 (suc i) (is_text_itself x.id) h)),
  named_once slots (later_alone (Some x) slots u),
)

pub placed-once : (slots : List (Option Service)) (places : List ℕ → Option ℕ) → IsPlaced slots places → AreNamedOnce (filled slots)
placed-once slots places is = named_once slots (placed_alone slots places is)

-- what is found

find_there : (slots : List (Option Service)) (id : List ℕ) (place : ℕ) (s : Service) → ((i : ℕ) → is_at slots id i ≡ true → i ≡ place)
    → slice_get slots place ≡ Some (Some s) → has_id id s ≡ true → find (has_id id) (filled slots) ≡ Some s
find_there [] id place s only e is = let not_so : None ≡ Some (Some s) = e in absurd cc
find_there (None ∷ slots) id zero s only e is = let not_so : None ≡ Some s = same_Some None (Some s) e in absurd cc
find_there (None ∷ slots) id (suc place) s only e is = find_there slots id place s (λ i h. less i place (only (suc i) h)) e is
find_there (Some x ∷ slots) id zero s only e is =
    let same : x ≡ s = same_Some x s (same_Some (Some x) (Some s) e) in
    ap (λ t. if t then Some x else find (has_id id) (filled slots)) (ap (has_id id) same ∙ is) ∙ ap Some same
find_there (Some x ∷ slots) id (suc place) s only e is = on (has_id id x) refl (find_there slots id place s (λ i h. less i place (only (suc i) h)) e is)
  where
    on : (t : Bool) → has_id id x ≡ t → find (has_id id) (filled slots) ≡ Some s → find (has_id id) (x ∷ filled slots) ≡ Some s
    on true h rest = absurd (zero_suc place (only 0 h))
    on false h rest = ap (λ t. if t then Some x else find (has_id id) (filled slots)) h ∙ rest

find_none : (slots : List (Option Service)) (id : List ℕ) → ((i : ℕ) → is_at slots id i ≡ true → ⊥) → find (has_id id) (filled slots) ≡ None
find_none [] id none = refl
find_none (None ∷ slots) id none = find_none slots id (λ i h. none (suc i) h)
find_none (Some x ∷ slots) id none =
    ap (λ t. if t then Some x else find (has_id id) (filled slots)) (false_from_ne_true (has_id id x) (none 0))
    ∙ find_none slots id (λ i h. none (suc i) h)

module _ (slots : List (Option Service)) (places : List ℕ → Option ℕ) (is : IsPlaced slots places) (id : List ℕ) where
  -- the slot of the place of a name holds what is found
  pub found_at : (place : ℕ) (slot : Option Service) → places id ≡ Some place → slice_get slots place ≡ Some slot → slot ≡ find (has_id id) (filled slots)
  found_at place slot at e = on slot e (sym (ap (λ o. option_map_or (λ x. option_map_or (has_id id) x false) o false) e) ∙ is.there id place at)
    where
      on : (o : Option Service) → slice_get slots place ≡ Some o → option_map_or (has_id id) o false ≡ true → o ≡ find (has_id id) (filled slots)
      on None e h = absurd (true_not_false (sym h))
      on (Some s) e h = sym (find_there slots id place s (λ i there. same_Some i place (sym (is.alone id i there) ∙ at)) e h)

  pub found_none : places id ≡ None → None ≡ find (has_id id) (filled slots)
  found_none at = sym (find_none slots id (λ i there. let not_so : None ≡ Some i = sym at ∙ is.alone id i there in cc))

at_within : (slots : List (Option Service)) (id : List ℕ) (place : ℕ) → is_at slots id place ≡ true → place < length slots
at_within [] id place h = absurd (true_not_false (sym h))
at_within (x ∷ slots) id zero h = omega arith
at_within (x ∷ slots) id (suc place) h = omega (arith, at_within slots id place h)

pub placed_within : (slots : List (Option Service)) (places : List ℕ → Option ℕ) → IsPlaced slots places → (id : List ℕ) (place : ℕ)
    → places id ≡ Some place → place < length slots
placed_within slots places is id place at = at_within slots id place (is.there id place at)

-- one more service after the others

at_cases : (slots : List (Option Service)) (s : Service) (id : List ℕ) (i : ℕ) → is_at (slots ++ Some s ∷ []) id i ≡ true
    → (is_at slots id i ≡ true) ⊎ ((i ≡ length slots) × (has_id id s ≡ true))
at_cases [] s id zero h = inr (refl, h)
at_cases [] s id (suc i) h = absurd (true_not_false (sym h))
at_cases (x ∷ slots) s id zero h = inl h
at_cases (x ∷ slots) s id (suc i) h = elim (at_cases slots s id i h) [
  | inl there ↦ inl there
  | inr last ↦ inr (ap suc last.0, last.1)
]

lives_at : (slots : List (Option Service)) (id : List ℕ) (i : ℕ) → is_at slots id i ≡ true → lives (filled slots) id ≡ true
lives_at [] id i h = absurd (true_not_false (sym h))
lives_at (None ∷ slots) id zero h = absurd (true_not_false (sym h))
lives_at (None ∷ slots) id (suc i) h = lives_at slots id i h
lives_at (Some x ∷ slots) id zero h = ap (λ t. t || lives (filled slots) id) h
lives_at (Some x ∷ slots) id (suc i) h = or_right (has_id id x) (lives (filled slots) id) (lives_at slots id i h)

pub noted_more : (slots : List (Option Service)) (old new : BTreeMap (List ℕ) ℕ) (s : Service) (place : ℕ)
    → AreNoted slots old → place ≡ length slots → lives (filled slots) s.id ≡ false
    → ((q : List ℕ) → noted new q ≡ cond (is_same_text s.id q) (Some place) (noted old q)) → AreNoted (slots ++ Some s ∷ []) new
noted_more slots old new s place is last fresh says = record { place = λ q i h. on q i (at_cases slots s q i h) }
  where
    on : (q : List ℕ) (i : ℕ) → (is_at slots q i ≡ true) ⊎ ((i ≡ length slots) × (has_id q s ≡ true)) → noted new q ≡ Some i
    on q i (inl h) =
        let another : is_same_text s.id q ≡ false = false_from_ne_true (is_same_text s.id q) (λ e.
        let same : q ≡ s.id = sym ((bytes_decides s.id q).0 e) in
        true_not_false (sym (lives_at slots q i h) ∙ ap (lives (filled slots)) same ∙ fresh)) in
        says q ∙ ap (λ t. cond t (Some place) (noted old q)) another ∙ is.place q i h
    on q i (inr h) = says q ∙ ap (λ t. cond t (Some place) (noted old q)) h.1 ∙ ap Some (last ∙ sym h.0)

pub filled-more : (slots : List (Option Service)) (s : Service) → filled (slots ++ Some s ∷ []) ≡ filled slots ++ s ∷ []
filled-more [] s = refl
filled-more (None ∷ slots) s = filled-more slots s
filled-more (Some x ∷ slots) s = ap (λ (l : List Service). x ∷ l) (filled-more slots s)

-- a service less

-- the slot of a place is empty
abbrev emptied : List (Option Service) → ℕ → List (Option Service)
emptied slots place = slice_set slots place None

at_emptied : (slots : List (Option Service)) (place : ℕ) (id : List ℕ) → is_at (emptied slots place) id place ≡ false
at_emptied [] place id = refl
at_emptied (x ∷ slots) zero id = refl
at_emptied (x ∷ slots) (suc place) id = at_emptied slots place id

at_elsewhere : (slots : List (Option Service)) (place : ℕ) (id : List ℕ) (i : ℕ) → (i ≡ place → ⊥) → is_at (emptied slots place) id i ≡ is_at slots id i
at_elsewhere [] place id i other = refl
at_elsewhere (x ∷ slots) zero id zero other = absurd (other refl)
at_elsewhere (x ∷ slots) zero id (suc i) other = refl
at_elsewhere (x ∷ slots) (suc place) id zero other = refl
at_elsewhere (x ∷ slots) (suc place) id (suc i) other = at_elsewhere slots place id i (λ e. other (ap suc e))

pub noted_less : (slots : List (Option Service)) (places : BTreeMap (List ℕ) ℕ) (place : ℕ) → AreNoted slots places → AreNoted (slice_set slots place None) places
noted_less slots places place is = record { place = λ q i h. is.place q i (there q i h) }
  where
    there : (q : List ℕ) (i : ℕ) → is_at (emptied slots place) q i ≡ true → is_at slots q i ≡ true
    there q i h =
        let other : i ≡ place → ⊥ = λ same. true_not_false (sym h ∙ ap (is_at (emptied slots place) q) same ∙ at_emptied slots place q) in
        sym (at_elsewhere slots place q i other) ∙ h

-- what has another name stays
none_left : (slots : List (Option Service)) (id : List ℕ) → ((i : ℕ) → is_at slots id i ≡ true → ⊥) → others (filled slots) id ≡ filled slots
none_left [] id none = refl
none_left (None ∷ slots) id none = none_left slots id (λ i h. none (suc i) h)
none_left (Some x ∷ slots) id none =
    ap (λ t. cond (not t) (x ∷ others (filled slots) id) (others (filled slots) id)) (false_from_ne_true (has_id id x) (none 0))
    ∙ ap (λ (l : List Service). x ∷ l) (none_left slots id (λ i h. none (suc i) h))

one_left : (slots : List (Option Service)) (id : List ℕ) (place : ℕ) → is_at slots id place ≡ true → ((i : ℕ) → is_at slots id i ≡ true → i ≡ place)
    → filled (emptied slots place) ≡ others (filled slots) id
one_left [] id place h only = absurd (true_not_false (sym h))
one_left (None ∷ slots) id zero h only = absurd (true_not_false (sym h))
one_left (None ∷ slots) id (suc place) h only = one_left slots id place h (λ i k. less i place (only (suc i) k))
one_left (Some x ∷ slots) id zero h only =
    sym (ap (λ t. cond (not t) (x ∷ others (filled slots) id) (others (filled slots) id)) h
    ∙ none_left slots id (λ i k. zero_suc i (sym (only (suc i) k))))
one_left (Some x ∷ slots) id (suc place) h only =
    ap (λ (l : List Service). x ∷ l) (one_left slots id place h (λ i k. less i place (only (suc i) k)))
    ∙ sym (ap (λ t. cond (not t) (x ∷ others (filled slots) id) (others (filled slots) id)) (false_from_ne_true (has_id id x) (λ e. zero_suc place (only 0 e))))

pub filled-less : (slots : List (Option Service)) (places : List ℕ → Option ℕ) → IsPlaced slots places → (id : List ℕ) (place : ℕ)
    → places id ≡ Some place → filled (slice_set slots place None) ≡ others (filled slots) id
filled-less slots places is id place at =
    one_left slots id place (is.there id place at) (λ i h. same_Some i place (sym (is.alone id i h) ∙ at))

pub filled-same : (slots : List (Option Service)) (places : List ℕ → Option ℕ) → IsPlaced slots places → (id : List ℕ)
    → places id ≡ None → filled slots ≡ others (filled slots) id
filled-same slots places is id at =
    sym (none_left slots id (λ i h. let not_so : None ≡ Some i = sym at ∙ is.alone id i h in cc))

-- where all that was noted still is
pub noted_still : (slots slots' : List (Option Service)) (old new : BTreeMap (List ℕ) ℕ) → slots' ≡ slots → KeepsNoted old new → AreNoted slots old → AreNoted slots' new
noted_still slots slots' old new same kept is =
    subst (λ (l : List (Option Service)). AreNoted l new) (sym same) (record { place = λ q i h. kept q i (is.place q i h) })

-- the slot at a place
pub got : (slots : List (Option Service)) (place : ℕ) (slot : Option Service) → place < length slots → slot ≡ slice_index_or slots place slot
    → slice_get slots place ≡ Some slot
got [] place slot within is = absurd (omega (arith, within))
got (x ∷ slots) zero slot within is = ap Some (sym is)
got (x ∷ slots) (suc place) slot within is = got slots place slot (omega (arith, within)) is

-- of names that were taken away one more
pub left_more : (live : List Service) (ids : List (List ℕ)) (id : List ℕ) → left_by live (ids ++ id ∷ []) ≡ others (left_by live ids) id
left_more live [] id = refl
left_more live (x ∷ ids) id = left_more (others live x) ids id

-- what is noted after a name's place is

pub noted_put : (old new : Option ℕ) (id q : List ℕ) (place : ℕ) → new ≡ cond (is_eq (slice_cmp nat_cmp id q)) (Some place) old
    → new ≡ cond (is_same_text id q) (Some place) old
noted_put old new id q place put = put ∙ ap (λ (t : Bool). cond t (Some place) old) (is_eq-slice_cmp id q)

pub noted_new : (old new : BTreeMap (List ℕ) ℕ) (id : List ℕ) (place : ℕ) → noted old id ≡ None
    → ((q : List ℕ) → noted new q ≡ cond (is_eq (slice_cmp nat_cmp id q)) (Some place) (noted old q)) → KeepsNoted old new
noted_new old new id place none put q i h =
    noted_put (noted old q) (noted new q) id q place (put q) ∙ ap (λ (t : Bool). cond t (Some place) (noted old q)) another ∙ h
  where
    another : is_same_text id q ≡ false
    another = false_from_ne_true (is_same_text id q) (λ e.
        let not_so : None ≡ Some i = sym none ∙ ap (noted old) ((bytes_decides id q).0 e) ∙ h in cc)

-- of names of which something is noted
pub names_kept : (old new : BTreeMap (List ℕ) ℕ) → KeepsNoted old new → KeepsNames old new
names_kept old new kept q h = on (noted old q) refl h
  where
    on : (o : Option ℕ) → noted old q ≡ o → is_some o ≡ true → is_some (noted new q) ≡ true
    on None e k = absurd (true_not_false (sym k))
    on (Some i) e k = ap is_some (kept q i e)

pub names_later : (old new : BTreeMap (List ℕ) ℕ) (s : Service) (later : List Service) → KeepsNames old new → HasNames old (s ∷ later) → HasNames new later
names_later old new s later kept has =
    All-weaker (λ (x : Service). is_some (noted old x.id) ≡ true) (λ (x : Service). is_some (noted new x.id) ≡ true) (λ x h. kept x.id h) later
    (All-tail (λ (x : Service). is_some (noted old x.id) ≡ true) s later has)

-- of the names so far, and of one more
pub names_more : (old new : BTreeMap (List ℕ) ℕ) (services : List Service) (i : ℕ) (s : Service) → i < length services → get_or services i s ≡ s
    → KeepsNoted old new → HasNames old (take i services) → is_some (noted new s.id) ≡ true → HasNames new (take (i + 1) services)
names_more old new services i s within is kept has more =
    All-more (λ (x : Service). is_some (noted new x.id) ≡ true) services i s within
    (All-weaker (λ (x : Service). is_some (noted old x.id) ≡ true) (λ (x : Service). is_some (noted new x.id) ≡ true) (λ x h. names_kept old new kept x.id h)
    (take i services) has)
    (ap (λ (x : Service). is_some (noted new x.id)) is ∙ more)
