-- A name added after numbered names.
use Rattle.std.proofs.Common.{◌≡◌, ◌+◌, ℕ, suc, List, [], ◌∷◌, ◌++◌, Bool, true, false, not, cond, nat_lt, ◌||◌, length, Option, Some, None, is_some, refl, ap, sym, ◌∙◌, subst}
use Rattle.std.specs.List.{IsDistinct, list_any, position, position_or_len}
use Rattle.std.specs.Option.{option_map, option_or}
use Rattle.std.specs.Ordering.{is_eq, nat_cmp}
use Rattle.std.specs.BTreeMap.{BTreeMap, get}
use Rattle.std.specs.Map.{lookup}
use Rattle.std.specs.Cmp.Lexicographic.{slice_cmp, bytes_decides, nat_list_eq_equiv}
use Rattle.std.proofs.lemmas.Bool.{false≢true}
use Rattle.std.proofs.lemmas.Map.Text.{is_eq-slice_cmp}
use Rattle.std.proofs.lemmas.Map.Keys.{IsDistinct-push}
use Rattle.orc_decls.specs.Devices.{is_same_text}
use Rattle.orc_lines.specs.Names.{is_among, place_of}
use Rattle.orc_lines.specs.inside.Numbered.{HasPlaces}
use Rattle.orc_lines.proofs.SchemaPlaces.{one_more, within_more, some_first}

-- the first place of a list with one more at its head

abbrev further : Option ℕ → Option ℕ
further o = option_map suc o

place-first : {X : Type 0} (p : X → Bool) (x : X) (xs : List X) → position p (x ∷ xs) ≡ cond (p x) (Some 0) (further (position p xs))
place-first p x xs = on (p x) where
  k : ℕ
  k = position_or_len p xs

  m : ℕ
  m = length xs

  behind : (t : Bool) → cond t (Some (1 + k)) None ≡ further (cond t (Some k) None)
  behind true = ap (λ n. Some n) (one_more k)
  behind false = refl

  on : (b : Bool) → cond (nat_lt (cond (not b) (1 + k) 0) (suc m)) (Some (cond (not b) (1 + k) 0)) None ≡ cond b (Some 0) (further (cond (nat_lt k m) (Some k) None))
  on true = ap (λ t. cond t (Some 0) None) (some_first m)
  on false = ap (λ t. cond t (Some (1 + k)) None) (within_more k m) ∙ behind (nat_lt k m)

pub place-found : {X : Type 0} (p : X → Bool) (xs : List X) → is_some (position p xs) ≡ list_any p xs
place-found p [] = refl
place-found p (x ∷ xs) = ap is_some (place-first p x xs) ∙ on (p x) (position p xs) (place-found p xs) where
  on : (b : Bool) (o : Option ℕ) → is_some o ≡ list_any p xs → is_some (cond b (Some 0) (further o)) ≡ (b || list_any p xs)
  on true o h = refl
  on false None h = h
  on false (Some n) h = h

-- the first place of a list with one more at its end

place-behind : {X : Type 0} (p : X → Bool) (xs : List X) (y : X)
    → position p (xs ++ y ∷ []) ≡ option_or (position p xs) (cond (p y) (Some (length xs)) None)
place-behind p [] y = place-first p y [] ∙ refl
place-behind p (x ∷ xs) y =
    place-first p x (xs ++ y ∷ [])
    ∙ ap (λ o. cond (p x) (Some 0) (further o)) (place-behind p xs y)
    ∙ on (p x) (position p xs) (p y)
    ∙ sym (ap (λ o. option_or o (cond (p y) (Some (length (x ∷ xs))) None)) (place-first p x xs)) where
      on : (b : Bool) (o : Option ℕ) (t : Bool) → cond b (Some 0) (further (option_or o (cond t (Some (length xs)) None)))
          ≡ option_or (cond b (Some 0) (further o)) (cond t (Some (suc (length xs))) None)
      on true o t = refl
      on false (Some n) t = refl
      on false None true = refl
      on false None false = refl

absent : (names : List (List ℕ)) (name : List ℕ) → is_among names name ≡ false → place_of names name ≡ None
absent names name new = on (place_of names name) (place-found (is_same_text name) names ∙ new) where
  on : (o : Option ℕ) → is_some o ≡ false → o ≡ None
  on None h = refl
  on (Some n) h = absurd (false≢true (sym h))

-- the map with the number of a new name has those of the names with this one after them

put_place : (names : List (List ℕ)) (name q : List ℕ) (old new : Option ℕ) → is_among names name ≡ false → old ≡ place_of names q
    → new ≡ cond (is_eq (slice_cmp nat_cmp name q)) (Some (length names)) old → new ≡ place_of (names ++ name ∷ []) q
put_place names name q old new fresh was put = put
    ∙ ap (λ (t : Bool). cond t (Some (length names)) old) (is_eq-slice_cmp name q ∙ nat_list_eq_equiv.symm name q)
    ∙ on (is_same_text q name) refl
    ∙ sym (place-behind (is_same_text q) names name) where
      on : (t : Bool) → is_same_text q name ≡ t → cond t (Some (length names)) old ≡ option_or (place_of names q) (cond t (Some (length names)) None)
      on true is = sym (ap (λ (o : Option ℕ). option_or o (Some (length names)))
          (subst (λ (x : List ℕ). place_of names x ≡ None) (sym ((bytes_decides q name).0 is)) (absent names name fresh)))
      on false is = was ∙ itself (place_of names q) where
        itself : (o : Option ℕ) → o ≡ option_or o None
        itself None = refl
        itself (Some n) = refl

pub has_more : (names after : List (List ℕ)) (name copy : List ℕ) (n : ℕ) (old new : BTreeMap (List ℕ) ℕ) → HasPlaces old names
    → is_among names name ≡ false → n ≡ length names → after ≡ names ++ copy ∷ [] → copy ≡ name
    → ((q : List ℕ) → get (slice_cmp nat_cmp) new q ≡ cond (is_eq (slice_cmp nat_cmp name q)) (Some n) (get (slice_cmp nat_cmp) old q))
    → HasPlaces new after
has_more names after name copy n old new has fresh place is same put =
    subst (HasPlaces new) (sym (is ∙ ap (λ (x : List ℕ). names ++ x ∷ []) same)) (record {
      place = λ q. put_place names name q (get (slice_cmp nat_cmp) old q) (get (slice_cmp nat_cmp) new q) fresh (has.place q)
          (put q ∙ ap (λ (k : ℕ). cond (is_eq (slice_cmp nat_cmp name q)) (Some k) (get (slice_cmp nat_cmp) old q)) place);
      distinct = IsDistinct-push nat_list_eq_equiv names name has.distinct fresh;
    })

pub has_still : (names after : List (List ℕ)) (old new : BTreeMap (List ℕ) ℕ) → HasPlaces old names → new.entries ≡ old.entries → after ≡ names → HasPlaces new after
has_still names after old new has same is = subst (HasPlaces new) (sym is) (record {
  place = λ q. ap (lookup (λ k. is_eq (slice_cmp nat_cmp q k))) same ∙ has.place q;
  distinct = has.distinct;
})

none_equal : IsDistinct is_same_text []
unfolding IsDistinct
none_equal = tt

pub has_none : (names : List (List ℕ)) (none : BTreeMap (List ℕ) ℕ) → none.entries ≡ [] → names ≡ [] → HasPlaces none names
has_none names none empty is = subst (HasPlaces none) (sym is) (record {
  place = λ q. ap (lookup (λ k. is_eq (slice_cmp nat_cmp q k))) empty;
  distinct = none_equal;
})
