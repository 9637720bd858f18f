-- What stands in a list, and in a list that is made of lists.
use Rattle.std.proofs.Common.{◌≡◌, ◌⊎◌, inl, inr, Bool, true, false, ◌||◌, cond, List, [], ◌∷◌, ◌++◌, map, refl, sym, ap, subst, ◌∙◌}
use Rattle.std.specs.List.{All, Contains, filter, flat_map, list_any}
use Rattle.std.proofs.lemmas.Bool.{false≢true, false_from_ne_true, or_left, or_right}
use Rattle.std.proofs.lemmas.List.Elements.{All-nil, All-cons, All-weaker, All-contains, Contains-append_left, Contains-append_right, Contains-push}

-- the element is one of the list
abbrev pub In : {X : Type 0} → List X → X → Type 0
In [] x = ⊥
In (y ∷ ys) x = (y ≡ x) ⊎ In ys x

-- ---- two lists

module _ {X : Type 0} where
  pub in_left : (xs ys : List X) (x : X) → In xs x → In (xs ++ ys) x
  in_left [] ys x h = absurd h
  in_left (y ∷ xs) ys x (inl e) = inl e
  in_left (y ∷ xs) ys x (inr h) = inr (in_left xs ys x h)

  pub in_right : (xs ys : List X) (x : X) → In ys x → In (xs ++ ys) x
  in_right [] ys x h = h
  in_right (y ∷ xs) ys x h = inr (in_right xs ys x h)

  pub in_parts : (xs ys : List X) (x : X) → In (xs ++ ys) x → In xs x ⊎ In ys x
  in_parts [] ys x h = inr h
  in_parts (y ∷ xs) ys x (inl e) = inl (inl e)
  in_parts (y ∷ xs) ys x (inr h) = on (in_parts xs ys x h)
    where
      on : In xs x ⊎ In ys x → In (y ∷ xs) x ⊎ In ys x
      on (inl there) = inl (inr there)
      on (inr there) = inr there

  pub in_none : (xs : List X) (x : X) → xs ≡ [] → In xs x → ⊥
  in_none xs x none h = subst (λ (ys : List X). In ys x) none h

-- ---- lists of lists

module _ {X A : Type 0} (f : X → List A) where
  pub in_flat_map : (xs : List X) (x : X) (a : A) → In xs x → In (f x) a → In (flat_map f xs) a
  in_flat_map [] x a h there = absurd h
  in_flat_map (y ∷ xs) x a (inl e) there = in_left (f y) (flat_map f xs) a (subst (λ (z : X). In (f z) a) (sym e) there)
  in_flat_map (y ∷ xs) x a (inr h) there = in_right (f y) (flat_map f xs) a (in_flat_map xs x a h there)

  -- the element is in what one of the list gives
  pub record IsFrom (xs : List X) (a : A) : Type 0 where
    pub from : X
    pub among : In xs from
    pub there : In (f from) a

  pub from_flat_map : (xs : List X) (a : A) → In (flat_map f xs) a → IsFrom xs a
  from_flat_map [] a h = absurd h
  from_flat_map (y ∷ xs) a h = on (in_parts (f y) (flat_map f xs) a h) (from_flat_map xs a)
    where
      on : In (f y) a ⊎ In (flat_map f xs) a → (In (flat_map f xs) a → IsFrom xs a) → IsFrom (y ∷ xs) a
      on (inl there) later = record { from = y; among = inl refl; there = there }
      on (inr there) later =
          let found = later there in
          record { from = found.from; among = inr found.among; there = found.there }

-- ---- what passes a test

module _ {X : Type 0} (p : X → Bool) where
  pub in_filter : (xs : List X) (x : X) → In xs x → p x ≡ true → In (filter p xs) x
  in_filter [] x h is = absurd h
  in_filter (y ∷ xs) x h is = on (p y) refl h (λ there. in_filter xs x there is)
    where
      on : (b : Bool) → p y ≡ b → In (y ∷ xs) x → (In xs x → In (filter p xs) x) → In (cond b (y ∷ filter p xs) (filter p xs)) x
      on true e (inl same) rest = inl same
      on true e (inr there) rest = inr (rest there)
      on false e (inl same) rest = absurd (false≢true (sym e ∙ ap p same ∙ is))
      on false e (inr there) rest = rest there

  pub from_filter : (xs : List X) (x : X) → In (filter p xs) x → In xs x × (p x ≡ true)
  from_filter [] x h = absurd h
  from_filter (y ∷ xs) x h = on (p y) refl h (from_filter xs x)
    where
      on : (b : Bool) → p y ≡ b → In (cond b (y ∷ filter p xs) (filter p xs)) x → (In (filter p xs) x → In xs x × (p x ≡ true)) → In (y ∷ xs) x × (p x ≡ true)
      on true e (inl same) rest = (inl same, ap p (sym same) ∙ e)
      on true e (inr there) rest = let found = rest there in (inr found.0, found.1)
      on false e there rest = let found = rest there in (inr found.0, found.1)

  pub any_in : (xs : List X) (x : X) → In xs x → p x ≡ true → list_any p xs ≡ true
  any_in [] x h is = absurd h
  any_in (y ∷ xs) x (inl e) is = or_left (p y) (list_any p xs) (ap p e ∙ is)
  any_in (y ∷ xs) x (inr h) is = or_right (p y) (list_any p xs) (any_in xs x h is)

  -- one of the list passes
  pub record Passes (xs : List X) : Type 0 where
    pub one : X
    pub among : In xs one
    pub passes : p one ≡ true

  pub from_any : (xs : List X) → list_any p xs ≡ true → Passes xs
  from_any [] h = absurd (false≢true h)
  from_any (y ∷ xs) h = on (p y) refl h (from_any xs)
    where
      on : (b : Bool) → p y ≡ b → (b || list_any p xs) ≡ true → (list_any p xs ≡ true → Passes xs) → Passes (y ∷ xs)
      on true e h later = record { one = y; among = inl refl; passes = e }
      on false e h later =
          let found = later h in
          record { one = found.one; among = inr found.among; passes = found.passes }

  pub none_in : (xs : List X) (x : X) → list_any p xs ≡ false → In xs x → p x ≡ false
  none_in xs x none h = false_from_ne_true (p x) (λ is. false≢true (sym none ∙ any_in xs x h is))

module _ {X Y : Type 0} (f : X → Y) where
  pub in_map : (xs : List X) (x : X) → In xs x → In (map f xs) (f x)
  in_map [] x h = absurd h
  in_map (y ∷ xs) x (inl e) = inl (ap f e)
  in_map (y ∷ xs) x (inr h) = inr (in_map xs x h)

  -- the element is what the function gives of one of the list
  pub record IsImage (xs : List X) (y : Y) : Type 0 where
    pub source : X
    pub among : In xs source
    pub is : f source ≡ y

  pub from_map : (xs : List X) (y : Y) → In (map f xs) y → IsImage xs y
  from_map [] y h = absurd h
  from_map (z ∷ xs) y (inl e) = record { source = z; among = inl refl; is = e }
  from_map (z ∷ xs) y (inr h) =
      let found = from_map xs y h in
      record { source = found.source; among = inr found.among; is = found.is }

-- ---- by places

module _ {X : Type 0} where
  pub contains_in : (xs : List X) (x : X) → In xs x → Contains xs x
  contains_in [] x h = absurd h
  contains_in (y ∷ xs) x (inl e) = subst (Contains (y ∷ xs)) e (Contains-append_left (y ∷ []) xs y (Contains-push [] y))
  contains_in (y ∷ xs) x (inr h) = Contains-append_right (y ∷ []) xs x (contains_in xs x h)

  all_in : (xs : List X) → All (In xs) xs
  all_in [] = All-nil (λ (x : X). In [] x)
  all_in (y ∷ xs) = All-cons (In (y ∷ xs)) y xs (inl refl) (All-weaker (In xs) (In (y ∷ xs)) (λ x h. inr h) xs (all_in xs))

  pub in_contains : (xs : List X) (x : X) → Contains xs x → In xs x
  in_contains xs x h = All-contains (In xs) xs x (all_in xs) h
