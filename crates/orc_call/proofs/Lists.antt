-- Values that are read one after another, so many of them.
use Rattle.std.proofs.Common.{◌≡◌, ℕ, zero, suc, ◌+◌, ◌<◌, List, [], ◌∷◌, ◌++◌, length, take, replicate, refl, sym, ap, subst, ◌∙◌, append_assoc, arith}
use Rattle.std.proofs.lemmas.List.{append-nil, length-replicate, length_push}
use Rattle.std.proofs.lemmas.List.Concat.{flat_map-append}
use Rattle.orc_call.specs.Fields.{Field, field_bytes, spelled, AreLawful}
use Rattle.orc_call.specs.declared.fields.Stuck.{Stuck}
use Rattle.orc_call.specs.inside.Reading.{Grammar, IsWhole, ReadFails, any}
use Rattle.orc_call.proofs.Sequels.{Determined, Sequel, lawful-append, whole_parts, first_fails, later_fails, sequel_determined}

abbrev no_fields : List Field
no_fields = []

take_none : (n : ℕ) → take n no_fields ≡ []
take_none zero = refl
take_none (suc n) = refl

-- the fields of a value may depend on what stands before it
module _ {S X : Type 0} (F : S → X → List Field) (next : S → X → S) (G : S → List X → List Field) (nil : (s : S) → G s [] ≡ []) (cons : (s : S) (x : X) (xs : List X) → G s (x ∷ xs) ≡ F s x ++ G (next s x) xs) (some : X) where
  abbrev pub listed : S → ℕ → Grammar (List X)
  listed s n = record { has = λ xs. length xs ≡ n; fields = G s }

  -- what stands before the value after these
  abbrev pub after : S → List X → S
  after s [] = s
  after s (x ∷ xs) = after (next s x) xs

  split : (s : S) (n : ℕ) (z : List X) → length z ≡ suc n → (x : X) × (y : List X) × (x ∷ y ≡ z) × Unit {0} × (length y ≡ n)
  split s n [] h = absurd cc
  split s n (x ∷ xs) h = (x, xs, refl, tt, omega arith)

  pub cons_sequel : (s : S) (n : ℕ) → Sequel (any (F s)) (λ x. listed (next s x) n) (listed s (suc n)) (λ x xs. x ∷ xs)
  cons_sequel s n = record {
    parts = split s n;
    has = λ x y _ h. ap suc h;
    fields = λ x y _. cons s x y;
    some = λ x _. (replicate n some, length-replicate n some);
  }

  none_left : (s : S) (xs : List X) → length xs ≡ 0 → xs ≡ []
  none_left s [] h = refl
  none_left s (x ∷ xs) h = absurd cc

  pub listed_determined : ((s : S) → Determined (any (F s))) → (n : ℕ) (s : S) → Determined (listed s n)
  listed_determined d zero s = record {
    ends = λ bytes x y r t n w b.
        let e : bytes ≡ r = w.parts ∙ ap (λ xs. spelled (G s xs) ++ r) (none_left s x w.has) ∙ ap (λ fs. spelled fs ++ r) (nil s) in
        let f : bytes ≡ t = b.parts ∙ ap (λ xs. spelled (take n (G s xs)) ++ t) (none_left s y b.has) ∙ ap (λ fs. spelled (take n fs) ++ t) (nil s) ∙ ap (λ fs. spelled fs ++ t) (take_none n) in
        omega (arith, ap length e, ap length f);
    same = λ bytes x y r t w v. none_left s x w.has ∙ sym (none_left s y v.has);
  }
  listed_determined d (suc n) s = sequel_determined _ _ _ _ (cons_sequel s n) (d s) (λ x. listed_determined d n (next s x))

  fields_more : (s : S) (xs : List X) (x : X) → G s (xs ++ x ∷ []) ≡ G s xs ++ F (after s xs) x
  fields_more s [] x = cons s x [] ∙ ap (λ fs. F s x ++ fs) (nil (next s x)) ∙ append-nil (F s x) ∙ ap (λ fs. fs ++ F s x) (sym (nil s))
  fields_more s (y ∷ ys) x =
      cons s y (ys ++ x ∷ []) ∙ ap (λ fs. F s y ++ fs) (fields_more (next s y) ys x) ∙ sym (append_assoc (F s y) (G (next s y) ys) (F (after (next s y) ys) x))
      ∙ ap (λ fs. fs ++ F (after (next s y) ys) x) (sym (cons s y ys))

  pub listed_none : (s : S) (bytes : List ℕ) → IsWhole (listed s 0) bytes [] bytes
  listed_none s bytes = record { has = refl; lawful = subst AreLawful (sym (nil s)) tt; parts = ap (λ fs. spelled fs ++ bytes) (sym (nil s)) }

  -- one more value after those read
  pub listed_more : (s : S) (i : ℕ) (bytes : List ℕ) (xs : List X) (x : X) (r t : List ℕ) → IsWhole (listed s i) bytes xs r → IsWhole (any (F (after s xs))) r x t → IsWhole (listed s (i + 1)) bytes (xs ++ x ∷ []) t
  listed_more s i bytes xs x r t w v = record {
    has = length_push xs x ∙ ap (λ n. n + 1) w.has;
    lawful = subst AreLawful (sym (fields_more s xs x)) (lawful-append (G s xs) (F (after s xs) x) w.lawful v.lawful);
    parts = w.parts ∙ ap (λ u. spelled (G s xs) ++ u) v.parts ∙ sym (append_assoc (spelled (G s xs)) (spelled (F (after s xs) x)) t)
        ∙ ap (λ u. u ++ t) (sym (flat_map-append field_bytes (G s xs) (F (after s xs) x))) ∙ ap (λ fs. spelled fs ++ t) (sym (fields_more s xs x));
  }

  -- where the next value can't be read, the list can't
  pub listed_fails : ((s : S) → Determined (any (F s))) → (xs : List X) (s : S) (i n : ℕ) (bytes r : List ℕ) (e : Stuck) → IsWhole (listed s i) bytes xs r → ReadFails (any (F (after s xs))) r e → i < n → ReadFails (listed s n) bytes e
  listed_fails d xs s i zero bytes r e w h lt = absurd (omega arith)
  listed_fails d [] s i (suc m) bytes r e w h lt =
      let begins : r ≡ bytes = sym (w.parts ∙ ap (λ fs. spelled fs ++ r) (nil s)) in
      first_fails _ _ _ _ (cons_sequel s m) bytes e (subst (λ t. ReadFails (any (F s)) t e) begins h)
  listed_fails d (x ∷ xs) s i (suc m) bytes r e w h lt =
      let k = length xs in
      let w' : IsWhole (listed s (suc k)) bytes (x ∷ xs) r = record { has = refl; lawful = w.lawful; parts = w.parts } in
      let p = whole_parts _ _ _ _ (cons_sequel s k) bytes x xs r tt refl w' in
      let lt' : k < m = omega (arith, w.has) in
      later_fails _ _ _ _ (cons_sequel s m) (d s) bytes x _ e p.0 (listed_fails d xs (next s x) k m _ r e p.1 h lt')
