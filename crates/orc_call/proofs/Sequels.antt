-- A value that is read as a first part and a second one after it.
use Rattle.std.proofs.Common.{◌≡◌, ℕ, ◌+◌, ◌-◌, ◌<◌, ◌≤◌, List, [], ◌∷◌, ◌++◌, length, take, refl, sym, ap, subst, ◌∙◌, append_assoc, arith, inl, inr}
use Rattle.std.proofs.Math.Seq.{take-append-add, take-length}
use Rattle.std.proofs.lemmas.Bool.{cases_lt}
use Rattle.std.proofs.lemmas.List.{append_cancel_left, length-append, take-append-le}
use Rattle.std.proofs.lemmas.List.Concat.{flat_map-append}
use Rattle.orc_call.specs.Fields.{Field, field_bytes, spelled, AreLawful}
use Rattle.orc_call.specs.declared.fields.Stuck.{Stuck}
use Rattle.orc_call.specs.declared.fields.Stuck.TheVariants.{Bad, Memory}
use Rattle.orc_call.specs.inside.Reading.{Grammar, BeginsWith, IsWhole, IsStuck, ReadFails}

-- where a value stands whole, no prefix of another one goes further, and no other one stands whole
pub record Determined {X : Type 0} (g : Grammar X) : Type 0 where
  pub ends : (bytes : List ℕ) (x y : X) (r s : List ℕ) (n : ℕ) → IsWhole g bytes x r → BeginsWith g bytes y n s → length r ≤ length s
  pub same : (bytes : List ℕ) (x y : X) (r s : List ℕ) → IsWhole g bytes x r → IsWhole g bytes y s → x ≡ y

-- the values of C are made of a value of A and one of B, whose fields stand after those of A
pub record Sequel {X Y Z : Type 0} (A : Grammar X) (B : X → Grammar Y) (C : Grammar Z) (make : X → Y → Z) : Type 0 where
  pub parts : (z : Z) → C.has z → (x : X) × (y : Y) × (make x y ≡ z) × A.has x × (B x).has y
  pub has : (x : X) (y : Y) → A.has x → (B x).has y → C.has (make x y)
  pub fields : (x : X) (y : Y) → (B x).has y → C.fields (make x y) ≡ A.fields x ++ (B x).fields y
  pub some : (x : X) → A.has x → (y : Y) × (B x).has y

pub lawful-append : (fs gs : List Field) → AreLawful fs → AreLawful gs → AreLawful (fs ++ gs)
lawful-append [] gs h k = k
lawful-append (f ∷ fs) gs h k = (h.0, lawful-append fs gs h.1 k)

pub lawful_parts : (fs gs : List Field) → AreLawful (fs ++ gs) → AreLawful fs × AreLawful gs
lawful_parts [] gs h = (tt, h)
lawful_parts (f ∷ fs) gs h = let rest = lawful_parts fs gs h.1 in ((h.0, rest.0), rest.1)

spelled-append : (fs gs : List Field) (rest : List ℕ) → spelled (fs ++ gs) ++ rest ≡ spelled fs ++ (spelled gs ++ rest)
spelled-append fs gs rest = ap (λ t. t ++ rest) (flat_map-append field_bytes fs gs) ∙ append_assoc (spelled fs) (spelled gs) rest

-- where a value stands whole, the bytes begin with all its fields
pub whole_begins : {X : Type 0} (g : Grammar X) (bytes : List ℕ) (x : X) (rest : List ℕ) → IsWhole g bytes x rest → BeginsWith g bytes x (length (g.fields x)) rest
whole_begins g bytes x rest w = record {
  has = w.has;
  lawful = subst AreLawful (sym (take-length (g.fields x))) w.lawful;
  parts = w.parts ∙ ap (λ fs. spelled fs ++ rest) (sym (take-length (g.fields x)));
}

-- what is left of a value that stands whole
pub same_rest : {X : Type 0} (g : Grammar X) (bytes : List ℕ) (x : X) (r s : List ℕ) → IsWhole g bytes x r → IsWhole g bytes x s → r ≡ s
same_rest g bytes x r s w v = append_cancel_left (spelled (g.fields x)) r s (sym w.parts ∙ v.parts)

module _ {X Y Z : Type 0} (A : Grammar X) (B : X → Grammar Y) (C : Grammar Z) (make : X → Y → Z) (q : Sequel A B C make) where
  -- a prefix that ends within the first part
  first_front : (bytes : List ℕ) (x : X) (y : Y) (n : ℕ) (s : List ℕ) → A.has x → (B x).has y → n ≤ length (A.fields x) → BeginsWith C bytes (make x y) n s → BeginsWith A bytes x n s
  first_front bytes x y n s has has-y le b =
      let e : take n (C.fields (make x y)) ≡ take n (A.fields x) = ap (take n) (q.fields x y has-y) ∙ take-append-le n (A.fields x) ((B x).fields y) le in
      record { has = has; lawful = subst AreLawful e b.lawful; parts = b.parts ∙ ap (λ fs. spelled fs ++ s) e }

  -- and one that goes past it
  later_front : (bytes : List ℕ) (x : X) (y : Y) (n : ℕ) (s : List ℕ) → A.has x → (B x).has y → BeginsWith C bytes (make x y) (length (A.fields x) + n) s
      → IsWhole A bytes x (spelled (take n ((B x).fields y)) ++ s) × BeginsWith (B x) (spelled (take n ((B x).fields y)) ++ s) y n s
  later_front bytes x y n s has-x has-y b =
      let fs = take n ((B x).fields y) in
      let e : take (length (A.fields x) + n) (C.fields (make x y)) ≡ A.fields x ++ fs = ap (take (length (A.fields x) + n)) (q.fields x y has-y) ∙ take-append-add (A.fields x) ((B x).fields y) n in
      let both = lawful_parts (A.fields x) fs (subst AreLawful e b.lawful) in (
        record { has = has-x; lawful = both.0; parts = b.parts ∙ ap (λ gs. spelled gs ++ s) e ∙ spelled-append (A.fields x) fs s },
        record { has = has-y; lawful = both.1; parts = refl },
      )

  -- the first part, and a prefix of the second
  joined : (bytes : List ℕ) (x : X) (y : Y) (n : ℕ) (r s : List ℕ) → IsWhole A bytes x r → BeginsWith (B x) r y n s → BeginsWith C bytes (make x y) (length (A.fields x) + n) s
  joined bytes x y n r s w b =
      let fs = take n ((B x).fields y) in
      let e : A.fields x ++ fs ≡ take (length (A.fields x) + n) (C.fields (make x y)) = sym (ap (take (length (A.fields x) + n)) (q.fields x y b.has) ∙ take-append-add (A.fields x) ((B x).fields y) n) in
      record {
        has = q.has x y w.has b.has;
        lawful = subst AreLawful e (lawful-append (A.fields x) fs w.lawful b.lawful);
        parts = w.parts ∙ ap (λ t. spelled (A.fields x) ++ t) b.parts ∙ sym (spelled-append (A.fields x) fs s) ∙ ap (λ gs. spelled gs ++ s) e;
      }

  long : (x : X) (y : Y) → (B x).has y → length (C.fields (make x y)) ≡ length (A.fields x) + length ((B x).fields y)
  long x y has = ap length (q.fields x y has) ∙ length-append (A.fields x) ((B x).fields y)

  -- the two parts of a value that stands whole
  pub whole_parts : (bytes : List ℕ) (x : X) (y : Y) (s : List ℕ) → A.has x → (B x).has y → IsWhole C bytes (make x y) s
      → IsWhole A bytes x (spelled ((B x).fields y) ++ s) × IsWhole (B x) (spelled ((B x).fields y) ++ s) y s
  whole_parts bytes x y s has-x has-y w =
      let both = lawful_parts (A.fields x) ((B x).fields y) (subst AreLawful (q.fields x y has-y) w.lawful) in (
        record { has = has-x; lawful = both.0; parts = w.parts ∙ ap (λ gs. spelled gs ++ s) (q.fields x y has-y) ∙ spelled-append (A.fields x) ((B x).fields y) s },
        record { has = has-y; lawful = both.1; parts = refl },
      )

  -- where the first part can't be read, the whole can't
  pub first_stuck : (bytes : List ℕ) (left : ℕ) → IsStuck A bytes left → IsStuck C bytes left
  first_stuck bytes left h =
      let b = h.begins in
      let x = b.0 in
      let n = b.1 in
      let there = b.3 in
      let y = q.some x there.has in
      let short : n < length (A.fields x) = (h.no_further x n b.2 there).1 in
      let e : take n (A.fields x) ≡ take n (C.fields (make x y.0)) = sym (ap (take n) (q.fields x y.0 y.1) ∙ take-append-le n (A.fields x) ((B x).fields y.0) (omega arith)) in
      record {
        begins = (make x y.0, n, b.2, record { has = q.has x y.0 there.has y.1; lawful = subst AreLawful e there.lawful; parts = there.parts ∙ ap (λ fs. spelled fs ++ b.2) e }, b.4);
        no_further = λ z count rest front. further z count rest front;
      }
    where
      at_made : (x : X) (y : Y) (count : ℕ) (rest : List ℕ) → A.has x → (B x).has y → BeginsWith C bytes (make x y) count rest → (left ≤ length rest) × (count < length (C.fields (make x y)))
      at_made x y count rest has-x has-y front =
          elim (cases_lt count (length (A.fields x))) [
            | inl lt ↦
                let first = h.no_further x count rest (first_front bytes x y count rest has-x has-y (omega arith) front) in
                (first.0, omega (arith, long x y has-y))
            | inr le ↦
                let k = count - length (A.fields x) in
                let e : count ≡ length (A.fields x) + k = omega arith in
                let w = (later_front bytes x y k rest has-x has-y (subst (λ n. BeginsWith C bytes (make x y) n rest) e front)).0 in
                let none = (h.no_further x (length (A.fields x)) _ (whole_begins A bytes x _ w)).1 in
                absurd (omega (arith, none))
          ]

      further : (z : Z) (count : ℕ) (rest : List ℕ) → BeginsWith C bytes z count rest → (left ≤ length rest) × (count < length (C.fields z))
      further z count rest front =
          let p = q.parts z front.has in
          subst (λ v. (left ≤ length rest) × (count < length (C.fields v))) p.2 (at_made p.0 p.1 count rest p.3 p.4 (subst (λ v. BeginsWith C bytes v count rest) (sym p.2) front))

  -- where the second part can't be read after the first, the whole can't
  pub later_stuck : Determined A → (bytes : List ℕ) (x : X) (r : List ℕ) (left : ℕ) → IsWhole A bytes x r → IsStuck (B x) r left → IsStuck C bytes left
  later_stuck d bytes x r left w h =
      let b = h.begins in
      record {
        begins = (make x b.0, length (A.fields x) + b.1, b.2, joined bytes x b.0 b.1 r b.2 w b.3, b.4);
        no_further = λ z count rest front. further z count rest front;
      }
    where
      fits : left ≤ length r
      fits =
          let b = h.begins in
          omega (arith, ap length b.3.parts, length-append (spelled (take b.1 ((B x).fields b.0))) b.2, b.4)

      at_made : (x' : X) (y : Y) (count : ℕ) (rest : List ℕ) → A.has x' → (B x').has y → BeginsWith C bytes (make x' y) count rest → (left ≤ length rest) × (count < length (C.fields (make x' y)))
      at_made x' y count rest has-x has-y front =
          elim (cases_lt count (length (A.fields x'))) [
            | inl lt ↦
                let first = d.ends bytes x x' r rest count w (first_front bytes x' y count rest has-x has-y (omega arith) front) in
                (omega (arith, first, fits), omega (arith, long x' y has-y))
            | inr le ↦
                let k = count - length (A.fields x') in
                let e : count ≡ length (A.fields x') + k = omega arith in
                let l = later_front bytes x' y k rest has-x has-y (subst (λ n. BeginsWith C bytes (make x' y) n rest) e front) in
                let same : x' ≡ x = d.same bytes x' x _ r l.0 w in
                let behind = same_rest A bytes x _ r (subst (λ v. IsWhole A bytes v (spelled (take k ((B x').fields y)) ++ rest)) same l.0) w in
                let moved : BeginsWith (B x) r y k rest = subst (λ v. BeginsWith (B v) r y k rest) same (subst (λ t. BeginsWith (B x') t y k rest) behind l.1) in
                let second = h.no_further y k rest moved in
                let shorter : k < length ((B x').fields y) = subst (λ v. k < length ((B v).fields y)) (sym same) second.1 in
                (second.0, omega (arith, long x' y has-y))
          ]

      further : (z : Z) (count : ℕ) (rest : List ℕ) → BeginsWith C bytes z count rest → (left ≤ length rest) × (count < length (C.fields z))
      further z count rest front =
          let p = q.parts z front.has in
          subst (λ v. (left ≤ length rest) × (count < length (C.fields v))) p.2 (at_made p.0 p.1 count rest p.3 p.4 (subst (λ v. BeginsWith C bytes v count rest) (sym p.2) front))

  pub first_fails : (bytes : List ℕ) (e : Stuck) → ReadFails A bytes e → ReadFails C bytes e
  first_fails bytes (Bad left) h = first_stuck bytes left h
  first_fails bytes Memory h = tt

  pub later_fails : Determined A → (bytes : List ℕ) (x : X) (r : List ℕ) (e : Stuck) → IsWhole A bytes x r → ReadFails (B x) r e → ReadFails C bytes e
  later_fails d bytes x r (Bad left) w h = later_stuck d bytes x r left w h
  later_fails d bytes x r Memory w h = tt

  -- a value is determined where its parts are
  pub sequel_determined : Determined A → ((x : X) → Determined (B x)) → Determined C
  sequel_determined d ds = record {
    ends = λ bytes z z' r s n w front.
        let p = q.parts z w.has in
        let p' = q.parts z' front.has in
        ends_made bytes p.0 p.1 p'.0 p'.1 r s n p.3 p.4 p'.3 p'.4 (subst (λ v. IsWhole C bytes v r) (sym p.2) w) (subst (λ v. BeginsWith C bytes v n s) (sym p'.2) front);
    same = λ bytes z z' r s w v.
        let p = q.parts z w.has in
        let p' = q.parts z' v.has in
        sym p.2 ∙ same_made bytes p.0 p.1 p'.0 p'.1 r s p.3 p.4 p'.3 p'.4 (subst (λ u. IsWhole C bytes u r) (sym p.2) w) (subst (λ u. IsWhole C bytes u s) (sym p'.2) v) ∙ p'.2;
  }
    where
      ends_made : (bytes : List ℕ) (x : X) (y : Y) (x' : X) (y' : Y) (r s : List ℕ) (n : ℕ) → A.has x → (B x).has y → A.has x' → (B x').has y' → IsWhole C bytes (make x y) r → BeginsWith C bytes (make x' y') n s → length r ≤ length s
      ends_made bytes x y x' y' r s n has-x has-y has-x' has-y' w front =
          let v = whole_parts bytes x y r has-x has-y w in
          elim (cases_lt n (length (A.fields x'))) [
            | inl lt ↦
                let first = d.ends bytes x x' _ s n v.0 (first_front bytes x' y' n s has-x' has-y' (omega arith) front) in
                omega (arith, first, length-append (spelled ((B x).fields y)) r)
            | inr le ↦
                let k = n - length (A.fields x') in
                let e : n ≡ length (A.fields x') + k = omega arith in
                let l = later_front bytes x' y' k s has-x' has-y' (subst (λ m. BeginsWith C bytes (make x' y') m s) e front) in
                let same : x' ≡ x = d.same bytes x' x _ _ l.0 v.0 in
                let behind = same_rest A bytes x _ _ (subst (λ u. IsWhole A bytes u (spelled (take k ((B x').fields y')) ++ s)) same l.0) v.0 in
                let moved = subst (λ u. BeginsWith (B u) (spelled ((B x).fields y) ++ r) y' k s) same (subst (λ t. BeginsWith (B x') t y' k s) behind l.1) in
                (ds x).ends _ y y' r s k v.1 moved
          ]

      same_made : (bytes : List ℕ) (x : X) (y : Y) (x' : X) (y' : Y) (r s : List ℕ) → A.has x → (B x).has y → A.has x' → (B x').has y' → IsWhole C bytes (make x y) r → IsWhole C bytes (make x' y') s → make x y ≡ make x' y'
      same_made bytes x y x' y' r s has-x has-y has-x' has-y' w v =
          let a = whole_parts bytes x y r has-x has-y w in
          let b = whole_parts bytes x' y' s has-x' has-y' v in
          let same : x' ≡ x = d.same bytes x' x _ _ b.0 a.0 in
          let behind = same_rest A bytes x _ _ (subst (λ u. IsWhole A bytes u (spelled ((B x').fields y') ++ s)) same b.0) a.0 in
          let moved = subst (λ u. IsWhole (B u) (spelled ((B x).fields y) ++ r) y' s) same (subst (λ t. IsWhole (B x') t y' s) behind b.1) in
          let second : y ≡ y' = (ds x).same _ y y' r s a.1 moved in
          ap (λ u. make u y) (sym same) ∙ ap (make x') second

-- a value of C is a value of A under another name
pub record Renamed {X Z : Type 0} (A : Grammar X) (C : Grammar Z) (make : X → Z) : Type 0 where
  pub parts : (z : Z) → C.has z → (x : X) × (make x ≡ z) × A.has x
  pub has : (x : X) → A.has x → C.has (make x)
  pub fields : (x : X) → C.fields (make x) ≡ A.fields x

module _ {X Z : Type 0} (A : Grammar X) (C : Grammar Z) (make : X → Z) (q : Renamed A C make) where
  original_whole : (bytes : List ℕ) (x : X) (r : List ℕ) → A.has x → IsWhole C bytes (make x) r → IsWhole A bytes x r
  original_whole bytes x r has w = record {
    has = has;
    lawful = subst AreLawful (q.fields x) w.lawful;
    parts = w.parts ∙ ap (λ fs. spelled fs ++ r) (q.fields x);
  }

  renamed_front : (bytes : List ℕ) (x : X) (n : ℕ) (r : List ℕ) → BeginsWith A bytes x n r → BeginsWith C bytes (make x) n r
  renamed_front bytes x n r b = record {
    has = q.has x b.has;
    lawful = subst (λ fs. AreLawful (take n fs)) (sym (q.fields x)) b.lawful;
    parts = b.parts ∙ ap (λ fs. spelled (take n fs) ++ r) (sym (q.fields x));
  }

  original_front : (bytes : List ℕ) (x : X) (n : ℕ) (r : List ℕ) → A.has x → BeginsWith C bytes (make x) n r → BeginsWith A bytes x n r
  original_front bytes x n r has b = record {
    has = has;
    lawful = subst (λ fs. AreLawful (take n fs)) (q.fields x) b.lawful;
    parts = b.parts ∙ ap (λ fs. spelled (take n fs) ++ r) (q.fields x);
  }

  renamed_stuck : (bytes : List ℕ) (left : ℕ) → IsStuck A bytes left → IsStuck C bytes left
  renamed_stuck bytes left h = record {
    begins = let b = h.begins in (make b.0, b.1, b.2, renamed_front bytes b.0 b.1 b.2 b.3, b.4);
    no_further = λ z n r front.
        let p = q.parts z front.has in
        let first = h.no_further p.0 n r (original_front bytes p.0 n r p.2 (subst (λ v. BeginsWith C bytes v n r) (sym p.1) front)) in
        (first.0, subst (λ v. n < length (C.fields v)) p.1 (subst (λ fs. n < length fs) (sym (q.fields p.0)) first.1));
  }

  pub renamed_fails : (bytes : List ℕ) (e : Stuck) → ReadFails A bytes e → ReadFails C bytes e
  renamed_fails bytes (Bad left) h = renamed_stuck bytes left h
  renamed_fails bytes Memory h = tt

  pub renamed_determined : Determined A → Determined C
  renamed_determined d = record {
    ends = λ bytes z z' r s n w front.
        let p = q.parts z w.has in
        let p' = q.parts z' front.has in
        d.ends bytes p.0 p'.0 r s n (original_whole bytes p.0 r p.2 (subst (λ v. IsWhole C bytes v r) (sym p.1) w)) (original_front bytes p'.0 n s p'.2 (subst (λ v. BeginsWith C bytes v n s) (sym p'.1) front));
    same = λ bytes z z' r s w v.
        let p = q.parts z w.has in
        let p' = q.parts z' v.has in
        sym p.1 ∙ ap make (d.same bytes p.0 p'.0 r s (original_whole bytes p.0 r p.2 (subst (λ u. IsWhole C bytes u r) (sym p.1) w)) (original_whole bytes p'.0 s p'.2 (subst (λ u. IsWhole C bytes u s) (sym p'.1) v))) ∙ p'.1;
  }
