-- Lists, tests and texts: what stands in a list, and what a search says of it.
use Rattle.std.proofs.Common.{◌≡◌, refl, sym, ◌∙◌, ap, subst, List, [], ◌∷◌, ◌++◌, map, ℕ, zero, suc, ◌+◌, ◌<◌, inl, inr, length, get_or, Bool, true, false, cond, arith}
use Rattle.std.specs.Prelude.{◌⊎◌, ◌||◌, ◌&&◌, not, Option, Some, None, is_some, option_map}
use Rattle.std.specs.List.{find, list_any, list_all, AllByRecursion, Contains, IsDistinct, position, position_or_len}
use Rattle.std.specs.Option.{option_or, option_map_or}
use Rattle.std.proofs.lemmas.Bool.{false≢true, lt-ltb}
use Rattle.std.proofs.lemmas.Slice.Eq.{bytes_eq-Decides, slice_eq-Decides}
use Rattle.std.proofs.lemmas.List.Elements.{Contains-append_right}
use Rattle.std.proofs.lemmas.List.Quantifiers.{position-Some}
use Rattle.orc_value.specs.Canon.{same_text}
use Rattle.orc_schema_nodes.specs.Names.{same_names}
use Rattle.orc_statements.specs.Faults.{first_some}
use Rattle.orc_statements.specs.Names.{contains_text, repeated_among}

-- Tests ---------------------------------------------------------------------------------------------------------------
pub and_left : (a b : Bool) → (a && b) ≡ true → a ≡ true
and_left true b h = refl
and_left false b h = h

pub and_right : (a b : Bool) → (a && b) ≡ true → b ≡ true
and_right true b h = h
and_right false b h = absurd (false≢true h)

pub and_both : (a b : Bool) → a ≡ true → b ≡ true → (a && b) ≡ true
and_both true b h k = k
and_both false b h k = h

pub or_left : (a b : Bool) → (a || b) ≡ false → a ≡ false
or_left true b h = h
or_left false b h = refl

pub or_right : (a b : Bool) → (a || b) ≡ false → b ≡ false
or_right true b h = absurd (false≢true (sym h))
or_right false b h = h

pub not_false : (a : Bool) → not a ≡ false → a ≡ true
not_false true h = refl
not_false false h = absurd (false≢true (sym h))

pub not_true : (a : Bool) → not a ≡ true → a ≡ false
not_true true h = sym h
not_true false h = refl

-- a is refused where b isn't
pub and_not : (a b : Bool) → (a && not b) ≡ false → a ≡ true → b ≡ true
and_not true b h k = not_false b h
and_not false b h k = absurd (false≢true k)

-- Options -------------------------------------------------------------------------------------------------------------
pub some_same : {X : Type 0} (x y : X) → Some x ≡ Some y → x ≡ y
some_same x y h = ap (λ (o : Option _). option_map_or (λ z. z) o x) h

pub none_some : {X : Type 0} (x : X) → None ≡ Some x → ⊥
none_some x h = false≢true (ap is_some h)

pub none_first : {X : Type 0} (a b : Option X) → option_or a b ≡ None → a ≡ None
none_first None b h = refl
none_first (Some x) b h = absurd (none_some x (sym h))

pub none_second : {X : Type 0} (a b : Option X) → option_or a b ≡ None → b ≡ None
none_second None b h = h
none_second (Some x) b h = absurd (none_some x (sym h))

pub none_mapped : {X Y : Type 0} (f : X → Y) (o : Option X) → option_map f o ≡ None → o ≡ None
none_mapped f None h = refl
none_mapped f (Some x) h = absurd (none_some (f x) (sym h))

pub some_there : {X : Type 0} (o : Option X) → is_some o ≡ true → (x : X) × (o ≡ Some x)
some_there None h = absurd (false≢true h)
some_there (Some x) h = (x, refl)

-- Lists ---------------------------------------------------------------------------------------------------------------
-- x stands in the list
abbrev pub In : {X : Type 0} → List X → X → Type 0
In [] x = ⊥
In (y ∷ ys) x = (y ≡ x) ⊎ In ys x

pub in_left : {X : Type 0} (xs ys : List X) (x : X) → In xs x → In (xs ++ ys) x
in_left [] ys x h = absurd h
in_left (y ∷ xs) ys x (inl e) = inl e
in_left (y ∷ xs) ys x (inr h) = inr (in_left xs ys x h)

pub in_right : {X : Type 0} (xs ys : List X) (x : X) → In ys x → In (xs ++ ys) x
in_right [] ys x h = h
in_right (y ∷ xs) ys x h = inr (in_right xs ys x h)

first_further : {X : Type 0} (y : X) (xs ys : List X) (x : X) → In xs x ⊎ In ys x → In (y ∷ xs) x ⊎ In ys x
first_further y xs ys x (inl h) = inl (inr h)
first_further y xs ys x (inr h) = inr h

pub in_either : {X : Type 0} (xs ys : List X) (x : X) → In (xs ++ ys) x → In xs x ⊎ In ys x
in_either [] ys x h = inr h
in_either (y ∷ xs) ys x (inl e) = inl (inl e)
in_either (y ∷ xs) ys x (inr h) = first_further y xs ys x (in_either xs ys x h)

pub all_in : {X : Type 0} (P : X → Type 0) (xs : List X) → AllByRecursion P xs → (x : X) → In xs x → P x
all_in P [] a x h = absurd h
all_in P (y ∷ ys) a x (inl e) = subst P e a.0
all_in P (y ∷ ys) a x (inr h) = all_in P ys a.1 x h

pub in_all : {X : Type 0} (P : X → Type 0) (xs : List X) → ((x : X) → In xs x → P x) → AllByRecursion P xs
in_all P [] f = tt
in_all P (y ∷ ys) f = (f y (inl refl), in_all P ys (λ x h. f x (inr h)))

pub all_left : {X : Type 0} (P : X → Type 0) (xs ys : List X) → AllByRecursion P (xs ++ ys) → AllByRecursion P xs
all_left P xs ys a = in_all P xs (λ x h. all_in P (xs ++ ys) a x (in_left xs ys x h))

pub all_right : {X : Type 0} (P : X → Type 0) (xs ys : List X) → AllByRecursion P (xs ++ ys) → AllByRecursion P ys
all_right P xs ys a = in_all P ys (λ x h. all_in P (xs ++ ys) a x (in_right xs ys x h))

pub in_map : {X Y : Type 0} (f : X → Y) (xs : List X) (x : X) → In xs x → In (map f xs) (f x)
in_map f [] x h = absurd h
in_map f (y ∷ ys) x (inl e) = inl (ap f e)
in_map f (y ∷ ys) x (inr h) = inr (in_map f ys x h)

pub from_map : {X Y : Type 0} (f : X → Y) (xs : List X) (y : Y) → In (map f xs) y → (x : X) × In xs x × (f x ≡ y)
from_map f [] y h = absurd h
from_map f (x ∷ xs) y (inl e) = (x, inl refl, e)
from_map f (x ∷ xs) y (inr h) = let r = from_map f xs y h in (r.0, inr r.1, r.2)

pub found_in : {X : Type 0} (p : X → Bool) (xs : List X) (x : X) → find p xs ≡ Some x → In xs x × (p x ≡ true)
found_in p [] x h = absurd (none_some x h)
found_in {X} p (y ∷ ys) x h = on (p y) refl h (found_in p ys x)
  where
    on : (b : Bool) → p y ≡ b → cond b (Some y) (find p ys) ≡ Some x → (find p ys ≡ Some x → In ys x × (p x ≡ true)) → In (y ∷ ys) x × (p x ≡ true)
    on true is h rest = let e : y ≡ x = some_same y x h in (inl e, subst (λ (z : X). p z ≡ true) e is)
    on false is h rest = let r = rest h in (inr r.0, r.1)

pub none_found : {X : Type 0} (p : X → Bool) (xs : List X) → find p xs ≡ None → (x : X) → In xs x → p x ≡ false
none_found p [] h x i = absurd i
none_found {X} p (y ∷ ys) h x i = on (p y) refl h i (λ h. none_found p ys h x)
  where
    on : (b : Bool) → p y ≡ b → cond b (Some y) (find p ys) ≡ None → In (y ∷ ys) x → (find p ys ≡ None → In ys x → p x ≡ false) → p x ≡ false
    on true is h i rest = absurd (none_some y (sym h))
    on false is h (inl e) rest = subst (λ (z : X). p z ≡ false) e is
    on false is h (inr i) rest = rest h i

pub any_fails : {X : Type 0} (p : X → Bool) (xs : List X) → list_any p xs ≡ false → (x : X) → In xs x → p x ≡ false
any_fails p [] h x i = absurd i
any_fails {X} p (y ∷ ys) h x (inl e) = subst (λ (z : X). p z ≡ false) e (or_left (p y) (list_any p ys) h)
any_fails p (y ∷ ys) h x (inr i) = any_fails p ys (or_right (p y) (list_any p ys) h) x i

pub none_passes : {X : Type 0} (p : X → Bool) (xs : List X) → ((x : X) → In xs x → p x ≡ false) → list_any p xs ≡ false
none_passes p [] f = refl
none_passes p (y ∷ ys) f = ap (λ b. b || list_any p ys) (f y (inl refl)) ∙ none_passes p ys (λ x h. f x (inr h))

pub all_pass : {X : Type 0} (p : X → Bool) (xs : List X) → list_all p xs ≡ true → (x : X) → In xs x → p x ≡ true
all_pass p [] h x i = absurd i
all_pass {X} p (y ∷ ys) h x (inl e) = subst (λ (z : X). p z ≡ true) e (and_left (p y) (list_all p ys) h)
all_pass p (y ∷ ys) h x (inr i) = all_pass p ys (and_right (p y) (list_all p ys) h) x i

pub all_pass-push : {X : Type 0} (p : X → Bool) (xs : List X) (x : X) → list_all p xs ≡ true → p x ≡ true → list_all p (xs ++ x ∷ []) ≡ true
all_pass-push p [] x h is = and_both (p x) true is refl
all_pass-push p (y ∷ ys) x h is = and_both (p y) (list_all p (ys ++ x ∷ [])) (and_left (p y) (list_all p ys) h)
    (all_pass-push p ys x (and_right (p y) (list_all p ys) h) is)

-- some element passes, and so a search finds one
pub any_found : {X : Type 0} (p : X → Bool) (xs : List X) → list_any p xs ≡ true → (x : X) × (find p xs ≡ Some x)
any_found p [] h = absurd (false≢true h)
any_found {X} p (y ∷ ys) h = on (p y) refl h (any_found p ys)
  where
    on : (b : Bool) → p y ≡ b → (b || list_any p ys) ≡ true → (list_any p ys ≡ true → (x : X) × (find p ys ≡ Some x)) → (x : X) × (find p (y ∷ ys) ≡ Some x)
    on true is h rest = (y, ap (λ b. cond b (Some y) (find p ys)) is)
    on false is h rest = let r = rest h in (r.0, ap (λ b. cond b (Some y) (find p ys)) is ∙ r.1)

pub first_none : {X Y : Type 0} (f : X → Option Y) (xs : List X) → first_some f xs ≡ None → AllByRecursion (λ x. f x ≡ None) xs
first_none f [] h = tt
first_none f (x ∷ xs) h = (none_first (f x) (first_some f xs) h, first_none f xs (none_second (f x) (first_some f xs) h))

pub contains_in : {X : Type 0} (xs : List X) (x : X) → In xs x → Contains xs x
contains_in [] x h = absurd h
contains_in {X} (y ∷ ys) x (inl e) = subst (λ (z : X). Contains (y ∷ ys) z) e (0, omega arith, refl)
contains_in (y ∷ ys) x (inr h) = Contains-append_right (y ∷ []) ys x (contains_in ys x h)

-- what is at a place stands in the list
pub place_in : {X : Type 0} (xs : List X) (i : ℕ) (d : X) → i < length xs → In xs (get_or xs i d)
place_in [] i d h = absurd (omega arith)
place_in (y ∷ ys) zero d h = inl refl
place_in (y ∷ ys) (suc i) d h = inr (place_in ys i d (omega arith))

pub position_in : {X : Type 0} (p : X → Bool) (xs : List X) (d : X) → is_some (position p xs) ≡ true → (x : X) × In xs x × (p x ≡ true)
position_in p xs d h =
    let r = some_there (position p xs) h in
    let at = position-Some p xs r.0 d r.1 in
    (get_or xs r.0 d, place_in xs r.0 d at.0, at.1)

-- Texts ---------------------------------------------------------------------------------------------------------------
pub same_text-is : (a b : List ℕ) → same_text a b ≡ true → a ≡ b
same_text-is a b h = (bytes_eq-Decides a b).0 h

pub same_names-is : (a b : List (List ℕ)) → same_names a b ≡ true → a ≡ b
same_names-is a b h = (slice_eq-Decides (λ (x y : List ℕ). bytes_eq-Decides x y) a b (same_names a b) refl).0 h

pub same_names-itself : (a : List (List ℕ)) → same_names a a ≡ true
same_names-itself a = (slice_eq-Decides (λ (x y : List ℕ). bytes_eq-Decides x y) a a (same_names a a) refl).1 refl

-- names of which none is repeated
record Once (earlier names : List (List ℕ)) : Type 0 where
  pub new : AllByRecursion (λ (n : List ℕ). contains_text earlier n ≡ false) names
  pub differ : IsDistinct same_text names

any-append : {X : Type 0} (p : X → Bool) (xs ys : List X) → list_any p (xs ++ ys) ≡ false → (list_any p xs ≡ false) × (list_any p ys ≡ false)
any-append p [] ys h = (refl, h)
any-append p (x ∷ xs) ys h =
    let r = any-append p xs ys (or_right (p x) (list_any p (xs ++ ys)) h) in
    (ap (λ b. b || list_any p xs) (or_left (p x) (list_any p (xs ++ ys)) h) ∙ r.0, r.1)

once : (earlier names : List (List ℕ)) → repeated_among earlier names ≡ None → Once earlier names
unfolding IsDistinct
once earlier [] h = record { new = tt; differ = tt }
once earlier (name ∷ names) h = on (contains_text earlier name) refl h (once (earlier ++ name ∷ []) names)
  where
    on : (b : Bool) → contains_text earlier name ≡ b → cond b (Some name) (repeated_among (earlier ++ name ∷ []) names) ≡ None
        → (repeated_among (earlier ++ name ∷ []) names ≡ None → Once (earlier ++ name ∷ []) names) → Once earlier (name ∷ names)
    on true is h rest = absurd (none_some name (sym h))
    on false is h rest =
        let r = rest h in
        let parts : (n : List ℕ) → In names n → (contains_text earlier n ≡ false) × ((same_text name n || false) ≡ false)
        = λ n i. any-append (λ (t : List ℕ). same_text t n) earlier (name ∷ []) (all_in (λ (m : List ℕ). contains_text (earlier ++ name ∷ []) m ≡ false) names r.new n i) in
        record {
          new = (is, in_all (λ (n : List ℕ). contains_text earlier n ≡ false) names (λ n i. (parts n i).0));
          differ = (in_all (λ (n : List ℕ). same_text name n ≡ false) names (λ n i. or_left (same_text name n) false ((parts n i).1)), r.differ);
        }

pub none_repeated : (names : List (List ℕ)) → repeated_among [] names ≡ None → IsDistinct same_text names
none_repeated names h = (once [] names h).differ

-- where an element passes, there is a first one
passes_before : {X : Type 0} (p : X → Bool) (xs : List X) (x : X) → In xs x → p x ≡ true → position_or_len p xs < length xs
passes_before p [] x h is = absurd h
passes_before {X} p (y ∷ ys) x h is = on (p y) refl h (λ i. passes_before p ys x i is)
  where
    on : (b : Bool) → p y ≡ b → In (y ∷ ys) x → (In ys x → position_or_len p ys < length ys) → position_or_len p (y ∷ ys) < length (y ∷ ys)
    on true here h rest = let e : position_or_len p (y ∷ ys) ≡ 0 = ap (λ b. cond (not b) (1 + position_or_len p ys) 0) here in omega (arith, e)
    on false here (inl e) rest = absurd (false≢true (sym here ∙ subst (λ (z : X). p z ≡ true) (sym e) is))
    on false here (inr i) rest =
        let e : position_or_len p (y ∷ ys) ≡ 1 + position_or_len p ys = ap (λ b. cond (not b) (1 + position_or_len p ys) 0) here in
        let less : position_or_len p ys < length ys = rest i in
        omega (arith, e, less)

pub in_position : {X : Type 0} (p : X → Bool) (xs : List X) (x : X) → In xs x → p x ≡ true → is_some (position p xs) ≡ true
in_position p xs x h is = ap (λ b. is_some (cond b (Some (position_or_len p xs)) None)) (lt-ltb (position_or_len p xs) (length xs) (passes_before p xs x h is))
