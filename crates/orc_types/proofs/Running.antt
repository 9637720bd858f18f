-- What is kept beside the enums says the same as these.
use Rattle.std.proofs.Common.{◌≡◌, refl, sym, ◌∙◌, ap, subst, List, [], ◌∷◌, ◌++◌, ℕ, ◌+◌, ◌<◌, ℤ, Bool, true, false, cond, Option, Some, None, length, get_or, arith}
use Rattle.std.specs.Prelude.{◌&&◌, ◌||◌, take, int_lt, is_some, option_map}
use Rattle.std.specs.List.{list_any, find}
use Rattle.std.specs.Option.{option_or}
use Rattle.std.specs.Ordering.{int_eq}
use Rattle.std.specs.Cmp.Lexicographic as lexicographic
use Rattle.std.proofs.lemmas.Int.{ints}
use Rattle.std.proofs.lemmas.List.{take_more}
use Rattle.std.proofs.lemmas.List.Folds.{list_any-append}
use Rattle.orc_value.specs.Canon.{same_text}
use Rattle.orc_types.specs.declared.types.EnumName.{EnumName}
use Rattle.orc_types.specs.Enums.{has_name, has_value, greatest, next_value}
use Rattle.orc_types.proofs.Narrowing.{none_some}
use Rattle.orc_types.specs.inside.Running.{HasFirsts, is_taken, HasToo, HasValues, greatest_of, higher, one_behind, Knows}

-- ---- the first of each name

or_none : {X : Type 0} (o : Option X) → o ≡ option_or o None
or_none None = refl
or_none (Some x) = refl

-- what is put where nothing was comes after what was there
pub put_behind : {X : Type 0} (old new : List ℕ → Option X) (name q : List ℕ) (v : X) → old name ≡ None → new q ≡ cond (same_text name q) (Some v) (old q) → new q ≡ option_or (old q) (cond (same_text name q) (Some v) None)
put_behind old new name q v none put = put ∙ by (same_text name q) refl
  where
    by : (b : Bool) → same_text name q ≡ b → cond b (Some v) (old q) ≡ option_or (old q) (cond b (Some v) None)
    by true is = sym (ap (λ o. option_or o (Some v)) (sym (ap old (lexicographic.same_text name q (sym is))) ∙ none))
    by false is = or_none (old q)

-- what is there stays
pub stays : {X : Type 0} (old : List ℕ → Option X) (name q : List ℕ) (v t : X) → old name ≡ Some t → old q ≡ option_or (old q) (cond (same_text name q) (Some v) None)
stays old name q v t some = by (same_text name q) refl
  where
    by : (b : Bool) → same_text name q ≡ b → old q ≡ option_or (old q) (cond b (Some v) None)
    by true is = let known : old q ≡ Some t = sym (ap old (lexicographic.same_text name q (sym is))) ∙ some in known ∙ sym (ap (λ o. option_or o (Some v)) known)
    by false is = or_none (old q)

abbrev value_of : Option EnumName → Option ℤ
value_of o = option_map (λ e. e.value) o

-- the first of a name among enums and one more
pub first_more : (q : List ℕ) (es : List EnumName) (e : EnumName) → value_of (find (has_name q) (es ++ e ∷ [])) ≡ option_or (value_of (find (has_name q) es)) (cond (has_name q e) (Some e.value) None)
first_more q [] e = by (has_name q e)
  where
    by : (b : Bool) → value_of (cond b (Some e) None) ≡ cond b (Some e.value) None
    by true = refl
    by false = refl
first_more q (x ∷ es) e = by (has_name q x) (first_more q es e)
  where
    by : (b : Bool) → value_of (find (has_name q) (es ++ e ∷ [])) ≡ option_or (value_of (find (has_name q) es)) (cond (has_name q e) (Some e.value) None)
        → value_of (cond b (Some x) (find (has_name q) (es ++ e ∷ []))) ≡ option_or (value_of (cond b (Some x) (find (has_name q) es))) (cond (has_name q e) (Some e.value) None)
    by true rest = refl
    by false rest = rest

pub firsts_more : (old new : List ℕ → Option ℤ) (es : List EnumName) (e : EnumName) → HasFirsts old es → ((q : List ℕ) → new q ≡ option_or (old q) (cond (same_text e.name q) (Some e.value) None)) → HasFirsts new (es ++ e ∷ [])
firsts_more old new es e has put = λ q. put q ∙ ap (λ o. option_or o (cond (same_text e.name q) (Some e.value) None)) (has q) ∙ sym (first_more q es e)

pub firsts_further : (old new : List ℕ → Option ℤ) (es : List EnumName) (i : ℕ) (e : EnumName) → HasFirsts old (take i es) → i < length es → get_or es i e ≡ e
    → ((q : List ℕ) → new q ≡ option_or (old q) (cond (same_text e.name q) (Some e.value) None)) → HasFirsts new (take (i + 1) es)
firsts_further old new es i e has below is put =
    subst (λ (xs : List EnumName). HasFirsts new xs) (sym (take_more es i e below ∙ ap (λ (x : EnumName). take i es ++ x ∷ []) is)) (firsts_more old new (take i es) e has put)

pub found_any : (name : List ℕ) (es : List EnumName) → is_some (value_of (find (has_name name) es)) ≡ list_any (has_name name) es
found_any name [] = refl
found_any name (e ∷ es) = by (has_name name e) (found_any name es)
  where
    by : (b : Bool) → is_some (value_of (find (has_name name) es)) ≡ list_any (has_name name) es
        → is_some (value_of (cond b (Some e) (find (has_name name) es))) ≡ (b || list_any (has_name name) es)
    by true rest = refl
    by false rest = rest

same_int : (z v : ℤ) → z ≡ v → int_eq z v ≡ true
same_int z v is = grind (arith, ints)

-- the value that a name has first is one that it has
pub kept : (name : List ℕ) (v : ℤ) (es : List EnumName) → value_of (find (has_name name) es) ≡ Some v → list_any (λ e. has_name name e && has_value v e) es ≡ true
kept name v [] h = none_some h
kept name v (e ∷ es) h = by (has_name name e) h (λ rest. kept name v es rest)
  where
    by : (b : Bool) → value_of (cond b (Some e) (find (has_name name) es)) ≡ Some v
        → (value_of (find (has_name name) es) ≡ Some v → list_any (λ x. has_name name x && has_value v x) es ≡ true)
        → ((b && has_value v e) || list_any (λ x. has_name name x && has_value v x) es) ≡ true
    by true is rest =
        let own : e.value ≡ v = cc in
        ap (λ b. b || list_any (λ x. has_name name x && has_value v x) es) (same_int e.value v own)
    by false is rest = rest is

-- ---- values

or_false : (b : Bool) → (b || false) ≡ b
or_false true = refl
or_false false = refl

either : (b o : Bool) → cond b true o ≡ (o || b)
either true true = refl
either true false = refl
either false true = refl
either false false = refl

pub values_more : (values new : List ℤ) (es : List EnumName) (e : EnumName) → HasValues values es → HasToo values e.value new → HasValues new (es ++ e ∷ [])
values_more values new es e has put = λ z. put z ∙ (either (int_eq e.value z) (is_taken values z) ∙ sym (more z))
  where
    more : (z : ℤ) → list_any (has_value z) (es ++ e ∷ []) ≡ (is_taken values z || int_eq e.value z)
    more z = list_any-append (has_value z) es (e ∷ []) ∙ ap (λ b. list_any (has_value z) es || b) (or_false (int_eq e.value z)) ∙ ap (λ b. b || int_eq e.value z) (sym (has z))

-- ---- the greatest

greatest_more : (high : ℤ) (es : List EnumName) (e : EnumName) → greatest high (es ++ e ∷ []) ≡ cond (int_lt (greatest high es) e.value) e.value (greatest high es)
greatest_more high [] e = refl
greatest_more high (x ∷ es) e = greatest_more (cond (int_lt high x.value) x.value high) es e

pub top_more : (es : List EnumName) (e : EnumName) → higher (greatest_of es) e.value ≡ greatest_of (es ++ e ∷ [])
top_more [] e = refl
top_more (x ∷ es) e = ap Some (sym (greatest_more x.value es e))

-- the value after the greatest is the next one
pub next_behind : (es : List EnumName) → one_behind (greatest_of es) ≡ next_value es
next_behind [] = refl
next_behind (e ∷ es) = refl

-- one enum more
pub one_more : (es row : List EnumName) (old new : List ℕ → Option ℤ) (values taken : List ℤ) (high top : Option ℤ) (e : EnumName) → Knows es old values high
    → ((q : List ℕ) → new q ≡ option_or (old q) (cond (same_text e.name q) (Some e.value) None))
    → row ≡ es ++ e ∷ [] → HasToo values e.value taken → top ≡ higher high e.value → Knows row new taken top
one_more es row old new values taken high top e knows put row_is taken_is top_is = record {
  firsts = subst (λ (xs : List EnumName). HasFirsts new xs) (sym row_is) (firsts_more old new es e knows.firsts put);
  taken = λ z. values_more values taken es e knows.taken taken_is z ∙ ap (λ (xs : List EnumName). list_any (has_value z) xs) (sym row_is);
  top = top_is ∙ (ap (λ (h : Option ℤ). higher h e.value) knows.top ∙ (top_more es e ∙ ap greatest_of (sym row_is)));
}
