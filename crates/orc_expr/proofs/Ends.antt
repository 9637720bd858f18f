-- What was read begins some condition, and is one where its text may end.
use Rattle.std.proofs.Common.{◌≡◌, ℕ, suc, ◌==◌, Bool, true, false, cond, List, [], ◌∷◌, ◌++◌, Some, None, length, codes, refl, sym, ap, subst, ◌∙◌, arith, append_assoc, append-nil}
use Rattle.std.proofs.lemmas.Bool.{and_from, false≢true, eqb-true}
use Rattle.orc_path.specs.Texts.{CanBegin}
use Rattle.orc_expr.specs.Expressions.{Expression, Here, FromRoot, FromContext, Below, Where, Quoted, Front, Whole, Term, is_role, is_quotable, expression_text, Condition, condition_text}
use Rattle.orc_expr.specs.Parts.{Bracket}
use Rattle.orc_expr.specs.inside.Grammar.{may_test, is_read, IsText}
use Rattle.orc_expr.specs.inside.Reading.{Place, Begin, Dot, Ups, UpDot, UpDots, Slash, Module, Colon, RootName, FirstName, Next, LaterName, OpenAt, KeyName, InQuotes, EndQuotes, ClosedAt, Spaced, Bang, Sign, SignSpace, InTest, Tested, Reading, IsTested, FitsAt, FitBrackets, Fits, test_of, whole_at, whole, sign_text, place_text, bracket_text, outer_text, reading_text}
use Rattle.orc_expr.specs.declared.expr.Test.TheVariants.{Any, Equals, Differs}
use Rattle.orc_expr.proofs.NameBytes.{qualified_colon}

-- what may stand before a step or predicate is a term and an expression
pub front_term : (e : Expression) → is_role Front e ≡ true → is_role Term e ≡ true
front_term Here h = refl
front_term (FromRoot n) h = h
front_term (FromContext k n) h = h
front_term (Below e n) h = h
front_term (Where e k t) h = h
front_term (Quoted t) h = absurd (false≢true h)

pub front_whole : (e : Expression) → is_role Front e ≡ true → is_role Whole e ≡ true
front_whole Here h = refl
front_whole (FromRoot n) h = h
front_whole (FromContext k n) h = h
front_whole (Below e n) h = h
front_whole (Where e k t) h = h
front_whole (Quoted t) h = absurd (false≢true h)

whole_term : (e : Expression) → is_role Whole e ≡ true → is_role Term e ≡ true
whole_term Here h = refl
whole_term (FromRoot n) h = h
whole_term (FromContext k n) h = h
whole_term (Below e n) h = h
whole_term (Where e k t) h = h
whole_term (Quoted t) h = absurd (false≢true h)

-- what was read begins some text of the kind
abbrev Begins : Bool → List ℕ → Type 0
Begins conditional text = CanBegin (IsText conditional) text

-- an expression in open brackets, and what closes them
closes : (conditional : Bool) (outer : List Bracket) → FitBrackets outer → (e : Expression) (text rest : List ℕ) → expression_text e ≡ text ++ rest
    → is_role Term e ≡ true → (length outer ≡ 0 → is_role Whole e ≡ true) → Begins conditional (outer_text outer ++ text)
closes conditional [] fits e text rest is term whole =
    (rest, (record { look = e; test = Any }, (and_from _ _ (whole refl) refl, append-nil (expression_text e) ∙ is)))
closes conditional (bracket ∷ outer) fits e text rest is term whole =
    let around = Where bracket.front bracket.key e in
    let front : is_role Front around ≡ true = and_from _ _ (and_from _ _ fits.0 fits.1) term in
    subst (Begins conditional) (sym (append_assoc (outer_text outer) (bracket_text bracket) text))
    (closes conditional outer fits.2 around (bracket_text bracket ++ text) (rest ++ codes "]")
    (ap (λ x. bracket_text bracket ++ x ++ codes "]") is ∙ simp append_assoc refl)
    (front_term around front) (λ _. front_whole around front))

-- a place, and what makes an expression of it
record Completed (p : Place) (depth : ℕ) : Type 0 where
  e : Expression
  rest : List ℕ
  text : expression_text e ≡ place_text p ++ rest
  term : is_role Term e ≡ true
  whole : (depth == 0) ≡ true → is_role Whole e ≡ true

as_whole : (p : Place) (depth : ℕ) (e : Expression) (rest : List ℕ) → expression_text e ≡ place_text p ++ rest → is_role Whole e ≡ true → Completed p depth
as_whole p depth e rest text h = record { e = e; rest = rest; text = text; term = whole_term e h; whole = λ _. h }

as_front : (p : Place) (depth : ℕ) (e : Expression) (rest : List ℕ) → expression_text e ≡ place_text p ++ rest → is_role Front e ≡ true → Completed p depth
as_front p depth e rest text h = as_whole p depth e rest text (front_whole e h)

begins_at : (conditional : Bool) (outer : List Bracket) (depth : ℕ) → depth ≡ length outer → FitBrackets outer → (p : Place) → Completed p depth → Begins conditional (outer_text outer ++ place_text p)
begins_at conditional outer depth same fits p made =
    closes conditional outer fits made.e (place_text p) made.rest made.text made.term (λ none. made.whole (ap (λ (n : ℕ). n == 0) (same ∙ none)))

-- a test, after an expression in no bracket
tests : (conditional : Bool) (outer : List Bracket) (depth : ℕ) → depth ≡ length outer → (e : Expression) (text : List ℕ) → IsTested e text depth conditional
    → (front : List ℕ) (differs : Bool) (more rest : List ℕ) → is_quotable more ≡ true → front ++ rest ≡ expression_text e ++ (sign_text differs ++ more ++ codes "'")
    → Begins conditional (outer_text outer ++ front)
tests conditional [] depth same e text fits front differs more rest quotable is =
    subst (λ c. Begins c front) (sym fits.allowed) (rest, by differs is)
  where
    by : (d : Bool) → front ++ rest ≡ expression_text e ++ (sign_text d ++ more ++ codes "'") → IsText true (front ++ rest)
    by true is = (record { look = e; test = Differs more }, (and_from _ _ fits.whole quotable, sym is))
    by false is = (record { look = e; test = Equals more }, (and_from _ _ fits.whole quotable, sym is))
tests conditional (bracket ∷ outer) depth same e text fits front differs more rest quotable is =
    absurd (let zero_is : depth ≡ 0 = eqb-true depth 0 fits.none in omega (arith, same, zero_is))

module _ (conditional : Bool) (outer : List Bracket) (depth : ℕ) (same : depth ≡ length outer) (brackets : FitBrackets outer) where
  made : (p : Place) → Completed p depth → Begins conditional (outer_text outer ++ place_text p)
  made p c = begins_at conditional outer depth same brackets p c

  begins : (p : Place) → FitsAt p depth conditional → Begins conditional (outer_text outer ++ place_text p)
  begins Begin fits = made Begin (as_whole Begin depth Here (codes ".") refl refl)
  begins Dot fits = made Dot (as_whole Dot depth Here [] refl refl)
  begins (Ups ups) fits = made (Ups ups) (as_front (Ups ups) depth (FromContext ups (codes "a")) (codes "a") refl refl)
  begins (UpDot ups) fits = made (UpDot ups) (as_front (UpDot ups) depth (FromContext (suc ups) (codes "a")) (codes "./a") (simp append_assoc refl) refl)
  begins (UpDots ups) fits = made (UpDots ups) (as_front (UpDots ups) depth (FromContext (suc ups) (codes "a")) (codes "/a") (simp append_assoc refl) refl)
  begins Slash fits = made Slash (as_front Slash depth (FromRoot (codes "a:a")) (codes "a:a") refl refl)
  begins (Module name) fits =
      made (Module name) (as_front (Module name) depth (FromRoot ((name ++ 58 ∷ []) ++ 97 ∷ [])) (codes ":a") (simp append_assoc refl) (qualified_colon name 97 fits refl))
  begins (Colon name) fits = made (Colon name) (as_front (Colon name) depth (FromRoot (name ++ 97 ∷ [])) (codes "a") (simp append_assoc refl) (fits 97 refl))
  begins (RootName name) fits = made (RootName name) (as_front (RootName name) depth (FromRoot name) [] (sym (append-nil _)) fits)
  begins (FirstName ups name) fits = made (FirstName ups name) (as_front (FirstName ups name) depth (FromContext ups name) [] (sym (append-nil _)) fits)
  begins (Next e) fits = made (Next e) (as_front (Next e) depth (Below e (codes "a")) (codes "a") refl (and_from _ _ fits refl))
  begins (LaterName e name) fits = made (LaterName e name) (as_front (LaterName e name) depth (Below e name) [] (sym (append-nil _)) (and_from _ _ fits.0 fits.1))
  begins (OpenAt e) fits =
      made (OpenAt e) (as_front (OpenAt e) depth (Where e (codes "a") Here) (codes "a=.]") (simp append_assoc refl) (and_from _ _ (and_from _ _ fits refl) refl))
  begins (KeyName e key) fits =
      made (KeyName e key) (as_front (KeyName e key) depth (Where e key Here) (codes "=.]") (simp append_assoc refl) (and_from _ _ (and_from _ _ fits.0 fits.1) refl))
  begins (InQuotes text) fits =
      made (InQuotes text) (record { e = Quoted text; rest = codes "'"; text = refl; term = fits.0; whole = λ none. absurd (false≢true (sym fits.1 ∙ none)) })
  begins (EndQuotes text) fits =
      made (EndQuotes text) (record { e = Quoted text; rest = []; text = sym (append-nil _); term = fits.0; whole = λ none. absurd (false≢true (sym fits.1 ∙ none)) })
  begins (ClosedAt e) fits = made (ClosedAt e) (as_front (ClosedAt e) depth e [] (sym (append-nil _)) fits)
  begins (Spaced e) fits = tests conditional outer depth same e [] fits _ false [] (codes "= ''") refl (append_assoc (expression_text e) (codes " ") (codes "= ''"))
  begins (Bang e) fits = tests conditional outer depth same e [] fits _ true [] (codes "= ''") refl (append_assoc (expression_text e) (codes " !") (codes "= ''"))
  begins (Sign e true) fits = tests conditional outer depth same e [] fits _ true [] (codes " ''") refl (append_assoc (expression_text e) (codes " !=") (codes " ''"))
  begins (Sign e false) fits = tests conditional outer depth same e [] fits _ false [] (codes " ''") refl (append_assoc (expression_text e) (codes " =") (codes " ''"))
  begins (SignSpace e true) fits = tests conditional outer depth same e [] fits _ true [] (codes "''") refl (append_assoc (expression_text e) (codes " != ") (codes "''"))
  begins (SignSpace e false) fits = tests conditional outer depth same e [] fits _ false [] (codes "''") refl (append_assoc (expression_text e) (codes " = ") (codes "''"))
  begins (InTest e differs text) fits =
      tests conditional outer depth same e text fits _ differs text (codes "'") fits.text (append_assoc (expression_text e) (sign_text differs ++ text) (codes "'"))
  begins (Tested e differs text) fits =
      tests conditional outer depth same e text fits _ differs text [] fits.text (append-nil _)

-- what was read begins some text
pub reading_begins : (r : Reading) → Fits r → Begins r.conditional (reading_text r)
reading_begins r fits = begins r.conditional r.outer r.depth fits.depth fits.brackets r.place fits.parts

-- what was read, where it is whole
pub record MadeOf (r : Reading) (c : Condition) : Type 0 where
  pub kind : is_read r.conditional c ≡ true
  pub text : condition_text c ≡ reading_text r

module _ (r : Reading) (fits : Fits r) (none : (r.depth == 0) ≡ true) (c : Condition) where
  no_outer : reading_text r ≡ place_text r.place
  no_outer = by r.outer (let zero_is : r.depth ≡ 0 = eqb-true r.depth 0 none in sym fits.depth ∙ zero_is)
    where
      by : (outer : List Bracket) → length outer ≡ 0 → outer_text outer ++ place_text r.place ≡ place_text r.place
      by [] h = refl
      by (bracket ∷ outer) h = absurd (omega (arith, h))

  without_test : (e : Expression) → is_role Whole e ≡ true → expression_text e ≡ place_text r.place → Some (record { look = e; test = Any }) ≡ Some c → MadeOf r c
  without_test e h text is =
      let same : record { look = e; test = Any } ≡ c = cc in
      subst (MadeOf r) same (record { kind = and_from _ _ h refl; text = append-nil (expression_text e) ∙ text ∙ sym no_outer })

  with_test : (e : Expression) (differs : Bool) (text : List ℕ) → IsTested e text r.depth r.conditional → place_text (Tested e differs text) ≡ place_text r.place
      → Some (record { look = e; test = test_of differs text }) ≡ Some c → MadeOf r c
  with_test e differs text tested place is =
      let same : record { look = e; test = test_of differs text } ≡ c = cc in
      subst (MadeOf r) same (by differs place)
    where
      by : (d : Bool) → place_text (Tested e d text) ≡ place_text r.place → MadeOf r (record { look = e; test = test_of d text })
      by true place = record {
        kind = and_from _ _ tested.whole (subst (λ k. may_test k (Differs text) ≡ true) (sym tested.allowed) tested.text);
        text = place ∙ sym no_outer;
      }
      by false place = record {
        kind = and_from _ _ tested.whole (subst (λ k. may_test k (Equals text) ≡ true) (sym tested.allowed) tested.text);
        text = place ∙ sym no_outer;
      }

  by_none : {C : Type 0} → None ≡ Some c → C
  by_none h = let never : ⊥ = cc in absurd never

  made_at : (p : Place) → FitsAt p r.depth r.conditional → place_text p ≡ place_text r.place → whole_at p ≡ Some c → MadeOf r c
  made_at Begin f text = by_none
  made_at Dot f text = without_test Here refl text
  made_at (Ups ups) f text = by_none
  made_at (UpDot ups) f text = by_none
  made_at (UpDots ups) f text = by_none
  made_at Slash f text = by_none
  made_at (Module name) f text = by_none
  made_at (Colon name) f text = by_none
  made_at (RootName name) f text = without_test (FromRoot name) f text
  made_at (FirstName ups name) f text = without_test (FromContext ups name) f text
  made_at (Next e) f text = by_none
  made_at (LaterName e name) f text = without_test (Below e name) (and_from _ _ f.0 f.1) text
  made_at (OpenAt e) f text = by_none
  made_at (KeyName e key) f text = by_none
  made_at (InQuotes t) f text = by_none
  made_at (EndQuotes t) f text = by_none
  made_at (ClosedAt e) f text = without_test e (front_whole e f) text
  made_at (Spaced e) f text = by_none
  made_at (Bang e) f text = by_none
  made_at (Sign e differs) f text = by_none
  made_at (SignSpace e differs) f text = by_none
  made_at (InTest e differs t) f text = by_none
  made_at (Tested e differs t) f text = with_test e differs t f text

pub made_of : (r : Reading) → Fits r → (c : Condition) → whole r ≡ Some c → MadeOf r c
made_of r fits c h = by (r.depth == 0) refl h
  where
    by : (t : Bool) → (r.depth == 0) ≡ t → cond t (whole_at r.place) None ≡ Some c → MadeOf r c
    by true none h = made_at r fits none c r.place fits.parts refl h
    by false none h = let never : ⊥ = cc in absurd never
