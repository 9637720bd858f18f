-- A byte that is taken stands after the text so far, and what was read stays whole.
use Rattle.std.proofs.Common.{◌≡◌, ℕ, suc, ◌-◌, ◌+◌, ◌==◌, Bool, true, false, cond, not, ◌&&◌, List, [], ◌∷◌, ◌++◌, Option, Some, None, length, codes, IsTrue, refl, sym, ap, subst, ◌∙◌, arith, append_assoc, append-nil, add-one}
use Rattle.std.specs.Option.{option_and_then}
use Rattle.std.proofs.lemmas.Bool.{and_parts, and_from, false≢true, eqb-true}
use Rattle.orc_path.specs.Alphabet.{is_name_start, is_name_byte, is_identifier, is_qualified}
use Rattle.orc_expr.specs.Expressions.{Expression, Here, FromRoot, FromContext, Below, Where, Quoted, Whole, Term, is_role, is_quotable, ups_text, expression_text}
use Rattle.orc_expr.specs.Parts.{Bracket, closed}
use Rattle.orc_expr.specs.inside.Reading.{Place, Begin, Dot, Ups, UpDot, UpDots, Slash, Module, Colon, RootName, FirstName, Next, LaterName, OpenAt, KeyName, InQuotes, EndQuotes, ClosedAt, Spaced, Bang, Sign, SignSpace, InTest, Tested, Reading, at, closing, ended, goes_on, in_name, starts, in_quotes, feed_key, feed_at, feed, feed_all, IsFront, FitsAt, FitBrackets, Fits, sign_text, place_text, outer_text, reading_text}
use Rattle.orc_expr.proofs.Ends.{front_term, front_whole}
use Rattle.orc_expr.proofs.NameBytes.{identifier_first, identifier_more, qualified_more, qualified_colon, list_all-push}

-- a byte stands after this text of the place, and what was read is whole
record Steps (r : Reading) (text : List ℕ) (b : ℕ) (s : Reading) : Type 0 where
  built_with : reading_text s ≡ outer_text r.outer ++ text ++ b ∷ []
  fits : Fits s
  kind : s.conditional ≡ r.conditional

-- the text of a predicate after that of its bracket
moved : (o f k e c : List ℕ) → o ++ (f ++ codes "[" ++ k ++ codes "=" ++ e ++ c) ≡ o ++ (f ++ codes "[" ++ k ++ codes "=") ++ e ++ c
moved o f k e c = simp append_assoc refl

module _ (r : Reading) (brackets : FitBrackets r.outer) (depth : r.depth ≡ length r.outer) (b : ℕ) (s : Reading) where
  -- a choice by a test
  by_if : (t : Bool) (x y : Option Reading) {C : Type 0} → (t ≡ true → x ≡ Some s → C) → (t ≡ false → y ≡ Some s → C) → cond t x y ≡ Some s → C
  by_if true x y f g h = f refl h
  by_if false x y f g h = g refl h

  by_none : {C : Type 0} → None ≡ Some s → C
  by_none h = let never : ⊥ = cc in absurd never

  by_at : (text : List ℕ) (q : Place) → place_text q ≡ text ++ b ∷ [] → FitsAt q r.depth r.conditional → at r q ≡ Some s → Steps r text b s
  by_at text q e fits h =
      let same : record r { place = q } ≡ s = cc in
      subst (Steps r text b) same (record {
        built_with = ap (λ x. outer_text r.outer ++ x) e ∙ sym (append_assoc (outer_text r.outer) text (b ∷ []));
        fits = record { depth = depth; brackets = brackets; parts = fits };
        kind = refl;
      })

  -- a byte that is known
  known : (k : ℕ) (text : List ℕ) → (b == k) ≡ true → text ++ k ∷ [] ≡ text ++ b ∷ []
  known k text e = ap (λ c. text ++ c ∷ []) (sym (eqb-true b k e))

  by_starts : (text : List ℕ) (q : Place) → place_text q ≡ text ++ b ∷ [] → (is_name_start b ≡ true → FitsAt q r.depth r.conditional) → starts r q b ≡ Some s → Steps r text b s
  by_starts text q e fits = by_if (is_name_start b) _ _ (λ t. by_at text q e (fits t)) (λ t. by_none)

  by_closing : (e : Expression) → IsTrue (is_role Term e) → (b == 93) ≡ true → closing r e ≡ Some s → Steps r (expression_text e) b s
  by_closing e term is93 = by_if (r.depth == 0) _ _ (λ t. by_none) (λ t h. by r.outer refl t h)
    where
      by : (outer : List Bracket) → r.outer ≡ outer → (r.depth == 0) ≡ false
          → Some (record r { depth = r.depth - 1; outer = (closed r.outer e).outer; place = ClosedAt (closed r.outer e).now }) ≡ Some s → Steps r (expression_text e) b s
      by [] is t h = absurd (false≢true (sym t ∙ ap (λ (n : ℕ). n == 0) (depth ∙ ap (λ (xs : List Bracket). length xs) is)))
      by (bracket ∷ outer) is t h =
          let same : record r { depth = r.depth - 1; outer = outer; place = ClosedAt (Where bracket.front bracket.key e) } ≡ s = closed_is (bracket ∷ outer) is h in
          let fit = subst FitBrackets is brackets in
          subst (Steps r (expression_text e) b) same (record {
            built_with = ap (λ x. outer_text outer ++ x) (ap (λ c. expression_text bracket.front ++ codes "[" ++ bracket.key ++ codes "=" ++ expression_text e ++ c ∷ []) (sym (eqb-true b 93 is93)))
                ∙ moved (outer_text outer) (expression_text bracket.front) bracket.key (expression_text e) (b ∷ [])
                ∙ ap (λ (xs : List Bracket). outer_text xs ++ expression_text e ++ b ∷ []) (sym is);
            fits = record { depth = less outer is; brackets = fit.2; parts = and_from _ _ (and_from _ _ fit.0 fit.1) term };
            kind = refl;
          })
        where
          less : (outer : List Bracket) → r.outer ≡ bracket ∷ outer → r.depth - 1 ≡ length outer
          less outer is = let l : r.depth ≡ suc (length outer) = depth ∙ ap (λ (xs : List Bracket). length xs) is in omega arith

          closed_is : (all : List Bracket) → r.outer ≡ all
              → Some (record r { depth = r.depth - 1; outer = (closed r.outer e).outer; place = ClosedAt (closed r.outer e).now }) ≡ Some s
              → record r { depth = r.depth - 1; outer = (closed all e).outer; place = ClosedAt (closed all e).now } ≡ s
          closed_is all is h =
              ap (λ (xs : List Bracket). record r { depth = r.depth - 1; outer = (closed xs e).outer; place = ClosedAt (closed xs e).now }) (sym is)
              ∙ (let found : record r { depth = r.depth - 1; outer = (closed r.outer e).outer; place = ClosedAt (closed r.outer e).now } ≡ s = cc in found)

  by_ended : (e : Expression) → IsTrue (is_role Term e) → IsTrue (is_role Whole e) → ended r e b ≡ Some s → Steps r (expression_text e) b s
  by_ended e term whole =
      by_if (b == 93) _ _ (λ t. by_closing e term t)
      (λ t. by_if (b == 32) _ _
      (λ u. by_if (r.conditional && (r.depth == 0)) _ _
      (λ c. let parts = and_parts _ _ c in
      by_at (expression_text e) (Spaced e) (known 32 (expression_text e) u)
      (record { whole = whole; text = refl; none = parts.1; allowed = parts.0 }))
      (λ c. by_none))
      (λ u. by_none))

  by_goes_on : (e : Expression) → IsFront e → goes_on r e b ≡ Some s → Steps r (expression_text e) b s
  by_goes_on e whole =
      by_if (b == 91) _ _ (λ t. by_at (expression_text e) (OpenAt e) (known 91 (expression_text e) t) whole)
      (λ t. by_if (b == 47) _ _ (λ u. by_at (expression_text e) (Next e) (known 47 (expression_text e) u) whole)
      (λ u. by_ended e (front_term e whole) (front_whole e whole)))

  by_name : (q : Place) (e : Expression) → place_text q ≡ expression_text e ++ b ∷ [] → (is_name_byte b ≡ true → FitsAt q r.depth r.conditional) → IsFront e
      → in_name r q e b ≡ Some s → Steps r (expression_text e) b s
  by_name q e more fits whole = by_if (is_name_byte b) _ _ (λ t. by_at (expression_text e) q more (fits t)) (λ t. by_goes_on e whole)

  quotable_more : (text : List ℕ) → is_quotable text ≡ true → (b == 39) ≡ false → (b == 125) ≡ false → is_quotable (text ++ b ∷ []) ≡ true
  quotable_more text h never so =
      list_all-push (λ byte. not (byte == 39) && not (byte == 125)) text b h (and_from _ _ (ap not never) (ap not so))

  by_quotes : (text : List ℕ) (q end : Place) → place_text q ≡ text ++ b ∷ [] → place_text end ≡ text ++ 39 ∷ []
      → ((b == 39) ≡ false → (b == 125) ≡ false → FitsAt q r.depth r.conditional) → FitsAt end r.depth r.conditional
      → in_quotes r q end b ≡ Some s → Steps r text b s
  by_quotes text q end more done fits ends =
      by_if (b == 39) _ _ (λ t. by_at text end (done ∙ known 39 text t) ends)
      (λ t. by_if (b == 125) _ _ (λ u. by_none) (λ u. by_at text q more (fits t u)))

  by_key : (e : Expression) (key : List ℕ) → IsFront e → is_identifier key ≡ true → feed_key r e key b ≡ Some s → Steps r (expression_text e ++ codes "[" ++ key) b s
  by_key e key whole name =
      by_if (is_name_byte b) _ _
      (λ t. by_at _ (KeyName e (key ++ b ∷ [])) (sym (append_assoc (expression_text e ++ codes "[") key (b ∷ []))) (whole, identifier_more key b name t))
      (λ t. by_if (b == 61) _ _
      (λ u h.
      let same : record r { depth = r.depth + 1; outer = record { front = e; key = key } ∷ r.outer; place = Begin } ≡ s = cc in
      subst (Steps r (expression_text e ++ codes "[" ++ key) b) same (record {
        built_with = append-nil (outer_text r.outer ++ (expression_text e ++ codes "[" ++ key ++ codes "="))
            ∙ ap (λ x. outer_text r.outer ++ x) (known 61 (expression_text e ++ codes "[" ++ key) u)
            ∙ sym (append_assoc (outer_text r.outer) (expression_text e ++ codes "[" ++ key) (b ∷ []));
        fits = record { depth = omega (arith, depth); brackets = (whole, name, brackets); parts = tt };
        kind = refl;
      }))
      (λ u. by_none))

  sign_more : (e : Expression) (differs : Bool) → place_text (SignSpace e differs) ≡ place_text (Sign e differs) ++ 32 ∷ []
  sign_more e true = sym (append_assoc (expression_text e) (codes " !=") (32 ∷ []))
  sign_more e false = sym (append_assoc (expression_text e) (codes " =") (32 ∷ []))

  test_begins : (e : Expression) (differs : Bool) → place_text (InTest e differs []) ≡ place_text (SignSpace e differs) ++ 39 ∷ []
  test_begins e true = sym (append_assoc (expression_text e) (codes " != ") (39 ∷ []))
  test_begins e false = sym (append_assoc (expression_text e) (codes " = ") (39 ∷ []))

  in_test : (e : Expression) (differs : Bool) (text : List ℕ) (c : ℕ) → expression_text e ++ (sign_text differs ++ (text ++ c ∷ [])) ≡ place_text (InTest e differs text) ++ c ∷ []
  in_test e differs text c = simp append_assoc refl

  test_ends : (e : Expression) (differs : Bool) (text : List ℕ) → place_text (Tested e differs text) ≡ place_text (InTest e differs text) ++ 39 ∷ []
  test_ends e differs text = simp append_assoc refl

  grows_at : (p : Place) → FitsAt p r.depth r.conditional → feed_at p r b ≡ Some s → Steps r (place_text p) b s
  grows_at Begin fits =
      by_if (b == 46) _ _ (λ t. by_at [] Dot (known 46 [] t) tt)
      (λ t. by_if (b == 47) _ _ (λ u. by_at [] Slash (known 47 [] u) tt)
      (λ u. by_if (b == 39) _ _
      (λ q. by_if (r.depth == 0) _ _ (λ d. by_none) (λ d. by_at [] (InQuotes []) (known 39 [] q) (refl, d)))
      (λ q. by_starts [] (FirstName 0 (b ∷ [])) refl (identifier_first b))))
  grows_at Dot fits = by_if (b == 46) _ _ (λ t. by_at (codes ".") (UpDots 0) (known 46 (codes ".") t) tt) (λ t. by_ended Here refl refl)
  grows_at (Ups ups) fits =
      by_if (b == 46) _ _ (λ t. by_at (ups_text ups) (UpDot ups) (known 46 (ups_text ups) t) tt)
      (λ t. by_starts (ups_text ups) (FirstName ups (b ∷ [])) refl (identifier_first b))
  grows_at (UpDot ups) fits =
      by_if (b == 46) _ _ (λ t. by_at _ (UpDots ups) (sym (append_assoc (ups_text ups) (codes ".") (46 ∷ [])) ∙ known 46 (ups_text ups ++ codes ".") t) tt) (λ t. by_none)
  grows_at (UpDots ups) fits =
      by_if (b == 47) _ _
      (λ t. by_at _ (Ups (ups + 1)) (ap ups_text (add-one ups) ∙ sym (append_assoc (ups_text ups) (codes "..") (47 ∷ [])) ∙ known 47 (ups_text ups ++ codes "..") t) tt)
      (λ t. by_none)
  grows_at Slash fits = by_starts (codes "/") (Module (b ∷ [])) refl (identifier_first b)
  grows_at (Module name) fits =
      by_if (b == 58) _ _
      (λ t. by_at _ (Colon (name ++ b ∷ [])) (sym (append_assoc (codes "/") name (b ∷ [])))
      (λ c start. subst (λ k. is_qualified ((name ++ k ∷ []) ++ c ∷ []) ≡ true) (sym (eqb-true b 58 t)) (qualified_colon name c fits start)))
      (λ t. by_if (is_name_byte b) _ _
      (λ u. by_at _ (Module (name ++ b ∷ [])) (sym (append_assoc (codes "/") name (b ∷ []))) (identifier_more name b fits u))
      (λ u. by_none))
  grows_at (Colon name) fits = by_starts _ (RootName (name ++ b ∷ [])) (sym (append_assoc (codes "/") name (b ∷ []))) (λ t. fits b t)
  grows_at (RootName name) fits =
      by_name (RootName (name ++ b ∷ [])) (FromRoot name) (sym (append_assoc (codes "/") name (b ∷ []))) (λ t. qualified_more name b fits t) fits
  grows_at (FirstName ups name) fits =
      by_name (FirstName ups (name ++ b ∷ [])) (FromContext ups name) (sym (append_assoc (ups_text ups) name (b ∷ []))) (λ t. identifier_more name b fits t) fits
  grows_at (Next e) fits = by_starts (expression_text e ++ codes "/") (LaterName e (b ∷ [])) refl (λ t. (fits, identifier_first b t))
  grows_at (LaterName e name) fits =
      by_name (LaterName e (name ++ b ∷ [])) (Below e name) (sym (append_assoc (expression_text e ++ codes "/") name (b ∷ [])))
      (λ t. (fits.0, identifier_more name b fits.1 t)) (and_from _ _ fits.0 fits.1)
  grows_at (OpenAt e) fits = by_starts (expression_text e ++ codes "[") (KeyName e (b ∷ [])) refl (λ t. (fits, identifier_first b t))
  grows_at (KeyName e key) fits = by_key e key fits.0 fits.1
  grows_at (InQuotes text) fits =
      by_quotes (codes "'" ++ text) (InQuotes (text ++ b ∷ [])) (EndQuotes text) (sym (append_assoc (codes "'") text (b ∷ []))) refl
      (λ t u. (quotable_more text fits.0 t u, fits.1)) fits
  grows_at (EndQuotes text) fits = by_if (b == 93) _ _ (λ t. by_closing (Quoted text) fits.0 t) (λ t. by_none)
  grows_at (ClosedAt e) fits = by_goes_on e fits
  grows_at (Spaced e) fits =
      by_if (b == 61) _ _ (λ t. by_at _ (Sign e false) (sym (append_assoc (expression_text e) (codes " ") (61 ∷ [])) ∙ known 61 (expression_text e ++ codes " ") t) fits)
      (λ t. by_if (b == 33) _ _ (λ u. by_at _ (Bang e) (sym (append_assoc (expression_text e) (codes " ") (33 ∷ [])) ∙ known 33 (expression_text e ++ codes " ") u) fits) (λ u. by_none))
  grows_at (Bang e) fits =
      by_if (b == 61) _ _ (λ t. by_at _ (Sign e true) (sym (append_assoc (expression_text e) (codes " !") (61 ∷ [])) ∙ known 61 (expression_text e ++ codes " !") t) fits) (λ t. by_none)
  grows_at (Sign e differs) fits =
      by_if (b == 32) _ _ (λ t. by_at _ (SignSpace e differs) (sign_more e differs ∙ known 32 (place_text (Sign e differs)) t) fits) (λ t. by_none)
  grows_at (SignSpace e differs) fits =
      by_if (b == 39) _ _ (λ t. by_at _ (InTest e differs []) (test_begins e differs ∙ known 39 (place_text (SignSpace e differs)) t) fits) (λ t. by_none)
  grows_at (InTest e differs text) fits =
      by_quotes _ (InTest e differs (text ++ b ∷ [])) (Tested e differs text) (in_test e differs text b) (test_ends e differs text)
      (λ t u. record { whole = fits.whole; text = quotable_more text fits.text t u; none = fits.none; allowed = fits.allowed }) fits
  grows_at (Tested e differs text) fits = by_none

-- a byte that is taken
pub record Grown (r : Reading) (bytes : List ℕ) (s : Reading) : Type 0 where
  pub text : reading_text s ≡ reading_text r ++ bytes
  pub fits : Fits s
  pub kind : s.conditional ≡ r.conditional

pub grows : (r : Reading) (b : ℕ) (s : Reading) → Fits r → feed r b ≡ Some s → Grown r (b ∷ []) s
grows r b s fits h =
    let step = grows_at r fits.brackets fits.depth b s r.place fits.parts h in
    record { text = step.built_with; fits = step.fits; kind = step.kind }

-- bytes that are taken
pub grows_all : (r : Reading) (bytes : List ℕ) (s : Reading) → Fits r → feed_all r bytes ≡ Some s → Grown r bytes s
grows_all r [] s fits h =
    let same : r ≡ s = cc in
    subst (Grown r []) same (record { text = sym (append-nil (reading_text r)); fits = fits; kind = refl })
grows_all r (b ∷ bytes) s fits h = on (feed r b) refl (λ next. grows_all next bytes s) h
  where
    on : (o : Option Reading) → feed r b ≡ o → ((next : Reading) → Fits next → feed_all next bytes ≡ Some s → Grown next bytes s)
        → option_and_then (λ next. feed_all next bytes) o ≡ Some s → Grown r (b ∷ bytes) s
    on None is more h = let never : ⊥ = cc in absurd never
    on (Some next) is more h =
        let one = grows r b next fits is in
        let rest = more next one.fits h in
        record {
          text = rest.text ∙ ap (λ x. x ++ bytes) one.text ∙ append_assoc (reading_text r) (b ∷ []) bytes;
          fits = rest.fits;
          kind = rest.kind ∙ one.kind;
        }
