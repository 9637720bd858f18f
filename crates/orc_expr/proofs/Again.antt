-- What is written is read again.
use Rattle.std.proofs.Common.{◌≡◌, ℕ, zero, suc, ◌-◌, ◌+◌, ◌==◌, Bool, true, false, cond, not, ◌&&◌, List, [], ◌∷◌, ◌++◌, Option, Some, None, codes, refl, sym, ap, ◌∙◌, arith, append_assoc, append-nil, add-one}
use Rattle.std.specs.Option.{option_and_then}
use Rattle.std.specs.List.{list_all}
use Rattle.std.proofs.lemmas.Bool.{and_parts, false≢true, ne_eqb, not-true}
use Rattle.orc_path.specs.Alphabet.{is_name_start, is_name_byte, is_identifier, is_qualified, is_qualified_rest}
use Rattle.orc_expr.specs.Expressions.{Expression, Here, FromRoot, FromContext, Below, Where, Quoted, Front, Whole, Term, Role, is_role, is_quotable, ups_text, expression_text, Condition, condition_text}
use Rattle.orc_expr.specs.inside.Grammar.{may_test, is_read}
use Rattle.orc_expr.specs.inside.Reading.{Place, Begin, Dot, Ups, Slash, Module, Colon, RootName, FirstName, Next, LaterName, OpenAt, KeyName, InQuotes, EndQuotes, ClosedAt, Spaced, InTest, Tested, Reading, closing, feed, feed_all, start, whole_at, whole}
use Rattle.orc_expr.specs.declared.expr.Test.{Test}
use Rattle.orc_expr.specs.declared.expr.Test.TheVariants.{Any, Equals, Differs}
use Rattle.orc_expr.proofs.NameBytes.{other_byte}

abbrev pub put : Reading → Place → Reading
put r p = record r { place = p }

pub feed_all-append : (r : Reading) (xs ys : List ℕ) (s : Reading) → feed_all r xs ≡ Some s → feed_all r (xs ++ ys) ≡ feed_all s ys
feed_all-append r [] ys s h = let same : r ≡ s = cc in ap (λ t. feed_all t ys) same
feed_all-append r (x ∷ xs) ys s h = on (feed r x) (λ next. feed_all-append next xs ys s) h
  where
    on : (o : Option Reading) → ((next : Reading) → feed_all next xs ≡ Some s → feed_all next (xs ++ ys) ≡ feed_all s ys)
        → option_and_then (λ next. feed_all next xs) o ≡ Some s → option_and_then (λ next. feed_all next (xs ++ ys)) o ≡ feed_all s ys
    on None more h = let never : ⊥ = cc in absurd never
    on (Some next) more h = more next h

-- the second part is read after the first
pub both : (r : Reading) (xs ys : List ℕ) (s t : Reading) → feed_all r xs ≡ Some s → feed_all s ys ≡ Some t → feed_all r (xs ++ ys) ≡ Some t
both r xs ys s t h k = feed_all-append r xs ys s h ∙ k

one : (r : Reading) (b : ℕ) (s : Reading) → feed r b ≡ Some s → feed_all r (b ∷ []) ≡ Some s
one r b s h = ap (λ o. option_and_then (λ next. Some next) o) h

-- bytes that a place takes one by one
pub takes_all : (r : Reading) (test : ℕ → Bool) (place : List ℕ → Place)
    → ((n : List ℕ) (b : ℕ) → test b ≡ true → feed (put r (place n)) b ≡ Some (put r (place (n ++ b ∷ []))))
    → (n bytes : List ℕ) → list_all test bytes ≡ true → feed_all (put r (place n)) bytes ≡ Some (put r (place (n ++ bytes)))
takes_all r test place takes n [] h = ap (λ x. Some (put r (place x))) (sym (append-nil n))
takes_all r test place takes n (b ∷ bytes) h =
    let parts = and_parts _ _ h in
    ap (option_and_then (λ next. feed_all next bytes)) (takes n b parts.0)
    ∙ takes_all r test place takes (n ++ b ∷ []) bytes parts.1 ∙ ap (λ x. Some (put r (place x))) (append_assoc n (b ∷ []) bytes)

-- an identifier where a place takes its first byte, and names go on
identifier_on : (r : Reading) (p : Place) (place : List ℕ → Place)
    → ((b : ℕ) → is_name_start b ≡ true → feed (put r p) b ≡ Some (put r (place (b ∷ []))))
    → ((n : List ℕ) (b : ℕ) → is_name_byte b ≡ true → feed (put r (place n)) b ≡ Some (put r (place (n ++ b ∷ []))))
    → (name : List ℕ) → is_identifier name ≡ true → feed_all (put r p) name ≡ Some (put r (place name))
identifier_on r p place first more [] h = absurd (false≢true h)
identifier_on r p place first more (b ∷ bytes) h =
    let parts = and_parts _ _ h in
    ap (option_and_then (λ next. feed_all next bytes)) (first b parts.0) ∙ takes_all r is_name_byte place more (b ∷ []) bytes parts.1

module _ (r : Reading) where
  goes : (x y : Option Reading) (t : Bool) → t ≡ true → cond t x y ≡ x
  goes x y true h = refl
  goes x y false h = absurd (false≢true h)

  passes : (x y : Option Reading) (t : Bool) → t ≡ false → cond t x y ≡ y
  passes x y true h = absurd (false≢true (sym h))
  passes x y false h = refl

  root_more : (n : List ℕ) (b : ℕ) → is_name_byte b ≡ true → feed (put r (RootName n)) b ≡ Some (put r (RootName (n ++ b ∷ [])))
  root_more n b h = goes _ _ (is_name_byte b) h

  first_more : (ups : ℕ) (n : List ℕ) (b : ℕ) → is_name_byte b ≡ true → feed (put r (FirstName ups n)) b ≡ Some (put r (FirstName ups (n ++ b ∷ [])))
  first_more ups n b h = goes _ _ (is_name_byte b) h

  later_more : (e : Expression) (n : List ℕ) (b : ℕ) → is_name_byte b ≡ true → feed (put r (LaterName e n)) b ≡ Some (put r (LaterName e (n ++ b ∷ [])))
  later_more e n b h = goes _ _ (is_name_byte b) h

  key_more : (e : Expression) (n : List ℕ) (b : ℕ) → is_name_byte b ≡ true → feed (put r (KeyName e n)) b ≡ Some (put r (KeyName e (n ++ b ∷ [])))
  key_more e n b h = goes _ _ (is_name_byte b) h

  later_name : (e : Expression) (name : List ℕ) → is_identifier name ≡ true → feed_all (put r (Next e)) name ≡ Some (put r (LaterName e name))
  later_name e = identifier_on r (Next e) (LaterName e) (λ b h. goes _ _ (is_name_start b) h) (later_more e)

  key_name : (e : Expression) (name : List ℕ) → is_identifier name ≡ true → feed_all (put r (OpenAt e)) name ≡ Some (put r (KeyName e name))
  key_name e = identifier_on r (OpenAt e) (KeyName e) (λ b h. goes _ _ (is_name_start b) h) (key_more e)

  -- after so many `../`
  abbrev ups_place : ℕ → Place
  ups_place zero = Begin
  ups_place (suc ups) = Ups (suc ups)

  ups_again : (ups : ℕ) → feed_all (put r Begin) (ups_text ups) ≡ Some (put r (ups_place ups))
  ups_again zero = refl
  ups_again (suc ups) = both (put r Begin) (ups_text ups) (codes "../") (put r (ups_place ups)) _ (ups_again ups) (up ups)
    where
      up : (ups : ℕ) → feed_all (put r (ups_place ups)) (codes "../") ≡ Some (put r (Ups (suc ups)))
      up zero = refl
      up (suc ups) = ap (λ n. Some (put r (Ups n))) (add-one (suc ups))

  first_byte : (ups : ℕ) (b : ℕ) → is_name_start b ≡ true → feed (put r (ups_place ups)) b ≡ Some (put r (FirstName ups (b ∷ [])))
  first_byte zero b h =
      passes _ _ (b == 46) (other_byte is_name_start 46 refl b h)
      ∙ passes _ _ (b == 47) (other_byte is_name_start 47 refl b h)
      ∙ passes _ _ (b == 39) (other_byte is_name_start 39 refl b h)
      ∙ goes _ _ (is_name_start b) h
  first_byte (suc ups) b h = passes _ _ (b == 46) (other_byte is_name_start 46 refl b h) ∙ goes _ _ (is_name_start b) h

  first_name : (ups : ℕ) (name : List ℕ) → is_identifier name ≡ true → feed_all (put r (ups_place ups)) name ≡ Some (put r (FirstName ups name))
  first_name ups = identifier_on r (ups_place ups) (FirstName ups) (first_byte ups) (first_more ups)

  -- a name with its module
  rest_name : (done name : List ℕ) → is_qualified_rest name ≡ true → feed_all (put r (Module done)) name ≡ Some (put r (RootName (done ++ name)))
  rest_name done [] h = absurd (false≢true h)
  rest_name done (b ∷ name) h = at_byte (b == 58) refl (rest_name (done ++ b ∷ []) name) h
    where
      behind : (next : Place) (whole : List ℕ) → feed (put r (Module done)) b ≡ Some (put r next) → feed_all (put r next) name ≡ Some (put r (RootName whole))
          → whole ≡ done ++ b ∷ name → feed_all (put r (Module done)) (b ∷ name) ≡ Some (put r (RootName (done ++ b ∷ name)))
      behind next whole h k e = ap (option_and_then (λ s. feed_all s name)) h ∙ k ∙ ap (λ x. Some (put r (RootName x))) e

      colon : (name : List ℕ) → is_identifier name ≡ true → feed_all (put r (Colon (done ++ b ∷ []))) name ≡ Some (put r (RootName ((done ++ b ∷ []) ++ name)))
      colon [] h = absurd (false≢true h)
      colon (c ∷ more) h =
          let parts = and_parts _ _ h in
          ap (option_and_then (λ s. feed_all s more)) (goes _ _ (is_name_start c) parts.0)
          ∙ takes_all r is_name_byte RootName root_more ((done ++ b ∷ []) ++ c ∷ []) more parts.1
          ∙ ap (λ x. Some (put r (RootName x))) (append_assoc (done ++ b ∷ []) (c ∷ []) more)

      at_byte : (t : Bool) → (b == 58) ≡ t
          → (is_qualified_rest name ≡ true → feed_all (put r (Module (done ++ b ∷ []))) name ≡ Some (put r (RootName ((done ++ b ∷ []) ++ name))))
          → cond t (is_identifier name) (is_name_byte b && is_qualified_rest name) ≡ true
          → feed_all (put r (Module done)) (b ∷ name) ≡ Some (put r (RootName (done ++ b ∷ name)))
      at_byte true e more h = behind (Colon (done ++ b ∷ [])) _ (goes _ _ (b == 58) e) (colon name h) (append_assoc done (b ∷ []) name)
      at_byte false e more h =
          let parts = and_parts _ _ h in
          behind (Module (done ++ b ∷ [])) _ (passes _ _ (b == 58) e ∙ goes _ _ (is_name_byte b) parts.0) (more parts.1) (append_assoc done (b ∷ []) name)

  root_name : (name : List ℕ) → is_qualified name ≡ true → feed_all (put r Slash) name ≡ Some (put r (RootName name))
  root_name [] h = absurd (false≢true h)
  root_name (b ∷ name) h =
      let parts = and_parts _ _ h in
      ap (option_and_then (λ s. feed_all s name)) (goes _ _ (is_name_start b) parts.0) ∙ rest_name (b ∷ []) name parts.1

  -- texts in quotes
  abbrev quotable : ℕ → Bool
  quotable byte = not (byte == 39) && not (byte == 125)

  quote_byte : (x y : Option Reading) (b : ℕ) → quotable b ≡ true → cond (b == 39) x (cond (b == 125) None y) ≡ y
  quote_byte x y b h =
      let parts = and_parts _ _ h in
      passes _ _ (b == 39) (not-true _ parts.0) ∙ passes _ _ (b == 125) (not-true _ parts.1)

  quoted : (text : List ℕ) → is_quotable text ≡ true → feed_all (put r (InQuotes [])) text ≡ Some (put r (InQuotes text))
  quoted text h = takes_all r quotable InQuotes (λ n b k. quote_byte _ _ b k) [] text h

  tested : (e : Expression) (differs : Bool) (text : List ℕ) → is_quotable text ≡ true → feed_all (put r (InTest e differs [])) text ≡ Some (put r (InTest e differs text))
  tested e differs text h = takes_all r quotable (InTest e differs) (λ n b k. quote_byte _ _ b k) [] text h

-- where an expression leaves the reader
abbrev pub end_of : Expression → Place
end_of Here = Dot
end_of (FromRoot name) = RootName name
end_of (FromContext ups name) = FirstName ups name
end_of (Below e name) = LaterName e name
end_of (Where e key term) = ClosedAt (Where e key term)
end_of (Quoted text) = EndQuotes text

goes_behind : (r : Reading) (e : Expression) → is_role Front e ≡ true → feed (put r (end_of e)) 47 ≡ Some (put r (Next e))
goes_behind r Here h = absurd (false≢true h)
goes_behind r (FromRoot n) h = refl
goes_behind r (FromContext k n) h = refl
goes_behind r (Below e n) h = refl
goes_behind r (Where e k t) h = refl
goes_behind r (Quoted t) h = absurd (false≢true h)

opens_behind : (r : Reading) (e : Expression) → is_role Front e ≡ true → feed (put r (end_of e)) 91 ≡ Some (put r (OpenAt e))
opens_behind r Here h = absurd (false≢true h)
opens_behind r (FromRoot n) h = refl
opens_behind r (FromContext k n) h = refl
opens_behind r (Below e n) h = refl
opens_behind r (Where e k t) h = refl
opens_behind r (Quoted t) h = absurd (false≢true h)

closes_behind : (r : Reading) (e : Expression) → feed (put r (end_of e)) 93 ≡ closing r e
closes_behind r Here = refl
closes_behind r (FromRoot n) = refl
closes_behind r (FromContext k n) = refl
closes_behind r (Below e n) = refl
closes_behind r (Where e k t) = refl
closes_behind r (Quoted t) = refl

spaced_behind : (r : Reading) (e : Expression) → is_role Whole e ≡ true → feed (put r (end_of e)) 32 ≡ cond (r.conditional && (r.depth == 0)) (Some (put r (Spaced e))) None
spaced_behind r Here h = refl
spaced_behind r (FromRoot n) h = refl
spaced_behind r (FromContext k n) h = refl
spaced_behind r (Below e n) h = refl
spaced_behind r (Where e k t) h = refl
spaced_behind r (Quoted t) h = absurd (false≢true h)

-- a part of an expression is one of some role, and in quotes only in a bracket
abbrev MayStand : Reading → Role → Type 0
MayStand r Front = Unit {0}
MayStand r Whole = Unit {0}
MayStand r Term = (r.depth == 0) ≡ false

module _ (r : Reading) (e : Expression) (key : List ℕ) where
  -- after a bracket
  abbrev inner : Reading
  inner = record { conditional = r.conditional; depth = r.depth + 1; outer = record { front = e; key = key } ∷ r.outer; place = Begin }

  inner_open : (inner.depth == 0) ≡ false
  inner_open = ne_eqb (r.depth + 1) 0 (λ e. omega (arith, e))

  closed_again : (term : Expression) → closing inner term ≡ Some (put r (ClosedAt (Where e key term)))
  closed_again term =
      ap (λ t. cond t None (Some (record { conditional = r.conditional; depth = r.depth + 1 - 1; outer = r.outer; place = ClosedAt (Where e key term) }))) inner_open
      ∙ ap (λ n. Some (record { conditional = r.conditional; depth = n; outer = r.outer; place = ClosedAt (Where e key term) })) (let less : r.depth + 1 - 1 ≡ r.depth = omega arith in less)

pub expression_again : (role : Role) (e : Expression) → is_role role e ≡ true → (r : Reading) → MayStand r role → feed_all (put r Begin) (expression_text e) ≡ Some (put r (end_of e))
expression_again Front Here h r may = absurd (false≢true h)
expression_again Whole Here h r may = refl
expression_again Term Here h r may = refl
expression_again Front (Quoted text) h r may = absurd (false≢true h)
expression_again Whole (Quoted text) h r may = absurd (false≢true h)
expression_again Term (Quoted text) h r may =
    both (put r Begin) (codes "'" ++ text) (codes "'") (put r (InQuotes text)) _
    (both (put r Begin) (codes "'") text (put r (InQuotes [])) _ (one (put r Begin) 39 _ (passes r _ _ (r.depth == 0) may)) (quoted r text h))
    refl
expression_again role (FromRoot name) h r may =
    both (put r Begin) (codes "/") name (put r Slash) _ refl (root_name r name h)
expression_again role (FromContext ups name) h r may =
    both (put r Begin) (ups_text ups) name (put r (ups_place r ups)) _ (ups_again r ups) (first_name r ups name h)
expression_again role (Below e name) h r may =
    let parts = and_parts _ _ h in
    both (put r Begin) (expression_text e ++ codes "/") name (put r (Next e)) _
    (both (put r Begin) (expression_text e) (codes "/") (put r (end_of e)) _ (expression_again Front e parts.0 r tt) (one (put r (end_of e)) 47 _ (goes_behind r e parts.0)))
    (later_name r e name parts.1)
expression_again role (Where e key term) h r may =
    let parts = and_parts _ _ h in
    let front = and_parts _ _ parts.0 in
    both (put r Begin) (expression_text e ++ codes "[" ++ key ++ codes "=" ++ expression_text term) (codes "]") (put (inner r e key) (end_of term)) _
    (both (put r Begin) (expression_text e ++ codes "[" ++ key ++ codes "=") (expression_text term) (inner r e key) _
    (both (put r Begin) (expression_text e ++ codes "[" ++ key) (codes "=") (put r (KeyName e key)) _
    (both (put r Begin) (expression_text e ++ codes "[") key (put r (OpenAt e)) _
    (both (put r Begin) (expression_text e) (codes "[") (put r (end_of e)) _ (expression_again Front e front.0 r tt) (one (put r (end_of e)) 91 _ (opens_behind r e front.0)))
    (key_name r e key front.1))
    refl)
    (expression_again Term term parts.1 (inner r e key) (inner_open r e key)))
    (one (put (inner r e key) (end_of term)) 93 _ (closes_behind (inner r e key) term ∙ closed_again r e key term))

-- a condition

whole_end : (e : Expression) → is_role Whole e ≡ true → whole_at (end_of e) ≡ Some (record { look = e; test = Any })
whole_end Here h = refl
whole_end (FromRoot n) h = refl
whole_end (FromContext k n) h = refl
whole_end (Below e n) h = refl
whole_end (Where e k t) h = refl
whole_end (Quoted t) h = absurd (false≢true h)

pub record ReadAgain (conditional : Bool) (c : Condition) : Type 0 where
  pub end : Reading
  pub reads : feed_all (start conditional) (condition_text c) ≡ Some end
  pub is_whole : whole end ≡ Some c

module _ (e : Expression) (h : is_role Whole e ≡ true) where
  plain_again : (conditional : Bool) → feed_all (start conditional) (expression_text e) ≡ Some (put (start conditional) (end_of e))
  plain_again conditional = expression_again Whole e h (start conditional) tt

  any_again : (conditional : Bool) → ReadAgain conditional (record { look = e; test = Any })
  any_again conditional = record {
    end = put (start conditional) (end_of e);
    reads = both (start conditional) (expression_text e) [] _ _ (plain_again conditional) refl;
    is_whole = whole_end e h;
  }

  -- from the space on, up to the test's text
  sign_again : (differs : Bool) (sign : List ℕ)
      → feed_all (put (start true) (Spaced e)) sign ≡ Some (put (start true) (InTest e differs []))
      → (text : List ℕ) → is_quotable text ≡ true
      → feed_all (start true) (expression_text e ++ (32 ∷ sign ++ text ++ codes "'")) ≡ Some (put (start true) (Tested e differs text))
  sign_again differs sign leads text k =
      both (start true) (expression_text e) (32 ∷ sign ++ text ++ codes "'") (put (start true) (end_of e)) _ (plain_again true)
      (ap (option_and_then (λ s. feed_all s (sign ++ text ++ codes "'"))) (spaced_behind (start true) e h)
      ∙ both (put (start true) (Spaced e)) (sign ++ text) (codes "'") (put (start true) (InTest e differs text)) _
      (both (put (start true) (Spaced e)) sign text _ _ leads (tested (start true) e differs text k)) refl)

  equals_again : (text : List ℕ) → is_quotable text ≡ true → ReadAgain true (record { look = e; test = Equals text })
  equals_again text k = record {
    end = put (start true) (Tested e false text);
    reads = sign_again false (codes "= '") refl text k;
    is_whole = refl;
  }

  differs_again : (text : List ℕ) → is_quotable text ≡ true → ReadAgain true (record { look = e; test = Differs text })
  differs_again text k = record {
    end = put (start true) (Tested e true text);
    reads = sign_again true (codes "!= '") refl text k;
    is_whole = refl;
  }

pub read_again : (conditional : Bool) (c : Condition) → is_read conditional c ≡ true → ReadAgain conditional c
read_again conditional c h = by conditional c.test (and_parts _ _ h).1
  where
    by : (kind : Bool) (test : Test) → may_test kind test ≡ true → ReadAgain kind (record { look = c.look; test = test })
    by kind Any k = any_again c.look (and_parts _ _ h).0 kind
    by true (Equals text) k = equals_again c.look (and_parts _ _ h).0 text k
    by true (Differs text) k = differs_again c.look (and_parts _ _ h).0 text k
    by false (Equals text) k = absurd (false≢true k)
    by false (Differs text) k = absurd (false≢true k)
