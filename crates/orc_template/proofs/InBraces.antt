-- The text of an expression has no closing brace, and begins with no opening one.
use Rattle.std.proofs.Common.{◌≡◌, ℕ, zero, suc, ◌<◌, ◌==◌, Bool, true, false, not, ◌&&◌, cond, List, [], ◌∷◌, ◌++◌, encode_utf8, encode_utf8_all, codes, refl, sym, ap, subst, ◌∙◌, append_assoc, arith}
use Rattle.std.specs.List.{list_all}
use Rattle.std.specs.Str.{chars}
use Rattle.std.proofs.lemmas.Bool.{eqb-true, and_parts, and_from, false≢true}
use Rattle.std.proofs.lemmas.Str.{encode_ascii, encodes-chars}
use Rattle.orc_path.specs.Alphabet.{is_name_start, is_name_byte, is_identifier, is_qualified, is_qualified_rest}
use Rattle.orc_expr.specs.Expressions.{Expression, Here, FromRoot, FromContext, Below, Where, Quoted, Role, Front, Whole, Term, is_quotable, is_term, is_role, ups_text, expression_text}
use Rattle.orc_template.specs.Spelled.{begins_with_brace, ExpressionsFitInBraces}

abbrev has_none : List ℕ → Bool
has_none bytes = list_all (λ byte. not (byte == 125)) bytes

none_append : (xs ys : List ℕ) → has_none xs ≡ true → has_none ys ≡ true → has_none (xs ++ ys) ≡ true
none_append [] ys h k = k
none_append (x ∷ xs) ys h k = let parts = and_parts _ _ h in and_from _ _ parts.0 (none_append xs ys parts.1 k)

none_parts : (xs ys : List ℕ) → has_none (xs ++ ys) ≡ true → (has_none xs ≡ true) × (has_none ys ≡ true)
none_parts [] ys h = (refl, h)
none_parts (x ∷ xs) ys h =
    let parts = and_parts _ _ h in
    let later = none_parts xs ys parts.1 in
    (and_from _ _ parts.0 later.0, later.1)

-- Names

start_is_none : (b : ℕ) → is_name_start b ≡ true → not (b == 125) ≡ true
start_is_none b h = grind arith

byte_is_none : (b : ℕ) → is_name_byte b ≡ true → not (b == 125) ≡ true
byte_is_none b h = grind arith

colon_is_none : (b : ℕ) → (b == 58) ≡ true → not (b == 125) ≡ true
colon_is_none b h = grind arith

start_is_no_brace : (b : ℕ) → is_name_start b ≡ true → (b == 123) ≡ false
start_is_no_brace b h = grind arith

bytes_none : (bs : List ℕ) → list_all is_name_byte bs ≡ true → has_none bs ≡ true
bytes_none [] h = refl
bytes_none (b ∷ bs) h = let parts = and_parts _ _ h in and_from _ _ (byte_is_none b parts.0) (bytes_none bs parts.1)

identifier_none : (bs : List ℕ) → is_identifier bs ≡ true → has_none bs ≡ true
identifier_none [] h = refl
identifier_none (b ∷ bs) h = let parts = and_parts _ _ h in and_from _ _ (start_is_none b parts.0) (bytes_none bs parts.1)

rest_none : (bs : List ℕ) → is_qualified_rest bs ≡ true → has_none bs ≡ true
rest_none [] h = refl
rest_none (b ∷ bs) h = on (b == 58) refl (rest_none bs) h
  where
    on : (t : Bool) → (b == 58) ≡ t → (is_qualified_rest bs ≡ true → has_none bs ≡ true) → cond t (is_identifier bs) (is_name_byte b && is_qualified_rest bs) ≡ true → has_none (b ∷ bs) ≡ true
    on true e more k = and_from _ _ (colon_is_none b e) (identifier_none bs k)
    on false e more k = let parts = and_parts (is_name_byte b) (is_qualified_rest bs) k in and_from _ _ (byte_is_none b parts.0) (more parts.1)

qualified_none : (bs : List ℕ) → is_qualified bs ≡ true → has_none bs ≡ true
qualified_none [] h = refl
qualified_none (b ∷ bs) h = let parts = and_parts _ _ h in and_from _ _ (start_is_none b parts.0) (rest_none bs parts.1)

quotable_none : (bs : List ℕ) → is_quotable bs ≡ true → has_none bs ≡ true
quotable_none [] h = refl
quotable_none (b ∷ bs) h = let parts = and_parts _ _ h in and_from _ _ (and_parts _ _ parts.0).1 (quotable_none bs parts.1)

ups_none : (ups : ℕ) → has_none (ups_text ups) ≡ true
ups_none zero = refl
ups_none (suc ups) = none_append (ups_text ups) (codes "../") (ups_none ups) refl

text_none : (e : Expression) (role : Role) → is_role role e ≡ true → has_none (expression_text e) ≡ true
text_none Here role h = refl
text_none (FromRoot name) role h = none_append (codes "/") name refl (qualified_none name h)
text_none (FromContext ups name) role h = none_append (ups_text ups) name (ups_none ups) (identifier_none name h)
text_none (Below front name) role h =
    let parts = and_parts (is_role Front front) (is_identifier name) h in
    none_append (expression_text front ++ codes "/") name (none_append (expression_text front) (codes "/") (text_none front Front parts.0) refl) (identifier_none name parts.1)
text_none (Where front key term) role h =
    let parts = and_parts (is_role Front front && is_identifier key) (is_role Term term) h in
    let named = and_parts (is_role Front front) (is_identifier key) parts.0 in
    let text = expression_text front in
    let inner = expression_text term in
    none_append ((((text ++ codes "[") ++ key) ++ codes "=") ++ inner) (codes "]")
    (none_append (((text ++ codes "[") ++ key) ++ codes "=") inner
    (none_append ((text ++ codes "[") ++ key) (codes "=") (none_append (text ++ codes "[") key (none_append text (codes "[") (text_none front Front named.0) refl) (identifier_none key named.1)) refl)
    (text_none term Term parts.1)) refl
text_none (Quoted text) role h =
    let parts = and_parts (is_term role) (is_quotable text) h in
    none_append (codes "'" ++ text) (codes "'") (none_append (codes "'") text refl (quotable_none text parts.1)) refl

-- The first byte

record Begins (text : List ℕ) : Type 0 where
  first : ℕ
  rest : List ℕ
  is : text ≡ first ∷ rest
  no_brace : (first == 123) ≡ false

begins_append : (xs ys : List ℕ) → Begins xs → Begins (xs ++ ys)
begins_append xs ys h = record { first = h.first; rest = h.rest ++ ys; is = ap (λ x. x ++ ys) h.is; no_brace = h.no_brace }

begins_with : (b : ℕ) (rest : List ℕ) → (b == 123) ≡ false → Begins (b ∷ rest)
begins_with b rest h = record { first = b; rest = rest; is = refl; no_brace = h }

identifier_begins : (bs : List ℕ) → is_identifier bs ≡ true → Begins bs
identifier_begins [] h = absurd (false≢true h)
identifier_begins (b ∷ bs) h = begins_with b bs (start_is_no_brace b (and_parts _ _ h).0)

ups_begin : (ups : ℕ) (rest : List ℕ) → Begins rest → Begins (ups_text ups ++ rest)
ups_begin zero rest h = h
ups_begin (suc ups) rest h = subst Begins (sym (append_assoc (ups_text ups) (codes "../") rest)) (ups_begin ups (codes "../" ++ rest) (begins_with 46 (46 ∷ 47 ∷ rest) refl))

text_begins : (e : Expression) (role : Role) → is_term role ≡ false → is_role role e ≡ true → Begins (expression_text e)
text_begins Here role alone h = begins_with 46 [] refl
text_begins (FromRoot name) role alone h = begins_with 47 name refl
text_begins (FromContext ups name) role alone h = ups_begin ups name (identifier_begins name h)
text_begins (Below front name) role alone h =
    let parts = and_parts (is_role Front front) (is_identifier name) h in
    begins_append (expression_text front ++ codes "/") name (begins_append (expression_text front) (codes "/") (text_begins front Front refl parts.0))
text_begins (Where front key term) role alone h =
    let parts = and_parts (is_role Front front && is_identifier key) (is_role Term term) h in
    let named = and_parts (is_role Front front) (is_identifier key) parts.0 in
    let text = expression_text front in
    begins_append ((((text ++ codes "[") ++ key) ++ codes "=") ++ expression_text term) (codes "]")
    (begins_append (((text ++ codes "[") ++ key) ++ codes "=") (expression_text term)
    (begins_append ((text ++ codes "[") ++ key) (codes "=") (begins_append (text ++ codes "[") key (begins_append text (codes "[") (text_begins front Front refl named.0)))))
text_begins (Quoted text) role alone h = absurd (false≢true (sym alone ∙ (and_parts (is_term role) (is_quotable text) h).0))

-- Where the bytes of a text have no closing brace, its characters have none either.

brace_alone : (b c : ℕ) → b < 128 → (c == b) ≡ true → encode_utf8 c ≡ b ∷ []
brace_alone b c low is = ap encode_utf8 (eqb-true c b is) ∙ encode_ascii b low

characters_none : (cs : List ℕ) → has_none (encode_utf8_all cs) ≡ true → has_none cs ≡ true
characters_none [] h = refl
characters_none (c ∷ cs) h = and_from _ _ (on (c == 125) refl) (characters_none cs parts.1)
  where
    parts : (has_none (encode_utf8 c) ≡ true) × (has_none (encode_utf8_all cs) ≡ true)
    parts = none_parts (encode_utf8 c) (encode_utf8_all cs) h

    on : (t : Bool) → (c == 125) ≡ t → not (c == 125) ≡ true
    on true e = absurd (false≢true (sym (ap has_none (brace_alone 125 c (omega arith) e)) ∙ parts.0))
    on false e = ap not e

characters_begin : (cs : List ℕ) → Begins (encode_utf8_all cs) → begins_with_brace cs ≡ false
characters_begin [] h = refl
characters_begin (c ∷ cs) h = on (c == 123) refl
  where
    on : (t : Bool) → (c == 123) ≡ t → (c == 123) ≡ false
    on true e =
        let same : 123 ∷ encode_utf8_all cs ≡ h.first ∷ h.rest = sym (ap (λ x. x ++ encode_utf8_all cs) (brace_alone 123 c (omega arith) e)) ∙ h.is in
        let first : 123 ≡ h.first = cc in
        let brace : (123 == 123) ≡ false = ap (λ b. b == 123) first ∙ h.no_brace in
        absurd (false≢true (sym brace))
    on false e = e

pub expression_fits : ExpressionsFitInBraces
expression_fits e is utf8 =
    let text = expression_text e in
    let spelled = encodes-chars text utf8 in
    and_from _ _
    (ap not (characters_begin (chars text) (subst Begins (sym spelled) (text_begins e Whole refl is))))
    (characters_none (chars text) (subst (λ x. has_none x ≡ true) (sym spelled) (text_none e Whole is)))
