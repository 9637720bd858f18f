-- Characters of several bytes stand in quotes alone.
use Rattle.std.proofs.Common.{◌≡◌, ◌⊎◌, inl, inr, ℕ, ◌<◌, ◌≤◌, ◌==◌, nat_le, Bool, true, false, cond, List, [], ◌∷◌, ◌++◌, Option, Some, None, length, encode_utf8, refl, sym, ap, ◌∙◌, arith}
use Rattle.std.specs.Option.{option_and_then}
use Rattle.std.specs.List.{list_all}
use Rattle.std.proofs.lemmas.Bool.{and_parts, and_right, or_from, ne_eqb, leb-true, lt-leb, cases_lt}
use Rattle.std.proofs.lemmas.Str.{encode_ascii, length-encode, len_utf8_bounds}
use Rattle.orc_path.specs.Alphabet.{is_name_start, is_name_byte}
use Rattle.orc_path.proofs.Plain.{are_wide-encode}
use Rattle.orc_expr.specs.Expressions.{Expression, Here, FromRoot, FromContext, Below}
use Rattle.orc_expr.specs.inside.Reading.{Place, Begin, Dot, Ups, UpDot, UpDots, Slash, Module, Colon, RootName, FirstName, Next, LaterName, OpenAt, KeyName, InQuotes, EndQuotes, ClosedAt, Spaced, Bang, Sign, SignSpace, InTest, Tested, Reading, ended, goes_on, in_name, starts, feed_at, feed, feed_all, place_of, reading_of}
use Rattle.orc_expr.specs.Parts.{built_of}
use Rattle.orc_expr.specs.declared.mode.Mode.{Mode}
use Rattle.orc_expr.specs.declared.mode.Mode.TheVariants as mode
use Rattle.orc_expr.specs.declared.reader.Reader.{Reader}
use Rattle.orc_expr.proofs.Again.{put, takes_all}

passes : (x y : Option Reading) (t : Bool) → t ≡ false → cond t x y ≡ y
passes x y true h = let never : ⊥ = cc in absurd never
passes x y false h = refl

abbrev wide_byte : ℕ → Bool
wide_byte byte = nat_le 128 byte

-- a place in quotes
abbrev pub is_in_quotes : Place → Bool
is_in_quotes (InQuotes text) = true
is_in_quotes (InTest e differs text) = true
is_in_quotes place = false

module _ (b : ℕ) (wide : wide_byte b ≡ true) where
  unlike : (k : ℕ) → k < 128 → (b == k) ≡ false
  unlike k low = ne_eqb b k (λ e. let high = leb-true 128 b wide in omega (arith, high, low, e))

  no_start : is_name_start b ≡ false
  no_start =
      let high = leb-true 128 b wide in
      or_from _ _ (or_from _ _ (and_right (nat_le 65 b) _ (lt-leb b 90 (omega (arith, high)))) (and_right (nat_le 97 b) _ (lt-leb b 122 (omega (arith, high))))) (unlike 95 (omega arith))

  no_byte : is_name_byte b ≡ false
  no_byte =
      let high = leb-true 128 b wide in
      or_from _ _ (or_from _ _ (or_from _ _ no_start (and_right (nat_le 48 b) _ (lt-leb b 57 (omega (arith, high))))) (unlike 45 (omega arith))) (unlike 46 (omega arith))

  module _ (r : Reading) where
    no_end : (e : Expression) → ended r e b ≡ None
    no_end e = passes _ _ (b == 93) (unlike 93 (omega arith)) ∙ passes _ _ (b == 32) (unlike 32 (omega arith))

    no_more : (e : Expression) → goes_on r e b ≡ None
    no_more e = passes _ _ (b == 91) (unlike 91 (omega arith)) ∙ passes _ _ (b == 47) (unlike 47 (omega arith)) ∙ no_end e

    no_name : (q : Place) (e : Expression) → in_name r q e b ≡ None
    no_name q e = passes _ _ (is_name_byte b) no_byte ∙ no_more e

    no_first : (q : Place) → starts r q b ≡ None
    no_first q = passes _ _ (is_name_start b) no_start

    refuses : (p : Place) → is_in_quotes p ≡ false → feed_at p r b ≡ None
    refuses Begin h = passes _ _ (b == 46) (unlike 46 (omega arith)) ∙ passes _ _ (b == 47) (unlike 47 (omega arith)) ∙ passes _ _ (b == 39) (unlike 39 (omega arith)) ∙ no_first _
    refuses Dot h = passes _ _ (b == 46) (unlike 46 (omega arith)) ∙ no_end Here
    refuses (Ups ups) h = passes _ _ (b == 46) (unlike 46 (omega arith)) ∙ no_first _
    refuses (UpDot ups) h = passes _ _ (b == 46) (unlike 46 (omega arith))
    refuses (UpDots ups) h = passes _ _ (b == 47) (unlike 47 (omega arith))
    refuses Slash h = no_first _
    refuses (Module name) h = passes _ _ (b == 58) (unlike 58 (omega arith)) ∙ passes _ _ (is_name_byte b) no_byte
    refuses (Colon name) h = no_first _
    refuses (RootName name) h = no_name _ (FromRoot name)
    refuses (FirstName ups name) h = no_name _ (FromContext ups name)
    refuses (Next e) h = no_first _
    refuses (LaterName e name) h = no_name _ (Below e name)
    refuses (OpenAt e) h = no_first _
    refuses (KeyName e key) h = passes _ _ (is_name_byte b) no_byte ∙ passes _ _ (b == 61) (unlike 61 (omega arith))
    refuses (InQuotes text) h = let never : ⊥ = cc in absurd never
    refuses (EndQuotes text) h = passes _ _ (b == 93) (unlike 93 (omega arith))
    refuses (ClosedAt e) h = no_more e
    refuses (Spaced e) h = passes _ _ (b == 61) (unlike 61 (omega arith)) ∙ passes _ _ (b == 33) (unlike 33 (omega arith))
    refuses (Bang e) h = passes _ _ (b == 61) (unlike 61 (omega arith))
    refuses (Sign e differs) h = passes _ _ (b == 32) (unlike 32 (omega arith))
    refuses (SignSpace e differs) h = passes _ _ (b == 39) (unlike 39 (omega arith))
    refuses (InTest e differs text) h = let never : ⊥ = cc in absurd never
    refuses (Tested e differs text) h = refl

quoted_byte : (x y : Option Reading) (b : ℕ) → wide_byte b ≡ true → cond (b == 39) x (cond (b == 125) None y) ≡ y
quoted_byte x y b wide = passes _ _ (b == 39) (unlike b wide 39 (omega arith)) ∙ passes _ _ (b == 125) (unlike b wide 125 (omega arith))

module _ (r : Reading) (c : ℕ) (high : 128 ≤ c) where
  -- in quotes it is taken
  pub wide_quoted : (text : List ℕ) → feed_all (put r (InQuotes text)) (encode_utf8 c) ≡ Some (put r (InQuotes (text ++ encode_utf8 c)))
  wide_quoted text = takes_all r wide_byte InQuotes (λ n b h. quoted_byte _ _ b h) text (encode_utf8 c) (are_wide-encode c high)

  pub wide_tested : (e : Expression) (differs : Bool) (text : List ℕ) → feed_all (put r (InTest e differs text)) (encode_utf8 c) ≡ Some (put r (InTest e differs (text ++ encode_utf8 c)))
  wide_tested e differs text = takes_all r wide_byte (InTest e differs) (λ n b h. quoted_byte _ _ b h) text (encode_utf8 c) (are_wide-encode c high)

  -- elsewhere its first byte is refused
  pub wide_first : is_in_quotes r.place ≡ false → (b : ℕ) (after : List ℕ) → encode_utf8 c ≡ b ∷ after → feed r b ≡ None
  wide_first h b after is = refuses b (and_parts _ _ (sym (ap (list_all wide_byte) is) ∙ are_wide-encode c high)).0 r r.place h

-- what begins a character
first_of : (xs : List ℕ) → (length xs ≡ 0 → ⊥) → (b : ℕ) × ((after : List ℕ) × (xs ≡ b ∷ after))
first_of [] h = absurd (h refl)
first_of (b ∷ after) h = (b, (after, refl))

encode_some : (c : ℕ) → length (encode_utf8 c) ≡ 0 → ⊥
encode_some c e = let l = length-encode c in let b = len_utf8_bounds c in omega (arith, l, b, e)

pub wide_refused : (r : Reading) (c : ℕ) → 128 ≤ c → is_in_quotes r.place ≡ false → feed_all r (encode_utf8 c) ≡ None
wide_refused r c high h =
    let first = first_of (encode_utf8 c) (encode_some c) in
    ap (feed_all r) first.1.1 ∙ ap (option_and_then (λ next. feed_all next first.1.0)) (wide_first r c high h first.0 first.1.0 first.1.1)

-- where a character is refused, its first byte is
pub refused_first : (r : Reading) (c : ℕ) → feed_all r (encode_utf8 c) ≡ None
    → (b : ℕ) × ((after : List ℕ) × ((encode_utf8 c ≡ b ∷ after) × (feed r b ≡ None)))
refused_first r c h = by (cases_lt c 128)
  where
    alone : (o : Option Reading) → option_and_then (λ next. Some next) o ≡ None → o ≡ None
    alone None k = refl
    alone (Some next) k = let never : ⊥ = cc in absurd never

    quoted : (t : Bool) → is_in_quotes r.place ≡ t → 128 ≤ c → is_in_quotes r.place ≡ false
    quoted false is high = is
    quoted true is high = absurd (taken r.place refl is)
      where
        taken : (p : Place) → r.place ≡ p → is_in_quotes r.place ≡ true → ⊥
        taken (InQuotes text) is k =
            let same : put r (InQuotes text) ≡ r = ap (put r) (sym is) in
            let takes = wide_quoted r c high text in
            let never : None ≡ Some (put r (InQuotes (text ++ encode_utf8 c))) = sym h ∙ ap (λ q. feed_all q (encode_utf8 c)) (sym same) ∙ takes in
            let impossible : ⊥ = cc in impossible
        taken (InTest e differs text) is k =
            let same : put r (InTest e differs text) ≡ r = ap (put r) (sym is) in
            let takes = wide_tested r c high e differs text in
            let never : None ≡ Some (put r (InTest e differs (text ++ encode_utf8 c))) = sym h ∙ ap (λ q. feed_all q (encode_utf8 c)) (sym same) ∙ takes in
            let impossible : ⊥ = cc in impossible
        taken p is k = let never : is_in_quotes p ≡ true = ap is_in_quotes (sym is) ∙ k in let impossible : ⊥ = cc in impossible

    by : (c < 128) ⊎ (128 ≤ c) → (b : ℕ) × ((after : List ℕ) × ((encode_utf8 c ≡ b ∷ after) × (feed r b ≡ None)))
    by (inl low) = (c, ([], (encode_ascii c low, alone (feed r c) (sym (ap (feed_all r) (encode_ascii c low)) ∙ h))))
    by (inr high) =
        let first = first_of (encode_utf8 c) (encode_some c) in
        (first.0, (first.1.0, (first.1.1, wide_first r c high (quoted (is_in_quotes r.place) refl high) first.0 first.1.0 first.1.1)))

-- a mode that isn't in quotes
pub out_of_quotes : (m : Mode) (now : Expression) (ups : ℕ) (name : List ℕ) (differs : Bool) (text : List ℕ)
    → (m ≡ mode.InQuotes → ⊥) → (m ≡ mode.InTest → ⊥) → is_in_quotes (place_of m now ups name differs text) ≡ false
out_of_quotes mode.Begin now ups name differs text a b = refl
out_of_quotes mode.Dot now ups name differs text a b = refl
out_of_quotes mode.Ups now ups name differs text a b = refl
out_of_quotes mode.UpDot now ups name differs text a b = refl
out_of_quotes mode.UpDots now ups name differs text a b = refl
out_of_quotes mode.Slash now ups name differs text a b = refl
out_of_quotes mode.Module now ups name differs text a b = refl
out_of_quotes mode.Colon now ups name differs text a b = refl
out_of_quotes mode.RootName now ups name differs text a b = refl
out_of_quotes mode.FirstName now ups name differs text a b = refl
out_of_quotes mode.Next now ups name differs text a b = refl
out_of_quotes mode.LaterName now ups name differs text a b = refl
out_of_quotes mode.OpenAt now ups name differs text a b = refl
out_of_quotes mode.KeyName now ups name differs text a b = refl
out_of_quotes mode.InQuotes now ups name differs text a b = absurd (a refl)
out_of_quotes mode.EndQuotes now ups name differs text a b = refl
out_of_quotes mode.ClosedAt now ups name differs text a b = refl
out_of_quotes mode.Spaced now ups name differs text a b = refl
out_of_quotes mode.Bang now ups name differs text a b = refl
out_of_quotes mode.Sign now ups name differs text a b = refl
out_of_quotes mode.SignSpace now ups name differs text a b = refl
out_of_quotes mode.InTest now ups name differs text a b = absurd (b refl)
out_of_quotes mode.Tested now ups name differs text a b = refl

-- what a reader in quotes takes
pub reader_quoted : (r : Reader) (c : ℕ) → 128 ≤ c → r.mode ≡ mode.InQuotes → (new : List ℕ) → new ≡ r.text ++ encode_utf8 c
    → feed_all (reading_of r) (encode_utf8 c) ≡ Some (reading_of (record r { text = new }))
reader_quoted r c high is new text =
    ap (λ m. feed_all (put (reading_of r) (place_of m (built_of r.parts).now r.ups r.name r.differs r.text)) (encode_utf8 c)) is
    ∙ wide_quoted (reading_of r) c high r.text
    ∙ ap (λ x. Some (put (reading_of r) (InQuotes x))) (sym text)
    ∙ ap (λ m. Some (put (reading_of r) (place_of m (built_of r.parts).now r.ups r.name r.differs new))) (sym is)

pub reader_tested : (r : Reader) (c : ℕ) → 128 ≤ c → r.mode ≡ mode.InTest → (new : List ℕ) → new ≡ r.text ++ encode_utf8 c
    → feed_all (reading_of r) (encode_utf8 c) ≡ Some (reading_of (record r { text = new }))
reader_tested r c high is new text =
    ap (λ m. feed_all (put (reading_of r) (place_of m (built_of r.parts).now r.ups r.name r.differs r.text)) (encode_utf8 c)) is
    ∙ wide_tested (reading_of r) c high (built_of r.parts).now r.differs r.text
    ∙ ap (λ x. Some (put (reading_of r) (InTest (built_of r.parts).now r.differs x))) (sym text)
    ∙ ap (λ m. Some (put (reading_of r) (place_of m (built_of r.parts).now r.ups r.name r.differs new))) (sym is)

pub reader_refuses : (r : Reader) (c : ℕ) → 128 ≤ c → (r.mode ≡ mode.InQuotes → ⊥) → (r.mode ≡ mode.InTest → ⊥) → feed_all (reading_of r) (encode_utf8 c) ≡ None
reader_refuses r c high a b = wide_refused (reading_of r) c high (out_of_quotes r.mode (built_of r.parts).now r.ups r.name r.differs r.text a b)
