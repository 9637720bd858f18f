-- Reading a value character by character.
use Rattle.std.proofs.Common.{◌≡◌, ℕ, ◌<◌, Bool, true, false, not, cond, List, [], ◌∷◌, ◌++◌, Some, None, Option, is_some, length, get_or, map, chars, encode_utf8, IsUtf8, refl, sym, ap, ◌∙◌, arith, append-nil}
use Rattle.std.specs.List.{list_all}
use Rattle.std.proofs.lemmas.List.{nil_from_length}
use Rattle.std.proofs.lemmas.Str.{encode_ascii}
use Rattle.orc_text.specs.Characters.{is_plain_character, is_plain_text}
use Rattle.orc_text.proofs.Characters.{not_plain_at, plain_all}
use Rattle.orc_path.specs.Values.{value_of}
use Rattle.orc_path.specs.inside.ValueReading.{value_unescape, is_never_raw, unescaped, led, behind, ahead}
use Rattle.orc_path.specs.declared.value.ValueReader.{ValueReader}
use Rattle.orc_path.proofs.Values.{value_of-plain, value_of-not_plain, value_of-unescaped, is_marked, led_led, meaning_low, unescaped_character, unescaped_raw_none, unescaped_backslash, unescaped_meant, unescaped_none}

-- whether a text goes on as one

some_led : (xs : List ℕ) (o : Option (List ℕ)) → is_some (led xs o) ≡ is_some o
some_led xs None = refl
some_led xs (Some bytes) = refl

unmarked : (c : ℕ) → (c ≡ 92 → ⊥) → is_never_raw c ≡ false → is_marked c ≡ false
unmarked c n h = grind arith

-- whether what is left means something
abbrev GoesOn : Bool → List ℕ → Bool
GoesOn is_escaped rest = is_some (behind is_escaped rest)

module _ (t : Bool) (c : ℕ) (rest : List ℕ) where
  pub next_meant : (m : ℕ) → t ≡ true → value_unescape c ≡ Some m → GoesOn t (encode_utf8 c ++ rest) ≡ GoesOn false rest
  next_meant m is_so is =
      ap (λ u. GoesOn u (encode_utf8 c ++ rest)) is_so ∙ ap is_some (unescaped_meant c m rest is) ∙ some_led (m ∷ []) (unescaped rest)

  pub next_none : t ≡ true → value_unescape c ≡ None → GoesOn t (encode_utf8 c ++ rest) ≡ false
  next_none is_so is = ap (λ u. GoesOn u (encode_utf8 c ++ rest)) is_so ∙ ap is_some (unescaped_none c rest is)

  pub next_backslash : t ≡ false → c ≡ 92 → GoesOn t (encode_utf8 c ++ rest) ≡ GoesOn true rest
  next_backslash no_escape is =
      ap (λ u. GoesOn u (encode_utf8 c ++ rest)) no_escape
      ∙ ap (λ x. is_some (unescaped (encode_utf8 x ++ rest))) is ∙ ap (λ x. is_some (unescaped x)) (unescaped_backslash rest)

  pub next_never : t ≡ false → is_never_raw c ≡ true → GoesOn t (encode_utf8 c ++ rest) ≡ false
  next_never no_escape is = ap (λ u. GoesOn u (encode_utf8 c ++ rest)) no_escape ∙ ap is_some (unescaped_raw_none c rest is)

  pub next_raw : t ≡ false → (c ≡ 92 → ⊥) → is_never_raw c ≡ false → GoesOn t (encode_utf8 c ++ rest) ≡ GoesOn false rest
  next_raw no_escape no_backslash is =
      ap (λ u. GoesOn u (encode_utf8 c ++ rest)) no_escape
      ∙ ap is_some (unescaped_character c rest (unmarked c no_backslash is)) ∙ some_led (encode_utf8 c) (unescaped rest)

-- at the end
pub nothing_left : (t : Bool) (rest : List ℕ) → length rest ≡ 0 → GoesOn t rest ≡ not t
nothing_left true rest e = ap (λ x. GoesOn true x) (nil_from_length rest e)
nothing_left false rest e = ap (λ x. GoesOn false x) (nil_from_length rest e)

module _ (r : ValueReader) where
  escaped : (rest : List ℕ) → r.is_escaped ≡ true → ahead r rest ≡ led r.value (unescaped (92 ∷ rest))
  escaped rest is_so = ap (λ t. led r.value (unescaped (cond t (92 ∷ rest) rest))) is_so

  plain : (rest : List ℕ) → r.is_escaped ≡ false → ahead r rest ≡ led r.value (unescaped rest)
  plain rest no_escape = ap (λ t. led r.value (unescaped (cond t (92 ∷ rest) rest))) no_escape

  -- after a backslash
  pub ahead_meant : (c m : ℕ) (value rest : List ℕ) → r.is_escaped ≡ true → value_unescape c ≡ Some m → value ≡ r.value ++ encode_utf8 m
      → ahead r (encode_utf8 c ++ rest) ≡ ahead (record { value = value; is_escaped = false }) rest
  ahead_meant c m value rest is_so is pushed =
      escaped (encode_utf8 c ++ rest) is_so ∙ ap (led r.value) (unescaped_meant c m rest is) ∙ led_led r.value (m ∷ []) (unescaped rest)
      ∙ ap (λ v. led v (unescaped rest)) (ap (λ x. r.value ++ x) (sym (encode_ascii m (meaning_low c m is))) ∙ sym pushed)

  pub ahead_none : (c : ℕ) (rest : List ℕ) → r.is_escaped ≡ true → value_unescape c ≡ None → ahead r (encode_utf8 c ++ rest) ≡ None
  ahead_none c rest is_so is = escaped (encode_utf8 c ++ rest) is_so ∙ ap (led r.value) (unescaped_none c rest is)

  -- elsewhere
  pub ahead_backslash : (c : ℕ) (rest : List ℕ) → r.is_escaped ≡ false → c ≡ 92 → ahead r (encode_utf8 c ++ rest) ≡ ahead (record { value = r.value; is_escaped = true }) rest
  ahead_backslash c rest no_escape is =
      plain (encode_utf8 c ++ rest) no_escape ∙ ap (λ x. led r.value (unescaped (encode_utf8 x ++ rest))) is ∙ ap (λ x. led r.value (unescaped x)) (unescaped_backslash rest)

  pub ahead_never : (c : ℕ) (rest : List ℕ) → r.is_escaped ≡ false → is_never_raw c ≡ true → ahead r (encode_utf8 c ++ rest) ≡ None
  ahead_never c rest no_escape is = plain (encode_utf8 c ++ rest) no_escape ∙ ap (led r.value) (unescaped_raw_none c rest is)

  pub ahead_raw : (c : ℕ) (value rest : List ℕ) → r.is_escaped ≡ false → (c ≡ 92 → ⊥) → is_never_raw c ≡ false → value ≡ r.value ++ encode_utf8 c
      → ahead r (encode_utf8 c ++ rest) ≡ ahead (record { value = value; is_escaped = r.is_escaped }) rest
  ahead_raw c value rest no_escape no_backslash is pushed =
      plain (encode_utf8 c ++ rest) no_escape ∙ ap (led r.value) (unescaped_character c rest (unmarked c no_backslash is)) ∙ led_led r.value (encode_utf8 c) (unescaped rest)
      ∙ ap (λ v. led v (unescaped rest)) (sym pushed) ∙ ap (λ t. led value (unescaped (cond t (92 ∷ rest) rest))) (sym no_escape)

  -- at the end
  pub ahead_end_escaped : (rest : List ℕ) → length rest ≡ 0 → r.is_escaped ≡ true → ahead r rest ≡ None
  ahead_end_escaped rest e is_so = escaped rest is_so ∙ ap (λ x. led r.value (unescaped (92 ∷ x))) (nil_from_length rest e)

  pub ahead_end : (rest : List ℕ) → length rest ≡ 0 → r.is_escaped ≡ false → ahead r rest ≡ Some r.value
  ahead_end rest e no_escape = plain rest no_escape ∙ ap (λ x. led r.value (unescaped x)) (nil_from_length rest e) ∙ ap Some (append-nil r.value)

-- at the start
pub ahead_first : (value text : List ℕ) → value ≡ [] → ahead (record { value = value; is_escaped = false }) text ≡ unescaped text
ahead_first value text is = ap (λ v. led v (unescaped text)) is ∙ all (unescaped text)
  where
    all : (o : Option (List ℕ)) → led [] o ≡ o
    all None = refl
    all (Some bytes) = refl

-- whether a text is a value's

module _ (text : List ℕ) where
  -- a character stands in it that no value has
  pub none_at : (n c : ℕ) → IsUtf8 text → n < length (chars text) → c ≡ get_or (chars text) n c → is_plain_character c ≡ false → false ≡ is_some (value_of text)
  none_at n c u lt at h = sym (ap is_some (value_of-not_plain text (not_plain_at text u n c lt at h)))

  -- its escapes can't be read
  pub none_read : is_some (unescaped text) ≡ false → false ≡ is_some (value_of text)
  none_read h = by (is_plain_text text) refl
    where
      by : (t : Bool) → is_plain_text text ≡ t → false ≡ is_some (value_of text)
      by true e = sym (ap is_some (value_of-unescaped text e h))
      by false e = sym (ap is_some (value_of-not_plain text e))

  -- all its characters are those of values
  pub read_alike : (cs : List ℕ) → IsUtf8 text → map (λ c. c) cs ≡ chars text → list_all is_plain_character cs ≡ true → is_some (unescaped text) ≡ is_some (value_of text)
  read_alike cs u all h = sym (ap is_some (value_of-plain text (plain_all text u cs all h)))

  -- it is one
  pub value_read : is_some (value_of text) ≡ true → value_of text ≡ unescaped text
  value_read h = by (is_plain_text text) refl
    where
      none : value_of text ≡ None → value_of text ≡ unescaped text
      none e = let not_so : false ≡ true = sym (ap is_some e) ∙ h in let no_way : ⊥ = cc in absurd no_way

      by : (t : Bool) → is_plain_text text ≡ t → value_of text ≡ unescaped text
      by true e = value_of-plain text e
      by false e = none (value_of-not_plain text e)

  pub value_none : false ≡ is_some (value_of text) → None ≡ value_of text
  value_none h = by (value_of text) (sym h)
    where
      by : (o : Option (List ℕ)) → is_some o ≡ false → None ≡ o
      by None e = refl
      by (Some v) e = let not_so : ⊥ = cc in absurd not_so
