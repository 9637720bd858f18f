-- A text is read as a value exactly where it is the text of that value.
use Rattle.std.proofs.Common.{◌≡◌, ℕ, ◌<◌, ◌≤◌, Bool, true, false, ◌==◌, ◌||◌, ◌&&◌, nat_eq, cond, List, [], ◌∷◌, ◌++◌, Some, None, Option, is_some, encode_utf8, encode_utf8_all, chars, refl, sym, ap, ap₂, subst, ◌∙◌, arith, append_assoc}
use Rattle.std.proofs.Math.Dec.{ltb}
use Rattle.std.specs.List.{flat_map, list_all}
use Rattle.std.specs.Str.{all_scalars}
use Rattle.std.specs.Char.{IsScalar}
use Rattle.std.proofs.lemmas.Bool.{and_parts, and_from, leb-true, ltb-true, ltb-false}
use Rattle.std.proofs.lemmas.Grind.{flat_map-append}
use Rattle.std.proofs.lemmas.Str.{encode_ascii}
use Rattle.orc_text.specs.Characters.{is_plain_character, is_plain_text}
use Rattle.orc_path.specs.Alphabet.{is_value}
use Rattle.orc_path.specs.Texts.{value_escape, value_text}
use Rattle.orc_path.specs.Values.{value_bytes, value_with, value_of}
use Rattle.orc_path.specs.inside.Reading.{is_key_byte}
use Rattle.orc_path.specs.inside.ValueReading.{value_unescape, led_by, led_by_meant, is_never_raw, unescaped, led}
use Rattle.std.specs.Cmp.Lexicographic.{pointwise, bytes_decides}
use Rattle.orc_path.proofs.Parts.{none_given}
use Rattle.orc_path.proofs.Encoded.{are_wide}
use Rattle.orc_text.proofs.Plain.{is_plain_text-nil, is_plain_text-append, is_plain_text-encode, spelled}
use Rattle.orc_path.proofs.Plain.{is_plain_text-byte, are_wide-encode}
use Rattle.orc_path.proofs.Characters.{is_plain_text-value_text}
use Rattle.orc_path.proofs.Written.{value_escaped_low, value_escaped_high}
use Rattle.orc_path.proofs.Behind.{some_same, encode_some}

-- tab, line feed and carriage return never stand raw, and neither does a backslash
abbrev pub is_marked : ℕ → Bool
is_marked b = (b == 92) || is_never_raw b

-- bytes

unescaped_raw : (b : ℕ) (rest : List ℕ) → is_marked b ≡ false → unescaped (b ∷ rest) ≡ led_by b (unescaped rest)
unescaped_raw b [] h = raw_end b h
  where
    raw_end : (b : ℕ) → is_marked b ≡ false → unescaped (b ∷ []) ≡ Some (b ∷ [])
    raw_end b h = grind arith
unescaped_raw b (next ∷ rest) h = raw_next b h (led_by_meant (value_unescape next) (unescaped rest)) (led_by b (unescaped (next ∷ rest)))
  where
    raw_next : (b : ℕ) → is_marked b ≡ false → (x y : Option (List ℕ)) → cond (b == 92) x (cond (is_never_raw b) None y) ≡ y
    raw_next b h x y = grind arith

raw_none : (b : ℕ) (rest : List ℕ) → is_never_raw b ≡ true → unescaped (b ∷ rest) ≡ None
raw_none b [] h = end_none b h
  where
    end_none : (b : ℕ) → is_never_raw b ≡ true → unescaped (b ∷ []) ≡ None
    end_none b h = grind arith
raw_none b (next ∷ rest) h = next_none b h (led_by_meant (value_unescape next) (unescaped rest)) (led_by b (unescaped (next ∷ rest)))
  where
    next_none : (b : ℕ) → is_never_raw b ≡ true → (x y : Option (List ℕ)) → cond (b == 92) x (cond (is_never_raw b) None y) ≡ None
    next_none b h x y = grind arith

-- bytes before others

pub led_led : (xs ys : List ℕ) (o : Option (List ℕ)) → led xs (led ys o) ≡ led (xs ++ ys) o
led_led xs ys None = refl
led_led xs ys (Some more) = ap Some (sym (append_assoc xs ys more))

led_nil : (o : Option (List ℕ)) → o ≡ led [] o
led_nil None = refl
led_nil (Some more) = refl

wide_is_raw : (b : ℕ) → 128 ≤ b → is_marked b ≡ false
wide_is_raw b l = grind arith

wide_unescaped : (bs rest : List ℕ) → are_wide bs ≡ true → unescaped (bs ++ rest) ≡ led bs (unescaped rest)
wide_unescaped [] rest h = led_nil (unescaped rest)
wide_unescaped (b ∷ bs) rest h =
    let parts = and_parts _ _ h in
    unescaped_raw b (bs ++ rest) (wide_is_raw b (leb-true 128 b parts.0))
    ∙ ap (led_by b) (wide_unescaped bs rest parts.1) ∙ led_led (b ∷ []) bs (unescaped rest)

-- characters

low : (c : ℕ) (rest : List ℕ) → c < 128 → encode_utf8 c ++ rest ≡ c ∷ rest
low c rest l = ap (λ x. x ++ rest) (encode_ascii c l)

-- one that stands for itself
pub unescaped_character : (c : ℕ) (rest : List ℕ) → is_marked c ≡ false → unescaped (encode_utf8 c ++ rest) ≡ led (encode_utf8 c) (unescaped rest)
unescaped_character c rest h = by (ltb c 128) refl
  where
    by : (t : Bool) → ltb c 128 ≡ t → unescaped (encode_utf8 c ++ rest) ≡ led (encode_utf8 c) (unescaped rest)
    by true e =
        let l = ltb-true c 128 e in
        ap unescaped (low c rest l) ∙ unescaped_raw c rest h ∙ ap (λ xs. led xs (unescaped rest)) (sym (encode_ascii c l))
    by false e = wide_unescaped (encode_utf8 c) rest (are_wide-encode c (ltb-false c 128 e))

raw_is_low : (c : ℕ) → is_never_raw c ≡ true → c < 128
raw_is_low c h = grind arith

-- one that never stands raw
pub unescaped_raw_none : (c : ℕ) (rest : List ℕ) → is_never_raw c ≡ true → unescaped (encode_utf8 c ++ rest) ≡ None
unescaped_raw_none c rest h = ap unescaped (low c rest (raw_is_low c h)) ∙ raw_none c rest h

-- a backslash
pub unescaped_backslash : (rest : List ℕ) → encode_utf8 92 ++ rest ≡ 92 ∷ rest
unescaped_backslash rest = low 92 rest (omega arith)

meaning_is_low : (c m : ℕ) → value_unescape c ≡ Some m → c < 128
meaning_is_low c m h = grind arith

-- and what it means with the character after it
pub unescaped_meant : (c m : ℕ) (rest : List ℕ) → value_unescape c ≡ Some m → unescaped (92 ∷ (encode_utf8 c ++ rest)) ≡ led (m ∷ []) (unescaped rest)
unescaped_meant c m rest h = ap (λ x. unescaped (92 ∷ x)) (low c rest (meaning_is_low c m h)) ∙ ap (λ o. led_by_meant o (unescaped rest)) h

high_means_none : (b : ℕ) → 128 ≤ b → value_unescape b ≡ None
high_means_none b l = grind arith

none_meant : (bs rest : List ℕ) (b : ℕ) → value_unescape b ≡ None → unescaped (92 ∷ b ∷ rest) ≡ None
none_meant bs rest b h = ap (λ o. led_by_meant o (unescaped rest)) h

pub unescaped_none : (c : ℕ) (rest : List ℕ) → value_unescape c ≡ None → unescaped (92 ∷ (encode_utf8 c ++ rest)) ≡ None
unescaped_none c rest h = by (ltb c 128) refl
  where
    wide_none : (bs : List ℕ) → are_wide bs ≡ true → (bs ≡ [] → ⊥) → unescaped (92 ∷ (bs ++ rest)) ≡ None
    wide_none [] w some = absurd (some refl)
    wide_none (b ∷ bs) w some = none_meant bs (bs ++ rest) b (high_means_none b (leb-true 128 b (and_parts _ _ w).0))

    by : (t : Bool) → ltb c 128 ≡ t → unescaped (92 ∷ (encode_utf8 c ++ rest)) ≡ None
    by true e = ap (λ x. unescaped (92 ∷ x)) (low c rest (ltb-true c 128 e)) ∙ none_meant [] rest c h
    by false e = wide_none (encode_utf8 c) (are_wide-encode c (ltb-false c 128 e)) (encode_some c)

-- the text is read as the value

escape_again : (b : ℕ) (rest : List ℕ) → unescaped (value_escape b ++ rest) ≡ led_by b (unescaped rest)
escape_again b rest = by (b == 92) refl (b == 9) refl (b == 10) refl (b == 13) refl
  where
    same : (n : ℕ) → (b == n) ≡ true → led_by n (unescaped rest) ≡ led_by b (unescaped rest)
    same n e = let is : n ≡ b = grind arith in ap (λ x. led_by x (unescaped rest)) is

    unlike : (b == 92) ≡ false → (b == 9) ≡ false → (b == 10) ≡ false → (b == 13) ≡ false → is_marked b ≡ false
    unlike p q r s = grind arith

    by : (t : Bool) → (b == 92) ≡ t → (u : Bool) → (b == 9) ≡ u → (v : Bool) → (b == 10) ≡ v → (w : Bool) → (b == 13) ≡ w
        → unescaped (cond t (92 ∷ 92 ∷ []) (cond u (92 ∷ 116 ∷ []) (cond v (92 ∷ 110 ∷ []) (cond w (92 ∷ 114 ∷ []) (b ∷ [])))) ++ rest) ≡ led_by b (unescaped rest)
    by true p u q v r w s = same 92 p
    by false p true q v r w s = same 9 q
    by false p false q true r w s = same 10 r
    by false p false q false r true s = same 13 s
    by false p false q false r false s = unescaped_raw b rest (unlike p q r s)

pub text_again : (value : List ℕ) → unescaped (value_text value) ≡ Some value
text_again [] = refl
text_again (b ∷ value) = escape_again b (value_text value) ∙ ap (led_by b) (text_again value)

-- what is read
abbrev read_as : List ℕ → Option (List ℕ)
read_as text = cond (is_plain_text text) (unescaped text) None

read_again : (value : List ℕ) → is_value value ≡ true → read_as (value_text value) ≡ Some value
read_again value h = ap (λ t. cond t (unescaped (value_text value)) None) (is_plain_text-value_text value h) ∙ text_again value

-- what is read as a value is its text

abbrev IsReadFrom : List ℕ → List ℕ → Type 0
IsReadFrom text value = (value_text value ≡ text) × (is_plain_text value ≡ true)

led_some : (xs : List ℕ) (o : Option (List ℕ)) (v : List ℕ) → led xs o ≡ Some v → (more : List ℕ) × (o ≡ Some more) × (xs ++ more ≡ v)
led_some xs None v e = none_given _ v e
led_some xs (Some more) v e = (more, refl, some_same e)

raw_text : (c : ℕ) → is_marked c ≡ false → flat_map value_escape (encode_utf8 c) ≡ encode_utf8 c
raw_text c h = by (ltb c 128) refl
  where
    alone : (c : ℕ) → is_marked c ≡ false → value_escape c ≡ c ∷ []
    alone c h = grind arith

    by : (t : Bool) → ltb c 128 ≡ t → flat_map value_escape (encode_utf8 c) ≡ encode_utf8 c
    by true e = let l = ltb-true c 128 e in value_escaped_low c l ∙ alone c h ∙ sym (encode_ascii c l)
    by false e = value_escaped_high c (ltb-false c 128 e)

raw_step : (c : ℕ) (rest v : List ℕ) → is_marked c ≡ false → IsScalar c → is_plain_character c ≡ true → ((w : List ℕ) → unescaped rest ≡ Some w → IsReadFrom rest w)
    → unescaped (encode_utf8 c ++ rest) ≡ Some v → IsReadFrom (encode_utf8 c ++ rest) v
raw_step c rest v raw scalar plain more e =
    let parts = led_some (encode_utf8 c) (unescaped rest) v (sym (unescaped_character c rest raw) ∙ e) in
    let so = more parts.0 parts.1 in
    subst (IsReadFrom (encode_utf8 c ++ rest)) parts.2 (
      flat_map-append value_escape (encode_utf8 c) parts.0 ∙ ap₂ (λ x y. x ++ y) (raw_text c raw) so.0,
      is_plain_text-append (encode_utf8 c) parts.0 (is_plain_text-encode c scalar plain) so.1,
    )

meaning_text : (d m : ℕ) → value_unescape d ≡ Some m → value_escape m ≡ 92 ∷ d ∷ []
meaning_text d m h = grind arith

pub meaning_low : (d m : ℕ) → value_unescape d ≡ Some m → m < 128
meaning_low d m h = grind arith

meaning_plain : (d m : ℕ) → value_unescape d ≡ Some m → is_key_byte m ≡ true
meaning_plain d m h = grind arith

meant_step : (o : Option ℕ) (d : ℕ) (rest v : List ℕ) → value_unescape d ≡ o → ((w : List ℕ) → unescaped rest ≡ Some w → IsReadFrom rest w)
    → unescaped (92 ∷ (encode_utf8 d ++ rest)) ≡ Some v → IsReadFrom (92 ∷ (encode_utf8 d ++ rest)) v
meant_step None d rest v is more e = none_given _ v (sym (unescaped_none d rest is) ∙ e)
meant_step (Some m) d rest v is more e =
    let parts = led_some (m ∷ []) (unescaped rest) v (sym (unescaped_meant d m rest is) ∙ e) in
    let so = more parts.0 parts.1 in
    subst (IsReadFrom (92 ∷ (encode_utf8 d ++ rest))) parts.2 (
      ap₂ (λ x y. x ++ y) (meaning_text d m is) so.0 ∙ ap (λ x. 92 ∷ x) (sym (low d rest (meaning_is_low d m is))),
      is_plain_text-append (m ∷ []) parts.0 (is_plain_text-byte m (meaning_low d m is) (meaning_plain d m is)) so.1,
    )

-- what a character is to the text of a value
data Class (c : ℕ) : Type 0 where
  raw : is_marked c ≡ false → Class c
  backslash : c ≡ 92 → Class c
  never : is_never_raw c ≡ true → Class c

class_of : (c : ℕ) → Class c
class_of c = by (c == 92) refl (is_never_raw c) refl
  where
    is_raw : (c == 92) ≡ false → is_never_raw c ≡ false → is_marked c ≡ false
    is_raw p q = grind arith

    is_backslash : (c == 92) ≡ true → c ≡ 92
    is_backslash p = grind arith

    by : (t : Bool) → (c == 92) ≡ t → (u : Bool) → is_never_raw c ≡ u → Class c
    by true p u q = backslash (is_backslash p)
    by false p true q = never q
    by false p false q = raw (is_raw p q)

end_by : (c : ℕ) (v : List ℕ) → Class c → IsScalar c → is_plain_character c ≡ true → unescaped (encode_utf8 c ++ []) ≡ Some v → IsReadFrom (encode_utf8 c ++ []) v
end_by c v (raw is) s p e = raw_step c [] v is s p (λ w f. subst (IsReadFrom []) (some_same f) (refl, is_plain_text-nil)) e
end_by c v (never is) s p e = none_given _ v (sym (unescaped_raw_none c [] is) ∙ e)
end_by c v (backslash is) s p e = none_given _ v (sym (ap (λ x. unescaped (encode_utf8 x ++ [])) is ∙ ap unescaped (unescaped_backslash [])) ∙ e)

next_by : (c d : ℕ) (rest v : List ℕ) → Class c → IsScalar c → is_plain_character c ≡ true → ((w : List ℕ) → unescaped (encode_utf8 d ++ rest) ≡ Some w → IsReadFrom (encode_utf8 d ++ rest) w)
    → ((w : List ℕ) → unescaped rest ≡ Some w → IsReadFrom rest w) → unescaped (encode_utf8 c ++ (encode_utf8 d ++ rest)) ≡ Some v → IsReadFrom (encode_utf8 c ++ (encode_utf8 d ++ rest)) v
next_by c d rest v (raw is) s p more later e = raw_step c (encode_utf8 d ++ rest) v is s p more e
next_by c d rest v (never is) s p more later e = none_given _ v (sym (unescaped_raw_none c (encode_utf8 d ++ rest) is) ∙ e)
next_by c d rest v (backslash is) s p more later e =
    let bytes : encode_utf8 c ++ (encode_utf8 d ++ rest) ≡ 92 ∷ (encode_utf8 d ++ rest) = ap (λ x. encode_utf8 x ++ (encode_utf8 d ++ rest)) is ∙ unescaped_backslash (encode_utf8 d ++ rest) in
    subst (λ x. IsReadFrom x v) (sym bytes) (meant_step (value_unescape d) d rest v refl later (sym (ap unescaped bytes) ∙ e))

reads : (cs v : List ℕ) → all_scalars cs ≡ true → list_all is_plain_character cs ≡ true → unescaped (encode_utf8_all cs) ≡ Some v → IsReadFrom (encode_utf8_all cs) v
reads [] v s p e = subst (IsReadFrom []) (some_same e) (refl, is_plain_text-nil)
reads (c ∷ []) v s p e = end_by c v (class_of c) (and_parts _ _ s).0 (and_parts _ _ p).0 e
reads (c ∷ d ∷ ds) v s p e =
    let scalars = and_parts _ _ s in
    let plain = and_parts _ _ p in
    next_by c d (encode_utf8_all ds) v (class_of c) scalars.0 plain.0 (λ w f. reads (d ∷ ds) w scalars.1 plain.1 f)
    (λ w f. reads ds w (and_parts _ _ scalars.1).1 (and_parts _ _ plain.1).1 f) e

value_by : (t : Bool) (text value : List ℕ) → is_plain_text text ≡ t → cond t (unescaped text) None ≡ Some value → IsReadFrom text value
value_by false text value plain e = none_given _ value e
value_by true text value plain e =
    let s = spelled text plain in
    subst (λ x. IsReadFrom x value) s.text (reads (chars text) value s.scalars s.plain (ap unescaped s.text ∙ e))

read_from : (text value : List ℕ) → read_as text ≡ Some value → IsReadFrom text value
read_from text value e = value_by (is_plain_text text) text value refl e

-- the definition

meant_again : (b : ℕ) (rest : List ℕ) → value_bytes false (value_escape b ++ rest) ≡ b ∷ value_bytes false rest
meant_again b rest = by (b == 92) refl (b == 9) refl (b == 10) refl (b == 13) refl
  where
    same : (n : ℕ) → (b == n) ≡ true → n ∷ value_bytes false rest ≡ b ∷ value_bytes false rest
    same n e = let is : n ≡ b = grind arith in ap (λ x. x ∷ value_bytes false rest) is

    by : (t : Bool) → (b == 92) ≡ t → (u : Bool) → (b == 9) ≡ u → (v : Bool) → (b == 10) ≡ v → (w : Bool) → (b == 13) ≡ w
        → value_bytes false (cond t (92 ∷ 92 ∷ []) (cond u (92 ∷ 116 ∷ []) (cond v (92 ∷ 110 ∷ []) (cond w (92 ∷ 114 ∷ []) (b ∷ [])))) ++ rest) ≡ b ∷ value_bytes false rest
    by true p u q v r w s = same 92 p
    by false p true q v r w s = same 9 q
    by false p false q true r w s = same 10 r
    by false p false q false r true s = same 13 s
    by false p false q false r false s = ap (λ t. cond t (value_bytes true rest) (b ∷ value_bytes false rest)) p

bytes_again : (value : List ℕ) → value_bytes false (value_text value) ≡ value
bytes_again [] = refl
bytes_again (b ∷ value) = meant_again b (value_text value) ∙ ap (λ x. b ∷ x) (bytes_again value)

-- the text of a value is read as that value
pub value_of_text : (value : List ℕ) → is_value value ≡ true → value_of (value_text value) ≡ Some value
unfolding value_of
value_of_text value h =
    ap (value_with (value_text value)) (bytes_again value)
    ∙ ap (λ t. cond t (Some value) None) (and_from _ _ h ((bytes_decides (value_text value) (value_text value)).1 refl))

with_by : (t : Bool) (text given value : List ℕ) → (is_value given && pointwise nat_eq (value_text given) text) ≡ t → cond t (Some given) None ≡ Some value → (is_value value ≡ true) × (value_text value ≡ text)
with_by false text given value is e = none_given _ value e
with_by true text given value is e =
    let parts = and_parts (is_value given) (pointwise nat_eq (value_text given) text) is in
    subst (λ v. (is_value v ≡ true) × (value_text v ≡ text)) (some_same e) (parts.0, (bytes_decides (value_text given) text).0 parts.1)

-- what is read as a value is one, and this is its text
pub text_of_value : (text value : List ℕ) → value_of text ≡ Some value → (is_value value ≡ true) × (value_text value ≡ text)
unfolding value_of
text_of_value text value e = with_by (is_value (value_bytes false text) && pointwise nat_eq (value_text (value_bytes false text)) text) text (value_bytes false text) value refl e

-- both ways
pub values_are_read : (text value : List ℕ) → (value_of text ≡ Some value → (is_value value ≡ true) × (value_text value ≡ text)) × ((is_value value ≡ true) × (value_text value ≡ text) → value_of text ≡ Some value)
values_are_read text value = (text_of_value text value, λ h. subst (λ x. value_of x ≡ Some value) h.1 (value_of_text value h.0))

-- so it is what is read
value_of-read_as : (text : List ℕ) → value_of text ≡ read_as text
value_of-read_as text = by (read_as text) refl (value_of text) refl
  where
    by : (o : Option (List ℕ)) → read_as text ≡ o → (p : Option (List ℕ)) → value_of text ≡ p → value_of text ≡ read_as text
    by (Some v) e p f = let so = read_from text v e in subst (λ x. value_of x ≡ Some v) so.0 (value_of_text v so.1) ∙ sym e
    by None e None f = f ∙ sym e
    by None e (Some v) f =
        let so = text_of_value text v f in
        none_given _ v (sym e ∙ subst (λ x. read_as x ≡ Some v) so.1 (read_again v so.0))

pub value_of-not_plain : (text : List ℕ) → is_plain_text text ≡ false → value_of text ≡ None
value_of-not_plain text h = value_of-read_as text ∙ ap (λ t. cond t (unescaped text) None) h

pub value_of-plain : (text : List ℕ) → is_plain_text text ≡ true → value_of text ≡ unescaped text
value_of-plain text h = value_of-read_as text ∙ ap (λ t. cond t (unescaped text) None) h

pub value_of-unescaped : (text : List ℕ) → is_plain_text text ≡ true → is_some (unescaped text) ≡ false → value_of text ≡ None
value_of-unescaped text plain none = value_of-plain text plain ∙ nothing (unescaped text) none
  where
    nothing : (o : Option (List ℕ)) → is_some o ≡ false → o ≡ None
    nothing None h = refl
    nothing (Some bytes) h = let not_so : ⊥ = cc in absurd not_so
