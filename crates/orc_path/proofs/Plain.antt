-- The bytes of plain characters.
use Rattle.std.proofs.Common.{◌≡◌, ℕ, ◌+◌, ◌%◌, ◌<◌, ◌≤◌, ◌==◌, Bool, true, false, ◌&&◌, ◌||◌, not, cond, nat_le, List, [], ◌∷◌, encode_utf8, encode_utf8_all, chars, refl, sym, ap, subst, ◌∙◌, arith}
use Rattle.std.proofs.Math.Dec.{ltb}
use Rattle.std.specs.Char.{IsScalar}
use Rattle.std.specs.List.{list_all}
use Rattle.std.proofs.lemmas.Bool.{and_parts, and_from, cond-false, ltb-true, ltb-false, leb-true, le-leb, lt-leb, lt-ltb, le-ltb}
use Rattle.std.proofs.lemmas.List.Folds.{list_all-append}
use Rattle.std.proofs.lemmas.Str.{encode_ascii}
use Rattle.orc_text.specs.Characters.{is_noncharacter}
use Rattle.orc_text.specs.Characters.{is_plain_character, is_plain_text}
use Rattle.orc_text.proofs.Plain.{is_plain_text-encode, spelled}
use Rattle.orc_path.specs.inside.Reading.{is_key_byte}
use Rattle.orc_path.proofs.Encoded.{are_wide, fellow, is_wide}

-- ASCII

low_is_character : (c : ℕ) → c < 128 → is_noncharacter c ≡ false
low_is_character c h = grind arith

-- a byte of a key that is a character of its own
pub is_plain_character-byte : (b : ℕ) → b < 128 → is_key_byte b ≡ true → is_plain_character b ≡ true
is_plain_character-byte b l h = subst (λ t. ((b == 9) || (b == 10) || (b == 13) || (nat_le 32 b && not t)) ≡ true) (sym (low_is_character b l)) (plain_at (is_key_byte b) h)
  where
    plain_at : (t : Bool) → is_key_byte b ≡ true → ((b == 9) || (b == 10) || (b == 13) || (nat_le 32 b && true)) ≡ true
    plain_at t k = grind arith

pub is_key_byte-character : (c : ℕ) → is_plain_character c ≡ true → is_key_byte c ≡ true
is_key_byte-character c h = by (is_noncharacter c) h
  where
    by : (t : Bool) → ((c == 9) || (c == 10) || (c == 13) || (nat_le 32 c && not t)) ≡ true → is_key_byte c ≡ true
    by true k = grind arith
    by false k = grind arith

pub is_plain_text-byte : (b : ℕ) → b < 128 → is_key_byte b ≡ true → is_plain_text (b ∷ []) ≡ true
is_plain_text-byte b l h =
    subst (λ xs. is_plain_text xs ≡ true) (encode_ascii b l) (is_plain_text-encode b (low_scalar b l) (is_plain_character-byte b l h))
  where
    low_scalar : (b : ℕ) → b < 128 → IsScalar b
    low_scalar b l = ap (λ t. cond t true (nat_le 57344 b && ltb b 1114112)) (lt-ltb b 55296 (omega arith))

-- the bytes of a key

wide_bytes : (bs : List ℕ) → are_wide bs ≡ true → list_all is_key_byte bs ≡ true
wide_bytes [] h = refl
wide_bytes (b ∷ bs) h = let parts = and_parts _ _ h in and_from _ _ (wide_byte b (leb-true 128 b parts.0)) (wide_bytes bs parts.1)
  where
    wide_byte : (b : ℕ) → 128 ≤ b → is_key_byte b ≡ true
    wide_byte b l = grind arith

-- all bytes of a character of several
pub are_wide-encode : (c : ℕ) → 128 ≤ c → are_wide (encode_utf8 c) ≡ true
are_wide-encode c l =
    let w = is_wide c l in
    ap are_wide w.bytes ∙ list_all-append (λ b. nat_le 128 b) w.front ((128 + c % 64) ∷ []) ∙ and_from _ _ w.wide (and_from _ _ (le-leb 128 (128 + c % 64) (omega arith)) refl)

character_bytes : (t : Bool) (c : ℕ) → ltb c 128 ≡ t → is_plain_character c ≡ true → list_all is_key_byte (encode_utf8 c) ≡ true
character_bytes true c e h = ap (list_all is_key_byte) (encode_ascii c (ltb-true c 128 e)) ∙ and_from _ _ (is_key_byte-character c h) refl
character_bytes false c e h = wide_bytes (encode_utf8 c) (are_wide-encode c (ltb-false c 128 e))

characters_bytes : (cs : List ℕ) → list_all is_plain_character cs ≡ true → list_all is_key_byte (encode_utf8_all cs) ≡ true
characters_bytes [] h = refl
characters_bytes (c ∷ cs) h =
    let parts = and_parts _ _ h in
    list_all-append is_key_byte (encode_utf8 c) (encode_utf8_all cs) ∙ and_from _ _ (character_bytes (ltb c 128) c refl parts.0) (characters_bytes cs parts.1)

pub key_bytes : (key : List ℕ) → is_plain_text key ≡ true → list_all is_key_byte key ≡ true
key_bytes key h = let s = spelled key h in subst (λ xs. list_all is_key_byte xs ≡ true) s.text (characters_bytes (chars key) s.plain)

-- noncharacters

-- what is known of the fellow of one
pub record HasFellow (c : ℕ) : Type 0 where
  pub high : 128 ≤ fellow c
  pub scalar : IsScalar (fellow c)
  pub plain : is_plain_character (fellow c) ≡ true

is_noncharacter-from : (t : Bool) (c : ℕ) → 128 ≤ c → is_noncharacter c ≡ t → is_plain_character c ≡ false → is_noncharacter c ≡ true
is_noncharacter-from true c high is h = is
is_noncharacter-from false c high is h =
    let so : ((c == 9) || (c == 10) || (c == 13) || (nat_le 32 c && not false)) ≡ false = ap (λ t. (c == 9) || (c == 10) || (c == 13) || (nat_le 32 c && not t)) (sym is) ∙ h in
    absurd (by so)
  where
    by : ((c == 9) || (c == 10) || (c == 13) || (nat_le 32 c && not false)) ≡ false → ⊥
    by k = grind arith

-- where a noncharacter stands
data Noncharacter (c : ℕ) : Type 0 where
  among : 64976 ≤ c → c ≤ 65007 → Noncharacter c
  at_end : 65534 ≤ c % 65536 → Noncharacter c

noncharacter : (t : Bool) (c : ℕ) → (nat_le 64976 c && nat_le c 65007) ≡ t → (t || nat_le 65534 (c % 65536)) ≡ true → Noncharacter c
noncharacter true c e h = let parts = and_parts _ _ e in among (leb-true 64976 c parts.0) (leb-true c 65007 parts.1)
noncharacter false c e h = at_end (leb-true 65534 (c % 65536) h)

fellow_scalar : (t : Bool) (c : ℕ) → 64976 ≤ c → ltb c 55296 ≡ t → cond t true (nat_le 57344 c && ltb c 1114112) ≡ true → IsScalar (fellow c)
fellow_scalar true c l e h = let low = ltb-true c 55296 e in absurd (omega arith)
fellow_scalar false c l e h =
    let top : c < 1114112 = ltb-true c 1114112 (and_parts (nat_le 57344 c) (ltb c 1114112) h).1 in
    cond-false _ _ _ (le-ltb (fellow c) 55296 (omega arith)) ∙ and_from _ _ (le-leb 57344 (fellow c) (omega arith)) (lt-ltb (fellow c) 1114112 (omega arith))

both_false : (a b c : Bool) → (a && b) ≡ false → c ≡ false → (a && b || c) ≡ false
both_false a b c h k = ap (λ t. t || c) h ∙ k

fellow_is_character : (c : ℕ) → Noncharacter c → is_noncharacter (fellow c) ≡ false
fellow_is_character c (among l h) =
    both_false (nat_le 64976 (fellow c)) (nat_le (fellow c) 65007) _ (ap (λ t. t && nat_le (fellow c) 65007) (lt-leb 64976 (fellow c) (omega arith))) (lt-leb 65534 (fellow c % 65536) (omega arith))
fellow_is_character c (at_end l) =
    both_false (nat_le 64976 (fellow c)) (nat_le (fellow c) 65007) _ (and_false (nat_le 64976 (fellow c)) (nat_le (fellow c) 65007) (lt-leb (fellow c) 65007 (omega arith))) (lt-leb 65534 (fellow c % 65536) (omega arith))
  where
    and_false : (a b : Bool) → b ≡ false → (a && b) ≡ false
    and_false true b h = h
    and_false false b h = refl

low_end : (c : ℕ) → Noncharacter c → 64976 ≤ c
low_end c (among l h) = l
low_end c (at_end l) = omega arith

pub fellow_is_plain : (c : ℕ) → 128 ≤ c → IsScalar c → is_plain_character c ≡ false → HasFellow c
fellow_is_plain c high s h =
    let n = noncharacter (nat_le 64976 c && nat_le c 65007) c refl (is_noncharacter-from (is_noncharacter c) c high refl h) in
    let l = low_end c n in
    record {
      high = omega arith;
      scalar = fellow_scalar (ltb c 55296) c l refl s;
      plain = subst (λ t. ((fellow c == 9) || (fellow c == 10) || (fellow c == 13) || (nat_le 32 (fellow c) && not t)) ≡ true) (sym (fellow_is_character c n)) (high_plain (fellow c) (omega arith));
    }
  where
    high_plain : (d : ℕ) → 128 ≤ d → ((d == 9) || (d == 10) || (d == 13) || (nat_le 32 d && not false)) ≡ true
    high_plain d l = grind arith
