-- The parts of lines that are written.
use Rattle.std.proofs.Common.{◌≡◌, ℕ, ◌<◌, ◌≤◌, ◌*◌, ◌^◌, Bool, true, false, not, ◌==◌, ◌&&◌, ◌||◌, cond, List, [], ◌∷◌, ◌++◌, length, length-append, refl, ap, sym, ◌∙◌, arith, All, IsUtf8, codes, decimal, nat_lt}
use Rattle.std.specs.List.{flat_map, list_all, list_any}
use Rattle.std.specs.Char.{is_ascii_digit}
use Rattle.std.specs.Str.{all_ascii_digits}
use Rattle.std.proofs.lemmas.Bool.{and_parts, and_from, or_parts, false≢true, ltb-false, ltb-true}
use Rattle.std.proofs.lemmas.Fmt.{IsAscii-decimal, digits_decimal, length-decimal-le}
use Rattle.std.proofs.lemmas.List.Folds.{list_all-append}
use Rattle.std.proofs.lemmas.List.Sums.{AllPass-from_list_all}
use Rattle.std.proofs.lemmas.Str.{IsUtf8-append, IsUtf8-from_ascii}
use Rattle.std.proofs.lemmas.Str.Ascii.{IsAscii-from_all}
use Rattle.orc_path.specs.Alphabet.{is_identifier, is_name_byte, is_name_start, is_qualified, is_qualified_rest, is_value}
use Rattle.orc_path.specs.Items.{fits, item_text}
use Rattle.orc_path.specs.Limits.{is_long_name, is_long_path, is_long_step, is_long_value}
use Rattle.orc_path.specs.declared.limits.TheConstants.{NAME_LEN, PATH_LEN, PATH_STEPS, VALUE_LEN}
use Rattle.orc_path.specs.Steps.{PathStep, is_first_step, is_later_step, is_path}
use Rattle.orc_path.specs.Texts.{escape, key_text, path_text, step_text, value_escape, value_text}
use Rattle.orc_path.specs.declared.item.Item.{Item}
use Rattle.orc_path.specs.declared.item.Item.TheVariants.{Entry, Leaf}
use Rattle.orc_path.proofs.Characters.{IsUtf8-path_text, is_plain_text-value_text}
use Rattle.orc_text.proofs.Plain.{plain_parts}
use Rattle.orc_schema_nodes.specs.Schemas.{SchemaTable}
use Rattle.orc_typed.specs.Typed.{is_typed}
use Rattle.orc_decls.specs.Calls.{is_item_at, is_item_under, is_lawful_item, is_lawful_name}
use Rattle.orc_lines.proofs.Numbers.{own}

-- no line feed and no carriage return
abbrev pub is_line_byte : ℕ → Bool
is_line_byte b = not (b == 10) && not (b == 13)

-- no line feed, no carriage return and no space
abbrev pub is_word_byte : ℕ → Bool
is_word_byte b = is_line_byte b && not (b == 32)

pub all_so : (f g : ℕ → Bool) (xs : List ℕ) → ((b : ℕ) → f b ≡ true → g b ≡ true) → list_all f xs ≡ true → list_all g xs ≡ true
all_so f g [] so h = refl
all_so f g (b ∷ bs) so h = let parts = and_parts (f b) (list_all f bs) h in and_from (g b) (list_all g bs) (so b parts.0) (all_so f g bs so parts.1)

-- a part of a line
pub record IsPart (t : List ℕ) : Type 0 where
  pub bytes : list_all is_line_byte t ≡ true
  pub utf8 : IsUtf8 t

-- a word of a line
pub record IsWord (t : List ℕ) : Type 0 where
  pub bytes : list_all is_word_byte t ≡ true
  pub utf8 : IsUtf8 t

pub part_of_word : (t : List ℕ) → IsWord t → IsPart t
part_of_word t w = record {
  bytes = all_so is_word_byte is_line_byte t (λ b h. (and_parts (is_line_byte b) (not (b == 32)) h).0) w.bytes;
  utf8 = w.utf8;
}

pub part_append : (a b : List ℕ) → IsPart a → IsPart b → IsPart (a ++ b)
part_append a b p q = record {
  bytes = list_all-append is_line_byte a b ∙ and_from _ _ p.bytes q.bytes;
  utf8 = IsUtf8-append a b p.utf8 q.utf8;
}

-- an ASCII text that is known
pub part_known : (t : List ℕ) → list_all is_line_byte t ≡ true → list_all (λ b. nat_lt b 128) t ≡ true → IsPart t
part_known t h low = record {
  bytes = h;
  utf8 = IsUtf8-from_ascii t (IsAscii-from_all t (λ k d within. ltb-true _ 128 (AllPass-from_list_all (λ b. nat_lt b 128) t low k d within)));
}

-- names

name_word : (b : ℕ) → is_name_byte b ≡ true → is_word_byte b ≡ true
name_word b h = grind arith

name_low : (b : ℕ) → is_name_byte b ≡ true → b < 128
name_low b h = grind arith

start_name : (b : ℕ) → is_name_start b ≡ true → is_name_byte b ≡ true
start_name b h = grind arith

all_low : (bs : List ℕ) → list_all is_name_byte bs ≡ true → All (λ b. b < 128) bs
all_low bs h = λ k d within. name_low _ (AllPass-from_list_all is_name_byte bs h k d within)

identifier_bytes : (n : List ℕ) → is_identifier n ≡ true → list_all is_name_byte n ≡ true
identifier_bytes [] h = absurd (false≢true h)
identifier_bytes (b ∷ bs) h = let parts = and_parts (is_name_start b) (list_all is_name_byte bs) h in and_from _ _ (start_name b parts.0) parts.1

pub word_of_name : (n : List ℕ) → is_identifier n ≡ true → IsWord n
word_of_name n h =
    let bytes = identifier_bytes n h in
    record { bytes = all_so is_name_byte is_word_byte n name_word bytes; utf8 = IsUtf8-from_ascii n (IsAscii-from_all n (all_low n bytes)) }

-- numbers

digit_word : (b : ℕ) → is_ascii_digit b ≡ true → is_word_byte b ≡ true
digit_word b h = grind arith

digits_word : (ds : List ℕ) → all_ascii_digits ds ≡ true → list_all is_word_byte ds ≡ true
digits_word [] h = refl
digits_word (d ∷ ds) h = let parts = and_parts (is_ascii_digit d) (all_ascii_digits ds) h in and_from _ _ (digit_word d parts.0) (digits_word ds parts.1)

pub word_of_number : (n : ℕ) → n < 2 ^ 64 → IsWord (decimal n)
word_of_number n h = record {
  bytes = digits_word (decimal n) (digits_decimal own n h);
  utf8 = IsUtf8-from_ascii (decimal n) (IsAscii-decimal n h);
}

pub number_short : (n : ℕ) → n < 2 ^ 64 → length (decimal n) ≤ 20
number_short n h = length-decimal-le 20 n (omega arith) (omega arith) h

-- paths

colon_word : (b : ℕ) → (b == 58) ≡ true → is_word_byte b ≡ true
colon_word b h = grind arith

rest_words : (n : List ℕ) → is_qualified_rest n ≡ true → list_all is_word_byte n ≡ true
rest_words [] h = absurd (false≢true h)
rest_words (b ∷ bs) h = at (b == 58) refl (rest_words bs) h
  where
    at : (t : Bool) → (b == 58) ≡ t → (is_qualified_rest bs ≡ true → list_all is_word_byte bs ≡ true)
        → cond t (is_identifier bs) (is_name_byte b && is_qualified_rest bs) ≡ true → list_all is_word_byte (b ∷ bs) ≡ true
    at true e more k = and_from _ _ (colon_word b e) (all_so is_name_byte is_word_byte bs name_word (identifier_bytes bs k))
    at false e more k = let parts = and_parts (is_name_byte b) (is_qualified_rest bs) k in and_from _ _ (name_word b parts.0) (more parts.1)

qualified_words : (n : List ℕ) → is_qualified n ≡ true → list_all is_word_byte n ≡ true
qualified_words [] h = absurd (false≢true h)
qualified_words (b ∷ bs) h =
    let parts = and_parts (is_name_start b) (is_qualified_rest bs) h in
    and_from _ _ (name_word b (start_name b parts.0)) (rest_words bs parts.1)

escape_word : (b : ℕ) → list_all is_word_byte (escape b) ≡ true
escape_word b = by (b == 92) refl (b == 93) refl (b == 32) refl (b == 9) refl (b == 10) refl (b == 13) refl
  where
    by : (t : Bool) → (b == 92) ≡ t → (u : Bool) → (b == 93) ≡ u → (v : Bool) → (b == 32) ≡ v
        → (w : Bool) → (b == 9) ≡ w → (x : Bool) → (b == 10) ≡ x → (y : Bool) → (b == 13) ≡ y
        → list_all is_word_byte (cond t (92 ∷ 92 ∷ []) (cond u (92 ∷ 93 ∷ []) (cond v (92 ∷ 115 ∷ []) (cond w (92 ∷ 116 ∷ []) (cond x (92 ∷ 110 ∷ []) (cond y (92 ∷ 114 ∷ []) (b ∷ [])))))))
        ≡ true
    by true p u q v r w s x h y k = refl
    by false p true q v r w s x h y k = refl
    by false p false q true r w s x h y k = refl
    by false p false q false r true s x h y k = refl
    by false p false q false r false s true h y k = refl
    by false p false q false r false s false h true k = refl
    by false p false q false r false s false h false k =
        and_from (is_word_byte b) true (and_from (is_line_byte b) (not (b == 32)) (and_from (not (b == 10)) (not (b == 13)) (ap not h) (ap not k)) (ap not r)) refl

words_behind : {X : Type 0} (f : X → List ℕ) (xs : List X) → ((x : X) → list_all is_word_byte (f x) ≡ true) → list_all is_word_byte (flat_map f xs) ≡ true
words_behind f [] h = refl
words_behind f (x ∷ xs) h = list_all-append is_word_byte (f x) (flat_map f xs) ∙ and_from _ _ (h x) (words_behind f xs h)

key_word : (key : List ℕ) → list_all is_word_byte (key_text key) ≡ true
key_word key =
    list_all-append is_word_byte (91 ∷ flat_map escape key) (93 ∷ [])
    ∙ and_from _ _ (words_behind escape key escape_word) refl

step_word : (s : PathStep) → list_all is_word_byte s.node ≡ true → list_all is_word_byte (step_text s) ≡ true
step_word s h =
    list_all-append is_word_byte (47 ∷ s.node) (flat_map key_text s.keys) ∙ and_from _ _ h (words_behind key_text s.keys key_word)

later_words : (ss : List PathStep) → list_all is_later_step ss ≡ true → list_all is_word_byte (flat_map step_text ss) ≡ true
later_words [] h = refl
later_words (s ∷ ss) h =
    let parts = and_parts (is_later_step s) (list_all is_later_step ss) h in
    let node = (and_parts (is_identifier s.node) _ parts.0).0 in
    list_all-append is_word_byte (step_text s) (flat_map step_text ss)
    ∙ and_from _ _ (step_word s (all_so is_name_byte is_word_byte s.node name_word (identifier_bytes s.node node))) (later_words ss parts.1)

path_words : (p : List PathStep) → is_path p ≡ true → list_all is_word_byte (path_text p) ≡ true
path_words [] h = refl
path_words (s ∷ ss) h =
    let parts = and_parts (is_first_step s) (list_all is_later_step ss) h in
    let node = (and_parts (is_qualified s.node) _ parts.0).0 in
    list_all-append is_word_byte (step_text s) (flat_map step_text ss)
    ∙ and_from _ _ (step_word s (qualified_words s.node node)) (later_words ss parts.1)

pub word_of_path : (p : List PathStep) → is_path p ≡ true → IsWord (path_text p)
word_of_path p h = record { bytes = path_words p h; utf8 = IsUtf8-path_text p h }

-- values

value_line : (b : ℕ) → list_all is_line_byte (value_escape b) ≡ true
value_line b = by (b == 92) refl (b == 9) refl (b == 10) refl (b == 13) refl
  where
    by : (t : Bool) → (b == 92) ≡ t → (w : Bool) → (b == 9) ≡ w → (x : Bool) → (b == 10) ≡ x → (y : Bool) → (b == 13) ≡ y
        → list_all is_line_byte (cond t (92 ∷ 92 ∷ []) (cond w (92 ∷ 116 ∷ []) (cond x (92 ∷ 110 ∷ []) (cond y (92 ∷ 114 ∷ []) (b ∷ []))))) ≡ true
    by true p w s x h y k = refl
    by false p true s x h y k = refl
    by false p false s true h y k = refl
    by false p false s false h true k = refl
    by false p false s false h false k = and_from (is_line_byte b) true (and_from (not (b == 10)) (not (b == 13)) (ap not h) (ap not k)) refl

value_short : (b : ℕ) → length (value_escape b) ≤ 2
value_short b = by (b == 92) (b == 9) (b == 10) (b == 13)
  where
    by : (t w x y : Bool) → length (cond t (92 ∷ 92 ∷ []) (cond w (92 ∷ 116 ∷ []) (cond x (92 ∷ 110 ∷ []) (cond y (92 ∷ 114 ∷ []) (b ∷ []))))) ≤ 2
    by true w x y = omega arith
    by false true x y = omega arith
    by false false true y = omega arith
    by false false false true = omega arith
    by false false false false = omega arith

values_line : (v : List ℕ) → list_all is_line_byte (value_text v) ≡ true
values_line [] = refl
values_line (b ∷ bs) = list_all-append is_line_byte (value_escape b) (value_text bs) ∙ and_from _ _ (value_line b) (values_line bs)

pub values_short : (v : List ℕ) → length (value_text v) ≤ 2 * length v
values_short [] = omega arith
values_short (b ∷ bs) =
    let size = length-append (value_escape b) (value_text bs) in
    let one = value_short b in
    let rest = values_short bs in
    omega arith

pub part_of_value : (v : List ℕ) → is_value v ≡ true → IsPart (value_text v)
part_of_value v h = record { bytes = values_line v; utf8 = (plain_parts (value_text v) (is_plain_text-value_text v h)).0 }

-- items

-- what a lawful item is
pub record IsLawfulAt (p : List PathStep) (item : Item) : Type 0 where
  pub path : is_path p ≡ true
  pub short : is_long_path p ≡ false
  pub lawful : is_lawful_item item ≡ true
  pub fit : fits p item ≡ true

untrue : (b : Bool) → not b ≡ true → b ≡ false
untrue false h = refl
untrue true h = sym h

pub lawful_at : (p : List PathStep) (item : Item) → is_item_at p item ≡ true → IsLawfulAt p item
lawful_at p item h =
    let three = and_parts (is_path p && not (is_long_path p) && is_lawful_item item) (fits p item) h in
    let two = and_parts (is_path p && not (is_long_path p)) (is_lawful_item item) three.0 in
    let one = and_parts (is_path p) (not (is_long_path p)) two.0 in
    record { path = one.0; short = untrue (is_long_path p) one.1; lawful = two.1; fit = three.1 }

pub lawful_under : (schema : SchemaTable) (p : List PathStep) (item : Item) → is_item_under schema p item ≡ true → IsLawfulAt p item
lawful_under schema p item h = lawful_at p item (and_parts (is_item_at p item) (is_typed schema p item) h).0

pub path_short : (p : List PathStep) → is_long_path p ≡ false → length (path_text p) ≤ PATH_LEN
path_short p h =
    let two = or_parts (nat_lt PATH_STEPS (length p)) (nat_lt PATH_LEN (length (path_text p)) || list_any is_long_step p) h in
    ltb-false PATH_LEN (length (path_text p)) (or_parts (nat_lt PATH_LEN (length (path_text p))) (list_any is_long_step p) two.1).0

-- what is known of a leaf's value
pub record IsLawfulValue (v : List ℕ) : Type 0 where
  pub value : is_value v ≡ true
  pub short : is_long_value v ≡ false

pub lawful_value : (v : List ℕ) → is_lawful_item (Leaf v) ≡ true → IsLawfulValue v
lawful_value v h = let parts = and_parts (is_value v) (not (is_long_value v)) h in record { value = parts.0; short = untrue (is_long_value v) parts.1 }

pub part_of_item : (p : List PathStep) (item : Item) → IsLawfulAt p item → IsPart (item_text p item)
part_of_item p Entry l = part_of_word (path_text p) (word_of_path p l.path)
part_of_item p (Leaf v) l =
    part_append (path_text p ++ codes " = ") (value_text v)
    (part_append (path_text p) (codes " = ") (part_of_word (path_text p) (word_of_path p l.path)) (part_known (codes " = ") refl refl))
    (part_of_value v (lawful_value v l.lawful).value)

pub item_short : (p : List PathStep) (item : Item) → IsLawfulAt p item → length (item_text p item) ≤ 12291
item_short p Entry l = let path = path_short p l.short in omega arith
item_short p (Leaf v) l =
    let path = path_short p l.short in
    let value = values_short v in
    let most = ltb-false VALUE_LEN (length v) (lawful_value v l.lawful).short in
    let whole = length-append (path_text p ++ codes " = ") (value_text v) in
    let front = length-append (path_text p) (codes " = ") in
    omega arith

-- what is known of a lawful name
pub record IsLawfulName (n : List ℕ) : Type 0 where
  pub identifier : is_identifier n ≡ true
  pub short : is_long_name n ≡ false
  pub word : IsWord n
  pub size : length n ≤ 64

pub lawful_name : (n : List ℕ) → is_lawful_name n ≡ true → IsLawfulName n
lawful_name n h =
    let parts = and_parts (is_identifier n) (not (is_long_name n)) h in
    let short = untrue (is_long_name n) parts.1 in
    record { identifier = parts.0; short = short; word = word_of_name n parts.0; size = ltb-false NAME_LEN (length n) short }
