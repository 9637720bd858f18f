-- The reader after a text that is read so far.
use Rattle.std.proofs.Common.{◌≡◌, ℕ, ◌<◌, ◌≤◌, Bool, true, false, List, [], ◌∷◌, ◌++◌, Some, None, Option, encode_utf8, encode_utf8_all, refl, sym, ap, subst, ◌∙◌, arith, append_assoc, append-nil, length}
use Rattle.std.proofs.Math.Dec.{ltb}
use Rattle.std.specs.List.{flat_map, list_all}
use Rattle.std.specs.Option.{option_and_then}
use Rattle.std.specs.Str.{all_scalars}
use Rattle.std.specs.Char.{IsScalar}
use Rattle.std.proofs.lemmas.Bool.{and_parts, leb-true, ltb-true, ltb-false}
use Rattle.std.proofs.lemmas.Grind.{flat_map-append}
use Rattle.std.proofs.lemmas.Str.{encode_ascii, length-encode, len_utf8_bounds}
use Rattle.orc_text.specs.Characters.{is_plain_character, is_plain_text}
use Rattle.orc_path.specs.Steps.{PathStep}
use Rattle.orc_path.specs.Texts.{escape}
use Rattle.orc_path.specs.inside.Reading.{feed_at, feed, feed_all, at_start, FitsAt, Fits}
use Rattle.orc_path.proofs.Runs.{feed_all-append}
use Rattle.orc_path.specs.declared.mode.Mode.{Mode}
use Rattle.orc_path.specs.declared.mode.Mode.TheVariants.{Start, Slash, Module, Colon, Inside, Next, Key, Escape, Closed}
use Rattle.orc_path.specs.declared.reader.Reader.{Reader}
use Rattle.orc_path.proofs.Parts.{none_given}
use Rattle.orc_path.proofs.Encoded.{are_wide}
use Rattle.orc_text.proofs.Plain.{is_plain_text-nil, is_plain_text-append, is_plain_text-encode}
use Rattle.orc_path.proofs.Plain.{are_wide-encode}
use Rattle.orc_path.proofs.Written.{flat_wide, escape-wide}
use Rattle.orc_path.proofs.Feeds.{front, read_at, read, feed_grows}
use Rattle.orc_path.proofs.Again.{reader_at}

pub some_same : {A : Type 0} {x y : A} → Some x ≡ Some y → x ≡ y
some_same e = cc

-- the reader stands after the text
pub record IsBehind (text : List ℕ) (r : Reader) : Type 0 where
  pub fits : Fits r
  pub is : read r ≡ text
  pub fed : feed_all at_start text ≡ Some r
  pub plain : is_plain_text text ≡ true

pub starts : IsBehind [] at_start
starts = record { fits = record { before = refl; node = (refl, refl); keys = refl }; is = refl; fed = refl; plain = is_plain_text-nil }

-- characters of several bytes

wide_taken : (d : List PathStep) (n : List ℕ) (ks : List (List ℕ)) (k : List ℕ) (b : ℕ) → 128 ≤ b → feed (reader_at Key d n ks k) b ≡ Some (reader_at Key d n ks (k ++ b ∷ []))
wide_taken d n ks k b h = grind arith

-- a key takes them
pub wide_key : (d : List PathStep) (n : List ℕ) (ks : List (List ℕ)) (k bs : List ℕ) → are_wide bs ≡ true → feed_all (reader_at Key d n ks k) bs ≡ Some (reader_at Key d n ks (k ++ bs))
wide_key d n ks k [] h = ap (λ x. Some (reader_at Key d n ks x)) (sym (append-nil k))
wide_key d n ks k (b ∷ bs) h =
    let parts = and_parts _ _ h in
    ap (option_and_then (λ s. feed_all s bs)) (wide_taken d n ks k b (leb-true 128 b parts.0))
    ∙ wide_key d n ks (k ++ b ∷ []) bs parts.1
    ∙ ap (λ x. Some (reader_at Key d n ks x)) (append_assoc k (b ∷ []) bs)

-- nothing else takes their first byte
pub wide_refused : (m : Mode) (r : Reader) (b : ℕ) → 128 ≤ b → (m ≡ Key → ⊥) → feed_at m r b ≡ None
wide_refused Start r b h k = grind arith
wide_refused Slash r b h k = grind arith
wide_refused Module r b h k = grind arith
wide_refused Colon r b h k = grind arith
wide_refused Inside r b h k = grind arith
wide_refused Next r b h k = grind arith
wide_refused Key r b h k = absurd (k refl)
wide_refused Escape r b h k = grind arith
wide_refused Closed r b h k = grind arith

-- a character more

low_step : (text : List ℕ) (r s : Reader) (c : ℕ) → c < 128 → IsScalar c → is_plain_character c ≡ true → IsBehind text r → feed_all r (encode_utf8 c) ≡ Some s → Fits s × (read s ≡ text ++ encode_utf8 c)
low_step text r s c low scalar plain b e =
    let one = encode_ascii c low in
    let grown = feed_grows r.mode r s c low refl b.fits (alone (feed r c) (sym (ap (feed_all r) one) ∙ e)) in
    (grown.0, grown.1 ∙ ap (λ x. x ++ c ∷ []) b.is ∙ ap (λ x. text ++ x) (sym one))
  where
    alone : (o : Option Reader) → option_and_then (λ t. Some t) o ≡ Some s → o ≡ Some s
    alone None h = h
    alone (Some t) h = h

key_grows : (m : Mode) (r : Reader) (bs : List ℕ) → m ≡ Key → FitsAt m r → are_wide bs ≡ true → is_plain_text bs ≡ true
    → FitsAt m (record r { key = r.key ++ bs }) × (read_at m (record r { key = r.key ++ bs }) ≡ read_at m r ++ bs)
key_grows Key r bs at f w h = (
  record { step = record { before = f.step.before; node = f.step.node; keys = f.step.keys }; key = is_plain_text-append r.key bs f.key h },
  ap (λ x. front r ++ 91 ∷ x) (flat_map-append escape r.key bs ∙ ap (λ x. flat_map escape r.key ++ x) (flat_wide escape escape-wide bs w)) ∙ sym (append_assoc (front r) (91 ∷ flat_map escape r.key) bs),
)
key_grows Start r bs at f w h = let not_so : ⊥ = cc in absurd not_so
key_grows Slash r bs at f w h = let not_so : ⊥ = cc in absurd not_so
key_grows Module r bs at f w h = let not_so : ⊥ = cc in absurd not_so
key_grows Colon r bs at f w h = let not_so : ⊥ = cc in absurd not_so
key_grows Inside r bs at f w h = let not_so : ⊥ = cc in absurd not_so
key_grows Next r bs at f w h = let not_so : ⊥ = cc in absurd not_so
key_grows Escape r bs at f w h = let not_so : ⊥ = cc in absurd not_so
key_grows Closed r bs at f w h = let not_so : ⊥ = cc in absurd not_so

-- whether the reader is in a key
pub data InKey (m : Mode) : Type 0 where
  inside : m ≡ Key → InKey m
  outside : (m ≡ Key → ⊥) → InKey m

pub in_key : (m : Mode) → InKey m
in_key Key = inside refl
in_key Start = outside (λ e. cc)
in_key Slash = outside (λ e. cc)
in_key Module = outside (λ e. cc)
in_key Colon = outside (λ e. cc)
in_key Inside = outside (λ e. cc)
in_key Next = outside (λ e. cc)
in_key Escape = outside (λ e. cc)
in_key Closed = outside (λ e. cc)

-- a key takes a character of several bytes whole
pub wide_in : (m : Mode) (r : Reader) (bs : List ℕ) → r.mode ≡ m → m ≡ Key → are_wide bs ≡ true → feed_all r bs ≡ Some (record r { key = r.key ++ bs })
wide_in m r bs at key w = subst (λ k. feed_all (reader_at k r.done r.node r.keys r.key) bs ≡ Some (reader_at k r.done r.node r.keys (r.key ++ bs))) (sym (at ∙ key)) (wide_key r.done r.node r.keys r.key bs w)

-- and nothing else takes any of it
pub wide_out : (r : Reader) (bs : List ℕ) → (r.mode ≡ Key → ⊥) → are_wide bs ≡ true → (bs ≡ [] → ⊥) → feed_all r bs ≡ None
wide_out r [] out w some = absurd (some refl)
wide_out r (b ∷ bs) out w some = ap (option_and_then (λ s. feed_all s bs)) (wide_refused r.mode r b (leb-true 128 b (and_parts _ _ w).0) out)

pub encode_some : (c : ℕ) → encode_utf8 c ≡ [] → ⊥
encode_some c e = let l = length-encode c in let b = len_utf8_bounds c in let zero_length : length (encode_utf8 c) ≡ 0 = ap length e in absurd (omega arith)

wide_step : (text : List ℕ) (r s : Reader) (c : ℕ) → 128 ≤ c → IsScalar c → is_plain_character c ≡ true → IsBehind text r → feed_all r (encode_utf8 c) ≡ Some s → Fits s × (read s ≡ text ++ encode_utf8 c)
wide_step text r s c high scalar plain b e = by (in_key r.mode)
  where
    w : are_wide (encode_utf8 c) ≡ true
    w = are_wide-encode c high

    by : InKey r.mode → Fits s × (read s ≡ text ++ encode_utf8 c)
    by (outside out) = none_given _ s (sym (wide_out r (encode_utf8 c) out w (encode_some c)) ∙ e)
    by (inside key) =
        let is : record r { key = r.key ++ encode_utf8 c } ≡ s = some_same (sym (wide_in r.mode r (encode_utf8 c) refl key w) ∙ e) in
        let grown = key_grows r.mode r (encode_utf8 c) key b.fits w (is_plain_text-encode c scalar plain) in
        subst (λ t. Fits t × (read t ≡ text ++ encode_utf8 c)) is (grown.0, grown.1 ∙ ap (λ x. x ++ encode_utf8 c) b.is)

-- the reader after one more character
pub steps : (text : List ℕ) (r s : Reader) (c : ℕ) → IsScalar c → is_plain_character c ≡ true → IsBehind text r → feed_all r (encode_utf8 c) ≡ Some s → IsBehind (text ++ encode_utf8 c) s
steps text r s c scalar plain b e =
    let grown = by (ltb c 128) refl in
    record {
      fits = grown.0;
      is = grown.1;
      fed = feed_all-append at_start text (encode_utf8 c) ∙ ap (option_and_then (λ t. feed_all t (encode_utf8 c))) b.fed ∙ e;
      plain = is_plain_text-append text (encode_utf8 c) b.plain (is_plain_text-encode c scalar plain);
    }
  where
    by : (t : Bool) → ltb c 128 ≡ t → Fits s × (read s ≡ text ++ encode_utf8 c)
    by true low = low_step text r s c (ltb-true c 128 low) scalar plain b e
    by false high = wide_step text r s c (ltb-false c 128 high) scalar plain b e

-- the reader after many more characters
all_steps_by : (o : Option Reader) (text : List ℕ) (r s : Reader) (c : ℕ) (cs : List ℕ) → feed_all r (encode_utf8 c) ≡ o → IsScalar c → is_plain_character c ≡ true → IsBehind text r
    → ((t : Reader) → IsBehind (text ++ encode_utf8 c) t → feed_all t (encode_utf8_all cs) ≡ Some s → IsBehind ((text ++ encode_utf8 c) ++ encode_utf8_all cs) s)
    → option_and_then (λ t. feed_all t (encode_utf8_all cs)) o ≡ Some s → IsBehind (text ++ encode_utf8 c ++ encode_utf8_all cs) s
all_steps_by None text r s c cs f scalar plain b more e = none_given _ s e
all_steps_by (Some t) text r s c cs f scalar plain b more e =
    more t (steps text r t c scalar plain b f) e

pub all_steps : (cs text : List ℕ) (r s : Reader) → all_scalars cs ≡ true → list_all is_plain_character cs ≡ true → IsBehind text r → feed_all r (encode_utf8_all cs) ≡ Some s → IsBehind (text ++ encode_utf8_all cs) s
all_steps [] text r s scalars plain b e = let same : r ≡ s = some_same e in subst (λ x. IsBehind x s) (sym (append-nil text)) (subst (IsBehind text) same b)
all_steps (c ∷ cs) text r s scalars plain b e =
    let here = and_parts _ _ scalars in
    let so = and_parts _ _ plain in
    subst (λ x. IsBehind x s) (append_assoc text (encode_utf8 c) (encode_utf8_all cs))
    (all_steps_by (feed_all r (encode_utf8 c)) text r s c cs refl here.0 so.0 b (λ t k f. all_steps cs (text ++ encode_utf8 c) t s here.1 so.1 k f)
    (sym (feed_all-append r (encode_utf8 c) (encode_utf8_all cs)) ∙ e))
