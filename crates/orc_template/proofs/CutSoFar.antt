-- What was cut so far is what its parts are written as.
use Rattle.std.proofs.Common.{◌≡◌, ℕ, ◌<◌, ◌==◌, Bool, true, false, not, cond, List, [], ◌∷◌, ◌++◌, Option, Some, None, encode_utf8, encode_utf8_all, IsUtf8, refl, sym, ap, subst, ◌∙◌, append_assoc, append-nil, arith}
use Rattle.std.specs.Option.{option_and_then}
use Rattle.std.specs.Char.{IsScalar}
use Rattle.std.specs.Str.{chars, all_scalars}
use Rattle.std.specs.List.{flat_map, list_all}
use Rattle.std.proofs.lemmas.Bool.{eqb-true, and_parts, and_from}
use Rattle.std.proofs.lemmas.Grind.{flat_map-append}
use Rattle.std.proofs.lemmas.Str.{encode_ascii, encodes-append, encodes-chars, scalars-chars, chars-nil, chars-encodes, IsUtf8-nil, IsUtf8-append, IsUtf8-encode}
use Rattle.orc_template.specs.Strings.{cut_text, cut_braces, cut_opened, cut_closed, cut_on, cut_all, cut_start, end_at, cut_end, cut_parts}
use Rattle.orc_template.specs.Spelled.{brace_doubled, part_written, string_written, fits_in_braces, IsPart, AreParts}
use Rattle.orc_template.specs.declared.strings.Part.{Part}
use Rattle.orc_template.specs.declared.strings.Part.TheVariants.{Written, Braced}
use Rattle.orc_template.specs.declared.strings.Cutter.{Cutter}
use Rattle.orc_template.specs.declared.strings.Stage.{Stage}
use Rattle.orc_template.specs.declared.strings.Stage.TheVariants as stages
use Rattle.orc_template.proofs.Doubled.{no_brace, character_doubled, scalars_append}

abbrev doubled : List ℕ → List ℕ
doubled text = flat_map brace_doubled text

-- what stands after the parts so far
abbrev stage_text : Stage → List ℕ → List ℕ
stage_text stages.Written text = doubled text
stage_text stages.Opened text = doubled text ++ 123 ∷ []
stage_text stages.Braces text = 123 ∷ text
stage_text stages.Closed text = doubled text ++ 125 ∷ []

-- the characters in braces so far, of which there is one at least
record IsInside (text : List ℕ) : Type 0 where
  first : ℕ
  more : List ℕ
  spelled : encode_utf8_all (first ∷ more) ≡ text
  scalars : all_scalars (first ∷ more) ≡ true
  fits : fits_in_braces (first ∷ more) ≡ true

abbrev IsAt : Stage → List ℕ → Type 0
IsAt stages.Written text = IsUtf8 text
IsAt stages.Opened text = IsUtf8 text
IsAt stages.Braces text = IsInside text
IsAt stages.Closed text = IsUtf8 text

record IsCut (read : List ℕ) (k : Cutter) : Type 0 where
  parts : AreParts k.parts
  text : IsAt k.stage k.text
  so_far : string_written k.parts ++ stage_text k.stage k.text ≡ read

are_push : (parts : List Part) (part : Part) → AreParts parts → IsPart part → AreParts (parts ++ part ∷ [])
are_push [] part h is = (is, tt)
are_push (first ∷ later) part h is = (h.0, are_push later part h.1 is)

text_behind : (parts : List Part) (text : List ℕ) → string_written (parts ++ Written text ∷ []) ≡ string_written parts ++ doubled text
text_behind parts text = flat_map-append part_written parts (Written text ∷ []) ∙ ap (λ x. string_written parts ++ x) (append-nil (doubled text))

braced_behind : (parts : List Part) (text : List ℕ) → string_written (parts ++ Braced text ∷ []) ≡ string_written parts ++ (123 ∷ (text ++ 125 ∷ []))
braced_behind parts text = flat_map-append part_written parts (Braced text ∷ []) ∙ ap (λ x. string_written parts ++ x) (append-nil (123 ∷ (text ++ 125 ∷ [])))

-- the bytes of a brace, and of any other character
brace_bytes : (b c : ℕ) → b < 128 → (c == b) ≡ true → encode_utf8 c ≡ b ∷ []
brace_bytes b c low is = ap encode_utf8 (eqb-true c b is) ∙ encode_ascii b low

other_doubled : (text : List ℕ) (c : ℕ) → (c == 123) ≡ false → (c == 125) ≡ false → doubled (text ++ encode_utf8 c) ≡ doubled text ++ encode_utf8 c
other_doubled text c h k =
    flat_map-append brace_doubled text (encode_utf8 c) ∙ ap (λ x. doubled text ++ x) (character_doubled c ∙ ap encode_utf8_all (no_brace c h k) ∙ append-nil (encode_utf8 c))

brace_doubled_behind : (text : List ℕ) (b c : ℕ) → encode_utf8 c ≡ b ∷ [] → brace_doubled b ≡ b ∷ b ∷ [] → doubled (text ++ encode_utf8 c) ≡ (doubled text ++ b ∷ []) ++ encode_utf8 c
brace_doubled_behind text b c bytes twice =
    ap (λ x. doubled (text ++ x)) bytes
    ∙ flat_map-append brace_doubled text (b ∷ [])
    ∙ ap (λ x. doubled text ++ x) (append-nil (brace_doubled b) ∙ twice)
    ∙ sym (append_assoc (doubled text) (b ∷ []) (b ∷ []))
    ∙ ap (λ x. (doubled text ++ b ∷ []) ++ x) (sym bytes)

list_all_push : (p : ℕ → Bool) (xs : List ℕ) (x : ℕ) → list_all p xs ≡ true → p x ≡ true → list_all p (xs ++ x ∷ []) ≡ true
list_all_push p [] x h k = and_from _ _ k refl
list_all_push p (y ∷ ys) x h k = let parts = and_parts _ _ h in and_from _ _ parts.0 (list_all_push p ys x parts.1 k)

not_so : (t : Bool) → t ≡ false → not t ≡ true
not_so t h = ap not h

module _ (parts : List Part) (text : List ℕ) (c : ℕ) (scalar : IsScalar c) (next : Cutter) (are : AreParts parts) where
  utf8_more : IsUtf8 text → IsUtf8 (text ++ encode_utf8 c)
  utf8_more is = IsUtf8-append text (encode_utf8 c) is (IsUtf8-encode c scalar)

  -- in what is written
  text_goes : IsUtf8 text → cut_text (record { parts = parts; text = text; stage = stages.Written }) c ≡ Some next → IsCut ((string_written parts ++ doubled text) ++ encode_utf8 c) next
  text_goes is h = on (c == 123) (c == 125) refl refl h
    where
      on : (a b : Bool) → (c == 123) ≡ a → (c == 125) ≡ b
          → cond a (Some (record { parts = parts; text = text; stage = stages.Opened })) (cond b (Some (record { parts = parts; text = text; stage = stages.Closed }))
          (Some (record { parts = parts; text = text ++ encode_utf8 c; stage = stages.Written }))) ≡ Some next → IsCut ((string_written parts ++ doubled text) ++ encode_utf8 c) next
      on true b e k h =
          let same : record { parts = parts; text = text; stage = stages.Opened } ≡ next = cc in
          subst (IsCut ((string_written parts ++ doubled text) ++ encode_utf8 c)) same
          (record { parts = are; text = is; so_far = sym (append_assoc (string_written parts) (doubled text) (123 ∷ [])) ∙ ap (λ x. (string_written parts ++ doubled text) ++ x) (sym (brace_bytes 123 c (omega arith) e)) })
      on false true e k h =
          let same : record { parts = parts; text = text; stage = stages.Closed } ≡ next = cc in
          subst (IsCut ((string_written parts ++ doubled text) ++ encode_utf8 c)) same
          (record { parts = are; text = is; so_far = sym (append_assoc (string_written parts) (doubled text) (125 ∷ [])) ∙ ap (λ x. (string_written parts ++ doubled text) ++ x) (sym (brace_bytes 125 c (omega arith) k)) })
      on false false e k h =
          let same : record { parts = parts; text = text ++ encode_utf8 c; stage = stages.Written } ≡ next = cc in
          subst (IsCut ((string_written parts ++ doubled text) ++ encode_utf8 c)) same
          (record { parts = are; text = utf8_more is; so_far = ap (λ x. string_written parts ++ x) (other_doubled text c e k) ∙ sym (append_assoc (string_written parts) (doubled text) (encode_utf8 c)) })

  -- after a brace of what is written, a second one
  twice : (b : ℕ) → encode_utf8 c ≡ b ∷ [] → brace_doubled b ≡ b ∷ b ∷ [] → IsUtf8 text
      → IsCut ((string_written parts ++ (doubled text ++ b ∷ [])) ++ encode_utf8 c) (record { parts = parts; text = text ++ encode_utf8 c; stage = stages.Written })
  twice b bytes doubles is = record {
    parts = are;
    text = utf8_more is;
    so_far = ap (λ x. string_written parts ++ x) (brace_doubled_behind text b c bytes doubles) ∙ sym (append_assoc (string_written parts) (doubled text ++ b ∷ []) (encode_utf8 c));
  }

  opened_goes : IsUtf8 text → cut_opened (record { parts = parts; text = text; stage = stages.Opened }) c ≡ Some next → IsCut ((string_written parts ++ (doubled text ++ 123 ∷ [])) ++ encode_utf8 c) next
  opened_goes is h = on (c == 123) (c == 125) refl refl h
    where
      front : string_written (parts ++ Written text ∷ []) ++ 123 ∷ [] ≡ string_written parts ++ (doubled text ++ 123 ∷ [])
      front = ap (λ x. x ++ 123 ∷ []) (text_behind parts text) ∙ append_assoc (string_written parts) (doubled text) (123 ∷ [])

      begun_with : (rest : List ℕ) → string_written (parts ++ Written text ∷ []) ++ (123 ∷ rest) ≡ (string_written parts ++ (doubled text ++ 123 ∷ [])) ++ rest
      begun_with rest = sym (append_assoc (string_written (parts ++ Written text ∷ [])) (123 ∷ []) rest) ∙ ap (λ x. x ++ rest) front

      on : (a b : Bool) → (c == 123) ≡ a → (c == 125) ≡ b
          → cond a (Some (record { parts = parts; text = text ++ encode_utf8 c; stage = stages.Written }))
          (cond b (Some (record { parts = (parts ++ Written text ∷ []) ++ Braced [] ∷ []; text = []; stage = stages.Written }))
          (Some (record { parts = parts ++ Written text ∷ []; text = encode_utf8 c; stage = stages.Braces }))) ≡ Some next
          → IsCut ((string_written parts ++ (doubled text ++ 123 ∷ [])) ++ encode_utf8 c) next
      on true b e k h =
          let same : record { parts = parts; text = text ++ encode_utf8 c; stage = stages.Written } ≡ next = cc in
          subst (IsCut ((string_written parts ++ (doubled text ++ 123 ∷ [])) ++ encode_utf8 c)) same (twice 123 (brace_bytes 123 c (omega arith) e) refl is)
      on false true e k h =
          let same : record { parts = (parts ++ Written text ∷ []) ++ Braced [] ∷ []; text = []; stage = stages.Written } ≡ next = cc in
          subst (IsCut ((string_written parts ++ (doubled text ++ 123 ∷ [])) ++ encode_utf8 c)) same (record {
            parts = are_push (parts ++ Written text ∷ []) (Braced []) (are_push parts (Written text) are is) (IsUtf8-nil, ap fits_in_braces chars-nil);
            text = IsUtf8-nil;
            so_far = append-nil (string_written ((parts ++ Written text ∷ []) ++ Braced [] ∷ []))
                ∙ braced_behind (parts ++ Written text ∷ []) [] ∙ begun_with (125 ∷ [])
                ∙ ap (λ x. (string_written parts ++ (doubled text ++ 123 ∷ [])) ++ x) (sym (brace_bytes 125 c (omega arith) k));
          })
      on false false e k h =
          let same : record { parts = parts ++ Written text ∷ []; text = encode_utf8 c; stage = stages.Braces } ≡ next = cc in
          subst (IsCut ((string_written parts ++ (doubled text ++ 123 ∷ [])) ++ encode_utf8 c)) same (record {
            parts = are_push parts (Written text) are is;
            text = record {
              first = c;
              more = [];
              spelled = append-nil (encode_utf8 c);
              scalars = and_from _ _ scalar refl;
              fits = and_from _ _ (not_so (c == 123) e) (and_from _ _ (not_so (c == 125) k) refl);
            };
            so_far = begun_with (encode_utf8 c);
          })

  -- in braces
  braces_go : IsInside text → cut_braces (record { parts = parts; text = text; stage = stages.Braces }) c ≡ Some next → IsCut ((string_written parts ++ (123 ∷ text)) ++ encode_utf8 c) next
  braces_go is h = on (c == 125) refl h
    where
      as_chars : chars text ≡ is.first ∷ is.more
      as_chars = ap chars (sym is.spelled) ∙ chars-encodes (is.first ∷ is.more) is.scalars

      on : (b : Bool) → (c == 125) ≡ b
          → cond b (Some (record { parts = parts ++ Braced text ∷ []; text = []; stage = stages.Written })) (Some (record { parts = parts; text = text ++ encode_utf8 c; stage = stages.Braces })) ≡ Some next
          → IsCut ((string_written parts ++ (123 ∷ text)) ++ encode_utf8 c) next
      on true k h =
          let same : record { parts = parts ++ Braced text ∷ []; text = []; stage = stages.Written } ≡ next = cc in
          subst (IsCut ((string_written parts ++ (123 ∷ text)) ++ encode_utf8 c)) same (record {
            parts = are_push parts (Braced text) are ((is.first ∷ is.more, (is.scalars, is.spelled)), ap fits_in_braces as_chars ∙ is.fits);
            text = IsUtf8-nil;
            so_far = append-nil (string_written (parts ++ Braced text ∷ [])) ∙ braced_behind parts text
                ∙ sym (append_assoc (string_written parts) (123 ∷ text) (125 ∷ [])) ∙ ap (λ x. (string_written parts ++ (123 ∷ text)) ++ x) (sym (brace_bytes 125 c (omega arith) k));
          })
      on false k h =
          let same : record { parts = parts; text = text ++ encode_utf8 c; stage = stages.Braces } ≡ next = cc in
          let fits = and_parts _ _ is.fits in
          subst (IsCut ((string_written parts ++ (123 ∷ text)) ++ encode_utf8 c)) same (record {
            parts = are;
            text = record {
              first = is.first;
              more = is.more ++ c ∷ [];
              spelled = encodes-append (is.first ∷ is.more) (c ∷ []) ∙ ap (λ x. encode_utf8_all (is.first ∷ is.more) ++ x) (append-nil (encode_utf8 c)) ∙ ap (λ x. x ++ encode_utf8 c) is.spelled;
              scalars = scalars_append (is.first ∷ is.more) (c ∷ []) is.scalars (and_from _ _ scalar refl);
              fits = and_from _ _ fits.0 (list_all_push (λ d. not (d == 125)) (is.first ∷ is.more) c fits.1 (not_so (c == 125) k));
            };
            so_far = sym (append_assoc (string_written parts) (123 ∷ text) (encode_utf8 c));
          })

  -- after a closing brace of what is written
  closed_goes : IsUtf8 text → cut_closed (record { parts = parts; text = text; stage = stages.Closed }) c ≡ Some next → IsCut ((string_written parts ++ (doubled text ++ 125 ∷ [])) ++ encode_utf8 c) next
  closed_goes is h = on (c == 125) refl h
    where
      on : (b : Bool) → (c == 125) ≡ b → cond b (Some (record { parts = parts; text = text ++ encode_utf8 c; stage = stages.Written })) None ≡ Some next
          → IsCut ((string_written parts ++ (doubled text ++ 125 ∷ [])) ++ encode_utf8 c) next
      on true k h =
          let same : record { parts = parts; text = text ++ encode_utf8 c; stage = stages.Written } ≡ next = cc in
          subst (IsCut ((string_written parts ++ (doubled text ++ 125 ∷ [])) ++ encode_utf8 c)) same (twice 125 (brace_bytes 125 c (omega arith) k) refl is)
      on false k h = let never : ⊥ = cc in absurd never

  -- wherever it stands
  character_goes : (stage : Stage) → IsAt stage text → cut_on (record { parts = parts; text = text; stage = stage }) c ≡ Some next → IsCut ((string_written parts ++ stage_text stage text) ++ encode_utf8 c) next
  character_goes stages.Written is h = text_goes is h
  character_goes stages.Opened is h = opened_goes is h
  character_goes stages.Braces is h = braces_go is h
  character_goes stages.Closed is h = closed_goes is h

step : (read : List ℕ) (k next : Cutter) (c : ℕ) → IsScalar c → IsCut read k → cut_on k c ≡ Some next → IsCut (read ++ encode_utf8 c) next
step read k next c scalar cut h =
    subst (λ x. IsCut (x ++ encode_utf8 c) next) cut.so_far (character_goes k.parts k.text c scalar next cut.parts k.stage cut.text h)

all_steps : (cs read : List ℕ) (k last : Cutter) → all_scalars cs ≡ true → IsCut read k → cut_all k cs ≡ Some last → IsCut (read ++ encode_utf8_all cs) last
all_steps [] read k last scalars cut h = let same : k ≡ last = cc in subst (IsCut (read ++ [])) same (subst (λ x. IsCut x k) (sym (append-nil read)) cut)
all_steps (c ∷ cs) read k last scalars cut h = on (cut_on k c) refl h (λ next one rest. all_steps cs (read ++ encode_utf8 c) next last each.1 one rest)
  where
    each : (all_scalars (c ∷ []) ≡ true) × (all_scalars cs ≡ true)
    each = let parts = and_parts _ _ scalars in (and_from _ _ parts.0 refl, parts.1)

    first : IsScalar c
    first = (and_parts _ _ scalars).0

    on : (o : Option Cutter) → cut_on k c ≡ o → option_and_then (λ next. cut_all next cs) o ≡ Some last
        → ((next : Cutter) → IsCut (read ++ encode_utf8 c) next → cut_all next cs ≡ Some last → IsCut ((read ++ encode_utf8 c) ++ encode_utf8_all cs) last)
        → IsCut (read ++ (encode_utf8 c ++ encode_utf8_all cs)) last
    on None is h more = let never : ⊥ = cc in absurd never
    on (Some next) is h more = subst (λ x. IsCut x last) (append_assoc read (encode_utf8 c) (encode_utf8_all cs)) (more next (step read k next c first cut is) h)

-- a string that ends in what is written
ended : (text : List ℕ) (k : Cutter) (parts : List Part) → IsCut text k → cut_end k ≡ Some parts → AreParts parts × (string_written parts ≡ text)
ended text k parts cut h = on k.stage cut.text cut.so_far h
  where
    on : (stage : Stage) → IsAt stage k.text → string_written k.parts ++ stage_text stage k.text ≡ text → end_at stage (k.parts ++ Written k.text ∷ []) ≡ Some parts → AreParts parts × (string_written parts ≡ text)
    on stages.Written is so_far h =
        let same : k.parts ++ Written k.text ∷ [] ≡ parts = cc in
        subst (λ ps. AreParts ps × (string_written ps ≡ text)) same (are_push k.parts (Written k.text) cut.parts is, text_behind k.parts k.text ∙ so_far)
    on stages.Opened is so_far h = let never : ⊥ = cc in absurd never
    on stages.Braces is so_far h = let never : ⊥ = cc in absurd never
    on stages.Closed is so_far h = let never : ⊥ = cc in absurd never

pub cut_written : (text : List ℕ) (parts : List Part) → IsUtf8 text → cut_parts text ≡ Some parts → AreParts parts × (string_written parts ≡ text)
cut_written text parts is h = on (cut_all cut_start (chars text)) refl h
  where
    on : (o : Option Cutter) → cut_all cut_start (chars text) ≡ o → option_and_then cut_end o ≡ Some parts → AreParts parts × (string_written parts ≡ text)
    on None all h = let never : ⊥ = cc in absurd never
    on (Some k) all h =
        let begins : IsCut [] cut_start = record { parts = tt; text = IsUtf8-nil; so_far = refl } in
        ended text k parts (subst (λ x. IsCut x k) (encodes-chars text is) (all_steps (chars text) [] cut_start k (scalars-chars text is) begins all)) h
