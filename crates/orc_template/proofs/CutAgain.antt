-- The string that parts are written as is cut into them.
use Rattle.std.proofs.Common.{◌≡◌, ℕ, ◌<◌, ◌==◌, Bool, true, false, not, List, [], ◌∷◌, ◌++◌, Some, encode_utf8, encode_utf8_all, IsUtf8, refl, sym, ap, subst, ◌∙◌, append_assoc, append-nil, arith}
use Rattle.std.specs.Option.{option_and_then}
use Rattle.std.specs.Str.{chars}
use Rattle.std.specs.List.{flat_map, list_all}
use Rattle.std.proofs.lemmas.Bool.{eqb-true, and_parts, false≢true}
use Rattle.std.proofs.lemmas.Str.{encode_ascii, chars-nil, chars-append, encodes-chars, chars-encodes}
use Rattle.orc_template.specs.Strings.{cut_on, cut_all, cut_end, cut_parts}
use Rattle.orc_template.specs.Spelled.{brace_doubled, part_written, string_written, fits_in_braces, AreParts, joined_behind, joined_parts}
use Rattle.orc_template.specs.declared.strings.Part.{Part}
use Rattle.orc_template.specs.declared.strings.Part.TheVariants.{Written, Braced}
use Rattle.orc_template.specs.declared.strings.Cutter.{Cutter}
use Rattle.orc_template.specs.declared.strings.Stage.TheVariants as stages
use Rattle.orc_template.proofs.Doubled.{no_brace, doubled_utf8, doubled_chars}

abbrev in_text : List Part → List ℕ → Cutter
in_text parts text = record { parts = parts; text = text; stage = stages.Written }

abbrev in_braces : List Part → List ℕ → Cutter
in_braces parts text = record { parts = parts; text = text; stage = stages.Braces }

-- a character of a plain text
one_cut : (parts : List Part) (text : List ℕ) (c : ℕ) (rest : List ℕ) → cut_all (in_text parts text) (brace_doubled c ++ rest) ≡ cut_all (in_text parts (text ++ encode_utf8 c)) rest
one_cut parts text c rest = on (c == 123) (c == 125) refl refl
  where
    on : (a b : Bool) → (c == 123) ≡ a → (c == 125) ≡ b → cut_all (in_text parts text) (brace_doubled c ++ rest) ≡ cut_all (in_text parts (text ++ encode_utf8 c)) rest
    on true b h k = subst (λ x. cut_all (in_text parts text) (brace_doubled x ++ rest) ≡ cut_all (in_text parts (text ++ encode_utf8 x)) rest) (sym (eqb-true c 123 h)) refl
    on false true h k = subst (λ x. cut_all (in_text parts text) (brace_doubled x ++ rest) ≡ cut_all (in_text parts (text ++ encode_utf8 x)) rest) (sym (eqb-true c 125 k)) refl
    on false false h k =
        let next : cut_on (in_text parts text) c ≡ Some (in_text parts (text ++ encode_utf8 c)) = rw (h, k) refl in
        ap (λ x. cut_all (in_text parts text) (x ++ rest)) (no_brace c h k) ∙ ap (option_and_then (λ k. cut_all k rest)) next

plain_cut : (cs : List ℕ) (parts : List Part) (text rest : List ℕ) → cut_all (in_text parts text) (flat_map brace_doubled cs ++ rest) ≡ cut_all (in_text parts (text ++ encode_utf8_all cs)) rest
plain_cut [] parts text rest = ap (λ x. cut_all (in_text parts x) rest) (sym (append-nil text))
plain_cut (c ∷ cs) parts text rest =
    ap (cut_all (in_text parts text)) (append_assoc (brace_doubled c) (flat_map brace_doubled cs) rest)
    ∙ one_cut parts text c (flat_map brace_doubled cs ++ rest)
    ∙ plain_cut cs parts (text ++ encode_utf8 c) rest
    ∙ ap (λ x. cut_all (in_text parts x) rest) (append_assoc text (encode_utf8 c) (encode_utf8_all cs))

-- what stands in braces
not_false : (t : Bool) → not t ≡ true → t ≡ false
not_false true h = absurd (false≢true h)
not_false false h = refl

inside_cut : (cs : List ℕ) (parts : List Part) (text rest : List ℕ) → list_all (λ c. not (c == 125)) cs ≡ true
    → cut_all (in_braces parts text) (cs ++ 125 ∷ rest) ≡ cut_all (in_text (parts ++ Braced (text ++ encode_utf8_all cs) ∷ []) []) rest
inside_cut [] parts text rest h = ap (λ x. cut_all (in_text (parts ++ Braced x ∷ []) []) rest) (sym (append-nil text))
inside_cut (c ∷ cs) parts text rest h =
    let each = and_parts _ _ h in
    let other = not_false (c == 125) each.0 in
    let next : cut_on (in_braces parts text) c ≡ Some (in_braces parts (text ++ encode_utf8 c)) = rw other refl in
    ap (option_and_then (λ k. cut_all k (cs ++ 125 ∷ rest))) next
    ∙ inside_cut cs parts (text ++ encode_utf8 c) rest each.1
    ∙ ap (λ x. cut_all (in_text (parts ++ Braced x ∷ []) []) rest) (append_assoc text (encode_utf8 c) (encode_utf8_all cs))

braced_cut : (cs : List ℕ) (parts : List Part) (text rest : List ℕ) → fits_in_braces cs ≡ true
    → cut_all (in_text parts text) (123 ∷ (cs ++ 125 ∷ rest)) ≡ cut_all (in_text ((parts ++ Written text ∷ []) ++ Braced (encode_utf8_all cs) ∷ []) []) rest
braced_cut [] parts text rest h = refl
braced_cut (c ∷ cs) parts text rest h =
    let fits = and_parts _ _ h in
    let each = and_parts _ _ fits.1 in
    let open_ = not_false (c == 123) fits.0 in
    let other = not_false (c == 125) each.0 in
    let opened : Cutter = record { parts = parts; text = text; stage = stages.Opened } in
    let next : cut_on opened c ≡ Some (in_braces (parts ++ Written text ∷ []) (encode_utf8 c)) = rw (open_, other) refl in
    ap (option_and_then (λ k. cut_all k (cs ++ 125 ∷ rest))) next ∙ inside_cut cs (parts ++ Written text ∷ []) (encode_utf8 c) rest each.1

-- a brace is a character
alone : (b : ℕ) → b < 128 → encode_utf8_all (b ∷ []) ≡ b ∷ []
alone b low = ap (λ x. x ++ []) (encode_ascii b low)

open_alone : encode_utf8_all (123 ∷ []) ≡ 123 ∷ []
open_alone = alone 123 (omega arith)

close_alone : encode_utf8_all (125 ∷ []) ≡ 125 ∷ []
close_alone = alone 125 (omega arith)

open_utf8 : IsUtf8 (123 ∷ [])
open_utf8 = (123 ∷ [], (refl, open_alone))

close_utf8 : IsUtf8 (125 ∷ [])
close_utf8 = (125 ∷ [], (refl, close_alone))

one_char : (b : ℕ) (rest : List ℕ) → IsUtf8 (b ∷ []) → chars (b ∷ []) ≡ b ∷ [] → chars (b ∷ rest) ≡ b ∷ chars rest
one_char b rest is one = chars-append (b ∷ []) rest is ∙ ap (λ x. x ++ chars rest) one

braced_chars : (text rest : List ℕ) → IsUtf8 text → chars (part_written (Braced text) ++ rest) ≡ 123 ∷ (chars text ++ 125 ∷ chars rest)
braced_chars text rest is =
    one_char 123 ((text ++ 125 ∷ []) ++ rest) open_utf8 (ap chars (sym open_alone) ∙ chars-encodes (123 ∷ []) refl)
    ∙ ap (λ x. 123 ∷ chars x) (append_assoc text (125 ∷ []) rest)
    ∙ ap (λ x. 123 ∷ x) (chars-append text (125 ∷ rest) is ∙ ap (λ x. chars text ++ x) (one_char 125 rest close_utf8 (ap chars (sym close_alone) ∙ chars-encodes (125 ∷ []) refl)))

parts_cut : (later : List Part) (parts : List Part) (text : List ℕ) → AreParts later
    → option_and_then cut_end (cut_all (in_text parts text) (chars (string_written later))) ≡ Some (parts ++ joined_behind text later)
parts_cut [] parts text are = ap (λ x. option_and_then cut_end (cut_all (in_text parts text) x)) chars-nil
parts_cut (Written more ∷ later) parts text are =
    ap (λ x. option_and_then cut_end (cut_all (in_text parts text) x))
    (chars-append (flat_map brace_doubled more) (string_written later) (doubled_utf8 more are.0) ∙ ap (λ x. x ++ chars (string_written later)) (doubled_chars more are.0))
    ∙ ap (option_and_then cut_end) (plain_cut (chars more) parts text (chars (string_written later)))
    ∙ ap (λ x. option_and_then cut_end (cut_all (in_text parts (text ++ x)) (chars (string_written later)))) (encodes-chars more are.0)
    ∙ parts_cut later parts (text ++ more) are.1
parts_cut (Braced inside ∷ later) parts text are =
    ap (λ x. option_and_then cut_end (cut_all (in_text parts text) x)) (braced_chars inside (string_written later) are.0.0)
    ∙ ap (option_and_then cut_end) (braced_cut (chars inside) parts text (chars (string_written later)) are.0.1)
    ∙ ap (λ x. option_and_then cut_end (cut_all (in_text ((parts ++ Written text ∷ []) ++ Braced x ∷ []) []) (chars (string_written later)))) (encodes-chars inside are.0.0)
    ∙ parts_cut later ((parts ++ Written text ∷ []) ++ Braced inside ∷ []) [] are.1
    ∙ ap Some (append_assoc (parts ++ Written text ∷ []) (Braced inside ∷ []) (joined_behind [] later) ∙ append_assoc parts (Written text ∷ []) (Braced inside ∷ joined_behind [] later))

pub cut_again : (parts : List Part) → AreParts parts → cut_parts (string_written parts) ≡ Some (joined_parts parts)
cut_again parts are = parts_cut parts [] [] are
