-- Lines that are written are read.
use Rattle.std.proofs.Common.{◌≡◌, ℕ, zero, suc, ◌<◌, ◌≤◌, ◌+◌, ◌^◌, ◌≢◌, Bool, true, false, not, ◌==◌, ◌||◌, cond, List, [], ◌∷◌, ◌++◌, ◌⊎◌, inl, inr, length, get_or, map, reverse, refl, ap, sym, ◌∙◌, subst, arith, append_assoc, eq-eqb, eqb-true, Some, None, decimal, nat_lt}
use Rattle.std.specs.List.{concat, list_all, list_any}
use Rattle.std.specs.Str.{all_ascii_digits}
use Rattle.std.specs.Str.Parse.{digits_value}
use Rattle.std.proofs.lemmas.Bool.{and_parts, and_from, or_from, le-ltb, lt-ltb}
use Rattle.std.proofs.lemmas.Fmt.{decimal_digit, decimal_nonempty, first_decimal, digits_decimal, digits_value-decimal}
use Rattle.std.proofs.lemmas.List.{reverse-append, reverse-reverse}
use Rattle.std.proofs.lemmas.List.Folds.{list_all-append}
use Rattle.orc_lines.specs.Lines.{as_line, is_large, is_skipped, lines_of, text_of, without_end, without_return}
use Rattle.orc_lines.specs.Words.{cut_at, is_number, is_padded, number_in}
use Rattle.orc_bundle_laws.specs.Written.{AreLinesOf, IsLineOf, none, one, skipped}
use Rattle.orc_lines.specs.declared.lines.TheConstants.{LARGEST_BUNDLE, LONGEST_LINE}
use Rattle.orc_lines.specs.inside.Blocks.{lacks}
use Rattle.orc_lines.proofs.Cuts.{cut_none, cut_some}
use Rattle.orc_lines.proofs.LinesOf.{line_found, untrue}
use Rattle.orc_lines.proofs.Numbers.{own}
use Rattle.orc_bundle_laws.proofs.Texts.{IsPart, IsWord, all_so, is_line_byte, is_word_byte}

-- lines

lacks_feed : (t : List ℕ) → list_all is_line_byte t ≡ true → lacks 10 t ≡ true
lacks_feed t h = all_so is_line_byte (λ b. not (b == 10)) t (λ b k. (and_parts (not (b == 10)) (not (b == 13)) k).0) h

return_kept : (xs : List ℕ) → list_all is_line_byte xs ≡ true → without_return xs ≡ xs
return_kept [] h = refl
return_kept (b ∷ bs) h =
    let e : (b == 13) ≡ false = untrue (b == 13) (and_parts (not (b == 10)) (not (b == 13)) (and_parts (is_line_byte b) (list_all is_line_byte bs) h).0).1 in rw e refl

reversed : (f : ℕ → Bool) (xs : List ℕ) → list_all f xs ≡ true → list_all f (reverse xs) ≡ true
reversed f [] h = refl
reversed f (x ∷ xs) h =
    let parts = and_parts (f x) (list_all f xs) h in
    ap (list_all f) (reverse-append (x ∷ []) xs) ∙ list_all-append f (reverse xs) (x ∷ []) ∙ and_from _ _ (reversed f xs parts.1) (and_from (f x) true parts.0 refl)

pub text_of_ended : (t : List ℕ) → list_all is_line_byte t ≡ true → text_of (as_line t) ≡ t
text_of_ended t h =
    ap (λ (x : List ℕ). reverse (without_end x)) (reverse-append t (10 ∷ []))
    ∙ ap reverse (return_kept (reverse t) (reversed is_line_byte t h))
    ∙ reverse-reverse t

line_joined : (text line : List ℕ) (lines : List (List ℕ)) (rest : List ℕ) → IsLineOf text line → lines_of (concat lines ++ rest) ≡ lines ++ lines_of rest
    → lines_of (concat (line ∷ lines) ++ rest) ≡ line ∷ (lines ++ lines_of rest)
line_joined text line lines rest is more =
    ap (λ (l : List ℕ). lines_of (l ++ concat lines ++ rest)) is.ended
    ∙ ap lines_of (append_assoc (as_line is.front) (concat lines) rest ∙ append_assoc is.front (10 ∷ []) (concat lines ++ rest))
    ∙ line_found is.front (concat lines ++ rest) is.alone
    ∙ ap (λ (ls : List (List ℕ)). as_line is.front ∷ ls) more
    ∙ ap (λ (l : List ℕ). l ∷ (lines ++ lines_of rest)) (sym is.ended)

-- a text is among texts
abbrev pub Contained : List ℕ → List (List ℕ) → Type 0
Contained t [] = ⊥
Contained t (x ∷ xs) = (x ≡ t) ⊎ Contained t xs

pub contained_behind : (xs ys : List (List ℕ)) (t : List ℕ) → Contained t ys → Contained t (xs ++ ys)
contained_behind [] ys t h = h
contained_behind (x ∷ xs) ys t h = inr (contained_behind xs ys t h)

-- a line that is looked at by its text
pub record IsText (t : List ℕ) : Type 0 where
  pub part : IsPart t
  pub kept : is_skipped t ≡ false
  pub short : length t ≤ LONGEST_LINE

-- a text that makes no line large
pub not_large : (t line : List ℕ) (at : ℕ) → text_of line ≡ t → length t ≤ LONGEST_LINE → at + length line ≤ LARGEST_BUNDLE → is_large at line ≡ false
not_large t line at says short within =
    or_from _ _ (le-ltb LARGEST_BUNDLE (at + length line) within)
    (ap (λ (x : List ℕ). nat_lt LONGEST_LINE (length x)) says ∙ le-ltb LONGEST_LINE (length t) short)

-- lines joined are cut into these lines again
pub lines_of_joined : (texts lines : List (List ℕ)) (rest : List ℕ) → AreLinesOf texts lines → lines_of (concat lines ++ rest) ≡ lines ++ lines_of rest
lines_of_joined texts lines rest none = refl
lines_of_joined texts lines rest (one text line more lines_more is are) = line_joined text line lines_more rest is (lines_of_joined more lines_more rest are)
lines_of_joined texts lines rest (skipped text line more lines_more is skip utf8 short are) = line_joined text line lines_more rest is (lines_of_joined texts lines_more rest are)

-- the plainest line of a text
pub plain_line : (t : List ℕ) → list_all is_line_byte t ≡ true → IsLineOf t (as_line t)
plain_line t h = record { front = t; ended = refl; alone = lacks_feed t h; says = text_of_ended t h }

pub plain_lines : (ts : List (List ℕ)) → list_all (list_all is_line_byte) ts ≡ true → AreLinesOf ts (map as_line ts)
plain_lines [] h = none
plain_lines (t ∷ ts) h =
    let parts = and_parts (list_all is_line_byte t) (list_all (list_all is_line_byte) ts) h in
    one t (as_line t) ts (map as_line ts) (plain_line t parts.0) (plain_lines ts parts.1)

-- what is found among texts is found among their lines
pub among : (texts lines : List (List ℕ)) (t : List ℕ) (f : List ℕ → Bool) → AreLinesOf texts lines → ((line : List ℕ) → text_of line ≡ t → f line ≡ true)
    → Contained t texts → list_any f lines ≡ true
among texts lines t f none so has = absurd has
among texts lines t f (one text line more lines_more is are) so has = elim has [
  | inl here ↦ ap (λ (b : Bool). b || list_any f lines_more) (so line (is.says ∙ here))
  | inr later ↦ behind (f line) (among more lines_more t f are so later)
] where
  behind : (b : Bool) → list_any f lines_more ≡ true → (b || list_any f lines_more) ≡ true
  behind true h = refl
  behind false h = h
among texts lines t f (skipped text line more lines_more is skip utf8 short are) so has = behind (f line) (among texts lines_more t f are so has) where
  behind : (b : Bool) → list_any f lines_more ≡ true → (b || list_any f lines_more) ≡ true
  behind true h = refl
  behind false h = h

-- words

not_at : (c : ℕ) (a : List ℕ) → lacks c a ≡ true → (i : ℕ) → i < length a → get_or a i 0 ≢ c
not_at c [] h i lt = absurd (omega arith)
not_at c (b ∷ bs) h zero lt = λ e.
    let same : (b == c) ≡ true = eq-eqb b c e in
    let not_so : (b == c) ≡ false = untrue (b == c) (and_parts (not (b == c)) (lacks c bs) h).0 in cc
not_at c (b ∷ bs) h (suc i) lt = not_at c bs (and_parts (not (b == c)) (lacks c bs) h).1 i (omega arith)

lacks_space : (t : List ℕ) → list_all is_word_byte t ≡ true → lacks 32 t ≡ true
lacks_space t h = all_so is_word_byte (λ b. not (b == 32)) t (λ b k. (and_parts (is_line_byte b) (not (b == 32)) k).1) h

-- a word, a space and something after it
pub cut_word : (w rest : List ℕ) → IsWord w → cut_at 32 (w ++ 32 ∷ rest) ≡ Some (w, rest)
cut_word w rest is = cut_some 32 w rest (not_at 32 w (lacks_space w is.bytes))

-- a word alone
pub cut_alone : (w : List ℕ) → IsWord w → cut_at 32 w ≡ None
cut_alone w is = cut_none 32 w (not_at 32 w (lacks_space w is.bytes))

-- numbers

no_plus : (n : ℕ) → n < 2 ^ 64 → get_or (decimal n) 0 0 ≢ 43
no_plus n h = first_not (decimal n) (digits_decimal own n h) (decimal_nonempty n h) where
  first_not : (w : List ℕ) → all_ascii_digits w ≡ true → 0 < length w → get_or w 0 0 ≢ 43
  first_not [] d some = absurd (omega arith)
  first_not (c ∷ cs) d some = λ e. let no_digit : all_ascii_digits (43 ∷ cs) ≡ true = subst (λ (x : ℕ). all_ascii_digits (x ∷ cs) ≡ true) e d in cc

zero_alone : (n : ℕ) → n < 2 ^ 64 → get_or (decimal n) 0 0 ≡ 48 → length (decimal n) ≡ 1
zero_alone zero h e = ap length (decimal_digit 0 (omega arith))
zero_alone (suc n) h e = absurd (omega (arith, first_decimal (suc n) (omega arith) h))

unpadded : (w : List ℕ) → get_or w 0 0 ≢ 43 → (get_or w 0 0 ≡ 48 → length w ≡ 1) → is_padded w ≡ false
unpadded [] plus zeros = refl
unpadded (d ∷ ds) plus zeros = on (d == 43) (d == 48) refl refl where
  on : (p z : Bool) → (d == 43) ≡ p → (d == 48) ≡ z → is_padded (d ∷ ds) ≡ false
  on true z is_plus is_zero = absurd (plus (eqb-true d 43 is_plus))
  on false true is_plus is_zero =
      let alone = zeros (eqb-true d 48 is_zero) in
      let short : nat_lt 0 (length ds) ≡ false = le-ltb 0 (length ds) (omega arith) in rw is_plus (rw is_zero (rw short refl))
  on false false is_plus is_zero = rw is_plus (rw is_zero refl)

pub number_again : (n : ℕ) → n < 2 ^ 64 → number_in (decimal n) ≡ Some n
number_again n h =
    let value = digits_value-decimal own n h in
    let good : is_number (decimal n) ≡ true =
    and_from _ _ (and_from _ _ (and_from _ _ (ap not (unpadded (decimal n) (no_plus n h) (zero_alone n h))) (lt-ltb 0 (length (decimal n)) (decimal_nonempty n h)))
    (digits_decimal own n h)) (lt-ltb (digits_value 10 (decimal n)) (2 ^ 64) (subst (λ (m : ℕ). m < 2 ^ 64) (sym value) h)) in
    ap (λ (b : Bool). cond b (Some (digits_value 10 (decimal n))) None) good ∙ ap Some value
