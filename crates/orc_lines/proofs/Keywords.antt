-- First words of lines.
use Rattle.std.proofs.Common.{◌≡◌, ℕ, Bool, true, false, List, [], ◌∷◌, codes, Option, Some, None, refl, ap, sym, subst, eqb-true}
use Rattle.std.specs.Cmp.Lexicographic.{bytes_decides}
use Rattle.std.specs.Option.{option_map}
use Rattle.orc_lines.specs.Keywords.{keyword_of}
use Rattle.orc_lines.specs.Lines.{is_skipped}
use Rattle.orc_lines.specs.Words.{cut_at, first_word, is_text, word_before}
use Rattle.orc_lines.specs.declared.keyword.Keyword.{Keyword}
use Rattle.orc_lines.specs.declared.keyword.Keyword.TheVariants as keyword

pub text_is : (text other : List ℕ) → is_text text other ≡ true → text ≡ other
text_is text other h = (bytes_decides text other).0 h

-- a text that is this one has its first word
pub known_word : (text other : List ℕ) → is_text text other ≡ true → keyword_of (first_word text) ≡ keyword_of (first_word other)
known_word text other h = ap (λ (x : List ℕ). keyword_of (first_word x)) (text_is text other h)

-- `end`
pub end_word : (text : List ℕ) → is_text text (codes "end") ≡ true → keyword_of (first_word text) ≡ keyword.End
unfolding keyword_of
end_word text h = known_word text (codes "end") h

abbrev pub is_end_word : Keyword → Bool
is_end_word keyword.End = true
is_end_word _ = false

-- a text that is skipped has none of them
pub skipped_word : (text : List ℕ) → is_skipped text ≡ true → keyword_of (first_word text) ≡ keyword.Other
unfolding keyword_of
skipped_word [] h = refl
skipped_word (b ∷ bs) h =
    subst (λ (c : ℕ). keyword_of (first_word (c ∷ bs)) ≡ keyword.Other) (sym (eqb-true b 35 h)) (comment (cut_at 32 bs)) where
      comment : (o : Option (List ℕ × List ℕ)) → keyword_of (word_before (35 ∷ bs) (option_map (λ (parts : List ℕ × List ℕ). (35 ∷ parts.0, parts.1)) o)) ≡ keyword.Other
      comment None = refl
      comment (Some parts) = refl

-- a skipped line is not `end`
pub skipped_no_end : (text : List ℕ) → is_skipped text ≡ true → is_text text (codes "end") ≡ false
skipped_no_end [] h = refl
skipped_no_end (b ∷ bs) h = subst (λ (c : ℕ). is_text (c ∷ bs) (codes "end") ≡ false) (sym (eqb-true b 35 h)) refl
