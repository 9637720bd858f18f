-- A reader in the middle of a text.
use Rattle.std.proofs.Common.{◌≡◌, ℕ, ◌+◌, Bool, true, false, cond, List, [], ◌++◌, Some, None, length, length-append, encode_utf8, IsUtf8, refl, sym, ap, subst, ◌∙◌, arith, append_assoc, append-nil}
use Rattle.std.specs.Char.{IsScalar}
use Rattle.std.specs.Str.{all_scalars}
use Rattle.std.proofs.lemmas.Bool.{and_parts}
use Rattle.std.proofs.lemmas.List.{nil_from_length}
use Rattle.std.proofs.lemmas.Str.{IsUtf8-past_char, cons_from_encodes}
use Rattle.orc_text.specs.Characters.{is_plain_character}
use Rattle.orc_path.specs.Texts.{IsPathText, IsBadAt}
use Rattle.orc_path.specs.inside.Reading.{feed_all, feed_character, begun_in, at_start}
use Rattle.orc_path.specs.declared.reader.Reader.{Reader}
use Rattle.orc_path.proofs.Parts.{none_given}
use Rattle.orc_path.proofs.Behind.{IsBehind, starts, steps}
use Rattle.orc_path.proofs.Refused.{refused}

-- it stands after so many bytes, and before the rest
pub record IsStanding (text : List ℕ) (at : ℕ) (rest : List ℕ) (r : Reader) : Type 0 where
  pub front : List ℕ
  pub cut : text ≡ front ++ rest
  pub len : length front ≡ at
  pub behind : IsBehind front r
  pub utf8 : IsUtf8 rest

pub stands_first : (text : List ℕ) → IsUtf8 text → IsStanding text 0 text at_start
stands_first text u = record { front = []; cut = refl; len = refl; behind = starts; utf8 = u }

-- the next character is one
scalar_first : (c : ℕ) (rest : List ℕ) → IsUtf8 (encode_utf8 c ++ rest) → IsScalar c
scalar_first c rest u =
    let more = cons_from_encodes u.0 rest c u.1.1 in
    (and_parts _ _ (ap all_scalars (sym more.1) ∙ u.1.0)).0

plain_by : (t : Bool) (r s : Reader) (c : ℕ) → is_plain_character c ≡ t → cond t (feed_all r (encode_utf8 c)) None ≡ Some s → (is_plain_character c ≡ true) × (feed_all r (encode_utf8 c) ≡ Some s)
plain_by true r s c p e = (p, e)
plain_by false r s c p e = none_given _ s e

module _ (text : List ℕ) (at : ℕ) (rest after : List ℕ) (r : Reader) (c : ℕ) (here : IsStanding text at rest r) (next : rest ≡ encode_utf8 c ++ after) where
  all : text ≡ (here.front ++ encode_utf8 c) ++ after
  all = here.cut ∙ ap (λ x. here.front ++ x) next ∙ sym (append_assoc here.front (encode_utf8 c) after)

  scalar_next : IsScalar c
  scalar_next = scalar_first c after (subst IsUtf8 next here.utf8)

  -- it takes a character
  pub stands_next : (s : Reader) → feed_character r c ≡ Some s → IsStanding text (at + length (encode_utf8 c)) after s
  stands_next s e =
      let so = plain_by (is_plain_character c) r s c refl e in
      record {
        front = here.front ++ encode_utf8 c;
        cut = all;
        len = length-append here.front (encode_utf8 c) ∙ ap (λ n. n + length (encode_utf8 c)) here.len;
        behind = steps here.front r s c scalar_next so.0 here.behind so.1;
        utf8 = IsUtf8-past_char rest after c here.utf8 next;
      }

  -- it refuses one
  pub stands_refused : feed_character r c ≡ None → IsBadAt IsPathText text (at + begun_in r.mode c)
  stands_refused e =
      subst (λ n. IsBadAt IsPathText text (n + begun_in r.mode c)) here.len
      (subst (λ x. IsBadAt IsPathText x (length here.front + begun_in r.mode c)) (sym all) (refused here.front r c after scalar_next here.behind e))

-- it stands after the whole text
pub stands_last : (text : List ℕ) (at : ℕ) (rest : List ℕ) (r : Reader) → IsStanding text at rest r → length rest ≡ 0 → IsBehind text r
stands_last text at rest r here e =
    let none_left : rest ≡ [] = nil_from_length rest e in
    subst (λ x. IsBehind x r) (sym (here.cut ∙ ap (λ x. here.front ++ x) none_left ∙ append-nil here.front)) here.behind

pub stands_at_end : (text : List ℕ) (at : ℕ) (rest : List ℕ) (r : Reader) → IsStanding text at rest r → length rest ≡ 0 → at ≡ length text
stands_at_end text at rest r here e = let l = ap length here.cut ∙ length-append here.front rest in let n = here.len in omega arith
