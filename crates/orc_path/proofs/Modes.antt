-- The modes that a reader goes through, whatever it read.
use Rattle.std.proofs.Common.{◌≡◌, ℕ, ◌+◌, ◌≤◌, true, false, cond, List, ◌++◌, Some, None, Option, length, encode_utf8, IsUtf8, refl, sym, ap, subst, ◌∙◌}
use Rattle.std.specs.Option.{option_map, option_and_then}
use Rattle.orc_text.specs.Characters.{is_plain_character}
use Rattle.orc_path.specs.Steps.{PathStep}
use Rattle.orc_path.specs.Texts.{IsPathText, IsBadAt}
use Rattle.orc_path.specs.inside.Reading.{feed_all, feed_character, at_start, whole_at, is_path_end, begun_in, Moves}
use Rattle.orc_path.specs.declared.mode.Mode.{Mode}
use Rattle.orc_path.specs.declared.mode.Mode.TheVariants.{Start, Slash, Module, Colon, Inside, Next, Key, Escape, Closed}
use Rattle.orc_path.specs.declared.reader.Reader.{Reader}
use Rattle.orc_path.proofs.Parts.{none_given}
use Rattle.orc_path.proofs.Plain.{are_wide-encode}
use Rattle.orc_path.proofs.Behind.{some_same, wide_in, wide_out, encode_some}
use Rattle.orc_path.proofs.Refused.{whole_text, unfinished}
use Rattle.orc_path.proofs.Standing.{IsStanding, stands_first, stands_next, stands_refused, stands_last, stands_at_end}

abbrev mode_of : Option Reader → Option Mode
mode_of o = option_map (λ s. s.mode) o

one_step : (o : Option Reader) → option_and_then (λ s. Some s) o ≡ o
one_step None = refl
one_step (Some s) = refl

module _ (r : Reader) (m : Mode) (c : ℕ) (is : r.mode ≡ m) where
  pub refuses : is_plain_character c ≡ false → mode_of (feed_character r c) ≡ None
  refuses plain = ap (λ t. mode_of (cond t (feed_all r (encode_utf8 c)) None)) plain

  goes : is_plain_character c ≡ true → mode_of (feed_character r c) ≡ mode_of (feed_all r (encode_utf8 c))
  goes plain = ap (λ t. mode_of (cond t (feed_all r (encode_utf8 c)) None)) plain

  pub moves_wide : is_plain_character c ≡ true → 128 ≤ c → m ≡ Key → mode_of (feed_character r c) ≡ Some Key
  moves_wide plain high key =
      goes plain ∙ ap mode_of (wide_in r.mode r (encode_utf8 c) refl (is ∙ key) (are_wide-encode c high)) ∙ ap Some (is ∙ key)

  pub refuses_wide : is_plain_character c ≡ true → 128 ≤ c → (m ≡ Key → ⊥) → mode_of (feed_character r c) ≡ None
  refuses_wide plain high out =
      goes plain ∙ ap mode_of (wide_out r (encode_utf8 c) (λ key. out (sym is ∙ key)) (are_wide-encode c high) (encode_some c))

-- some reader at this mode stands after so many bytes, and before the rest
pub record IsAt (text : List ℕ) (at : ℕ) (rest : List ℕ) (mode : Mode) : Type 0 where
  pub reader : Reader
  pub is : reader.mode ≡ mode
  pub stands : IsStanding text at rest reader

pub at_first : (text : List ℕ) → IsUtf8 text → IsAt text 0 text Start
at_first text u = record { reader = at_start; is = refl; stands = stands_first text u }

mapped : (o : Option Reader) (next : Mode) → mode_of o ≡ Some next → (s : Reader) × (o ≡ Some s) × (s.mode ≡ next)
mapped None mode e = none_given _ mode e
mapped (Some s) mode e = (s, refl, some_same e)

unmapped : (o : Option Reader) → mode_of o ≡ None → o ≡ None
unmapped None e = refl
unmapped (Some s) e = let not_so : ⊥ = cc in absurd not_so

whole_there : (m : Mode) (r : Reader) → is_path_end m ≡ true → (p : List PathStep) × (whole_at m r ≡ Some p)
whole_there Slash r e = (_, refl)
whole_there Inside r e = (_, refl)
whole_there Closed r e = (_, refl)
whole_there Start r e = let not_so : ⊥ = cc in absurd not_so
whole_there Module r e = let not_so : ⊥ = cc in absurd not_so
whole_there Colon r e = let not_so : ⊥ = cc in absurd not_so
whole_there Next r e = let not_so : ⊥ = cc in absurd not_so
whole_there Key r e = let not_so : ⊥ = cc in absurd not_so
whole_there Escape r e = let not_so : ⊥ = cc in absurd not_so

none_there : (m : Mode) (r : Reader) → is_path_end m ≡ false → whole_at m r ≡ None
none_there Start r e = refl
none_there Module r e = refl
none_there Colon r e = refl
none_there Next r e = refl
none_there Key r e = refl
none_there Escape r e = refl
none_there Slash r e = let not_so : ⊥ = cc in absurd not_so
none_there Inside r e = let not_so : ⊥ = cc in absurd not_so
none_there Closed r e = let not_so : ⊥ = cc in absurd not_so

module _ (text : List ℕ) (at : ℕ) (rest : List ℕ) (mode : Mode) (here : IsAt text at rest mode) where
  pub at_next : (after : List ℕ) (c : ℕ) (next : Mode) → rest ≡ encode_utf8 c ++ after → Moves mode c (Some next) → IsAt text (at + length (encode_utf8 c)) after next
  at_next after c next goes moves =
      let moved = mapped (feed_character here.reader c) next (moves here.reader here.is) in
      record { reader = moved.0; is = moved.2; stands = stands_next text at rest after here.reader c here.stands goes moved.0 moved.1 }

  pub at_refused : (after : List ℕ) (c : ℕ) → rest ≡ encode_utf8 c ++ after → Moves mode c None → IsBadAt IsPathText text (at + begun_in mode c)
  at_refused after c goes moves =
      subst (λ m. IsBadAt IsPathText text (at + begun_in m c)) here.is
      (stands_refused text at rest after here.reader c here.stands goes (unmapped (feed_character here.reader c) (moves here.reader here.is)))

  pub at_end : length rest ≡ 0 → is_path_end mode ≡ true → IsPathText text
  at_end end may =
      let whole = whole_there here.reader.mode here.reader (ap is_path_end here.is ∙ may) in
      (whole.0, whole_text here.reader whole.0 text (stands_last text at rest here.reader here.stands end) whole.1)

  pub at_bad_end : length rest ≡ 0 → is_path_end mode ≡ false → IsBadAt IsPathText text at
  at_bad_end end none =
      subst (IsBadAt IsPathText text) (sym (stands_at_end text at rest here.reader here.stands end))
      (unfinished text here.reader (stands_last text at rest here.reader here.stands end) (none_there here.reader.mode here.reader (ap is_path_end here.is ∙ none)))
