-- Texts that are cut at a mark.
use Rattle.std.proofs.Common.{◌≡◌, ℕ, ◌<◌, ◌≤◌, ◌+◌, Bool, true, false, cond, eqb, ltb, List, [], ◌∷◌, length, get_or, Option, Some, None, refl, sym, ap, arith, length-drop}
use Rattle.std.specs.Prelude.{not, ◌||◌}
use Rattle.std.specs.List.{All, position, position_or_len, before_first, after_first}
use Rattle.std.specs.Option.{option_map_or}
use Rattle.std.specs.Str.{IsUtf8, IsCharBoundary}
use Rattle.std.proofs.lemmas.Bool.{false≢true, ltb-true, ltb-false}
use Rattle.std.proofs.lemmas.Bool.Decides.{nat_tests}
use Rattle.std.proofs.lemmas.List.Sums.{prefix_len_stops, fails_before_first, position_or_len_is}
use Rattle.std.proofs.lemmas.Str.{IsUtf8-drop, IsCharBoundary-after_ascii, IsCharBoundary-before_ascii}
use Rattle.std.proofs.lemmas.List.Splits.{slice_split_none, slice_split_first}
use Rattle.orc_statements.specs.declared.cuts.Mark.{Mark}
use Rattle.orc_statements.specs.declared.cuts.Mark.TheVariants.{White, Slash, Colon}
use Rattle.orc_statements.specs.Cuts.{is_mark, parts}
use Rattle.orc_statements.specs.Cutting.{CutsAt}

one_of : (b c d e : ℕ) → (eqb b c || (eqb b d || (eqb b 10 || eqb b e))) ≡ true → c < 128 → d < 128 → e < 128 → b < 128
one_of b c d e h hc hd he = grind (arith, nat_tests)

-- a mark is ASCII
pub mark_ascii : (mark : Mark) (b : ℕ) → is_mark mark b ≡ true → b < 128
mark_ascii White b h = one_of b 32 9 13 h (omega arith) (omega arith) (omega arith)
mark_ascii Slash b h = grind (arith, nat_tests)
mark_ascii Colon b h = grind (arith, nat_tests)

test_is : (t : Bool) → not t ≡ false → t ≡ true
test_is true h = refl
test_is false h = absurd (false≢true (sym h))

module _ (mark : Mark) (bs : List ℕ) (below : position_or_len (is_mark mark) bs < length bs) where
  abbrev place : ℕ
  place = position_or_len (is_mark mark) bs

  pub small : get_or bs place 0 < 128
  small = mark_ascii mark (get_or bs place 0) (test_is (is_mark mark (get_or bs place 0)) (prefix_len_stops (λ (x : ℕ). not (is_mark mark x)) bs 0 below))

  pub boundary_before : IsCharBoundary bs place
  boundary_before = IsCharBoundary-before_ascii bs place below small

  pub boundary_behind : IsUtf8 bs → IsCharBoundary bs (place + 1)
  boundary_behind text = IsCharBoundary-after_ascii bs place text below small

  behind_utf8 : IsUtf8 bs → IsUtf8 (after_first (is_mark mark) bs)
  behind_utf8 text = IsUtf8-drop bs (place + 1) text (boundary_behind text)

  shorter : length (after_first (is_mark mark) bs) < length bs
  shorter = omega (arith, length-drop (place + 1) bs)

  pub cuts_at : IsUtf8 bs → CutsAt mark bs (before_first (is_mark mark) bs) (after_first (is_mark mark) bs)
  cuts_at text = record {
    parts = slice_split_first (is_mark mark) bs 0 below;
    shorter = shorter;
    utf8 = behind_utf8 text;
  }

-- what a place that `position` gives says
module _ {X : Type 0} (p : X → Bool) (xs : List X) where
  abbrev first : ℕ
  first = position_or_len p xs

  abbrev placed : Bool → Option ℕ
  placed b = cond b (Some first) None

  some_is : (i j : ℕ) → Some i ≡ Some j → i ≡ j
  some_is i j h = ap (λ (o : Option ℕ). option_map_or (λ n. n) o 0) h

  abbrev is_some_test : Option ℕ → Bool
  is_some_test None = false
  is_some_test (Some n) = true

  pub at_place : (i : ℕ) → Some i ≡ position p xs → (first < length xs) × (i ≡ first)
  at_place i h = on (ltb first (length xs)) refl h
    where
      on : (b : Bool) → ltb first (length xs) ≡ b → Some i ≡ placed b → (first < length xs) × (i ≡ first)
      on true is h = (ltb-true first (length xs) is, some_is i first h)
      on false is h = absurd (false≢true (sym (ap is_some_test h)))

  pub no_place : None ≡ position p xs → length xs ≤ first
  no_place h = on (ltb first (length xs)) refl h
    where
      on : (b : Bool) → ltb first (length xs) ≡ b → None ≡ placed b → length xs ≤ first
      on true is h = absurd (false≢true (ap is_some_test h))
      on false is h = ltb-false first (length xs) is

  pub none_passes : length xs ≤ first → All (λ x. p x ≡ false) xs
  none_passes h = λ k d below. fails_before_first p xs k d (omega (arith, h, below))

module _ {X : Type 0} (p : X → Bool) (xs : List X) (d : X) where
  pub none_place : None ≡ position p xs → position_or_len p xs ≡ length xs
  none_place h = position_or_len_is p xs (length xs) d (omega arith) (λ k below. none_passes p xs (no_place p xs h) k d below) (λ below. absurd (omega (arith, below)))

pub uncut : (mark : Mark) (bs : List ℕ) → None ≡ position (is_mark mark) bs → parts mark bs ≡ bs ∷ []
uncut mark bs h = slice_split_none (is_mark mark) bs (none_passes (is_mark mark) bs (no_place (is_mark mark) bs h))
