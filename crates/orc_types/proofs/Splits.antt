-- Texts that are cut at a character.
use Rattle.std.proofs.Common.{◌≡◌, ◌≢◌, ℕ, ◌<◌, ◌+◌, Bool, true, false, cond, eqb, ltb, List, [], ◌∷◌, length, get_or, Option, Some, None, refl, sym, ap, ◌∙◌, arith, subst, length-drop}
use Rattle.std.specs.Prelude.{MatchOption, IfSome, is_some, not, option_map}
use denote.Ref.{Bor}
use Rattle.std.specs.List.{All, slice_split, position, position_or_len, before_first, after_first}
use Rattle.std.specs.Str.{IsUtf8}
use Rattle.std.proofs.lemmas.Bool.{false≢true}
use Rattle.std.proofs.lemmas.Bool.Decides.{nat_tests}
use Rattle.std.proofs.lemmas.List.Sums.{prefix_len_stops}
use Rattle.std.proofs.lemmas.Str.{IsUtf8-drop, IsCharBoundary-after_ascii}
use Rattle.std.proofs.lemmas.List.Elements.{All-from_get_or}
use Rattle.std.proofs.lemmas.List.Splits.{slice_split_none, slice_split_first}
use Rattle.std.proofs.lemmas.Str.Pattern.{IsSplitOnceResult, split_once_first, split_parts}
use Rattle.orc_types.specs.Texts.{is_char}
use Rattle.orc_types.specs.Ranges.{behind_dot}
use Rattle.orc_types.specs.inside.Cuts.{SplitsAt}

pub unequal : (x c : ℕ) → x ≢ c → eqb x c ≡ false
unequal x c h = grind (arith, nat_tests)

-- no byte of a text is c
none_is : (c : ℕ) (bs : List ℕ) → ((i : ℕ) → i < length bs → get_or bs i 0 ≢ c) → All (λ x. eqb x c ≡ false) bs
none_is c bs h = All-from_get_or (λ x. eqb x c ≡ false) bs 0 (λ i below. unequal (get_or bs i 0) c (h i below))

after_first-shorter : (p : ℕ → Bool) (bs : List ℕ) → position_or_len p bs < length bs → length (after_first p bs) < length bs
after_first-shorter p bs h = omega (arith, length-drop (position_or_len p bs + 1) bs)

test_is : (t : Bool) → not t ≡ false → t ≡ true
test_is true h = refl
test_is false h = absurd (false≢true (sym h))

-- what stands after an ASCII character is text
behind-utf8 : (c : ℕ) (bs : List ℕ) → c < 128 → IsUtf8 bs → position_or_len (is_char c) bs < length bs → IsUtf8 (after_first (is_char c) bs)
behind-utf8 c bs ascii text h =
    let i = position_or_len (is_char c) bs in
    let there : eqb (get_or bs i 0) c ≡ true = test_is (eqb (get_or bs i 0) c) (prefix_len_stops (λ (x : ℕ). not (is_char c x)) bs 0 h) in
    let small : get_or bs i 0 < 128 = grind (arith, nat_tests) in
    IsUtf8-drop bs (i + 1) text (IsCharBoundary-after_ascii bs i text h small)

has_position : (n m : ℕ) → n < m → is_some (cond (ltb n m) (Some n) None) ≡ true
has_position n m h = grind (arith, nat_tests)

has_no_position : (n m : ℕ) → n ≡ m → is_some (cond (ltb n m) (Some n) None) ≡ false
has_no_position n m h = grind (arith, nat_tests)

abbrev Parts : Type 0
Parts = Option (Bor (List ℕ) × Bor (List ℕ))

pub split-parts : (c : ℕ) (bs : List ℕ) (r : Parts) → c < 128 → IsUtf8 bs → IsSplitOnceResult c bs r
    → MatchOption r (slice_split (is_char c) bs ≡ bs ∷ []) (λ x. SplitsAt c bs x.0.now x.1.now)
split-parts c bs None ascii text h = slice_split_none (is_char c) bs (none_is c bs (split_parts c bs None h ascii))
split-parts c bs (Some x) ascii text h =
    let cut = split_once_first c bs (Some x) h ascii in
    let whole : slice_split (is_char c) bs ≡ before_first (is_char c) bs ∷ slice_split (is_char c) (after_first (is_char c) bs) = slice_split_first (is_char c) bs 0 cut.0 in
    let shorter : length (after_first (is_char c) bs) < length bs = after_first-shorter (is_char c) bs cut.0 in
    record {
      parts = whole ∙ (ap (λ (t : List ℕ). t ∷ slice_split (is_char c) (after_first (is_char c) bs)) (sym cut.1) ∙ ap (λ (t : List ℕ). x.0.now ∷ slice_split (is_char c) t) (sym cut.2));
      shorter = subst (λ (t : List ℕ). length t < length bs) (sym cut.2) shorter;
      utf8 = subst IsUtf8 (sym cut.2) (behind-utf8 c bs ascii text cut.0);
    }

pub split-some : (c : ℕ) (bs : List ℕ) (r : Parts) → c < 128 → IsSplitOnceResult c bs r → is_some r ≡ is_some (position (is_char c) bs)
split-some c bs None ascii h = sym (has_no_position (position_or_len (is_char c) bs) (length bs) (split_once_first c bs None h ascii))
split-some c bs (Some x) ascii h = sym (has_position (position_or_len (is_char c) bs) (length bs) (split_once_first c bs (Some x) h ascii).0)

pub split-first : (c : ℕ) (bs : List ℕ) (r : Parts) → c < 128 → IsSplitOnceResult c bs r
    → IfSome r (λ x. (x.0.now ≡ before_first (is_char c) bs) × (x.1.now ≡ after_first (is_char c) bs))
split-first c bs None ascii h = tt
split-first c bs (Some x) ascii h = let cut = split_once_first c bs (Some x) h ascii in (cut.1, cut.2)

-- what stands after a dot that is first
other_first : (b : ℕ) (bs : List ℕ) → ((rest : List ℕ) → b ∷ bs ≢ 46 ∷ rest) → b ≢ 46
other_first b bs h same = h bs (ap (λ (x : ℕ). x ∷ bs) same)

pub behind_dot-is : (bs : List ℕ) (r : Option (Bor (List ℕ))) → MatchOption r ((rest : List ℕ) → bs ≢ 46 ∷ rest) (λ x. bs ≡ 46 ∷ x.now) → option_map (λ x. x.now) r ≡ behind_dot bs
behind_dot-is [] None h = refl
behind_dot-is (b ∷ bs) None h = let pick : Bool → Option (List ℕ) = λ t. cond t (Some bs) None in sym (ap pick (unequal b 46 (other_first b bs h)))
behind_dot-is bs (Some x) h = sym (ap behind_dot h)
