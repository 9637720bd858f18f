-- Where a text is cut_at at the first byte of a kind.
use Rattle.std.proofs.Common.{◌≡◌, ℕ, suc, ◌<◌, ◌≢◌, true, false, ◌==◌, List, [], ◌∷◌, ◌++◌, length, get_or, refl, ap, arith, Option, None, Some, MatchOption, eq-eqb, Bor}
use Rattle.std.specs.Option.{option_map}
use Rattle.std.proofs.lemmas.Str.Pattern.{IsSplitOnceResult, split_parts}
use Rattle.orc_lines.specs.Words.{cut_at}

neq_test : (a b : ℕ) → a ≢ b → (a == b) ≡ false
neq_test a b h = grind arith

-- a text without the byte isn't cut
pub cut_none : (c : ℕ) (bs : List ℕ) → ((i : ℕ) → i < length bs → get_or bs i 0 ≢ c) → cut_at c bs ≡ None
cut_none c [] h = refl
cut_none c (b ∷ bs) h =
    let first : (b == c) ≡ false = neq_test b c (h 0 (omega arith)) in
    let more : cut_at c bs ≡ None = cut_none c bs (λ i lt. h (suc i) (omega arith)) in
    rw first (ap (option_map (λ (parts : List ℕ × List ℕ). (b ∷ parts.0, parts.1))) more)

pub cut_some : (c : ℕ) (a x : List ℕ) → ((i : ℕ) → i < length a → get_or a i 0 ≢ c) → cut_at c (a ++ c ∷ x) ≡ Some (a, x)
cut_some c [] x h = let same : (c == c) ≡ true = eq-eqb c c refl in rw same refl
cut_some c (b ∷ bs) x h =
    let first : (b == c) ≡ false = neq_test b c (h 0 (omega arith)) in
    let more : cut_at c (bs ++ c ∷ x) ≡ Some (bs, x) = cut_some c bs x (λ i lt. h (suc i) (omega arith)) in
    rw first (ap (option_map (λ (parts : List ℕ × List ℕ). (b ∷ parts.0, parts.1))) more)

pub cut_parts : (byte : ℕ) (text : List ℕ) (r : Option (Bor (List ℕ) × Bor (List ℕ))) → byte < 128 → IsSplitOnceResult byte text r
    → MatchOption r (cut_at byte text ≡ None) (λ parts. cut_at byte text ≡ Some (parts.0.now, parts.1.now))
cut_parts byte text None ascii h = cut_none byte text (split_parts byte text None h ascii)
cut_parts byte text (Some x) ascii h =
    let p = split_parts byte text (Some x) h ascii in
    rw p.0 (cut_some byte x.0.now x.1.now p.1)
