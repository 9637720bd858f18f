-- The header of a journal, read from the start.
use Rattle.std.proofs.Common.{◌≡◌, ℕ, ◌<◌, ◌≤◌, ◌^◌, List, [], ◌∷◌, ◌++◌, length, take, drop, refl, sym, ap, ◌∙◌, append_assoc}
use Rattle.std.specs.Int.{w32, to_be_bytes, from_be_bytes}
use Rattle.std.proofs.lemmas.List.{take_at, drop_at, drop_all}
use Rattle.orc_call.proofs.Singles.{same_4}
use Rattle.orc_journal.specs.Journals.{magic, header, common, IsForeign}
use Rattle.orc_journal.specs.inside.Fronts.{BeginsOtherwise}

-- a prefix that isn't there
pub otherwise_more : (bytes front more : List ℕ) → BeginsOtherwise bytes front → BeginsOtherwise bytes (front ++ more)
otherwise_more bytes front more other rest e = other (more ++ rest) (e ∙ append_assoc front more rest)

pub foreign : (file rest decls : List ℕ) (at : ℕ) → file ≡ magic ++ rest → BeginsOtherwise rest (to_be_bytes w32 (length decls) ++ decls)
    → at ≡ common (take (from_be_bytes w32 (take 4 rest)) (drop 4 rest)) decls → IsForeign file decls at
foreign file rest decls at e other place = record {
  begins = ap (take 8) e;
  other = λ more f. other more (sym (ap (drop 8) e) ∙ ap (drop 8) f);
  place = place ∙ ap (λ t. common (take (from_be_bytes w32 (take 4 (drop 8 t))) (drop 12 t)) decls) (sym e);
}

common-nil : (xs : List ℕ) → common xs [] ≡ 0
common-nil [] = refl
common-nil (x ∷ xs) = refl

-- where the second text has ended, nothing more is in common
pub common-end : (xs ys : List ℕ) (at : ℕ) → length ys ≤ at → common (drop at xs) (drop at ys) ≡ 0
common-end xs ys at le = ap (common (drop at xs)) (drop_all at ys le) ∙ common-nil (drop at xs)

-- headers at one place are one, and so is what follows
pub one_header : (d e x y : List ℕ) → length d < 2 ^ 32 → length e < 2 ^ 32 → header d ++ x ≡ header e ++ y → (d ≡ e) × (x ≡ y)
one_header d e x y short short' same =
    let lengths : length d ≡ length e = same_4 (length d) (length e) (d ++ x) (e ++ y) short short' (ap (drop 8) same) in
    let behind : d ++ x ≡ e ++ y = ap (drop 12) same in (
      sym (take_at d x (length d) refl) ∙ ap (take (length d)) behind ∙ take_at e y (length d) (sym lengths),
      sym (drop_at d x (length d) refl) ∙ ap (drop (length d)) behind ∙ drop_at e y (length d) (sym lengths),
    )
