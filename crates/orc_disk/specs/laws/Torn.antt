-- What a whole write leaves is what a write may leave.
use Rattle.std.specs.Prelude.{◌≡◌, ℕ, ◌+◌, ◌-◌, ◌<◌, ◌≤◌, List, ◌++◌, length, take, drop}
use Rattle.std.proofs.Common.{refl, sym, ap, subst, ◌∙◌, arith, ⊎_elim, length-append}
use Rattle.std.proofs.lemmas.Bool.{cases_lt}
use Rattle.std.proofs.lemmas.List.{take-take, drop-drop, drop-take, take_all, drop_all, take_at, drop_at, length-take, length-drop, length-take-le}
use Rattle.orc_disk.specs.Files.{written}
use Rattle.orc_disk.specs.Torn.{Torn}

-- lists that agree after a place have prefixes that agree there
pub drop-take_same : (i j : ℕ) (xs ys : List ℕ) → drop i xs ≡ drop i ys → drop i (take j xs) ≡ drop i (take j ys)
drop-take_same i j xs ys same = ⊎_elim inside beyond (cases_lt i j)
  where
    inside : i < j → drop i (take j xs) ≡ drop i (take j ys)
    inside lt =
        let split : i + (j - i) ≡ j = omega (arith, lt) in
        ap (λ k. drop i (take k xs)) (sym split)
        ∙ drop-take i (j - i) xs
        ∙ ap (take (j - i)) same
        ∙ sym (drop-take i (j - i) ys)
        ∙ ap (λ k. drop i (take k ys)) split

    beyond : j ≤ i → drop i (take j xs) ≡ drop i (take j ys)
    beyond le =
        drop_all i (take j xs) (omega (arith, le, length-take j xs))
        ∙ sym (drop_all i (take j ys) (omega (arith, le, length-take j ys)))

-- more bytes after the end
pub Torn-append : (at n : ℕ) (file more : List ℕ) → Torn at n file (file ++ more)
Torn-append at n file more =
    let kept : take (length file) (file ++ more) ≡ file = take_at file more (length file) refl in
    record {
      no_shorter = omega (arith, length-append file more);
      front = ap (take at) kept;
      back = ap (drop (at + n)) kept;
    }

-- what the write leaves where it is whole
pub Torn-written : (at : ℕ) (bytes file : List ℕ) → Torn at (length bytes) file (written at bytes file)
Torn-written at bytes file = ⊎_elim inside behind (cases_lt at (length file))
  where
    behind : length file ≤ at → Torn at (length bytes) file (written at bytes file)
    behind le =
        let rest = bytes ++ drop (at + length bytes) file in
        let whole : file ≡ take at file = sym (take_all at file le) in
        subst (Torn at (length bytes) file) (ap (λ (l : List ℕ). l ++ rest) whole)
        (Torn-append at (length bytes) file rest)

    inside : at < length file → Torn at (length bytes) file (written at bytes file)
    inside lt =
        let n = length bytes in
        let new = written at bytes file in
        let tail = drop (at + n) file in
        let size : length (take at file) ≡ at = length-take-le at file (omega (arith, lt)) in
        let rest : drop (at + n) new ≡ tail =
        sym (drop-drop n at new)
        ∙ ap (drop n) (drop_at (take at file) (bytes ++ tail) at size)
        ∙ drop_at bytes tail n refl in
        let front_size = length-append (take at file) (bytes ++ tail) in
        let back_size = length-append bytes tail in
        record {
          no_shorter = omega (arith, size, front_size, back_size, length-drop (at + n) file);
          front = take-take at (length file) new (omega (arith, lt)) ∙ take_at (take at file) (bytes ++ tail) at size;
          back = drop-take_same (at + n) (length file) new file rest
              ∙ ap (drop (at + n)) (take_all (length file) file (omega arith));
        }
