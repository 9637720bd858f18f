-- Numbers of two bytes, and the devices that they are.
use Rattle.std.proofs.Common.{◌≡◌, ℕ, ◌<◌, ◌^◌, ◌*◌, List, [], ◌∷◌, ◌++◌, length, drop, All, sym, ap, subst, ◌∙◌, refl, arith}
use Rattle.std.specs.Int.{w16, to_be_bytes}
use Rattle.std.specs.List.{flat_map}
use Rattle.std.specs.List.Sorted.{IsStrictlyIncreasing}
use Rattle.std.proofs.lemmas.List.Elements.{All-head, All-tail}
use Rattle.std.proofs.lemmas.Map.Keys.{sorted_from_strictly_increasing, IsStrictlyIncreasing-from_sorted}
use Rattle.orc_call.proofs.Singles.{same_2}
use Rattle.orc_journal.specs.Entries.{devices_bytes, AreDevices}
use Rattle.orc_journal.specs.inside.Fronts.{HasDevices, HasNoDevices, HasCount, AreNumbers}

abbrev pub Fits16 : ℕ → Type 0
Fits16 number = number < 2 ^ 16

abbrev pub numbers_bytes : List ℕ → List ℕ
numbers_bytes numbers = flat_map (to_be_bytes w16) numbers

-- numbers of the same bytes are one list
pub same_numbers : (xs ys : List ℕ) → All Fits16 xs → All Fits16 ys → numbers_bytes xs ≡ numbers_bytes ys → xs ≡ ys
same_numbers [] [] h k e = refl
same_numbers [] (y ∷ ys) h k e = absurd cc
same_numbers (x ∷ xs) [] h k e = absurd cc
same_numbers (x ∷ xs) (y ∷ ys) h k e =
    let first : x ≡ y = same_2 x y (numbers_bytes xs) (numbers_bytes ys) (All-head Fits16 x xs h) (All-head Fits16 y ys k) e in
    let later : xs ≡ ys = same_numbers xs ys (All-tail Fits16 x xs h) (All-tail Fits16 y ys k) (ap (drop 2) e) in
    cc

-- devices of the same bytes are one list
pub same_devices : (xs ys : List ℕ) → AreDevices xs → AreDevices ys → devices_bytes xs ≡ devices_bytes ys → xs ≡ ys
same_devices xs ys h k e = same_numbers xs ys h.numbers k.numbers (ap (drop 2) e)

-- what is read after the count
pub devices_found : (bytes rest : List ℕ) (count : ℕ) (numbers : List ℕ) → HasCount bytes count rest → AreNumbers rest count numbers → IsStrictlyIncreasing numbers → HasDevices bytes numbers
devices_found bytes rest count numbers has read ascending = record {
  lawful = record { count = omega (arith, has.fits, read.counted); numbers = read.fit; ascending = sorted_from_strictly_increasing numbers ascending };
  parts = has.parts ∙ ap (λ t. to_be_bytes w16 count ++ t) read.parts ∙ ap (λ n. to_be_bytes w16 n ++ numbers_bytes numbers) (sym read.counted);
}

-- the count of devices, and what stands after it
behind_count : (bytes rest : List ℕ) (count : ℕ) (devices : List ℕ) → HasCount bytes count rest → HasDevices bytes devices → (count ≡ length devices) × (rest ≡ numbers_bytes devices)
behind_count bytes rest count devices has are =
    let e : to_be_bytes w16 count ++ rest ≡ to_be_bytes w16 (length devices) ++ numbers_bytes devices = sym has.parts ∙ are.parts in
    (same_2 count (length devices) rest (numbers_bytes devices) has.fits are.lawful.count e, ap (drop 2) e)

pub length_numbers : (xs : List ℕ) → length (numbers_bytes xs) ≡ 2 * length xs
length_numbers [] = refl
length_numbers (x ∷ xs) = omega (arith, length_numbers xs)

pub other_length : (bytes rest : List ℕ) (count : ℕ) → HasCount bytes count rest → (length rest ≡ 2 * count → ⊥) → HasNoDevices bytes
other_length bytes rest count has other devices are =
    let b = behind_count bytes rest count devices has are in
    other (ap length b.1 ∙ length_numbers devices ∙ ap (λ n. 2 * n) (sym b.0))

pub not_ascending : (bytes rest : List ℕ) (count : ℕ) (numbers : List ℕ) → HasCount bytes count rest → AreNumbers rest count numbers → (IsStrictlyIncreasing numbers → ⊥) → HasNoDevices bytes
not_ascending bytes rest count numbers has read no_order devices are =
    let b = behind_count bytes rest count devices has are in
    let same : devices ≡ numbers = same_numbers devices numbers are.lawful.numbers read.fit (sym b.1 ∙ read.parts) in
    no_order (subst IsStrictlyIncreasing same (IsStrictlyIncreasing-from_sorted devices are.lawful.ascending))
