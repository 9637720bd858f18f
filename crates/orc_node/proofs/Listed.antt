-- The first listing of a kind of operation.
use Rattle.std.proofs.Math.Numerals.{suc-eq-add-one}
use Rattle.std.proofs.lemmas.Bool.{ltb-false}
use Rattle.std.proofs.lemmas.List.Sums.{fails_before_first}
use Rattle.std.proofs.lemmas.List.Quantifiers.{position-Some}
use Rattle.std.proofs.Common.{ℕ, zero, suc, ◌+◌, ◌≡◌, ◌<◌, nat_lt, Bool, true, false, List, [], ◌∷◌, ◌++◌, length, take, drop, get_or, refl, sym, ◌∙◌, ap, cond, arith}
use Rattle.std.specs.Prelude.{Option, Some, None}
use Rattle.std.specs.List.{position, position_or_len}
use Rattle.orc_device.specs.Listings.{is_listed_kind, listed_when, without_first}
use Rattle.orc_device.specs.declared.kind.OpKind.{OpKind}
use Rattle.orc_device.specs.declared.kind.When.{When}

abbrev Listings : Type 0
Listings = List (OpKind × When)

first_when : (kind : OpKind) (xs : Listings) (i : ℕ) (d : OpKind × When) → i < length xs → is_listed_kind kind (get_or xs i d) ≡ true → ((k : ℕ) → k < i → is_listed_kind kind (get_or xs k d) ≡ false) → listed_when kind xs ≡ Some (get_or xs i d).1
first_when kind [] i d h t f = absurd (omega arith)
first_when kind (x ∷ xs) zero d h t f = ap (λ b. cond b (Some x.1) (listed_when kind xs)) t
first_when kind (x ∷ xs) (suc i) d h t f =
    ap (λ b. cond b (Some x.1) (listed_when kind xs)) (f zero (omega arith)) ∙ first_when kind xs i d (omega arith) t (λ k l. f (suc k) (omega arith))

first_left : (kind : OpKind) (xs : Listings) (i : ℕ) (d : OpKind × When) → i < length xs → is_listed_kind kind (get_or xs i d) ≡ true → ((k : ℕ) → k < i → is_listed_kind kind (get_or xs k d) ≡ false) → without_first kind xs ≡ take i xs ++ drop (suc i) xs
first_left kind [] i d h t f = absurd (omega arith)
first_left kind (x ∷ xs) zero d h t f = ap (λ b. cond b xs (x ∷ without_first kind xs)) t
first_left kind (x ∷ xs) (suc i) d h t f =
    ap (λ b. cond b xs (x ∷ without_first kind xs)) (f zero (omega arith)) ∙ ap (λ rest. x ∷ rest) (first_left kind xs i d (omega arith) t (λ k l. f (suc k) (omega arith)))

none_passes : (p : OpKind × When → Bool) (xs : Listings) → position p xs ≡ None → (k : ℕ) (d : OpKind × When) → k < length xs → p (get_or xs k d) ≡ false
none_passes p xs e k d h = fails_before_first p xs k d (go (nat_lt (position_or_len p xs) (length xs)) refl e)
  where
    go : (b : Bool) → nat_lt (position_or_len p xs) (length xs) ≡ b → cond b (Some (position_or_len p xs)) None ≡ None → k < position_or_len p xs
    go true f g = cc
    go false f g = omega (arith, ltb-false (position_or_len p xs) (length xs) f, h)

all_fail_when : (kind : OpKind) (xs : Listings) → ((k : ℕ) (d : OpKind × When) → k < length xs → is_listed_kind kind (get_or xs k d) ≡ false) → listed_when kind xs ≡ None
all_fail_when kind [] f = refl
all_fail_when kind (x ∷ xs) f = ap (λ b. cond b (Some x.1) (listed_when kind xs)) (f zero x (omega arith)) ∙ all_fail_when kind xs (λ k d l. f (suc k) d (omega arith))

all_fail_left : (kind : OpKind) (xs : Listings) → ((k : ℕ) (d : OpKind × When) → k < length xs → is_listed_kind kind (get_or xs k d) ≡ false) → without_first kind xs ≡ xs
all_fail_left kind [] f = refl
all_fail_left kind (x ∷ xs) f =
    ap (λ b. cond b xs (x ∷ without_first kind xs)) (f zero x (omega arith)) ∙ ap (λ rest. x ∷ rest) (all_fail_left kind xs (λ k d l. f (suc k) d (omega arith)))

pub none_when : (kind : OpKind) (xs : Listings) → position (is_listed_kind kind) xs ≡ None → listed_when kind xs ≡ None
none_when kind xs e = all_fail_when kind xs (none_passes (is_listed_kind kind) xs e)

pub none_left : (kind : OpKind) (xs : Listings) → position (is_listed_kind kind) xs ≡ None → without_first kind xs ≡ xs
none_left kind xs e = all_fail_left kind xs (none_passes (is_listed_kind kind) xs e)

pub some_when : (kind : OpKind) (xs : Listings) (i : ℕ) (d : OpKind × When) → position (is_listed_kind kind) xs ≡ Some i → listed_when kind xs ≡ Some (get_or xs i d).1
some_when kind xs i d e = let f = position-Some (is_listed_kind kind) xs i d e in first_when kind xs i d f.0 f.1 f.2

pub some_left : (kind : OpKind) (xs : Listings) (i : ℕ) (d : OpKind × When) → position (is_listed_kind kind) xs ≡ Some i → without_first kind xs ≡ take i xs ++ drop (i + 1) xs
some_left kind xs i d e = let f = position-Some (is_listed_kind kind) xs i d e in first_left kind xs i d f.0 f.1 f.2 ∙ ap (λ n. take i xs ++ drop n xs) (suc-eq-add-one i)
