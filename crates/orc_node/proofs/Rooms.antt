-- Where the least of eight ends, there is room for one more.
use Rattle.std.proofs.Common.{subst, ℕ, ◌≡◌, ◌≤◌, ◌<◌, Bool, true, false, not, ◌||◌, nat_eq, nat_lt, List, [], ◌∷◌, ◌++◌, length-append, refl, sym, ◌∙◌, ap, cond, length, arith, eq-eqb}
use Rattle.std.proofs.lemmas.Bool.{ltb-false, or_left, or_right}
use Rattle.std.specs.List.{list_any, filter}
use Rattle.orc_device.specs.Nodes.{NodeState, least_of, session_ended, roomy}

kept_shorter : (b : Bool) (x : ℕ) (ys xs : List ℕ) → length ys ≤ length xs → length (cond b (x ∷ ys) ys) ≤ length (x ∷ xs)
kept_shorter true x ys xs h = omega arith
kept_shorter false x ys xs h = omega arith

pub filter_shorter : (p : ℕ → Bool) (xs : List ℕ) → length (filter p xs) ≤ length xs
filter_shorter p [] = omega arith
filter_shorter p (x ∷ xs) = kept_shorter (p x) x (filter p xs) xs (filter_shorter p xs)

lost_one : (y x : ℕ) (xs : List ℕ) → (list_any (nat_eq y) xs ≡ true → length (filter (λ z. not (nat_eq y z)) xs) < length xs) →
    (b : Bool) → (b || list_any (nat_eq y) xs) ≡ true → length (cond (not b) (x ∷ filter (λ z. not (nat_eq y z)) xs) (filter (λ z. not (nat_eq y z)) xs)) < length (x ∷ xs)
lost_one y x xs ih true h = omega (arith, filter_shorter (λ z. not (nat_eq y z)) xs)
lost_one y x xs ih false h = omega (arith, ih h)

-- a member that goes makes it shorter
member_goes : (y : ℕ) (xs : List ℕ) → list_any (nat_eq y) xs ≡ true → length (filter (λ z. not (nat_eq y z)) xs) < length xs
member_goes y [] h = cc
member_goes y (x ∷ xs) h = lost_one y x xs (member_goes y xs) (nat_eq y x) h

least_step : (a x : ℕ) (xs : List ℕ) (b : Bool) (y : ℕ) → (nat_eq y (cond b x a) || list_any (nat_eq y) xs) ≡ true → (nat_eq y a || (nat_eq y x || list_any (nat_eq y) xs)) ≡ true
least_step a x xs true y h = or_right (nat_eq y a) (nat_eq y x || list_any (nat_eq y) xs) h
least_step a x xs false y h = go (nat_eq y a) h
  where
    go : (c : Bool) → (c || list_any (nat_eq y) xs) ≡ true → (c || (nat_eq y x || list_any (nat_eq y) xs)) ≡ true
    go true e = refl
    go false e = or_right (nat_eq y x) (list_any (nat_eq y) xs) e

-- the least is one of them
least_member : (a : ℕ) (xs : List ℕ) → list_any (nat_eq (least_of a xs)) (a ∷ xs) ≡ true
least_member a [] = or_left (nat_eq a a) false (eq-eqb a a refl)
least_member a (x ∷ xs) = least_step a x xs (nat_lt x a) (least_of (cond (nat_lt x a) x a) xs) (least_member (cond (nat_lt x a) x a) xs)

pub roomy_room : (n : NodeState) (xs : List ℕ) → n.live ≡ xs → length xs ≤ 8 → length (roomy n xs).live < 8
roomy_room n [] e h = omega (arith, ap length e)
roomy_room n (x ∷ xs) e h = go (nat_lt 7 (length (x ∷ xs))) refl
  where
    gone : length (filter (λ z. not (nat_eq (least_of x xs) z)) n.live) < length n.live
    gone = member_goes (least_of x xs) n.live (ap (list_any (nat_eq (least_of x xs))) e ∙ least_member x xs)

    go : (b : Bool) → nat_lt 7 (length (x ∷ xs)) ≡ b → length (cond b (session_ended n (least_of x xs)) n).live < 8
    go true f = omega (arith, gone, ap length e)
    go false f = omega (arith, ap length e, ltb-false 7 (length (x ∷ xs)) f)

pub ended_few : (n : NodeState) (s : ℕ) → length n.live ≤ 8 → length (session_ended n s).live ≤ 8
ended_few n s h = omega (arith, filter_shorter (λ z. not (nat_eq s z)) n.live)

pub longer_by_one : (xs : List ℕ) (s : ℕ) → length xs < 8 → length (xs ++ s ∷ []) ≤ 8
longer_by_one xs s h = omega (arith, length-append xs (s ∷ []))

pub start_room : (n a b : NodeState) (s : ℕ) → length n.live ≤ 8 → a ≡ session_ended n s → b ≡ roomy a a.live → length b.live < 8
start_room n a b s h e f =
    let few : length a.live ≤ 8 = subst (λ (n : NodeState). length n.live ≤ 8) (sym e) (ended_few n s h) in
    subst (λ (n : NodeState). length n.live < 8) (sym f) (roomy_room a a.live refl few)
