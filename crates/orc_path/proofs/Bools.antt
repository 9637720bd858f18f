-- Tests and choices.
use Rattle.std.proofs.Common.{◌≡◌, Bool, true, false, ◌&&◌, cond, not, T, MatchBool, refl}

pub first_of_both : (a b : Bool) → T (a && b) → T a
first_of_both true b h = tt
first_of_both false b h = h

pub second_of_both : (a b : Bool) → T (a && b) → T b
second_of_both true b h = h
second_of_both false b h = absurd h

pub not_cond : {A : Type 0} (b : Bool) (x y : A) → cond (not b) x y ≡ cond b y x
not_cond true x y = refl
not_cond false x y = refl

-- what a test says, where its answer is known
pub if_so : (t : Bool) (P Q : Type 0) → MatchBool t P Q → t ≡ true → P
if_so true P Q h e = h
if_so false P Q h e = let not_so : ⊥ = cc in absurd not_so

pub if_not : (t : Bool) (P Q : Type 0) → MatchBool t P Q → t ≡ false → Q
if_not true P Q h e = let not_so : ⊥ = cc in absurd not_so
if_not false P Q h e = h
