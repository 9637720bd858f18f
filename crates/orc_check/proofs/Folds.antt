-- The least of breaches, part by part; the keys of a path.
use Rattle.std.proofs.Common.{◌≡◌, ℕ, Bool, true, false, List, [], ◌∷◌, ◌++◌, refl, sym, ap, ◌∙◌, append-nil}
use Rattle.std.specs.Prelude.{Option, if◌then◌else◌}
use Rattle.std.specs.List.{fold, list_any}
use Rattle.orc_path.specs.Steps.{PathStep}
use Rattle.orc_check.specs.Validity.{Breach, breach_if, lesser_breach, last_keys}

-- a breach at a path without further names
pub bare : (best end : Option Breach) (broken is : Bool) (path : List PathStep) (rule : ℕ) → end ≡ fold lesser_breach best (breach_if broken (path ++ []) rule) → broken ≡ is
    → end ≡ fold lesser_breach best (breach_if is path rule)
bare best end broken is path rule h e =
    h ∙ ap (λ (p : List PathStep). fold lesser_breach best (breach_if broken p rule)) (append-nil path) ∙ ap (λ b. fold lesser_breach best (breach_if b path rule)) e

-- the keys of the last step
pub last_keys-last : (front : List PathStep) (last : PathStep) → last_keys (front ++ last ∷ []) ≡ last.keys
last_keys-last [] last = refl
last_keys-last (s ∷ []) last = refl
last_keys-last (s ∷ t ∷ ss) last = last_keys-last (t ∷ ss) last

-- what some of a list's elements pass, where the list counts
pub any_if : {X : Type 0} (f : X → Bool) (xs : List X) (b : Bool) → list_any f xs ≡ true → b ≡ list_any f (if b then xs else [])
any_if f xs true h = sym h
any_if f xs false h = refl

pub none_if : {X : Type 0} (f : X → Bool) (xs : List X) (b : Bool) → list_any f xs ≡ false → false ≡ list_any f (if b then xs else [])
none_if f xs true h = sym h
none_if f xs false h = refl
