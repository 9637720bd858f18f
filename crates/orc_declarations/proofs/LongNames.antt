-- Whether a name in a statement or below it is too long, one level opened.
use Rattle.std.proofs.Common.{◌≡◌, refl, sym, ◌∙◌, ap, List, [], ◌∷◌, map, Bool, true, false, ◌||◌, ℕ, zero, suc, ◌<◌, ◌≤◌, length, get_or, take, arith}
use Rattle.std.specs.List.{list_any}
use Rattle.std.proofs.lemmas.List.{take_all}
use Rattle.orc_yang.specs.declared.statement.Stmt.{Stmt}
use Rattle.orc_yang.specs.declared.statement.Stmt.TheViews.{out-Stmt, roll-out-Stmt}
use Rattle.orc_yang.specs.declared.statement.Stmt.TheFolds.{fold-roll-Stmt}
use Rattle.orc_declarations.specs.Modules.{has_long_name, is_long_head, long_step}

any_of_map : {X : Type 0} (f : X → Bool) (xs : List X) → list_any (λ (b : Bool). b) (map f xs) ≡ list_any f xs
any_of_map f [] = refl
any_of_map f (x ∷ xs) = ap (λ (b : Bool). f x || b) (any_of_map f xs)

pub long_is : (s : Stmt) → has_long_name s ≡ (is_long_head (out-Stmt s).keyword (out-Stmt s).argument || list_any has_long_name (out-Stmt s).subs)
long_is s =
    ap has_long_name (sym (roll-out-Stmt s)) ∙ fold-roll-Stmt Bool long_step (out-Stmt s)
    ∙ ap (λ (b : Bool). is_long_head (out-Stmt s).keyword (out-Stmt s).argument || b) (any_of_map has_long_name (out-Stmt s).subs)

-- with a head that is not, so is what stands below it
pub long_below : (s : Stmt) (b : Bool) → is_long_head (out-Stmt s).keyword (out-Stmt s).argument ≡ false
    → list_any has_long_name (out-Stmt s).subs ≡ b → has_long_name s ≡ b
long_below s b head below =
    long_is s ∙ ap (λ (h : Bool). h || list_any has_long_name (out-Stmt s).subs) head ∙ below

pub found_at : {X : Type 0} (f : X → Bool) (xs : List X) (i : ℕ) (x : X) → i < length xs → x ≡ get_or xs i x → f x ≡ true → list_any f xs ≡ true
found_at f [] i x within is h = absurd (omega arith)
found_at f (y ∷ ys) zero x within is h = ap (λ (b : Bool). b || list_any f ys) (sym (ap f is) ∙ h)
found_at f (y ∷ ys) (suc i) x within is h = on (f y) (found_at f ys i x (omega arith) is h) where
  on : (b : Bool) → list_any f ys ≡ true → (b || list_any f ys) ≡ true
  on true more = refl
  on false more = more

pub found_none : {X : Type 0} (f : X → Bool) (xs : List X) (n : ℕ) → length xs ≤ n → list_any f (take n xs) ≡ false → list_any f xs ≡ false
found_none f xs n all h = ap (list_any f) (sym (take_all n xs all)) ∙ h
