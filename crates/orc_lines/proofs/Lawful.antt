-- One more stays lawful.
use Rattle.std.proofs.Common.{◌≡◌, List, [], ◌∷◌, ◌++◌, Bool, true, false, ◌&&◌, refl, Result, Ok, Err}
use Rattle.std.specs.List.{list_all}
use Rattle.std.specs.Result.{OnOk}
use Rattle.std.specs.Cmp.{first_so, second_so}
pub use Rattle.orc_decls.proofs.SchemaPlaces.{schema_at}

pub both : (a b : Bool) → a ≡ true → b ≡ true → (a && b) ≡ true
both true b p q = q
both false b p q = p

pub all_more : {X : Type 0} (f : X → Bool) (xs : List X) (x : X) → list_all f xs ≡ true → f x ≡ true → list_all f (xs ++ x ∷ []) ≡ true
all_more f [] x h e = both (f x) true e refl
all_more f (y ∷ ys) x h e =
    both (f y) (list_all f (ys ++ x ∷ [])) (first_so (f y) (list_all f ys) h) (all_more f ys x (second_so (f y) (list_all f ys) h) e)

pub on_ok_more : {T E : Type 0} (r : Result T E) (P Q : Type 0) → (P → Q) → OnOk r P → OnOk r Q
on_ok_more (Ok x) P Q f h = f h
on_ok_more (Err e) P Q f h = h
