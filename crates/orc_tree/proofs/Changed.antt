-- Changes that are done one after another.
use Rattle.std.proofs.Common.{◌≡◌, ℕ, ◌+◌, ◌<◌, Bool, true, List, [], ◌∷◌, length, drop, get_or, IsTrue, refl, sym, ap, subst, ◌∙◌}
use Rattle.std.specs.List.{list_all}
use Rattle.std.proofs.lemmas.List.{drop_more}
use Rattle.std.proofs.lemmas.List.Elements.{All-get_or}
use Rattle.std.proofs.lemmas.List.Sums.{AllPass-from_list_all}
use Rattle.orc_path.specs.Configurations.{Config}
use Rattle.orc_tree.specs.Changes.{drop_each, put_each}
use Rattle.orc_tree.specs.declared.change.Change.{Change}
use Rattle.orc_tree.specs.declared.change.Change.TheVariants.{Put, Remove}

-- what all elements pass, one passes
pub list_all-read : {X : Type 0} (p : X → Bool) (xs : List X) (i : ℕ) (x : X) → i < length xs → x ≡ get_or xs i x → IsTrue (list_all p xs) → IsTrue (p x)
list_all-read p xs i x within is h =
    subst (λ y. IsTrue (p y)) (sym is) (All-get_or (λ y. p y ≡ true) xs i x within (AllPass-from_list_all p xs h))

-- one element less is left
pub one_less : {X : Type 0} (xs : List X) (i : ℕ) (x : X) → i < length xs → x ≡ get_or xs i x → drop i xs ≡ x ∷ drop (i + 1) xs
one_less xs i x within is = drop_more xs i x within ∙ ap (λ y. y ∷ drop (i + 1) xs) (sym is)

drop_first : (x : Change) (xs : List Change) (m : Config) → drop_each (x ∷ xs) m ≡ drop_each xs (drop_each (x ∷ []) m)
drop_first (Remove p) xs m = refl
drop_first (Put p item) xs m = refl

put_first : (x : Change) (xs : List Change) (m : Config) → put_each (x ∷ xs) m ≡ put_each xs (put_each (x ∷ []) m)
put_first (Remove p) xs m = refl
put_first (Put p item) xs m = refl

pub drop_each-more : (xs : List Change) (i : ℕ) (x : Change) (old new all : Config) → i < length xs → x ≡ get_or xs i x → new ≡ drop_each (x ∷ []) old → drop_each (drop i xs) old ≡ all
    → drop_each (drop (i + 1) xs) new ≡ all
drop_each-more xs i x old new all within is done so =
    ap (drop_each (drop (i + 1) xs)) done ∙ sym (drop_first x (drop (i + 1) xs) old) ∙ sym (ap (λ l. drop_each l old) (one_less xs i x within is)) ∙ so

pub put_each-more : (xs : List Change) (i : ℕ) (x : Change) (old new all : Config) → i < length xs → x ≡ get_or xs i x → new ≡ put_each (x ∷ []) old → put_each (drop i xs) old ≡ all
    → put_each (drop (i + 1) xs) new ≡ all
put_each-more xs i x old new all within is done so =
    ap (put_each (drop (i + 1) xs)) done ∙ sym (put_first x (drop (i + 1) xs) old) ∙ sym (ap (λ l. put_each l old) (one_less xs i x within is)) ∙ so
