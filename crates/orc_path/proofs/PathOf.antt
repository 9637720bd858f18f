-- A text is read as a path exactly where it is the text of that path.
use Rattle.std.proofs.Common.{◌≡◌, ℕ, Bool, true, false, ◌&&◌, nat_eq, cond, List, Some, None, Option, refl, ap, subst, ◌∙◌}
use Rattle.std.specs.Cmp.Lexicographic.{pointwise, bytes_decides}
use Rattle.std.proofs.lemmas.Bool.{and_parts, and_from}
use Rattle.orc_path.specs.Steps.{PathStep, is_path}
use Rattle.orc_path.specs.Texts.{path_text, IsPathText}
use Rattle.orc_path.specs.Reading.{steps_in, path_with, path_of}
use Rattle.orc_path.specs.inside.Reading.{whole}
use Rattle.orc_path.specs.declared.reader.Reader.{Reader}
use Rattle.orc_path.proofs.Parts.{none_given}
use Rattle.orc_path.proofs.Cuts.{steps_again}
use Rattle.orc_path.proofs.Behind.{some_same, IsBehind}
use Rattle.orc_path.proofs.Refused.{IsTextOf, whole_text}

-- a path's text is read as that path
pub path_of_text : (p : List PathStep) → is_path p ≡ true → path_of (path_text p) ≡ Some p
unfolding path_of
path_of_text p h =
    ap (path_with (path_text p)) (steps_again p h)
    ∙ ap (λ t. cond t (Some p) None) (and_from _ _ h ((bytes_decides (path_text p) (path_text p)).1 refl))

with_by : (t : Bool) (xs : List ℕ) (given p : List PathStep) → (is_path given && pointwise nat_eq (path_text given) xs) ≡ t → cond t (Some given) None ≡ Some p → IsTextOf p xs
with_by false xs given p is e = none_given _ p e
with_by true xs given p is e =
    let parts = and_parts (is_path given) (pointwise nat_eq (path_text given) xs) is in
    subst (λ q. IsTextOf q xs) (some_same e) (parts.0, (bytes_decides (path_text given) xs).0 parts.1)

-- what is read as a path is its text
pub text_of_path : (p : List PathStep) (xs : List ℕ) → path_of xs ≡ Some p → IsTextOf p xs
unfolding path_of
text_of_path p xs e = with_by (is_path (steps_in xs) && pointwise nat_eq (path_text (steps_in xs)) xs) xs (steps_in xs) p refl e

-- what is no path's text is read as none
pub path_of_none : (xs : List ℕ) → (IsPathText xs → ⊥) → path_of xs ≡ None
path_of_none xs h = on (path_of xs) refl where
  on : (o : Option (List PathStep)) → path_of xs ≡ o → path_of xs ≡ None
  on None is = is
  on (Some p) is = absurd (h (p, text_of_path p xs is))

-- both ways
pub paths_are_read : (xs : List ℕ) (p : List PathStep) → (path_of xs ≡ Some p → IsTextOf p xs) × (IsTextOf p xs → path_of xs ≡ Some p)
paths_are_read xs p = (text_of_path p xs, λ t. subst (λ x. path_of x ≡ Some p) t.1 (path_of_text p t.0))

-- what is read to the end of a path is the path of the text
pub path_of-behind : (xs : List ℕ) (r : Reader) (p : List PathStep) → IsBehind xs r → whole r ≡ Some p → path_of xs ≡ Some p
path_of-behind xs r p b w = (paths_are_read xs p).1 (whole_text r p xs b w)
