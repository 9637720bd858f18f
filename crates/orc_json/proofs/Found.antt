-- What is found, one part after another.
use Rattle.std.proofs.Common.{◌≡◌, ℕ, suc, nat_lt, true, List, [], ◌∷◌, ◌++◌, length, refl, sym, ap, ◌∙◌, arith}
use Rattle.std.specs.Prelude.{not}
use Rattle.std.proofs.lemmas.Bool.Decides.{nat_tests}
use Rattle.orc_path.specs.Steps.{PathStep, ends_in_keys, has_keys}
use Rattle.orc_path.specs.Items.{fits}
use Rattle.orc_path.specs.declared.item.Item.TheVariants.{Entry, Leaf}
use Rattle.orc_json.specs.Findings.{Finding, below}
use Rattle.orc_json.specs.Readings.{find, find_all}
use Rattle.orc_json.specs.declared.reading.Reading.{Reading}

pub find_all-append : (xs ys : List Finding) (r : Reading) → find_all (xs ++ ys) r ≡ find_all ys (find_all xs r)
find_all-append [] ys r = refl
find_all-append (x ∷ xs) ys r = find_all-append xs ys (find x r)

-- a part was found, and the rest is still to be found
pub goes_on : (all : List Finding) (part rest : List Finding) (first old new : Reading)
    → find_all (part ++ rest) old ≡ find_all all first → new ≡ find_all part old → find_all rest new ≡ find_all all first
goes_on all part rest first old new h step = ap (find_all rest) step ∙ sym (find_all-append part rest old) ∙ h

-- the last step of a path below another one
pub ends_in_keys-below : (at : List PathStep) (name : List ℕ) (keys : List (List ℕ)) → ends_in_keys (below at name keys) ≡ has_keys (record { node = name; keys = keys })
ends_in_keys-below [] name keys = refl
ends_in_keys-below (s ∷ []) name keys = refl
ends_in_keys-below (s ∷ t ∷ more) name keys = ends_in_keys-below (t ∷ more) name keys

some_keys : (n : ℕ) → nat_lt 0 (suc n) ≡ true
some_keys n = grind (arith, nat_tests)

pub entry_fits : (at : List PathStep) (name key : List ℕ) (keys : List (List ℕ)) → fits (below at name (key ∷ keys)) Entry ≡ true
entry_fits [] name key keys = some_keys (length keys)
entry_fits (s ∷ more) name key keys = ends_in_keys-below (s ∷ more) name (key ∷ keys) ∙ some_keys (length keys)

pub leaf_fits : (at : List PathStep) (name text : List ℕ) → fits (below at name []) (Leaf text) ≡ true
leaf_fits [] name text = refl
leaf_fits (s ∷ more) name text = ap not (ends_in_keys-below (s ∷ more) name [])
