-- The items of a configuration fit their paths as writes.
use Rattle.std.proofs.Common.{◌≡◌, ℕ, ◌≤◌, true, length, drop, append-nil, List, [], ◌∷◌, ◌++◌, map, IsTrue, refl, sym, ap, subst, ◌∙◌}
use Rattle.std.specs.Cmp.{first_so, second_so}
use Rattle.std.specs.List.{list_all}
use Rattle.std.specs.FinMap.{entries}
use Rattle.orc_path.specs.Steps.{PathStep}
use Rattle.orc_path.specs.Items.{fits}
use Rattle.orc_path.specs.Configurations.{Config, IsConfig}
use Rattle.orc_path.specs.declared.item.Item.{Item}
use Rattle.orc_change.specs.inside.Held.{AreHeld}
use Rattle.orc_change.proofs.Exact.{entries_are}
use Rattle.orc_call.specs.declared.call.DevicePut.{DevicePut}
use Rattle.orc_services.specs.Fitting.{fits_writes}
use Rattle.std.proofs.lemmas.List.{drop_all}
use Rattle.std.proofs.lemmas.Bool.{and_from}
use Rattle.orc_services.specs.Expanded.{write_of, writes_of, writes_to}

held_fit : (name : List ℕ) (config : Config) (rows : List (List PathStep × Item)) → IsConfig config → AreHeld config rows
    → fits_writes (map (write_of name) rows) ≡ true
held_fit name config [] is held = refl
held_fit name config (row ∷ rows) is held =
    and_from (fits row.0 row.1) (fits_writes (map (write_of name) rows)) (is.fit row.0 row.1 held.0) (held_fit name config rows is held.1)

append_fit : (xs ys : List DevicePut) → fits_writes xs ≡ true → fits_writes ys ≡ true → fits_writes (xs ++ ys) ≡ true
append_fit [] ys x y = y
append_fit (w ∷ xs) ys x y =
    and_from (fits w.path w.item) (fits_writes (xs ++ ys)) (first_so (fits w.path w.item) (fits_writes xs) x)
    (append_fit xs ys (second_so (fits w.path w.item) (fits_writes xs) x) y)

pub pushed_fit : (name : List ℕ) (config : Config) (old new : List DevicePut) → IsConfig config → fits_writes old ≡ true
    → new ≡ old ++ writes_to name config → fits_writes new ≡ true
pushed_fit name config old new is fit added =
    ap fits_writes added ∙ append_fit old (writes_to name config) fit (held_fit name config (entries config) is (entries_are config))

none_left : (names : List (List ℕ)) → writes_of names [] ≡ []
none_left [] = refl
none_left (name ∷ names) = refl

-- the writes of all devices, once no device is left
pub all_written : (names left : List (List ℕ)) (trees : List Config) (i : ℕ) (writes : List DevicePut) → length trees ≤ i
    → writes ++ writes_of left (drop i trees) ≡ writes_of names trees → writes ≡ writes_of names trees
all_written names left trees i writes end so_far =
    sym (ap (λ (t : List Config). writes ++ writes_of left t) (drop_all i trees end) ∙ ap (λ w. writes ++ w) (none_left left) ∙ append-nil writes) ∙ so_far
