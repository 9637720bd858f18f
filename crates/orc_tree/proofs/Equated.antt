-- The test of equality of configurations decides it.
use Rattle.std.proofs.Common.{◌≡◌, ◌↔◌, Bool, true, false, List, refl, ap, sym}
use Rattle.std.specs.Prelude.{IsTrue}
use Rattle.std.specs.Bool.{Decides}
use Rattle.std.specs.FinMap.{entries, same_entries_map}
use Rattle.std.specs.Cmp.Lexicographic.{pointwise_decides, bytes_decides}
use Rattle.std.proofs.lemmas.Bool.Decides.{Decides-and, Decides-like}
use Rattle.orc_path.specs.Steps.{PathStep}
use Rattle.orc_path.specs.Configurations.{Config}
use Rattle.orc_path.specs.declared.item.Item.{Item}
use Rattle.orc_path.specs.declared.item.Item.TheVariants.{Entry, Leaf}
use Rattle.orc_path.proofs.Equality.{step_eq_decides}
use Rattle.orc_tree.specs.Sameness.{equal_items, equal_rows, equal_configs, EqualConfigsAreOne}

items_decided : (a b : Item) → Decides (equal_items a b) (a ≡ b)
items_decided Entry Entry = (λ h. refl, λ h. refl)
items_decided Entry (Leaf t) = (λ h. cc, λ h. cc)
items_decided (Leaf s) Entry = (λ h. cc, λ h. cc)
items_decided (Leaf s) (Leaf t) = (λ h. ap Leaf ((bytes_decides s t).0 h), λ h. let e : s ≡ t = cc in (bytes_decides s t).1 e)

rows_decided : (a b : List PathStep × Item) → Decides (equal_rows a b) (a ≡ b)
rows_decided a b =
    Decides-like _ (λ (h : (a.0 ≡ b.0) × (a.1 ≡ b.1)). λ i. (h.0 i, h.1 i))
    (λ (e : a ≡ b). (ap (λ (r : List PathStep × Item). r.0) e, ap (λ (r : List PathStep × Item). r.1) e))
    (Decides-and _ _ (pointwise_decides step_eq_decides a.0 b.0) (items_decided a.1 b.1))

pub configs_decided : EqualConfigsAreOne
configs_decided a b =
    let rows : Decides (equal_configs a b) (entries a ≡ entries b) = pointwise_decides rows_decided (entries a) (entries b) in
    (λ h. same_entries_map a b (rows.0 h), λ (e : a ≡ b). rows.1 (ap (λ (m : Config). entries m) e))

-- two tests that decide one thing are one
pub one_test : {P : Type 0} (r b : Bool) → (IsTrue r ↔ P) → (IsTrue b ↔ P) → r ≡ b
one_test true true f d = refl
one_test true false f d = sym (d.1 (f.0 refl))
one_test false true f d = f.1 (d.0 refl)
one_test false false f d = refl
