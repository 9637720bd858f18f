-- The least number for which something is due is that of a transaction for which something is.
use Rattle.std.proofs.Common.{◌≡◌, ◌⊎◌, ⊎_elim, ℕ, Bool, true, false, List, [], ◌∷◌, Option, None, Some, min, All, refl, sym, ap, subst, ◌∙◌, cond, arith}
use Rattle.std.specs.List.{fold}
use Rattle.std.proofs.lemmas.List.Elements.{All-head, All-tail}
use Rattle.std.proofs.lemmas.Option.{same_Some}
use Rattle.orc_rules.specs.Due.{due_with, is_entry_due, least_due, lesser_number}
use Rattle.orc_hub_parts.specs.Due.{IsDueAs}
use Rattle.orc_rules.specs.declared.duty.Duty.{Duty}
use Rattle.orc_rules.specs.declared.transaction.Transaction.{Transaction}

min_is : (a b : ℕ) → (min a b ≡ a) ⊎ (min a b ≡ b)
min_is a b = grind arith

module _ (duties : List Duty) (t : ℕ) where
  one : (found : Option ℕ) (it : Transaction) → (IsDueAs duties t it → ⊥) → due_with duties found it ≡ Some t → found ≡ Some t
  one found it none h = on (is_entry_due duties it) refl h
    where
      numbered : (o : Option ℕ) → is_entry_due duties it ≡ true → lesser_number o it.t ≡ Some t → o ≡ Some t
      numbered None is e = absurd (none (same_Some it.t t e, is))
      numbered (Some f) is e =
          ⊎_elim (λ left. ap Some (sym left ∙ same_Some (min f it.t) t e)) (λ right. absurd (none (sym right ∙ same_Some (min f it.t) t e, is))) (min_is f it.t)

      on : (b : Bool) → is_entry_due duties it ≡ b → due_with duties found it ≡ Some t → found ≡ Some t
      on true is e = numbered found is (subst (λ (b : Bool). cond b (lesser_number found it.t) found ≡ Some t) is e)
      on false is e = subst (λ (b : Bool). cond b (lesser_number found it.t) found ≡ Some t) is e

  none_found : (found : Option ℕ) (active : List Transaction) → All (λ it. IsDueAs duties t it → ⊥) active
      → fold (due_with duties) found active ≡ Some t → found ≡ Some t
  none_found found [] none h = h
  none_found found (it ∷ active) none h =
      one found it (All-head (λ it. IsDueAs duties t it → ⊥) it active none)
      (none_found (due_with duties found it) active (All-tail (λ it. IsDueAs duties t it → ⊥) it active none) h)

-- where nothing is due, there is no least number that is
pub is_found : (duties : List Duty) (active : List Transaction) (t : ℕ) → All (λ it. IsDueAs duties t it → ⊥) active
    → least_due duties active ≡ Some t → ⊥
is_found duties active t none h = absurd (none_some t (none_found duties t None active none h))
  where
    none_some : (x : ℕ) → None ≡ Some x → ⊥
    none_some x e = absurd cc
