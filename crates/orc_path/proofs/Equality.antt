-- The tests of equality decide equality.
use Rattle.std.proofs.Common.{◌≡◌, Bool, ◌&&◌, List, refl, ap}
use Rattle.std.proofs.lemmas.Bool.{and_from}
use Rattle.std.specs.Bool.{Decides}
use Rattle.std.specs.Cmp.{first_so, second_so}
use Rattle.std.specs.Cmp.Lexicographic.{pointwise_decides, bytes_decides}
use Rattle.orc_path.specs.Steps.{PathStep}
use Rattle.orc_path.specs.declared.item.Item.{Item}
use Rattle.orc_path.specs.declared.item.Item.TheVariants.{Entry, Leaf}
use Rattle.orc_path.specs.contracts.item.ItemPartialEq.TheImpl as item
use Rattle.orc_path.specs.contracts.path.StepPartialEq.TheImpl as step
use Rattle.orc_path.specs.contracts.path.PathPartialEq.TheImpl as path

-- `==` of steps
pub step_eq_decides : (a b : PathStep) → Decides (step.ghosts.eq a b) (a ≡ b)
step_eq_decides a b = both_decide _ _ (bytes_decides a.node b.node) (pointwise_decides bytes_decides a.keys b.keys) (λ p q i. record { node = p i; keys = q i }) (ap (λ (s : PathStep). s.node)) (ap (λ (s : PathStep). s.keys))
  where
    both_decide : {A B C : Type 0} (s t : Bool) → Decides s A → Decides t B → (A → B → C) → (C → A) → (C → B) → Decides (s && t) C
    both_decide s t a b make first second = (λ h. make (a.0 (first_so s t h)) (b.0 (second_so s t h)), λ c. and_from s t (a.1 (first c)) (b.1 (second c)))

-- `==` of paths
pub path_eq_decides : (p q : List PathStep) → Decides (path.ghosts.eq p q) (p ≡ q)
path_eq_decides = pointwise_decides step_eq_decides

-- `==` of items
pub item_eq_decides : (a b : Item) → Decides (item.ghosts.eq a b) (a ≡ b)
item_eq_decides Entry Entry = (λ h. refl, λ h. refl)
item_eq_decides Entry (Leaf t) = (λ h. cc, λ h. cc)
item_eq_decides (Leaf s) Entry = (λ h. cc, λ h. cc)
item_eq_decides (Leaf s) (Leaf t) = (λ h. ap Leaf ((bytes_decides s t).0 h), λ h. let e : s ≡ t = cc in (bytes_decides s t).1 e)
