-- Which devices a reconciliation has come to, and what is due there.
use Rattle.std.proofs.Common.{◌≡◌, ◌<◌, ℕ, zero, suc, Bool, true, false, cond, ◌&&◌, ◌||◌, List, [], ◌∷◌, Option, Some, None, refl, ap, ◌∙◌, arith}
use Rattle.std.specs.Prelude.{is_some, not, take}
use Rattle.std.specs.List.{list_all}
use Rattle.orc_call.specs.declared.answer.RecFault.{RecFault}
use Rattle.orc_rules.specs.Duties.{is_busy}
use Rattle.orc_rules.specs.Hubs.{Hub, due_on, duty_on, has_come_to, has_met_failure, order_on}
use Rattle.orc_rules.specs.declared.duty.Duty.{Duty}

-- what is next on a device is due there, where no failure was met and the reconciliation has come to it
pub due_so : (hub : Hub) (device : ℕ) → has_met_failure hub.mends ≡ false → has_come_to hub device ≡ true → due_on hub device ≡ order_on hub device
due_so hub device unmet come =
    ap (λ (b : Bool). cond b None (cond (has_come_to hub device) (order_on hub device) None)) unmet ∙ ap (λ (b : Bool). cond b (order_on hub device) None) come

-- where none is begun each device counts as one that it has come to
pub come_at_rest : (hub : Hub) (device : ℕ) → hub.mends ≡ None → has_come_to hub device ≡ true
come_at_rest hub device rest =
    ap (λ (m : Option (Option RecFault)). not (is_some m) || list_all (λ duty. not (is_busy duty)) (take device hub.duties)) rest

-- where one is begun it has come to a device before which nothing is left to do, and to no other
pub come_begun : (hub : Hub) (device : ℕ) (met : Option RecFault) → hub.mends ≡ Some met
    → has_come_to hub device ≡ list_all (λ duty. not (is_busy duty)) (take device hub.duties)
come_begun hub device met begun =
    ap (λ (m : Option (Option RecFault)). not (is_some m) || list_all (λ duty. not (is_busy duty)) (take device hub.duties)) begun

-- and so does a device before which nothing is left to do
pub come_past : (hub : Hub) (device : ℕ) → list_all (λ duty. not (is_busy duty)) (take device hub.duties) ≡ true → has_come_to hub device ≡ true
come_past hub device over = on (not (is_some hub.mends))
  where
    on : (b : Bool) → (b || list_all (λ duty. not (is_busy duty)) (take device hub.duties)) ≡ true
    on true = refl
    on false = over

-- nothing is left to do on these first devices, where nothing is on each
pub none_before : (duties : List Duty) (n : ℕ) → ((i : ℕ) → i < n → is_busy (duty_on duties i) ≡ false) → list_all (λ duty. not (is_busy duty)) (take n duties) ≡ true
none_before duties zero none = refl
none_before [] (suc n) none = refl
none_before (d ∷ ds) (suc n) none =
    both (not (is_busy d)) (list_all (λ duty. not (is_busy duty)) (take n ds)) (ap not (none 0 (omega arith)))
    (none_before ds n (λ i below. none (suc i) (omega (arith, below))))
  where
    both : (a b : Bool) → a ≡ true → b ≡ true → (a && b) ≡ true
    both true b is h = h
    both false b is h = is
