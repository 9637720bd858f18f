-- In a reconciliation each device has its mender, and each transaction is left.
use Rattle.std.proofs.Common.{◌≡◌, ℕ, zero, suc, Bool, true, false, cond, ◌&&◌, List, [], ◌∷◌, Option, None, Some, All, map, set, refl, ap, ◌∙◌}
use Rattle.std.specs.Prelude.{slice_get}
use Rattle.std.specs.List.{list_all}
use Rattle.std.specs.Option.{option_map, option_map_or}
use Rattle.std.specs.Cmp.{first_so, second_so}
use Rattle.std.proofs.lemmas.Bool.{false≢true}
use Rattle.std.proofs.lemmas.List.Elements.{All-cons, All-head, All-map, All-nil, All-tail, All-weaker}
use Rattle.std.proofs.lemmas.Option.{none-some}
use Rattle.orc_device.specs.declared.reply.Reply.{Reply}
use Rattle.orc_recover.specs.Menders.{mender_took}
use Rattle.orc_rules.specs.Duties.{duty_took}
use Rattle.orc_rules.specs.Hubs.{with_changed}
use Rattle.orc_rules.specs.Transactions.{are_over, is_told, retired, transaction_ended}
use Rattle.orc_rules.specs.Worlds.{is_over}
use Rattle.orc_rules.specs.declared.duty.Duty.{Duty}
use Rattle.orc_rules.specs.declared.transaction.Phase.{Phase}
use Rattle.orc_rules.specs.declared.transaction.Phase.TheVariants as phase
use Rattle.orc_rules.specs.declared.transaction.Transaction.{Transaction}
use Rattle.orc_rules.proofs.Entering.{All-at}
use Rattle.orc_tree.specs.Sameness.{equal_configs}
use Rattle.orc_hub.specs.Keeps.{AreLeft, HasMender}

-- what was mapped was there before
pub begun_before : {A B : Type 0} (f : A → B) (o : Option A) (y : B) → option_map f o ≡ Some y → (x : A) × (o ≡ Some x)
begun_before f None y is = absurd (none-some y is)
begun_before f (Some x) y is = (x, refl)

all_set : {X : Type 0} (P : X → Type 0) (xs : List X) (i : ℕ) (y : X) → P y → All P xs → All P (set xs i y)
all_set P [] i y p all = All-nil P
all_set P (x ∷ xs) zero y p all = All-cons P y xs p (All-tail P x xs all)
all_set P (x ∷ xs) (suc i) y p all = All-cons P x (set xs i y) (All-head P x xs all) (all_set P xs i y p (All-tail P x xs all))

all_changed : {X : Type 0} (P : X → Type 0) (change : X → X) → ((x : X) → P x → P (change x)) → (place : ℕ) (xs : List X) → All P xs → All P (with_changed change place xs)
all_changed {X = X} P change keeps place xs all = on (slice_get xs place) refl
  where
    on : (o : Option X) → slice_get xs place ≡ o → All P (option_map_or (λ (x : X). set xs place (change x)) o xs)
    on None none = all
    on (Some x) there = all_set P xs place (change x) (keeps x (All-at P xs place x all there)) all

left_still : (duties : List Duty) (it : Transaction) → it.phase ≡ phase.Left → (retired duties it).phase ≡ phase.Left
left_still duties it is =
    ap (λ (b : Bool). (cond (b && are_over duties it.t it.plan.held.devices) (transaction_ended duties it) it).phase) (ap is_told is) ∙ is

-- after a report they still are
pub still_left : (behind : List Duty) (active : List Transaction) (duties : List Duty) (device : ℕ) (reply : Reply) (faults : ℕ) → AreLeft active duties
    → AreLeft (map (retired behind) active) (with_changed (λ duty. duty_took duty reply faults) device duties)
still_left behind active duties device reply faults own = record {
  left = All-map (λ (it : Transaction). it.phase ≡ phase.Left) (retired behind) active
      (All-weaker (λ (it : Transaction). it.phase ≡ phase.Left) (λ (it : Transaction). (retired behind it).phase ≡ phase.Left) (left_still behind) active own.left);
  mends = all_changed HasMender (λ (duty : Duty). duty_took duty reply faults)
      (λ duty mender. (mender_took equal_configs mender.0 reply, ap (λ (d : Duty). duty_took d reply faults) mender.1)) device duties own.mends;
}

phase_left : (p : Phase) → is_over p ≡ true → p ≡ phase.Left
phase_left phase.Left is = refl
phase_left phase.Preparing is = absurd (false≢true is)
phase_left phase.Decided is = absurd (false≢true is)
phase_left phase.Aborted is = absurd (false≢true is)
phase_left phase.Settling is = absurd (false≢true is)

-- where a hub is idle each transaction is left
pub all_left : (active : List Transaction) → list_all (λ it. is_over it.phase) active ≡ true → All (λ it. it.phase ≡ phase.Left) active
all_left [] is = All-nil _
all_left (it ∷ active) is =
    All-cons (λ (x : Transaction). x.phase ≡ phase.Left) it active (phase_left it.phase (first_so (is_over it.phase) (list_all (λ x. is_over x.phase) active) is))
    (all_left active (second_so (is_over it.phase) (list_all (λ x. is_over x.phase) active) is))
