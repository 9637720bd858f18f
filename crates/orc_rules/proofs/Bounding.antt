-- The turns that are left are no more than 24 for each device of a transaction, and 4 for it.
use Rattle.std.proofs.Common.{◌≡◌, ℕ, ◌+◌, ◌*◌, ◌<◌, ◌≤◌, Bool, true, false, cond, ◌||◌, nat_eq, arith, List, [], ◌∷◌, Option, Some, None, length, refl, sym, ap, subst, ◌∙◌, zero, suc, eqb-true, eq-eqb}
use Rattle.std.specs.Prelude.{slice_get}
use Rattle.std.specs.List.{list_any}
use Rattle.std.proofs.lemmas.Bool.{false≢true}
use Rattle.std.proofs.lemmas.Option.{same_Some}
use Rattle.orc_call.specs.declared.answer.RecFault.{RecFault}
use Rattle.orc_decls.specs.declared.declarations.Decls.{Decls}
use Rattle.orc_device.specs.declared.kind.OpKind.{OpKind}
use Rattle.orc_device.specs.declared.reply.Reply.{Reply}
use Rattle.orc_journal.specs.declared.entry.Entry.{Entry}
use Rattle.orc_recover.specs.Menders.{MenderState}
use Rattle.orc_worker.specs.Workers.{is_due, work_stage_after}
use Rattle.orc_worker.specs.declared.stage.Stage.{Stage}
use Rattle.orc_worker.specs.declared.stage.Stage.TheVariants as stage
use Rattle.orc_worker.specs.declared.worker.Worker.{Worker}
use Rattle.orc_rules.specs.Duties.{is_busy, is_over}
use Rattle.orc_rules.specs.Hubs.{Hub, duty_on}
use Rattle.orc_rules.specs.Kept.{Shadow, heard as then_heard}
use Rattle.orc_rules.specs.Turns.{decisions_left, hearings_left, most_of_active, most_turns, operations_left, sum_of, total, turns_at_most, turns_left, turns_of_waiting, turns_on, work_left}
use Rattle.orc_rules.specs.UnderHub.{Attends, MendingKept, is_under_way}
use Rattle.orc_rules.specs.Worlds.{Link}
use Rattle.orc_rules.specs.declared.duty.Duty.{Duty}
use Rattle.orc_rules.specs.declared.duty.Duty.TheVariants as duty
use Rattle.orc_rules.specs.declared.transaction.Phase.{Phase}
use Rattle.orc_rules.specs.declared.transaction.Phase.TheVariants as phase
use Rattle.orc_rules.specs.declared.transaction.Transaction.{Transaction}
use Rattle.orc_rules.specs.declared.transaction.Waiting.{Waiting}
use Rattle.orc_rules.proofs.Lessening.{sum_most, total_most, total_point, work_less}
use Rattle.orc_rules.proofs.Courses.{due_not_over}

-- sums

total_none : (n : ℕ) → total (λ d. 0) n ≡ 0
total_none zero = refl
total_none (suc n) = let rest = total_none n in omega (arith, rest)

total_both : (f g : ℕ → ℕ) (n : ℕ) → total (λ d. f d + g d) n ≡ total f n + total g n
total_both f g zero = omega arith
total_both f g (suc n) = let rest = total_both f g n in omega (arith, rest)

sum_at : {X : Type 0} (f : X → ℕ) (xs : List X) (place : ℕ) (x : X) → slice_get xs place ≡ Some x → f x ≤ sum_of f xs
sum_at f [] place x there = absurd cc
sum_at f (y ∷ xs) zero x there = let same : f y ≡ f x = ap f (same_Some y x there) in omega (arith, same)
sum_at f (y ∷ xs) (suc place) x there = let later = sum_at f xs place x there in omega (arith, later)

sum_both : {X : Type 0} (f g : X → ℕ) (xs : List X) → sum_of f xs + sum_of g xs ≡ sum_of (λ x. f x + g x) xs
sum_both f g [] = omega arith
sum_both f g (x ∷ xs) = let rest = sum_both f g xs in omega (arith, rest)

-- the sum over devices of sums over transactions, in the other order
total_sums : {X : Type 0} (f : ℕ → X → ℕ) (xs : List X) (n : ℕ) → total (λ d. sum_of (λ x. f d x) xs) n ≡ sum_of (λ x. total (λ d. f d x) n) xs
total_sums f [] n = total_none n
total_sums f (x ∷ xs) n = total_both (λ d. f d x) (λ d. sum_of (λ y. f d y) xs) n ∙ ap (λ (m : ℕ). total (λ d. f d x) n + m) (total_sums f xs n)

-- what a device owes to one of these
abbrev Among : List ℕ → ℕ → ℕ
Among devices d = cond (list_any (nat_eq d) devices) 20 0

among_most : (devices : List ℕ) (n : ℕ) → total (Among devices) n ≤ 20 * length devices
among_most [] n = let none = total_none n in omega (arith, none)
among_most (x ∷ devices) n =
    let rest = among_most devices n in
    let split : total (Among (x ∷ devices)) n ≤ total (λ d. cond (nat_eq x d) 20 0 + Among devices d) n = total_most (Among (x ∷ devices)) (λ d. cond (nat_eq x d) 20 0 + Among devices d) each n in
    let parts = total_both (λ d. cond (nat_eq x d) 20 0) (Among devices) n in
    let first = total_point (λ d. cond (nat_eq x d) 20 0) (λ d. 0) x 20 none_other (at_most (nat_eq x x)) n in
    let none = total_none n in
    omega (arith, rest, split, parts, first, none)
  where
    at_most : (b : Bool) → cond b 20 0 ≤ 20
    at_most true = omega arith
    at_most false = omega arith

    none_other : (d : ℕ) → nat_eq x d ≡ false → cond (nat_eq x d) 20 0 ≤ 0
    none_other d e = subst (λ (b : Bool). cond b 20 0 ≤ 0) (sym e) (omega arith)

    flip : (b : Bool) (d : ℕ) → nat_eq d x ≡ b → nat_eq x d ≡ b
    flip true d e = eq-eqb x d (sym (eqb-true d x e))
    flip false d e = on (nat_eq x d) refl
      where
        on : (c : Bool) → nat_eq x d ≡ c → nat_eq x d ≡ false
        on true h = absurd (false≢true (sym e ∙ eq-eqb d x (sym (eqb-true x d h))))
        on false h = h

    each : (d : ℕ) → Among (x ∷ devices) d ≤ cond (nat_eq x d) 20 0 + Among devices d
    each d = on (nat_eq d x) refl
      where
        on : (b : Bool) → nat_eq d x ≡ b → cond (b || list_any (nat_eq d) devices) 20 0 ≤ cond (nat_eq x d) 20 0 + Among devices d
        on true e = subst (λ (c : Bool). 20 ≤ cond c 20 0 + Among devices d) (sym (flip true d e)) (omega arith)
        on false e = omega arith

-- operations

work_most : (st : Stage) → work_left st ≤ 10
work_most stage.Opening = omega arith
work_most stage.LockingRunning = omega arith
work_most stage.LockingCandidate = omega arith
work_most stage.Editing = omega arith
work_most stage.Validating = omega arith
work_most stage.Committing = omega arith
work_most stage.Refusing = omega arith
work_most stage.Prepared = omega arith
work_most stage.Lost = omega arith
work_most stage.Confirming = omega arith
work_most stage.Cancelling = omega arith
work_most stage.Reopening = omega arith
work_most stage.Recancelling = omega arith
work_most stage.UnlockingCandidate = omega arith
work_most stage.UnlockingRunning = omega arith
work_most stage.Closing = omega arith
work_most stage.Over = omega arith

-- what is owed to a transaction under way
abbrev Owes : ℕ → Transaction → ℕ
Owes d it = cond (is_under_way it.phase) (Among it.plan.held.devices d) 0

owed_most : (it : Transaction) (n : ℕ) → decisions_left it.phase + total (λ d. Owes d it) n ≤ most_of_active it it.phase
owed_most it n = on it.phase
  where
    on : (p : Phase) → decisions_left p + total (λ d. cond (is_under_way p) (Among it.plan.held.devices d) 0) n ≤ most_of_active it p
    on phase.Preparing = let most = among_most it.plan.held.devices n in omega (arith, most)
    on phase.Decided = let most = among_most it.plan.held.devices n in omega (arith, most)
    on phase.Aborted = let most = among_most it.plan.held.devices n in omega (arith, most)
    on phase.Settling = let none = total_none n in omega (arith, none)
    on phase.Left = let none = total_none n in omega (arith, none)

module _ (decls : Decls) (shadow : ℕ → Shadow) (entries : List Entry) (hub : Hub) (links : ℕ → Link) (own : Attends decls shadow entries hub links) (idle : hub.mends ≡ None) where
  no_mender : (device : ℕ) (mender : MenderState) → duty_on hub.duties device ≡ duty.Mends mender → ⊥
  no_mender = subst (λ (m : Option (Option RecFault)). MendingKept decls entries hub.active hub.duties hub.stale m) idle own.mending

  abbrev Owed : ℕ → ℕ
  Owed d = sum_of (λ it. Owes d it) hub.active

  -- a worker that hasn't ended is owed to its transaction
  owned_owes : (device : ℕ) (worker : Worker) → duty_on hub.duties device ≡ duty.Works worker → is_over worker.stage ≡ false → 20 ≤ Owed device
  owned_owes device worker is goes =
      let o = own.owned device worker is goes in
      let owed : Owes device o.it ≡ 20 =
      ap (λ (b : Bool). cond b (Among o.it.plan.held.devices device) 0) o.under_way ∙ ap (λ (b : Bool). cond b 20 0) o.names in
      let within = sum_at (λ it. Owes device it) hub.active o.place o.it o.there in
      omega (arith, owed, within)

  one_heard : (device : ℕ) (on : Duty) → duty_on hub.duties device ≡ on → (u : Option (OpKind × Reply)) → (links device).unheard ≡ u
      → 2 * operations_left (then_heard u (links device).faults on) + hearings_left u ≤ Owed device
  one_heard device duty.Free is None e = omega arith
  one_heard device duty.Free is (Some one) e = absurd (false≢true (sym (ap is_busy is) ∙ own.due device one e))
  one_heard device (duty.Mends mender) is u e = absurd (no_mender device mender is)
  one_heard device (duty.Works worker) is None e = on (is_over worker.stage) refl
    where
      over_none : (st : Stage) → is_over st ≡ true → work_left st ≡ 0
      over_none stage.Over h = refl
      over_none st h = absurd (false≢true h)

      on : (b : Bool) → is_over worker.stage ≡ b → 2 * work_left worker.stage + 0 ≤ Owed device
      on true h = let none = over_none worker.stage h in omega (arith, none)
      on false h = let owes = owned_owes device worker is h in let most = work_most worker.stage in omega (arith, owes, most)
  one_heard device (duty.Works worker) is (Some one) e =
      let busy : is_due worker.stage ≡ true = sym (ap is_busy is) ∙ own.due device one e in
      let owes = owned_owes device worker is (due_not_over worker.stage busy) in
      let less : work_left (work_stage_after worker.stage one.1) < work_left worker.stage = work_less worker.stage one.1 busy in
      let most = work_most worker.stage in omega (arith, owes, less, most)

  each : (device : ℕ) → turns_on (duty_on hub.duties device) (links device) ≤ Owed device
  each device = one_heard device (duty_on hub.duties device) refl (links device).unheard refl

  pub bounded : turns_left hub links ≤ turns_at_most hub
  bounded =
      let n : ℕ = length hub.duties in
      let waits = sum_most turns_of_waiting (λ (it : Waiting). most_turns (length it.plan.held.devices)) (λ it. omega arith) hub.waiting in
      let owed = total_most (λ d. turns_on (duty_on hub.duties d) (links d)) Owed each n in
      let turned = total_sums (λ d it. Owes d it) hub.active n in
      let joined = sum_both (λ (it : Transaction). decisions_left it.phase) (λ (it : Transaction). total (λ d. Owes d it) n) hub.active in
      let most = sum_most (λ (it : Transaction). decisions_left it.phase + total (λ d. Owes d it) n) (λ (it : Transaction). most_of_active it it.phase) (λ it. owed_most it n) hub.active in
      omega (arith, waits, owed, turned, joined, most)
