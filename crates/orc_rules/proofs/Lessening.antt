-- Each event of a round leaves fewer turns.
use Rattle.std.proofs.Common.{◌≡◌, ◌⊎◌, inl, inr, ℕ, ◌+◌, ◌*◌, ◌<◌, ◌≤◌, Bool, true, false, cond, ◌&&◌, nat_eq, arith, List, [], ◌∷◌, ◌++◌, Option, Some, None, map, length, refl, sym, ap, subst, ◌∙◌, zero, suc, eqb-true, eq-eqb}
use Rattle.std.specs.Prelude.{slice_get, slice_set}
use Rattle.std.specs.Option.{option_map_or}
use Rattle.std.proofs.lemmas.Bool.{false≢true}
use Rattle.std.proofs.lemmas.Option.{same_Some}
use Rattle.orc_device.specs.Operations.{is_ok, is_resolved}
use Rattle.orc_device.specs.declared.kind.OpKind.{OpKind}
use Rattle.orc_device.specs.declared.reply.Reply.{Reply}
use Rattle.orc_device.specs.declared.reply.Reply.TheVariants as reply
use Rattle.orc_recover.specs.Menders.{MenderState, goes_on, is_mending, mender_took, read_stage, resolved_one}
use Rattle.orc_recover.specs.declared.stage.MendStage.{MendStage}
use Rattle.orc_recover.specs.declared.stage.MendStage.TheVariants as mend_stage
use Rattle.orc_path.specs.Configurations.{Config}
use Rattle.orc_tree.specs.Sameness.{equal_configs}
use Rattle.orc_tree.specs.declared.change.ChangeSet.{ChangeSet}
use Rattle.orc_worker.specs.Workers.{is_due, is_waiting, new_worker, prepares, told_stage, work_stage_after, worker_told}
use Rattle.orc_worker.specs.declared.stage.Stage.{Stage}
use Rattle.orc_worker.specs.declared.stage.Stage.TheVariants as stage
use Rattle.orc_rules.specs.Admissions.{started, without}
use Rattle.orc_rules.specs.Duties.{duty_told, duty_took, is_busy}
use Rattle.orc_rules.specs.Hubs.{duty_on}
use Rattle.orc_rules.specs.Kept.{heard as then_heard}
use Rattle.orc_rules.specs.Transactions.{are_over, has_lost, is_told, retired, transaction_ended}
use Rattle.orc_rules.specs.Turns.{decisions_left, hearings_left, mending_left, operations_left, sum_of, total, turns_on, work_left}
use Rattle.orc_rules.specs.Worlds.{Link}
use Rattle.orc_rules.specs.declared.duty.Duty.{Duty}
use Rattle.orc_rules.specs.declared.duty.Duty.TheVariants as duty
use Rattle.orc_rules.specs.declared.transaction.Phase.{Phase}
use Rattle.orc_rules.specs.declared.transaction.Phase.TheVariants as phase
use Rattle.orc_rules.specs.declared.transaction.Transaction.{Transaction}
use Rattle.orc_rules.proofs.Entering.{without_suc}
use Rattle.orc_rules.proofs.Reporting.{set_other}
use Rattle.orc_rules.proofs.Slots.{set_length}

-- operations

-- a reply in preparing
prepares_less : (next : Stage) (r : Reply) (n : ℕ) → work_left next < n → 3 < n → work_left (prepares next r) < n
prepares_less next reply.Ok n goes ends = goes
prepares_less next (reply.Tree tree) n goes ends = omega (arith, ends)
prepares_less next (reply.Refused tag) n goes ends = omega (arith, ends)
prepares_less next reply.Fault n goes ends = ends
prepares_less next reply.Memory n goes ends = omega (arith, ends)

either_less : (b : Bool) (next : Stage) (n : ℕ) → work_left next < n → 0 < n → work_left (cond b next stage.Over) < n
either_less true next n goes ends = goes
either_less false next n goes ends = ends

pub work_less : (st : Stage) (r : Reply) → is_due st ≡ true → work_left (work_stage_after st r) < work_left st
work_less stage.Opening r h = prepares_less stage.LockingRunning r 10 (omega arith) (omega arith)
work_less stage.LockingRunning r h = prepares_less stage.LockingCandidate r 9 (omega arith) (omega arith)
work_less stage.LockingCandidate r h = prepares_less stage.Editing r 8 (omega arith) (omega arith)
work_less stage.Editing r h = prepares_less stage.Validating r 7 (omega arith) (omega arith)
work_less stage.Validating r h = prepares_less stage.Committing r 6 (omega arith) (omega arith)
work_less stage.Committing r h = prepares_less stage.Prepared r 5 (omega arith) (omega arith)
work_less stage.Refusing r h = omega arith
work_less stage.Prepared r h = absurd (false≢true h)
work_less stage.Lost r h = absurd (false≢true h)
work_less stage.Confirming r h = either_less (is_resolved r) stage.UnlockingCandidate 4 (omega arith) (omega arith)
work_less stage.Cancelling r h = either_less (is_resolved r) stage.UnlockingCandidate 4 (omega arith) (omega arith)
work_less stage.Reopening r h = either_less (is_ok r) stage.Recancelling 3 (omega arith) (omega arith)
work_less stage.Recancelling r h = either_less (is_resolved r) stage.Closing 2 (omega arith) (omega arith)
work_less stage.UnlockingCandidate r h = omega arith
work_less stage.UnlockingRunning r h = omega arith
work_less stage.Closing r h = omega arith
work_less stage.Over r h = absurd (false≢true h)

-- of a mender
steps_less : (b : Bool) (count : ℕ) (next : MendStage) (n : ℕ) → mending_left count next < n → 0 < n → mending_left count (goes_on b next) < n
steps_less true count next n goes ends = goes
steps_less false count next n goes ends = ends

module _ (same : Config → Config → Bool) where
  abbrev Took : List (ℕ × Bool) → Config → MendStage → Reply → MenderState
  Took left due st r = mender_took same (record { left = left; due = due; stage = st }) r

  abbrev Less : List (ℕ × Bool) → Config → MendStage → Reply → Type 0
  Less left due st r = mending_left (length (Took left due st r).left) (Took left due st r).stage < mending_left (length left) st

  read_less : (due : Config) (r : Reply) → mending_left 0 (read_stage same due r) < 9
  read_less due reply.Ok = omega arith
  read_less due (reply.Tree running) = on (same running due)
    where
      on : (b : Bool) → mending_left 0 (cond b mend_stage.Closing (mend_stage.LockingRunning running)) < 9
      on true = omega arith
      on false = omega arith
  read_less due (reply.Refused tag) = omega arith
  read_less due reply.Fault = omega arith
  read_less due reply.Memory = omega arith

  resolved_less : (one : ℕ × Bool) (left : List (ℕ × Bool)) (due : Config) (b : Bool)
      → let took = resolved_one (record { left = one ∷ left; due = due; stage = mend_stage.Resolving }) left b in mending_left (length took.left) took.stage < suc (length left) + 9
  resolved_less one left due true = omega arith
  resolved_less one left due false = omega arith

  pub mending_less : (left : List (ℕ × Bool)) (due : Config) (st : MendStage) (r : Reply) → is_mending st ≡ true → Less left due st r
  mending_less left due mend_stage.Opening r h = steps_less (is_ok r) (length left) mend_stage.Resolving (length left + 10) (omega arith) (omega arith)
  mending_less [] due mend_stage.Resolving r h = read_less due r
  mending_less (one ∷ left) due mend_stage.Resolving r h = resolved_less one left due (is_resolved r)
  mending_less left due (mend_stage.LockingRunning read) r h = steps_less (is_ok r) (length left) (mend_stage.LockingCandidate read) 8 (omega arith) (omega arith)
  mending_less left due (mend_stage.LockingCandidate read) r h = steps_less (is_ok r) (length left) (mend_stage.Editing read) 7 (omega arith) (omega arith)
  mending_less left due (mend_stage.Editing read) r h = steps_less (is_ok r) (length left) mend_stage.Validating 6 (omega arith) (omega arith)
  mending_less left due mend_stage.Validating r h = steps_less (is_ok r) (length left) mend_stage.Committing 5 (omega arith) (omega arith)
  mending_less left due mend_stage.Committing r h = steps_less (is_ok r) (length left) mend_stage.UnlockingCandidate 4 (omega arith) (omega arith)
  mending_less left due mend_stage.UnlockingCandidate r h = steps_less (is_ok r) (length left) mend_stage.UnlockingRunning 3 (omega arith) (omega arith)
  mending_less left due mend_stage.UnlockingRunning r h = steps_less (is_ok r) (length left) mend_stage.Closing 2 (omega arith) (omega arith)
  mending_less left due mend_stage.Closing r h = omega arith
  mending_less left due mend_stage.Over r h = absurd (false≢true h)

pub took_less : (on : Duty) (r : Reply) (f : ℕ) → is_busy on ≡ true → operations_left (duty_took on r f) < operations_left on
took_less duty.Free r f h = absurd (false≢true h)
took_less (duty.Works worker) r f h = work_less worker.stage r h
took_less (duty.Mends mender) r f h = mending_less equal_configs mender.left mender.due mender.stage r h

-- a decision brings no more
stage_told : (st : Stage) (commit : Bool) → work_left (told_stage st commit) ≤ work_left st
stage_told stage.Prepared true = omega arith
stage_told stage.Prepared false = omega arith
stage_told stage.Lost true = omega arith
stage_told stage.Lost false = omega arith
stage_told st commit = omega arith

pub told_left : (t : ℕ) (commit : Bool) (on : Duty) → operations_left (duty_told t commit on) ≤ operations_left on
told_left t commit duty.Free = omega arith
told_left t commit (duty.Mends mender) = omega arith
told_left t commit (duty.Works worker) = on (nat_eq worker.t t && is_waiting worker.stage)
  where
    on : (b : Bool) → operations_left (cond b (duty.Works (worker_told worker commit)) (duty.Works worker)) ≤ work_left worker.stage
    on true = stage_told worker.stage commit
    on false = omega arith

-- a new worker
pub new_left : (t : ℕ) (set : ChangeSet) (link : Link) → turns_on (duty.Works (new_worker t set)) link ≤ 20
new_left t set link = on link.unheard
  where
    on : (u : Option (OpKind × Reply)) → 2 * operations_left (then_heard u link.faults (duty.Works (new_worker t set))) + hearings_left u ≤ 20
    on None = omega arith
    on (Some one) = let less : work_left (work_stage_after stage.Opening one.1) < 10 = work_less stage.Opening one.1 refl in omega arith

-- sums over devices

pub total_most : (f g : ℕ → ℕ) → ((d : ℕ) → f d ≤ g d) → (n : ℕ) → total f n ≤ total g n
total_most f g each zero = omega arith
total_most f g each (suc n) = let one = each n in let rest = total_most f g each n in omega arith

pub total_less : (f g : ℕ → ℕ) → ((d : ℕ) → f d ≤ g d) → (n k : ℕ) → k < n → f k < g k → total f n < total g n
total_less f g each zero k below less = omega (arith, below)
total_less f g each (suc n) k below less = on (nat_eq k n) refl (λ below'. total_less f g each n k below' less)
  where
    rest : total f n ≤ total g n
    rest = total_most f g each n

    on : (b : Bool) → nat_eq k n ≡ b → (k < n → total f n < total g n) → f n + total f n < g n + total g n
    on true e later =
        let same : k ≡ n = eqb-true k n e in
        let less' : f n < g n = subst (λ (x : ℕ). f x < g x) same less in omega (arith, rest, less')
    on false e later =
        let apart : k ≡ n → ⊥ = λ same. false≢true (sym e ∙ eq-eqb k n same) in
        let rest_less = later (omega (arith, below, apart)) in
        let one = each n in omega arith

-- one of them may be more
pub total_point : (f g : ℕ → ℕ) (k c : ℕ) → ((d : ℕ) → nat_eq k d ≡ false → f d ≤ g d) → f k ≤ c → (n : ℕ) → total f n ≤ total g n + c
total_point f g k c each point zero = omega arith
total_point f g k c each point (suc n) = on (nat_eq k n) refl (total_point f g k c each point n)
  where
    on : (b : Bool) → nat_eq k n ≡ b → total f n ≤ total g n + c → f n + total f n ≤ (g n + total g n) + c
    on true e rest =
        let same : k ≡ n = eqb-true k n e in
        let point' : f n ≤ c = subst (λ (x : ℕ). f x ≤ c) same point in
        let others : total f n ≤ total g n = total_below n (omega (arith, same)) in
        omega arith
      where
        total_below : (m : ℕ) → m ≤ k → total f m ≤ total g m
        total_below zero h = omega arith
        total_below (suc m) h =
            let apart : nat_eq k m ≡ false = differs (nat_eq k m) refl in
            let one = each m apart in
            let rest' = total_below m (omega (arith, h)) in omega arith
          where
            differs : (b : Bool) → nat_eq k m ≡ b → nat_eq k m ≡ false
            differs true e' = absurd (let same' : k ≡ m = eqb-true k m e' in omega arith)
            differs false e' = e'
    on false e rest = let one = each n e in omega arith

-- sums over lists

pub sum_most : {X : Type 0} (f g : X → ℕ) → ((x : X) → f x ≤ g x) → (xs : List X) → sum_of f xs ≤ sum_of g xs
sum_most f g each [] = omega arith
sum_most f g each (x ∷ xs) = let one = each x in let rest = sum_most f g each xs in omega arith

pub sum_map : {X : Type 0} (f : X → ℕ) (h : X → X) (xs : List X) → sum_of f (map h xs) ≡ sum_of (λ x. f (h x)) xs
sum_map f h [] = refl
sum_map f h (x ∷ xs) = ap (λ (n : ℕ). f (h x) + n) (sum_map f h xs)

pub sum_push : {X : Type 0} (f : X → ℕ) (xs : List X) (x : X) → sum_of f (xs ++ x ∷ []) ≡ sum_of f xs + f x
sum_push f [] x = omega arith
sum_push f (y ∷ xs) x = let rest = sum_push f xs x in omega (arith, rest)

pub sum_without : {X : Type 0} (f : X → ℕ) (place : ℕ) (xs : List X) (x : X) → slice_get xs place ≡ Some x → sum_of f (without place xs) + f x ≡ sum_of f xs
sum_without f place [] x there = absurd cc
sum_without f zero (y ∷ xs) x there = let same : f y ≡ f x = ap f (same_Some y x there) in omega arith
sum_without f (suc place) (y ∷ xs) x there =
    let rest = sum_without f place xs x there in
    let whole : sum_of f (without (suc place) (y ∷ xs)) ≡ f y + sum_of f (without place xs) = ap (sum_of f) (without_suc place y xs) in
    omega arith

-- transactions

pub retired_decisions : (duties : List Duty) (it : Transaction) → decisions_left (retired duties it).phase ≤ decisions_left it.phase
retired_decisions duties it = on (is_told it.phase && are_over duties it.t it.plan.held.devices) refl
  where
    told_one : (p : Phase) → is_told p ≡ true → decisions_left p ≡ 1
    told_one phase.Preparing h = absurd (false≢true h)
    told_one phase.Decided h = refl
    told_one phase.Aborted h = refl
    told_one phase.Settling h = absurd (false≢true h)
    told_one phase.Left h = absurd (false≢true h)

    told_so : (a b : Bool) → (a && b) ≡ true → a ≡ true
    told_so true b h = refl
    told_so false b h = h

    over : (b : Bool) → decisions_left (cond b phase.Left phase.Settling) ≤ 1
    over true = omega arith
    over false = omega arith

    on : (b : Bool) → (is_told it.phase && are_over duties it.t it.plan.held.devices) ≡ b → decisions_left (cond b (transaction_ended duties it) it).phase ≤ decisions_left it.phase
    on true e =
        let one : decisions_left it.phase ≡ 1 = told_one it.phase (told_so (is_told it.phase) (are_over duties it.t it.plan.held.devices) e) in
        subst (λ (n : ℕ). decisions_left (transaction_ended duties it).phase ≤ n) (sym one) (over (has_lost duties it.t it.plan.held.devices))
    on false e = omega arith

-- workers that start
set_there : {X : Type 0} (xs : List X) (i : ℕ) (x : X) → (slice_get (slice_set xs i x) i ≡ Some x) ⊎ (slice_get (slice_set xs i x) i ≡ None)
set_there [] i x = inr refl
set_there (y ∷ xs) zero x = inl refl
set_there (y ∷ xs) (suc i) x = set_there xs i x

free_left : (link : Link) → turns_on duty.Free link ≤ 20
free_left link = on link.unheard
  where
    on : (u : Option (OpKind × Reply)) → 2 * operations_left (then_heard u link.faults duty.Free) + hearings_left u ≤ 20
    on None = omega arith
    on (Some one) = omega arith

pub started_length : (t : ℕ) (sets : List (ℕ × ChangeSet)) (duties : List Duty) → length (started t sets duties) ≡ length duties
started_length t [] duties = refl
started_length t (one ∷ sets) duties =
    started_length t sets (slice_set duties one.0 (duty.Works (new_worker t one.1))) ∙ set_length duties one.0 (duty.Works (new_worker t one.1))

pub started_left : (t : ℕ) (sets : List (ℕ × ChangeSet)) (duties : List Duty) (links : ℕ → Link) (n : ℕ)
    → total (λ d. turns_on (duty_on (started t sets duties) d) (links d)) n ≤ total (λ d. turns_on (duty_on duties d) (links d)) n + 20 * length sets
started_left t [] duties links n = omega arith
started_left t (one ∷ sets) duties links n =
    let set : List Duty = slice_set duties one.0 (duty.Works (new_worker t one.1)) in
    let rest = started_left t sets set links n in
    let first = total_point (λ d. turns_on (duty_on set d) (links d)) (λ d. turns_on (duty_on duties d) (links d)) one.0 20
    (λ d apart. same_there d apart) (point (slice_get set one.0) (set_there duties one.0 (duty.Works (new_worker t one.1)))) n in
    omega arith
  where
    same_there : (d : ℕ) → nat_eq one.0 d ≡ false → turns_on (duty_on (slice_set duties one.0 (duty.Works (new_worker t one.1))) d) (links d) ≤ turns_on (duty_on duties d) (links d)
    same_there d apart =
        let same : duty_on (slice_set duties one.0 (duty.Works (new_worker t one.1))) d ≡ duty_on duties d =
        ap (λ (o : Option Duty). option_map_or (λ x. x) o duty.Free) (set_other one.0 d duties (duty.Works (new_worker t one.1)) (λ e. false≢true (sym apart ∙ eq-eqb one.0 d e))) in
        subst (λ (x : Duty). turns_on x (links d) ≤ turns_on (duty_on duties d) (links d)) (sym same) (omega arith)

    point : (o : Option Duty) → (o ≡ Some (duty.Works (new_worker t one.1))) ⊎ (o ≡ None) → turns_on (option_map_or (λ x. x) o duty.Free) (links one.0) ≤ 20
    point o (inl there) =
        subst (λ (x : Option Duty). turns_on (option_map_or (λ y. y) x duty.Free) (links one.0) ≤ 20) (sym there) (new_left t one.1 (links one.0))
    point o (inr none) = subst (λ (x : Option Duty). turns_on (option_map_or (λ y. y) x duty.Free) (links one.0) ≤ 20) (sym none) (free_left (links one.0))
