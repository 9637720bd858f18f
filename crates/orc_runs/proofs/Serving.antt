-- What a hub that is up keeps of those who asked: each open call waits or is under way, each transaction that isn't over has
-- its workers, and one that is over holds nothing.
use Rattle.std.proofs.Common.{[], ◌≡◌, ◌⊎◌, inl, inr, ⊎_elim, ℕ, ◌+◌, ◌<◌, ◌≤◌, Bool, true, false, cond, not, ◌&&◌, ◌||◌, nat_eq, nat_lt, Option, Some, None, List, ◌∷◌, ◌++◌, map, length, get_or, refl, sym, ap, subst, ◌∙◌, arith, ltb-true, eq-eqb, eqb-true, ltb-false, zero, suc, filter}
use Rattle.std.specs.Prelude.{position, slice_get, slice_set}
use Rattle.std.specs.List.{list_any}
use Rattle.std.specs.Cmp.Lexicographic.{bytes_decides}
use Rattle.std.proofs.lemmas.Bool.{false≢true}
use Rattle.std.specs.Option.{option_map, option_map_or}
use Rattle.std.proofs.lemmas.Option.{same_Some, slice_get-get_or, slice_get-map}
use Rattle.std.proofs.lemmas.List.Quantifiers.{position-Some}
use Rattle.std.proofs.lemmas.List.Sums.{fails_before_first}
use Rattle.orc_call.specs.declared.answer.Answer.{Answer}
use Rattle.orc_call.specs.declared.call.Call.{Call}
use Rattle.orc_decls.specs.Devices.{is_same_text}
use Rattle.orc_device.specs.declared.reply.Reply.{Reply}
use Rattle.orc_tree.specs.declared.change.ChangeSet.{ChangeSet}
use Rattle.orc_worker.specs.Workers.{has_outcome, is_waiting, told_stage, work_stage_after, worker_told, worker_took}
use Rattle.orc_worker.specs.declared.report.Outcome.{Outcome}
use Rattle.orc_worker.specs.declared.stage.Stage.{Stage}
use Rattle.orc_worker.specs.declared.stage.Stage.TheVariants as stage
use Rattle.orc_worker.specs.declared.worker.Worker.{Worker}
use Rattle.orc_device.specs.Operations.{is_ok, is_resolved}
use Rattle.orc_rules.specs.Admissions.{transaction_begun, started, without}
use Rattle.orc_rules.specs.Asked.{answered_at, answered_one, is_of, is_open_at, last_at, new_slot, slot_of, slot_set, with_answer, with_open}
use Rattle.orc_rules.specs.Courses.{agrees}
use Rattle.orc_rules.specs.Duties.{duty_told, duty_took, is_over_for, is_over_on}
use Rattle.orc_rules.specs.Hubs.{with_changed, duty_on}
use Rattle.orc_rules.specs.Transactions.{are_over, has_lost, in_phase, is_other, is_preparing, is_settling, is_told, nothing_held, retired, transaction_ended}
use Rattle.orc_rules.specs.UnderHub.{is_under_way}
use Rattle.orc_rules.specs.declared.asked.Asked.{Asked}
use Rattle.orc_rules.specs.declared.duty.Duty.{Duty}
use Rattle.orc_rules.specs.declared.duty.Duty.TheVariants as duty
use Rattle.orc_rules.specs.declared.transaction.Phase.{Phase}
use Rattle.orc_rules.specs.declared.transaction.Phase.TheVariants as phase
use Rattle.orc_rules.specs.declared.transaction.Transaction.{Transaction}
use Rattle.orc_rules.specs.declared.transaction.Waiting.{Waiting}
use Rattle.orc_rules.proofs.Leaving.{finds_place, place_in, stayed}
use Rattle.orc_rules.proofs.Entering.{without_suc}
use Rattle.orc_rules.proofs.Legally.{push_cases}
use Rattle.orc_runs.specs.Serving.{EachEndedIsEmpty, EachGoes, EachOpenAsks, EachWorks, HasWorker, IsAsking, ServesEach, is_going}
use Rattle.orc_rules.proofs.Reporting.{get_changed, get_other, set_other}
use Rattle.orc_rules.proofs.Retiring.{of_map}
use Rattle.orc_rules.proofs.Slots.{both_true, over_on, told_at, took_here, took_there}

-- who asks

-- two places are one, or not
same_place : (a b : ℕ) → (a ≡ b) ⊎ (a ≡ b → ⊥)
same_place a b = on (nat_eq a b) refl
  where
    on : (c : Bool) → nat_eq a b ≡ c → (a ≡ b) ⊎ (a ≡ b → ⊥)
    on true is = inl (eqb-true a b is)
    on false is = inr (λ e. false≢true (sym is ∙ eq-eqb a b e))

-- an element that is in a list of one more
push_old : {X : Type 0} (xs : List X) (y : X) (i : ℕ) (x : X) → slice_get xs i ≡ Some x → slice_get (xs ++ y ∷ []) i ≡ Some x
push_old [] y i x is = absurd cc
push_old (z ∷ xs) y zero x is = is
push_old (z ∷ xs) y (suc i) x is = push_old xs y i x is

push_last : {X : Type 0} (xs : List X) (y : X) → slice_get (xs ++ y ∷ []) (length xs) ≡ Some y
push_last [] y = refl
push_last (z ∷ xs) y = push_last xs y

-- an element at another place than the one taken out
kept_without : {X : Type 0} (place : ℕ) (xs : List X) (i : ℕ) (x : X) → (i ≡ place → ⊥) → slice_get xs i ≡ Some x → (j : ℕ) × (slice_get (without place xs) j ≡ Some x)
kept_without place [] i x apart is = absurd cc
kept_without zero (y ∷ xs) zero x apart is = absurd (apart refl)
kept_without zero (y ∷ xs) (suc i) x apart is = (i, is)
kept_without (suc place) (y ∷ xs) zero x apart is = (zero, ap (λ l. slice_get l zero) (without_suc place y xs) ∙ is)
kept_without (suc place) (y ∷ xs) (suc i) x apart is =
    let later = kept_without place xs i x (λ e. apart (ap suc e)) is in (suc later.0, ap (λ l. slice_get l (suc later.0)) (without_suc place y xs) ∙ later.1)

-- what a slot that is set holds
set_here : {X : Type 0} (xs : List X) (i : ℕ) (y x : X) → slice_get (slice_set xs i y) i ≡ Some x → y ≡ x
set_here [] i y x is = absurd cc
set_here (z ∷ xs) zero y x is = same_Some y x is
set_here (z ∷ xs) (suc i) y x is = set_here xs i y x is

-- the first place where a test holds, where an element of which it holds is put there, or after all
module _ {X : Type 0} (p : X → Bool) where
  first_set : (xs : List X) (q a : ℕ) (y : X) → p y ≡ true → position p xs ≡ Some q → position p (slice_set xs q y) ≡ Some a → q ≡ a
  first_set xs q a y holds was now = ⊎_elim (λ same. same) (λ apart. absurd (⊎_elim (λ less. below less) (λ more. above more) (ordered q a apart))) (same_place q a)
    where
      ordered : (m n : ℕ) → (m ≡ n → ⊥) → (n < m) ⊎ (m < n)
      ordered m n apart = on (nat_lt n m) refl
        where
          on : (b : Bool) → nat_lt n m ≡ b → (n < m) ⊎ (m < n)
          on true is = inl (ltb-true n m is)
          on false is = inr (let le : m ≤ n = ltb-false n m is in omega (arith, le, apart))

      before : (q < length xs) × (p (get_or xs q y) ≡ true) × ((k : ℕ) → k < q → p (get_or xs k y) ≡ false)
      before = position-Some p xs q y was

      behind : (a < length (slice_set xs q y)) × (p (get_or (slice_set xs q y) a y) ≡ true) × ((k : ℕ) → k < a → p (get_or (slice_set xs q y) k y) ≡ false)
      behind = position-Some p (slice_set xs q y) a y now

      at : slice_get (slice_set xs q y) q ≡ Some y
      at = there xs q before.0
        where
          there : (zs : List X) (i : ℕ) → i < length zs → slice_get (slice_set zs i y) i ≡ Some y
          there [] i lt = absurd (omega arith)
          there (z ∷ zs) zero lt = refl
          there (z ∷ zs) (suc i) lt = there zs i (omega arith)

      -- at an earlier place nothing was changed
      below : a < q → ⊥
      below less =
          let inside : a < length xs = omega (arith, less, before.0) in
          let same : get_or xs a y ≡ get_or (slice_set xs q y) a y = same_Some (get_or xs a y) (get_or (slice_set xs q y) a y)
          (sym (slice_get-get_or xs a y inside) ∙ sym (set_other q a xs y (λ e. omega (arith, e, less))) ∙ slice_get-get_or (slice_set xs q y) a y behind.0) in
          false≢true (sym (before.2 a less) ∙ ap p same ∙ behind.1)

      above : q < a → ⊥
      above more =
          let inside : q < length (slice_set xs q y) = omega (arith, more, behind.0) in
          let same : get_or (slice_set xs q y) q y ≡ y = same_Some (get_or (slice_set xs q y) q y) y (sym (slice_get-get_or (slice_set xs q y) q y inside) ∙ at) in
          false≢true (sym (behind.2 q more) ∙ ap p same ∙ holds)

  first_push : (xs : List X) (a : ℕ) (y : X) → position p xs ≡ None → position p (xs ++ y ∷ []) ≡ Some a → length xs ≡ a
  first_push xs a y was now = ⊎_elim (λ same. same) (λ apart. absurd (early (inside apart))) (same_place (length xs) a)
    where
      behind : (a < length (xs ++ y ∷ [])) × (p (get_or (xs ++ y ∷ []) a y) ≡ true) × ((k : ℕ) → k < a → p (get_or (xs ++ y ∷ []) k y) ≡ false)
      behind = position-Some p (xs ++ y ∷ []) a y now

      long : (zs : List X) → length (zs ++ y ∷ []) ≡ length zs + 1
      long [] = refl
      long (z ∷ zs) = let rest = long zs in omega (arith, rest)

      inside : (length xs ≡ a → ⊥) → a < length xs
      inside apart = let all = long xs in let lt = behind.0 in omega (arith, all, lt, apart)

      -- none passed
      none : (n m : ℕ) → cond (nat_lt n m) (Some n) None ≡ None → m ≤ n
      none n m is = on (nat_lt n m) refl is
        where
          on : (b : Bool) → nat_lt n m ≡ b → cond b (Some n) None ≡ None → m ≤ n
          on true e h = absurd cc
          on false e h = ltb-false n m e

      early : a < length xs → ⊥
      early less =
          let same : get_or (xs ++ y ∷ []) a y ≡ get_or xs a y = same_Some (get_or (xs ++ y ∷ []) a y) (get_or xs a y)
          (sym (slice_get-get_or (xs ++ y ∷ []) a y behind.0) ∙ push_old xs y a (get_or xs a y) (slice_get-get_or xs a y less)) in
          let past = none _ (length xs) was in
          false≢true (sym (fails_before_first p xs a y (omega (arith, less, past))) ∙ ap p (sym same) ∙ behind.1)

-- Nobody more asks where a call is answered at once: a new slot is closed, and one that is there is open only where it was.
pub answer_asks : (asked : List Asked) (waiting : List Waiting) (active : List Transaction) (call : Call) (said : Answer) → EachOpenAsks asked waiting active
    → EachOpenAsks (with_answer call said asked) waiting active
answer_asks asked waiting active call said own = on (slot_of asked call)
  where
    was_open : (place : ℕ) → is_open_at asked (Some place) ≡ true → IsAsking waiting active place
    was_open place open_now = by (slice_get asked place) refl open_now
      where
        by : (o : Option Asked) → slice_get asked place ≡ o → option_map_or (λ (one : Asked). one.is_open) o false ≡ true → IsAsking waiting active place
        by None e h = absurd (false≢true h)
        by (Some one) e h = own place one e h

    on : (place : Option ℕ) → EachOpenAsks (slot_set asked call place (Some said) (is_open_at asked place)) waiting active
    on None q one at is_open = ⊎_elim
        (λ old. own q one old is_open)
        (λ new. absurd (false≢true (ap (λ (a : Asked). a.is_open) new.1 ∙ is_open)))
        (push_cases asked (new_slot call (Some said) false) q one at)
    on (Some place) q one at is_open = ⊎_elim
        (λ same. subst (λ (i : ℕ). IsAsking waiting active i) same
        (was_open place (ap (λ (a : Asked). a.is_open) (set_here asked place (new_slot call (Some said) (is_open_at asked (Some place))) one (ap (slice_get (slice_set asked place (new_slot call (Some said) (is_open_at asked (Some place))))) same ∙ at)) ∙ is_open)))
        (λ apart. own q one (sym (set_other place q asked (new_slot call (Some said) (is_open_at asked (Some place))) apart) ∙ at) is_open)
        (same_place place q)

-- a call that comes to wait asks at its place
more_asks : (waiting : List Waiting) (active : List Transaction) (it : Waiting) (q : ℕ) → IsAsking waiting active q → IsAsking (waiting ++ it ∷ []) active q
more_asks waiting active it q (IsAsking.asks_waiting i one at is) = IsAsking.asks_waiting i one (push_old waiting it i one at) is
more_asks waiting active it q (IsAsking.asks_preparing i x at h is) = IsAsking.asks_preparing i x at h is

own_slot : (call : Call) (last : Option Answer) (now : Bool) → is_of call.caller call.number (new_slot call last now) ≡ true
own_slot call last now = both (is_same_text call.caller call.caller) (nat_eq call.number call.number) ((bytes_decides call.caller call.caller).1 refl) (eq-eqb call.number call.number refl)
  where
    both : (a b : Bool) → a ≡ true → b ≡ true → (a && b) ≡ true
    both true b h g = g
    both false b h g = absurd (false≢true h)

pub open_asks : (asked : List Asked) (waiting : List Waiting) (active : List Transaction) (it : Waiting) → slot_of (with_open it.call asked) it.call ≡ Some it.asker
    → EachOpenAsks asked waiting active → EachOpenAsks (with_open it.call asked) (waiting ++ it ∷ []) active
open_asks asked waiting active it slot own = on (slot_of asked it.call) refl slot
  where
    mine : (q : ℕ) → it.asker ≡ q → IsAsking (waiting ++ it ∷ []) active q
    mine q is = IsAsking.asks_waiting (length waiting) it (push_last waiting it) is

    on : (place : Option ℕ) → slot_of asked it.call ≡ place → slot_of (slot_set asked it.call place (last_at asked place) true) it.call ≡ Some it.asker
        → EachOpenAsks (slot_set asked it.call place (last_at asked place) true) (waiting ++ it ∷ []) active
    on None was now q one at is_open = ⊎_elim
        (λ old. more_asks waiting active it q (own q one old is_open))
        (λ new. mine q (sym (first_push (is_of it.call.caller it.call.number) asked it.asker (new_slot it.call None true) was now) ∙ sym new.0))
        (push_cases asked (new_slot it.call None true) q one at)
    on (Some place) was now q one at is_open = ⊎_elim
        (λ same. mine q (sym (first_set (is_of it.call.caller it.call.number) asked place it.asker (new_slot it.call (last_at asked (Some place)) true) (own_slot it.call (last_at asked (Some place)) true) was now) ∙ same))
        (λ apart. more_asks waiting active it q (own q one (sym (set_other place q asked (new_slot it.call (last_at asked (Some place)) true) apart) ∙ at) is_open))
        (same_place place q)

-- who is answered asks no more
pub answered_asks : (asked : List Asked) (waiting waiting' : List Waiting) (active active' : List Transaction) (place : ℕ) (said : Answer) → EachOpenAsks asked waiting active
    → ((q : ℕ) → (place ≡ q → ⊥) → IsAsking waiting active q → IsAsking waiting' active' q) → EachOpenAsks (answered_at place said asked) waiting' active'
answered_asks asked waiting waiting' active active' place said own still q one at is_open = ⊎_elim
    (λ same. absurd (closed (slice_get asked place)
    (sym (get_changed (answered_one said) place asked) ∙ subst (λ (i : ℕ). slice_get (answered_at place said asked) i ≡ Some one) (sym same) at)))
    (λ apart. still q apart (own q one (sym (get_other (answered_one said) place q asked apart) ∙ at) is_open))
    (same_place place q)
  where
    closed : (o : Option Asked) → option_map (answered_one said) o ≡ Some one → ⊥
    closed None h = cc
    closed (Some a) h = false≢true (ap (λ (x : Asked). x.is_open) (same_Some (answered_one said a) one h) ∙ is_open)

-- workers

either_goes : (b : Bool) (x y : Stage) → is_going x ≡ true → is_going y ≡ true → is_going (cond b x y) ≡ true
either_goes true x y h g = h
either_goes false x y h g = g

took_going : (st : Stage) (r : Reply) → is_going st ≡ true → is_going (work_stage_after st r) ≡ true
took_going stage.Opening r h = absurd (false≢true h)
took_going stage.LockingRunning r h = absurd (false≢true h)
took_going stage.LockingCandidate r h = absurd (false≢true h)
took_going stage.Editing r h = absurd (false≢true h)
took_going stage.Validating r h = absurd (false≢true h)
took_going stage.Committing r h = absurd (false≢true h)
took_going stage.Refusing r h = refl
took_going stage.Prepared r h = absurd (false≢true h)
took_going stage.Lost r h = absurd (false≢true h)
took_going stage.Confirming r h = either_goes (is_resolved r) stage.UnlockingCandidate stage.Over refl refl
took_going stage.Cancelling r h = either_goes (is_resolved r) stage.UnlockingCandidate stage.Over refl refl
took_going stage.Reopening r h = either_goes (is_ok r) stage.Recancelling stage.Over refl refl
took_going stage.Recancelling r h = either_goes (is_resolved r) stage.Closing stage.Over refl refl
took_going stage.UnlockingCandidate r h = refl
took_going stage.UnlockingRunning r h = refl
took_going stage.Closing r h = refl
took_going stage.Over r h = refl

told_going : (st : Stage) (commit : Bool) → is_waiting st ≡ true → is_going (told_stage st commit) ≡ true
told_going stage.Prepared true h = refl
told_going stage.Prepared false h = refl
told_going stage.Lost true h = refl
told_going stage.Lost false h = refl
told_going stage.Opening commit h = absurd (false≢true h)
told_going stage.LockingRunning commit h = absurd (false≢true h)
told_going stage.LockingCandidate commit h = absurd (false≢true h)
told_going stage.Editing commit h = absurd (false≢true h)
told_going stage.Validating commit h = absurd (false≢true h)
told_going stage.Committing commit h = absurd (false≢true h)
told_going stage.Refusing commit h = absurd (false≢true h)
told_going stage.Confirming commit h = absurd (false≢true h)
told_going stage.Cancelling commit h = absurd (false≢true h)
told_going stage.Reopening commit h = absurd (false≢true h)
told_going stage.Recancelling commit h = absurd (false≢true h)
told_going stage.UnlockingCandidate commit h = absurd (false≢true h)
told_going stage.UnlockingRunning commit h = absurd (false≢true h)
told_going stage.Closing commit h = absurd (false≢true h)
told_going stage.Over commit h = absurd (false≢true h)

-- one that has an outcome is past preparing
pub has_some : (st : Stage) (o : Outcome) → agrees st (Some o) ≡ true → has_outcome st ≡ true
has_some stage.Opening o h = absurd (false≢true h)
has_some stage.LockingRunning o h = absurd (false≢true h)
has_some stage.LockingCandidate o h = absurd (false≢true h)
has_some stage.Editing o h = absurd (false≢true h)
has_some stage.Validating o h = absurd (false≢true h)
has_some stage.Committing o h = absurd (false≢true h)
has_some st o h = refl

-- phases
under_told : (p : Phase) → is_told p ≡ true → is_under_way p ≡ true
under_told phase.Preparing h = refl
under_told phase.Decided h = refl
under_told phase.Aborted h = refl
under_told phase.Settling h = absurd (false≢true h)
under_told phase.Left h = absurd (false≢true h)

pub under_preparing : (p : Phase) → is_preparing p ≡ true → is_under_way p ≡ true
under_preparing phase.Preparing h = refl
under_preparing phase.Decided h = refl
under_preparing phase.Aborted h = refl
under_preparing phase.Settling h = absurd (false≢true h)
under_preparing phase.Left h = absurd (false≢true h)

preparing_not_told : (p : Phase) → is_preparing p ≡ true → is_told p ≡ false
preparing_not_told phase.Preparing h = refl
preparing_not_told phase.Decided h = absurd (false≢true h)
preparing_not_told phase.Aborted h = absurd (false≢true h)
preparing_not_told phase.Settling h = absurd (false≢true h)
preparing_not_told phase.Left h = absurd (false≢true h)

settling_not_under : (p : Phase) → is_settling p ≡ true → is_under_way p ≡ false
settling_not_under phase.Preparing h = absurd (false≢true h)
settling_not_under phase.Decided h = absurd (false≢true h)
settling_not_under phase.Aborted h = absurd (false≢true h)
settling_not_under phase.Settling h = refl
settling_not_under phase.Left h = refl

-- what retires

-- a transaction is as it was, and isn't over; or it has ended, and holds nothing
retires : (duties : List Duty) (it : Transaction)
    → ((retired duties it ≡ it) × ((is_told it.phase && are_over duties it.t it.plan.held.devices) ≡ false))
    ⊎ ((is_under_way (retired duties it).phase ≡ false) × (is_told (retired duties it).phase ≡ false) × (is_preparing (retired duties it).phase ≡ false) × ((retired duties it).plan.held ≡ nothing_held))
retires duties it = on (is_told it.phase && are_over duties it.t it.plan.held.devices) refl
  where
    not_under : (b : Bool) → is_under_way (cond b phase.Left phase.Settling) ≡ false
    not_under true = refl
    not_under false = refl

    not_told : (b : Bool) → is_told (cond b phase.Left phase.Settling) ≡ false
    not_told true = refl
    not_told false = refl

    not_preparing : (b : Bool) → is_preparing (cond b phase.Left phase.Settling) ≡ false
    not_preparing true = refl
    not_preparing false = refl

    on : (b : Bool) → (is_told it.phase && are_over duties it.t it.plan.held.devices) ≡ b
        → ((retired duties it ≡ it) × ((is_told it.phase && are_over duties it.t it.plan.held.devices) ≡ false))
        ⊎ ((is_under_way (retired duties it).phase ≡ false) × (is_told (retired duties it).phase ≡ false) × (is_preparing (retired duties it).phase ≡ false) × ((retired duties it).plan.held ≡ nothing_held))
    on true is =
        let lost = has_lost duties it.t it.plan.held.devices in
        inr (
          ap (λ (b : Bool). is_under_way (cond b (transaction_ended duties it) it).phase) is ∙ not_under lost,
          ap (λ (b : Bool). is_told (cond b (transaction_ended duties it) it).phase) is ∙ not_told lost,
          ap (λ (b : Bool). is_preparing (cond b (transaction_ended duties it) it).phase) is ∙ not_preparing lost,
          ap (λ (b : Bool). (cond b (transaction_ended duties it) it).plan.held) is,
        )
    on false is = inl (ap (λ (b : Bool). cond b (transaction_ended duties it) it) is, is)

not_over : (told over : Bool) → (told && over) ≡ false → told ≡ true → over ≡ false
not_over true over h e = h
not_over false over h e = absurd (false≢true e)

-- where the ended ones retire, these are the active ones before
module _ (duties : List Duty) (active : List Transaction) where
  retired_works : EachWorks duties active → EachWorks duties (map (retired duties) active)
  retired_works works i it at under device named =
      let old = of_map (retired duties) active i it at in
      ⊎_elim
      (λ same.
      let whole : it ≡ old.0 = old.2 ∙ same.0 in
      subst (λ (x : Transaction). HasWorker duties x device) (sym whole)
      (works i old.0 old.1 (ap (λ (x : Transaction). is_under_way x.phase) (sym whole) ∙ under) device
      (ap (λ (x : Transaction). list_any (nat_eq device) x.plan.held.devices) (sym whole) ∙ named)))
      (λ gone. absurd (false≢true (sym gone.0 ∙ ap (λ (x : Transaction). is_under_way x.phase) (sym old.2) ∙ under)))
      (retires duties old.0)

  retired_goes : EachGoes duties (map (retired duties) active)
  retired_goes i it at told =
      let old = of_map (retired duties) active i it at in
      ⊎_elim
      (λ same.
      let whole : it ≡ old.0 = old.2 ∙ same.0 in
      ap (λ (x : Transaction). are_over duties x.t x.plan.held.devices) whole
      ∙ not_over (is_told old.0.phase) (are_over duties old.0.t old.0.plan.held.devices) same.1 (ap (λ (x : Transaction). is_told x.phase) (sym whole) ∙ told))
      (λ gone. absurd (false≢true (sym gone.1 ∙ ap (λ (x : Transaction). is_told x.phase) (sym old.2) ∙ told)))
      (retires duties old.0)

  retired_empty : EachEndedIsEmpty active → EachEndedIsEmpty (map (retired duties) active)
  retired_empty empty i it at under =
      let old = of_map (retired duties) active i it at in
      ⊎_elim
      (λ same.
      let whole : it ≡ old.0 = old.2 ∙ same.0 in
      ap (λ (x : Transaction). x.plan.held) whole ∙ empty i old.0 old.1 (ap (λ (x : Transaction). is_under_way x.phase) (sym whole) ∙ under))
      (λ gone. ap (λ (x : Transaction). x.plan.held) old.2 ∙ gone.3)
      (retires duties old.0)

  -- who prepares does so still
  retired_asks : (waiting : List Waiting) (q : ℕ) → IsAsking waiting active q → IsAsking waiting (map (retired duties) active) q
  retired_asks waiting q (IsAsking.asks_waiting i one at is) = IsAsking.asks_waiting i one at is
  retired_asks waiting q (IsAsking.asks_preparing i it at h is) =
      let same : retired duties it ≡ it = ap (λ (b : Bool). cond (b && are_over duties it.t it.plan.held.devices) (transaction_ended duties it) it) (preparing_not_told it.phase h) in
      IsAsking.asks_preparing i it (slice_get-map (retired duties) active i ∙ ap (option_map (retired duties)) at ∙ ap (λ x. Some x) same) h is

-- a report

took_works : (duties : List Duty) (active : List Transaction) (device : ℕ) (reply : Reply) (faults : ℕ) → EachWorks duties active
    → EachWorks (with_changed (λ d. duty_took d reply faults) device duties) active
took_works duties active device reply faults works i it at under x named = on (nat_eq device x) refl (works i it at under x named)
  where
    on : (b : Bool) → nat_eq device x ≡ b → HasWorker duties it x → HasWorker (with_changed (λ d. duty_took d reply faults) device duties) it x
    on true is own =
        let same : device ≡ x = eqb-true device x is in
        record {
          worker = worker_took own.worker reply faults;
          there = subst (λ (y : ℕ). duty_on (with_changed (λ d. duty_took d reply faults) device duties) y ≡ duty_took (duty_on duties y) reply faults) same (took_here reply faults device duties)
              ∙ ap (λ (d : Duty). duty_took d reply faults) own.there;
          number = own.number;
          goes = λ told. took_going own.worker.stage reply (own.goes told);
        }
    on false is own = record {
      worker = own.worker;
      there = took_there reply faults device x duties is ∙ own.there;
      number = own.number;
      goes = own.goes;
    }

pub report_serves : (waiting : List Waiting) (active : List Transaction) (duties : List Duty) (asked : List Asked) (device : ℕ) (reply : Reply) (faults : ℕ) → ServesEach waiting active duties asked
    → let duties' = with_changed (λ d. duty_took d reply faults) device duties in ServesEach waiting (map (retired duties') active) duties' asked
report_serves waiting active duties asked device reply faults own = record {
  asks = λ q one at is_open. retired_asks (with_changed (λ d. duty_took d reply faults) device duties) active waiting q (own.asks q one at is_open);
  works = retired_works (with_changed (λ d. duty_took d reply faults) device duties) active (took_works duties active device reply faults own.works);
  goes = retired_goes (with_changed (λ d. duty_took d reply faults) device duties) active;
  empty = retired_empty (with_changed (λ d. duty_took d reply faults) device duties) active own.empty;
}

-- a decision

module _ (waiting : List Waiting) (active : List Transaction) (duties : List Duty) (asked : List Asked) (own : ServesEach waiting active duties asked)
    (place : ℕ) (it : Transaction) (at_it : slice_get active place ≡ Some it) (preparing : is_preparing it.phase ≡ true) (to : Phase) (is_to : is_told to ≡ true) (commit : Bool) (said : Answer)
    (numbers : (i j : ℕ) (x y : Transaction) → slice_get active i ≡ Some x → slice_get active j ≡ Some y → x.t ≡ y.t → i ≡ j)
    (heard : (device : ℕ) → list_any (nat_eq device) it.plan.held.devices ≡ true → (worker : Worker) → duty_on duties device ≡ duty.Works worker → has_outcome worker.stage ≡ true) where
  abbrev phased : List Transaction
  phased = map (in_phase it.t to) active

  abbrev duties' : List Duty
  duties' = map (duty_told it.t commit) duties

  -- who has its number is it
  one_of : (i : ℕ) (x : Transaction) → slice_get active i ≡ Some x → nat_eq x.t it.t ≡ true → x ≡ it
  one_of i x at same =
      let here : i ≡ place = numbers i place x it at at_it (eqb-true x.t it.t same) in
      same_Some x it (sym at ∙ ap (slice_get active) here ∙ at_it)

  told_worker : (x : Transaction) (y : Transaction) (device : ℕ) → y.t ≡ x.t → (own' : HasWorker duties x device)
      → (is_told y.phase ≡ true → ((nat_eq own'.worker.t it.t && is_waiting own'.worker.stage) ≡ false) → is_going own'.worker.stage ≡ true) → HasWorker duties' y device
  told_worker x y device same own' goes = on (nat_eq own'.worker.t it.t && is_waiting own'.worker.stage) refl
    where
      at : duty_on duties' device ≡ duty_told it.t commit (duty.Works own'.worker)
      at = told_at it.t commit device duties ∙ ap (duty_told it.t commit) own'.there

      on : (b : Bool) → (nat_eq own'.worker.t it.t && is_waiting own'.worker.stage) ≡ b → HasWorker duties' y device
      on true is = record {
        worker = worker_told own'.worker commit;
        there = at ∙ ap (λ (b : Bool). cond b (duty.Works (worker_told own'.worker commit)) (duty.Works own'.worker)) is;
        number = own'.number ∙ sym same;
        goes = λ told. told_going own'.worker.stage commit (both_true (nat_eq own'.worker.t it.t) (is_waiting own'.worker.stage) is).1;
      }
      on false is = record {
        worker = own'.worker;
        there = at ∙ ap (λ (b : Bool). cond b (duty.Works (worker_told own'.worker commit)) (duty.Works own'.worker)) is;
        number = own'.number ∙ sym same;
        goes = λ told. goes told is;
      }

  phased_works : EachWorks duties' phased
  phased_works i y at under device named =
      let old = of_map (in_phase it.t to) active i y at in
      on old.0 old.1 old.2 (nat_eq old.0.t it.t) refl
    where
      on : (x : Transaction) → slice_get active i ≡ Some x → y ≡ in_phase it.t to x → (b : Bool) → nat_eq x.t it.t ≡ b → HasWorker duties' y device
      on x at' is true e =
          let same : x ≡ it = one_of i x at' e in
          let y_is : y ≡ record x { phase = to } = is ∙ ap (λ (b : Bool). cond b (record x { phase = to }) x) e in
          let named' : list_any (nat_eq device) x.plan.held.devices ≡ true = ap (λ (z : Transaction). list_any (nat_eq device) z.plan.held.devices) (sym y_is) ∙ named in
          let worker = own.works i x at' (under_preparing x.phase (ap (λ (z : Transaction). is_preparing z.phase) same ∙ preparing)) device named' in
          told_worker x y device (ap (λ (z : Transaction). z.t) y_is) worker
          (λ told still. going worker.worker (heard device (ap (λ (z : Transaction). list_any (nat_eq device) z.plan.held.devices) (sym same) ∙ named') worker.worker worker.there)
          (still_not worker.worker (ap (λ (n : ℕ). nat_eq n it.t) worker.number ∙ e) still))
        where
          still_not : (w : Worker) → nat_eq w.t it.t ≡ true → (nat_eq w.t it.t && is_waiting w.stage) ≡ false → is_waiting w.stage ≡ false
          still_not w e' h = ap (λ (b : Bool). b && is_waiting w.stage) (sym e') ∙ h

          going : (w : Worker) → has_outcome w.stage ≡ true → is_waiting w.stage ≡ false → is_going w.stage ≡ true
          going w some none = ap (λ (b : Bool). b && not (is_waiting w.stage)) some ∙ ap not none
      on x at' is false e =
          let y_is : y ≡ x = is ∙ ap (λ (b : Bool). cond b (record x { phase = to }) x) e in
          let worker = own.works i x at' (ap (λ (z : Transaction). is_under_way z.phase) (sym y_is) ∙ under) device
          (ap (λ (z : Transaction). list_any (nat_eq device) z.plan.held.devices) (sym y_is) ∙ named) in
          told_worker x y device (ap (λ (z : Transaction). z.t) y_is) worker (λ told still. worker.goes (ap (λ (z : Transaction). is_told z.phase) (sym y_is) ∙ told))

  phased_empty : EachEndedIsEmpty phased
  phased_empty i y at under =
      let old = of_map (in_phase it.t to) active i y at in
      on old.0 old.1 old.2 (nat_eq old.0.t it.t) refl
    where
      on : (x : Transaction) → slice_get active i ≡ Some x → y ≡ in_phase it.t to x → (b : Bool) → nat_eq x.t it.t ≡ b → y.plan.held ≡ nothing_held
      on x at' is true e =
          let y_is : y ≡ record x { phase = to } = is ∙ ap (λ (b : Bool). cond b (record x { phase = to }) x) e in
          absurd (false≢true (sym under ∙ ap (λ (z : Transaction). is_under_way z.phase) y_is ∙ under_told to is_to))
      on x at' is false e =
          let y_is : y ≡ x = is ∙ ap (λ (b : Bool). cond b (record x { phase = to }) x) e in
          ap (λ (z : Transaction). z.plan.held) y_is ∙ own.empty i x at' (ap (λ (z : Transaction). is_under_way z.phase) (sym y_is) ∙ under)

  -- who asks at another place than it asks still
  phased_asks : (q : ℕ) → (it.asker ≡ q → ⊥) → IsAsking waiting active q → IsAsking waiting phased q
  phased_asks q apart (IsAsking.asks_waiting i one at is) = IsAsking.asks_waiting i one at is
  phased_asks q apart (IsAsking.asks_preparing i x at h is) = on (nat_eq x.t it.t) refl
    where
      on : (b : Bool) → nat_eq x.t it.t ≡ b → IsAsking waiting phased q
      on true e = absurd (apart (ap (λ (z : Transaction). z.asker) (sym (one_of i x at e)) ∙ is))
      on false e = IsAsking.asks_preparing i x
          (slice_get-map (in_phase it.t to) active i ∙ ap (option_map (in_phase it.t to)) at ∙ ap (λ (b : Bool). Some (cond b (record x { phase = to }) x)) e) h is

  pub told_serves : ServesEach waiting (map (retired duties') phased) duties' (answered_at it.asker said asked)
  told_serves = record {
    asks = answered_asks asked waiting waiting active (map (retired duties') phased) it.asker said own.asks
        (λ q apart one. retired_asks duties' phased waiting q (phased_asks q apart one));
    works = retired_works duties' phased phased_works;
    goes = retired_goes duties' phased;
    empty = retired_empty duties' phased phased_empty;
  }

-- a Settled

module _ (waiting : List Waiting) (active : List Transaction) (duties : List Duty) (asked : List Asked) (own : ServesEach waiting active duties asked)
    (place : ℕ) (it : Transaction) (at_it : slice_get active place ≡ Some it) (settling : is_settling it.phase ≡ true)
    (numbers : (i j : ℕ) (x y : Transaction) → slice_get active i ≡ Some x → slice_get active j ≡ Some y → x.t ≡ y.t → i ≡ j) where
  abbrev others_left : List Transaction
  others_left = filter (is_other it.t) active

  -- who prepares is another one
  left_asks : (q : ℕ) → IsAsking waiting active q → IsAsking waiting others_left q
  left_asks q (IsAsking.asks_waiting i one at is) = IsAsking.asks_waiting i one at is
  left_asks q (IsAsking.asks_preparing i x at h is) =
      let found = finds_place (is_other it.t) active i x at (on (nat_eq x.t it.t) refl) in IsAsking.asks_preparing found.0 x found.1 h is
    where
      on : (b : Bool) → nat_eq x.t it.t ≡ b → not b ≡ true
      on true e =
          let here : i ≡ place = numbers i place x it at at_it (eqb-true x.t it.t e) in
          let same : x ≡ it = same_Some x it (sym at ∙ ap (slice_get active) here ∙ at_it) in
          absurd (false≢true (sym (settling_not_under it.phase settling) ∙ ap (λ (z : Transaction). is_under_way z.phase) (sym same) ∙ under_preparing x.phase h))
      on false e = refl

  pub settle_serves : ServesEach waiting others_left duties asked
  settle_serves = record {
    asks = λ q one at is_open. left_asks q (own.asks q one at is_open);
    works = λ i y at under device named. own.works (place_in (is_other it.t) active i) y (stayed (is_other it.t) active i y at).there under device named;
    goes = λ i y at told. own.goes (place_in (is_other it.t) active i) y (stayed (is_other it.t) active i y at).there told;
    empty = λ i y at under. own.empty (place_in (is_other it.t) active i) y (stayed (is_other it.t) active i y at).there under;
  }

-- an admission

module _ (waiting : List Waiting) (active : List Transaction) (duties : List Duty) (asked : List Asked) (own : ServesEach waiting active duties asked)
    (place : ℕ) (it : Waiting) (at_it : slice_get waiting place ≡ Some it) (since : ℕ) (sets : List (ℕ × ChangeSet))
    (starts : (device : ℕ) → list_any (nat_eq device) it.plan.held.devices ≡ true → (worker : Worker) × (duty_on (started it.t sets duties) device ≡ duty.Works worker) × (worker.t ≡ it.t))
    (others : (device : ℕ) → list_any (nat_eq device) it.plan.held.devices ≡ false → duty_on (started it.t sets duties) device ≡ duty_on duties device)
    (apart : (i : ℕ) (x : Transaction) → slice_get active i ≡ Some x → (device : ℕ) → list_any (nat_eq device) x.plan.held.devices ≡ true → list_any (nat_eq device) it.plan.held.devices ≡ false) where
  abbrev duties_then : List Duty
  duties_then = started it.t sets duties

  begins_asks : (q : ℕ) → IsAsking waiting active q → IsAsking (without place waiting) (active ++ transaction_begun since it ∷ []) q
  begins_asks q (IsAsking.asks_preparing i x at h is) = IsAsking.asks_preparing i x (push_old active (transaction_begun since it) i x at) h is
  begins_asks q (IsAsking.asks_waiting i one at is) = ⊎_elim
      (λ same.
      let mine : one ≡ it = same_Some one it (sym at ∙ ap (slice_get waiting) same ∙ at_it) in
      IsAsking.asks_preparing (length active) (transaction_begun since it) (push_last active (transaction_begun since it)) refl (ap (λ (w : Waiting). w.asker) (sym mine) ∙ is))
      (λ ne. let kept = kept_without place waiting i one ne at in IsAsking.asks_waiting kept.0 one kept.1 is)
      (same_place i place)

  old_over : (t : ℕ) (devices : List ℕ) → ((device : ℕ) → list_any (nat_eq device) devices ≡ true → duty_on duties_then device ≡ duty_on duties device)
      → are_over duties_then t devices ≡ are_over duties t devices
  old_over t [] same = refl
  old_over t (x ∷ devices) same =
      ap (λ (b : Bool). b && are_over duties_then t devices)
      (over_on duties_then t x ∙ ap (is_over_for t) (same x (ap (λ (b : Bool). b || list_any (nat_eq x) devices) (eq-eqb x x refl))) ∙ sym (over_on duties t x))
      ∙ ap (λ (b : Bool). is_over_on duties t x && b) (old_over t devices (λ device named. same device (or_more (nat_eq device x) (list_any (nat_eq device) devices) named)))
    where
      or_more : (a b : Bool) → b ≡ true → (a || b) ≡ true
      or_more true b h = refl
      or_more false b h = h

  pub admit_serves : ServesEach (without place waiting) (active ++ transaction_begun since it ∷ []) duties_then asked
  admit_serves = record {
    asks = λ q one at is_open. begins_asks q (own.asks q one at is_open);
    works = λ i y at under device named. ⊎_elim
        (λ old.
        let worker = own.works i y old under device named in
        record { worker = worker.worker; there = others device (apart i y old device named) ∙ worker.there; number = worker.number; goes = worker.goes })
        (λ new.
        let mine = starts device (ap (λ (z : Transaction). list_any (nat_eq device) z.plan.held.devices) new.1 ∙ named) in
        record {
          worker = mine.0;
          there = mine.1;
          number = mine.2 ∙ ap (λ (z : Transaction). z.t) new.1;
          goes = λ told. absurd (false≢true (ap (λ (z : Transaction). is_told z.phase) new.1 ∙ told));
        })
        (push_cases active (transaction_begun since it) i y at);
    goes = λ i y at told. ⊎_elim
        (λ old. old_over y.t y.plan.held.devices (λ device named. others device (apart i y old device named)) ∙ own.goes i y old told)
        (λ new. absurd (false≢true (ap (λ (z : Transaction). is_told z.phase) new.1 ∙ told)))
        (push_cases active (transaction_begun since it) i y at);
    empty = λ i y at under. ⊎_elim
        (λ old. own.empty i y old under)
        (λ new. absurd (false≢true (sym under ∙ ap (λ (z : Transaction). is_under_way z.phase) (sym new.1))))
        (push_cases active (transaction_begun since it) i y at);
  }

-- one that waits is turned away
pub away_serves : (waiting : List Waiting) (active : List Transaction) (duties : List Duty) (asked : List Asked) (place : ℕ) (it : Waiting) (said : Answer) → slice_get waiting place ≡ Some it
    → ServesEach waiting active duties asked → ServesEach (without place waiting) active duties (answered_at it.asker said asked)
away_serves waiting active duties asked place it said at_it own = record {
  asks = answered_asks asked waiting (without place waiting) active active it.asker said own.asks still;
  works = own.works;
  goes = own.goes;
  empty = own.empty;
}
  where
    still : (q : ℕ) → (it.asker ≡ q → ⊥) → IsAsking waiting active q → IsAsking (without place waiting) active q
    still q apart (IsAsking.asks_preparing i x at h is) = IsAsking.asks_preparing i x at h is
    still q apart (IsAsking.asks_waiting i one at is) = ⊎_elim
        (λ same. absurd (apart (ap (λ (w : Waiting). w.asker) (sym (same_Some one it (sym at ∙ ap (slice_get waiting) same ∙ at_it))) ∙ is)))
        (λ ne. let kept = kept_without place waiting i one ne at in IsAsking.asks_waiting kept.0 one kept.1 is)
        (same_place i place)

-- where all are over the devices may do anything
pub idle_serves : (waiting : List Waiting) (active : List Transaction) (duties duties' : List Duty) (asked : List Asked)
    → ((i : ℕ) (it : Transaction) → slice_get active i ≡ Some it → it.phase ≡ phase.Left) → ServesEach waiting active duties asked → ServesEach waiting active duties' asked
idle_serves waiting active duties duties' asked left own = record {
  asks = own.asks;
  works = λ i it at under device named. absurd (false≢true (sym (ap is_under_way (left i it at)) ∙ under));
  goes = λ i it at told. absurd (false≢true (sym (ap is_told (left i it at)) ∙ told));
  empty = own.empty;
}

-- each call is served as well where no transaction is active any more
pub none_serves : (waiting : List Waiting) (active : List Transaction) (duties duties' : List Duty) (asked : List Asked)
    → ((i : ℕ) (it : Transaction) → slice_get active i ≡ Some it → it.phase ≡ phase.Left) → ServesEach waiting active duties asked → ServesEach waiting [] duties' asked
none_serves waiting active duties duties' asked left own = record {
  asks = λ q one at is_open. still q (own.asks q one at is_open);
  works = λ i it at. absurd cc;
  goes = λ i it at. absurd cc;
  empty = λ i it at. absurd cc;
}
  where
    still : (q : ℕ) → IsAsking waiting active q → IsAsking waiting [] q
    still q (IsAsking.asks_waiting i one at is) = IsAsking.asks_waiting i one at is
    still q (IsAsking.asks_preparing i it at h is) = absurd (false≢true (sym (ap is_preparing (left i it at)) ∙ h))

-- a hub that is new serves nobody
pub new_serves : (duties : List Duty) → ServesEach [] [] duties []
new_serves duties = record {
  asks = λ q one at. absurd cc;
  works = λ i it at. absurd cc;
  goes = λ i it at. absurd cc;
  empty = λ i it at. absurd cc;
}
