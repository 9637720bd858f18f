-- Slots of duties, and what is replied and decided there.
use Rattle.std.proofs.Common.{◌≡◌, ◌⊎◌, inl, inr, ℕ, Bool, true, false, cond, ◌&&◌, ◌||◌, ◌<◌, nat_eq, nat_lt, ltb-true, lt-ltb, arith, List, [], ◌∷◌, Option, Some, None, map, length, refl, sym, ap, ◌∙◌, eq-eqb, eqb-true, zero, suc}
use Rattle.std.specs.Prelude.{slice_get, slice_set}
use Rattle.std.specs.List.{list_all, list_any}
use Rattle.std.specs.Option.{option_map, option_map_or}
use Rattle.std.proofs.lemmas.Bool.{false≢true}
use Rattle.std.proofs.lemmas.Option.{slice_get-map}
use Rattle.orc_tree.specs.Sameness.{equal_configs}
use Rattle.orc_device.specs.declared.reply.Reply.{Reply}
use Rattle.orc_recover.specs.Menders.{MenderState, mender_took}
use Rattle.orc_worker.specs.Workers.{is_due, is_waiting, told_stage, worker_told, worker_took}
use Rattle.orc_worker.specs.declared.report.Outcome.{Outcome}
use Rattle.orc_worker.specs.declared.stage.Stage.{Stage}
use Rattle.orc_worker.specs.declared.stage.Stage.TheVariants as stage
use Rattle.orc_worker.specs.declared.worker.Worker.{Worker}
use Rattle.orc_rules.specs.Duties.{duty_outcome, duty_took, duty_told, is_busy, is_over, is_over_for, is_over_on, outcome_on}
use Rattle.orc_rules.specs.Hubs.{with_changed, duty_on}
use Rattle.orc_rules.specs.declared.duty.Duty.{Duty}
use Rattle.orc_rules.specs.declared.duty.Duty.TheVariants as duty
use Rattle.orc_rules.proofs.Reporting.{get_changed, get_other}

abbrev Held : Option Duty → Duty
Held o = option_map_or (λ d. d) o duty.Free

-- numbers below others
pub below_none : (i : ℕ) → nat_lt i 0 ≡ true → ⊥
below_none i h = let below : i < 0 = ltb-true i 0 h in omega arith

pub lower : (i n : ℕ) → nat_lt (suc i) (suc n) ≡ true → nat_lt i n ≡ true
lower i n h = lt-ltb i n (let below : suc i < suc n = ltb-true (suc i) (suc n) h in omega arith)

pub higher : (i n : ℕ) → nat_lt i n ≡ true → nat_lt (suc i) (suc n) ≡ true
higher i n h = lt-ltb (suc i) (suc n) (let below : i < n = ltb-true i n h in omega arith)

pub lower_not : (i n : ℕ) → nat_lt (suc i) (suc n) ≡ false → nat_lt i n ≡ false
lower_not i n h = on (nat_lt i n) refl
  where
    on : (b : Bool) → nat_lt i n ≡ b → nat_lt i n ≡ false
    on true is = absurd (false≢true (sym h ∙ higher i n is))
    on false is = is

-- where something is done there is a slot
pub slot_there : (duties : List Duty) (device : ℕ) (on : Duty) → duty_on duties device ≡ on → (on ≡ duty.Free → ⊥) → slice_get duties device ≡ Some on
slot_there duties device on is busy = go (slice_get duties device) refl
  where
    go : (o : Option Duty) → slice_get duties device ≡ o → slice_get duties device ≡ Some on
    go None e = absurd (busy (sym is ∙ ap Held e))
    go (Some d) e = e ∙ ap Some (sym (ap Held e) ∙ is)

within_list : {X : Type 0} (xs : List X) (i : ℕ) (x : X) → slice_get xs i ≡ Some x → nat_lt i (length xs) ≡ true
within_list [] i x h = absurd cc
within_list (y ∷ xs) zero x h = lt-ltb 0 (suc (length xs)) (omega arith)
within_list (y ∷ xs) (suc i) x h = higher i (length xs) (within_list xs i x h)

get_within : {X : Type 0} (xs : List X) (i : ℕ) → nat_lt i (length xs) ≡ true → (x : X) × (slice_get xs i ≡ Some x)
get_within [] i h = absurd (below_none i h)
get_within (y ∷ xs) zero h = (y, refl)
get_within (y ∷ xs) (suc i) h = get_within xs i (lower i (length xs) h)

-- and it is a declared device's
pub slot_within : (duties : List Duty) (device : ℕ) (on : Duty) → duty_on duties device ≡ on → (on ≡ duty.Free → ⊥) → nat_lt device (length duties) ≡ true
slot_within duties device on is busy = within_list duties device on (slot_there duties device on is busy)

pub get_in : {X : Type 0} (xs : List X) (i n : ℕ) → length xs ≡ n → nat_lt i n ≡ true → (x : X) × (slice_get xs i ≡ Some x)
get_in xs i n long h = get_within xs i (ap (λ (m : ℕ). nat_lt i m) long ∙ h)

pub works_not_free : (worker : Worker) → duty.Works worker ≡ duty.Free → ⊥
works_not_free worker e = cc

pub mends_not_free : (mender : MenderState) → duty.Mends mender ≡ duty.Free → ⊥
mends_not_free mender e = cc

-- a slot changed
pub set_length : {X : Type 0} (xs : List X) (i : ℕ) (x : X) → length (slice_set xs i x) ≡ length xs
set_length [] i x = refl
set_length (y ∷ xs) zero x = refl
set_length (y ∷ xs) (suc i) x = ap suc (set_length xs i x)

pub changed_length : {X : Type 0} (f : X → X) (i : ℕ) (xs : List X) → length (with_changed f i xs) ≡ length xs
changed_length {X = X} f i xs = on (slice_get xs i)
  where
    on : (o : Option X) → length (option_map_or (λ x. slice_set xs i (f x)) o xs) ≡ length xs
    on None = refl
    on (Some x) = set_length xs i (f x)

pub took_here : (reply : Reply) (faults device : ℕ) (duties : List Duty)
    → duty_on (with_changed (λ d. duty_took d reply faults) device duties) device ≡ duty_took (duty_on duties device) reply faults
took_here reply faults device duties = ap Held (get_changed (λ d. duty_took d reply faults) device duties) ∙ on (slice_get duties device)
  where
    on : (o : Option Duty) → Held (option_map (λ d. duty_took d reply faults) o) ≡ duty_took (Held o) reply faults
    on None = refl
    on (Some d) = refl

pub took_there : (reply : Reply) (faults device x : ℕ) (duties : List Duty) → nat_eq device x ≡ false
    → duty_on (with_changed (λ d. duty_took d reply faults) device duties) x ≡ duty_on duties x
took_there reply faults device x duties apart =
    ap Held (get_other (λ d. duty_took d reply faults) device x duties (λ e. false≢true (sym apart ∙ eq-eqb device x e)))

pub told_at : (t : ℕ) (commit : Bool) (device : ℕ) (duties : List Duty) → duty_on (map (duty_told t commit) duties) device ≡ duty_told t commit (duty_on duties device)
told_at t commit device duties = ap Held (slice_get-map (duty_told t commit) duties device) ∙ on (slice_get duties device)
  where
    on : (o : Option Duty) → Held (option_map (duty_told t commit) o) ≡ duty_told t commit (Held o)
    on None = refl
    on (Some d) = refl

-- what was done there before

pub took_works : (on : Duty) (reply : Reply) (faults : ℕ) (worker : Worker) → duty_took on reply faults ≡ duty.Works worker
    → (old : Worker) × (on ≡ duty.Works old) × (worker ≡ worker_took old reply faults)
took_works duty.Free reply faults worker e = absurd (works_not_free worker (sym e))
took_works (duty.Works old) reply faults worker e = (old, refl, cc)
took_works (duty.Mends old) reply faults worker e = cc

pub took_mends : (on : Duty) (reply : Reply) (faults : ℕ) (mender : MenderState) → duty_took on reply faults ≡ duty.Mends mender
    → (old : MenderState) × (on ≡ duty.Mends old) × (mender ≡ mender_took equal_configs old reply)
took_mends duty.Free reply faults mender e = absurd (mends_not_free mender (sym e))
took_mends (duty.Works old) reply faults mender e = cc
took_mends (duty.Mends old) reply faults mender e = (old, refl, cc)

-- a worker that is told goes on, and others stay
pub record WasTold (t : ℕ) (commit : Bool) (on : Duty) (worker : Worker) : Type 0 where
  pub old : Worker
  pub was : on ≡ duty.Works old
  pub now : ((nat_eq old.t t ≡ true) × (is_waiting old.stage ≡ true) × (worker ≡ worker_told old commit))
      ⊎ (((nat_eq old.t t && is_waiting old.stage) ≡ false) × (worker ≡ old))

pub both_true : (a b : Bool) → (a && b) ≡ true → (a ≡ true) × (b ≡ true)
both_true true b h = (refl, h)
both_true false b h = absurd (false≢true h)

pub told_works : (t : ℕ) (commit : Bool) (on : Duty) (worker : Worker) → duty_told t commit on ≡ duty.Works worker → WasTold t commit on worker
told_works t commit duty.Free worker e = absurd (works_not_free worker (sym e))
told_works t commit (duty.Mends old) worker e = cc
told_works t commit (duty.Works old) worker e = go (nat_eq old.t t && is_waiting old.stage) refl e
  where
    go : (b : Bool) → (nat_eq old.t t && is_waiting old.stage) ≡ b → cond b (duty.Works (worker_told old commit)) (duty.Works old) ≡ duty.Works worker
        → WasTold t commit (duty.Works old) worker
    go true is e' = let so = both_true (nat_eq old.t t) (is_waiting old.stage) is in record { old = old; was = refl; now = inl (so.0, so.1, cc) }
    go false is e' = record { old = old; was = refl; now = inr (is, cc) }

pub told_mends : (t : ℕ) (commit : Bool) (on : Duty) (mender : MenderState) → duty_told t commit on ≡ duty.Mends mender → on ≡ duty.Mends mender
told_mends t commit duty.Free mender e = e
told_mends t commit (duty.Mends old) mender e = e
told_mends t commit (duty.Works old) mender e = go (nat_eq old.t t && is_waiting old.stage) e
  where
    go : (b : Bool) → cond b (duty.Works (worker_told old commit)) (duty.Works old) ≡ duty.Mends mender → duty.Works old ≡ duty.Mends mender
    go true e' = cc
    go false e' = cc

-- who has something to do isn't told
pub waits_not : (st : Stage) → is_due st ≡ true → is_waiting st ≡ false
waits_not stage.Prepared h = cc
waits_not stage.Lost h = cc
waits_not st h = refl

and_none : (a b : Bool) → b ≡ false → (a && b) ≡ false
and_none true b h = h
and_none false b h = refl

pub told_busy : (t : ℕ) (commit : Bool) (on : Duty) → is_busy on ≡ true → duty_told t commit on ≡ on
told_busy t commit duty.Free h = refl
told_busy t commit (duty.Mends mender) h = refl
told_busy t commit (duty.Works worker) h =
    ap (λ (b : Bool). cond b (duty.Works (worker_told worker commit)) (duty.Works worker)) (and_none (nat_eq worker.t t) (is_waiting worker.stage) (waits_not worker.stage h))

pub told_not_over : (st : Stage) (commit : Bool) → is_over (told_stage st commit) ≡ false → is_over st ≡ false
told_not_over stage.Over commit h = h
told_not_over st commit h = refl

-- outcomes, and ends

pub over_on : (duties : List Duty) (t device : ℕ) → is_over_on duties t device ≡ is_over_for t (duty_on duties device)
over_on duties t device = on (slice_get duties device)
  where
    on : (o : Option Duty) → option_map_or (is_over_for t) o false ≡ is_over_for t (Held o)
    on None = refl
    on (Some d) = refl

pub outcome_at : (duties : List Duty) (t device : ℕ) → outcome_on duties t device ≡ duty_outcome t (duty_on duties device)
outcome_at duties t device = on (slice_get duties device)
  where
    on : (o : Option Duty) → option_map_or (duty_outcome t) o None ≡ duty_outcome t (Held o)
    on None = refl
    on (Some d) = refl

-- the work of a transaction that has ended there was a worker's
pub over_worker : (t : ℕ) (on : Duty) → is_over_for t on ≡ true → (worker : Worker) × (on ≡ duty.Works worker) × (worker.t ≡ t) × (is_over worker.stage ≡ true)
over_worker t duty.Free h = absurd (false≢true h)
over_worker t (duty.Mends mender) h = absurd (false≢true h)
over_worker t (duty.Works worker) h = let so = both_true (nat_eq worker.t t) (is_over worker.stage) h in (worker, refl, eqb-true worker.t t so.0, so.1)

-- and one that has an outcome is a worker's
pub outcome_worker : (t : ℕ) (on : Duty) (o : Outcome) → duty_outcome t on ≡ Some o → (worker : Worker) × (on ≡ duty.Works worker) × (worker.t ≡ t) × (worker.outcome ≡ Some o)
outcome_worker t duty.Free o e = cc
outcome_worker t (duty.Mends mender) o e = cc
outcome_worker t (duty.Works worker) o e = go (nat_eq worker.t t) refl e
  where
    go : (b : Bool) → nat_eq worker.t t ≡ b → cond b worker.outcome None ≡ Some o
        → (w : Worker) × (duty.Works worker ≡ duty.Works w) × (w.t ≡ t) × (w.outcome ≡ Some o)
    go true is e' = (worker, refl, eqb-true worker.t t is, e')
    go false is e' = cc

-- of a list of devices

pub all_so : (p : ℕ → Bool) (devices : List ℕ) (device : ℕ) → list_all p devices ≡ true → list_any (nat_eq device) devices ≡ true → p device ≡ true
all_so p [] device all among = absurd (false≢true among)
all_so p (x ∷ xs) device all among = go (nat_eq device x) refl among (both_true (p x) (list_all p xs) all) (λ a h. all_so p xs device a h)
  where
    go : (b : Bool) → nat_eq device x ≡ b → (b || list_any (nat_eq device) xs) ≡ true → (p x ≡ true) × (list_all p xs ≡ true)
        → (list_all p xs ≡ true → list_any (nat_eq device) xs ≡ true → p device ≡ true) → p device ≡ true
    go true is h so rest = ap p (eqb-true device x is) ∙ so.0
    go false is h so rest = rest so.1 h

pub none_so : (p : ℕ → Bool) (devices : List ℕ) (device : ℕ) → list_any p devices ≡ false → list_any (nat_eq device) devices ≡ true → p device ≡ false
none_so p [] device none among = absurd (false≢true among)
none_so p (x ∷ xs) device none among = go (nat_eq device x) refl among (or_parts (p x) (list_any p xs) none) (λ a h. none_so p xs device a h)
  where
    or_parts : (a b : Bool) → (a || b) ≡ false → (a ≡ false) × (b ≡ false)
    or_parts true b h = absurd (false≢true (sym h))
    or_parts false b h = (refl, h)

    go : (b : Bool) → nat_eq device x ≡ b → (b || list_any (nat_eq device) xs) ≡ true → (p x ≡ false) × (list_any p xs ≡ false)
        → (list_any p xs ≡ false → list_any (nat_eq device) xs ≡ true → p device ≡ false) → p device ≡ false
    go true is h so rest = ap p (eqb-true device x is) ∙ so.0
    go false is h so rest = rest so.1 h
