-- Where a mender has ended.
use Rattle.std.proofs.Common.{◌≡◌, ℕ, Bool, true, false, not, cond, List, [], ◌∷◌, Some, is_some, refl, sym, ap}
use Rattle.std.proofs.lemmas.Bool.{false≢true}
use Rattle.orc_path.specs.Configurations.{Config}
use Rattle.orc_tree.specs.Sameness.{equal_configs}
use Rattle.orc_device.specs.Operations.{is_ok, is_resolved}
use Rattle.orc_device.specs.declared.reply.Reply.{Reply}
use Rattle.orc_device.specs.declared.reply.Reply.TheVariants as reply
use Rattle.orc_recover.specs.Menders.{MenderState, MendingIsDue, EndsWhereItSays, differences, mend_order, is_mending, goes_on, ends_unless, failed_by, mend_end_at, took_at, resolved_one}
use Rattle.orc_recover.specs.declared.ends.Mend.TheVariants as mend
use Rattle.orc_recover.specs.declared.stage.MendStage.{MendStage}
use Rattle.orc_recover.specs.declared.stage.MendStage.TheVariants.{Opening, Resolving, LockingRunning, LockingCandidate, Editing, Validating, Committing, UnlockingCandidate, UnlockingRunning, Closing, Over}

due_at : (left : List (ℕ × Bool)) (due : Config) (stage : MendStage) → is_some (mend_order differences left due stage) ≡ is_mending stage
due_at left due Opening = refl
due_at left due Resolving = refl
due_at left due (LockingRunning running) = refl
due_at left due (LockingCandidate running) = refl
due_at left due (Editing running) = refl
due_at left due Validating = refl
due_at left due Committing = refl
due_at left due UnlockingCandidate = refl
due_at left due UnlockingRunning = refl
due_at left due Closing = refl
due_at left due Over = refl

pub due_always : MendingIsDue
due_always mender = due_at mender.left mender.due mender.stage

-- a stage that goes on to another one, or ends
step : (good : Bool) (next : MendStage) (answer : Reply) (faults : ℕ) → is_mending next ≡ true
    → is_some (ends_unless good answer faults) ≡ not (is_mending (goes_on good next))
step true next answer faults due = sym (ap not due)
step false next answer faults due = refl

read : (same : Bool) (running : Config) → false ≡ not (is_mending (cond same Closing (LockingRunning running)))
read true running = refl
read false running = refl

resolves : (mender : MenderState) (later : List (ℕ × Bool)) (good : Bool) (answer : Reply) (faults : ℕ) → is_mending mender.stage ≡ true
    → is_some (ends_unless good answer faults) ≡ not (is_mending (resolved_one mender later good).stage)
resolves mender later true answer faults due = sym (ap not due)
resolves mender later false answer faults due = refl

closes : (good : Bool) (answer : Reply) (faults : ℕ) → is_some (cond good (Some mend.Done) (Some (failed_by answer faults))) ≡ true
closes true answer faults = refl
closes false answer faults = refl

ends : (mender : MenderState) (stage : MendStage) (left : List (ℕ × Bool)) (answer : Reply) (faults : ℕ)
    → is_mending mender.stage ≡ true → is_mending stage ≡ true
    → is_some (mend_end_at stage left answer faults) ≡ not (is_mending (took_at equal_configs mender stage left answer).stage)
ends mender Resolving [] reply.Ok faults due h = refl
ends mender Resolving [] (reply.Tree running) faults due h = read (equal_configs running mender.due) running
ends mender Resolving [] (reply.Refused tag) faults due h = refl
ends mender Resolving [] reply.Fault faults due h = refl
ends mender Resolving [] reply.Memory faults due h = refl
ends mender Resolving (intent ∷ later) answer faults due h = resolves mender later (is_resolved answer) answer faults due
ends mender Opening left answer faults due h = step (is_ok answer) Resolving answer faults refl
ends mender (LockingRunning running) left answer faults due h = step (is_ok answer) (LockingCandidate running) answer faults refl
ends mender (LockingCandidate running) left answer faults due h = step (is_ok answer) (Editing running) answer faults refl
ends mender (Editing running) left answer faults due h = step (is_ok answer) Validating answer faults refl
ends mender Validating left answer faults due h = step (is_ok answer) Committing answer faults refl
ends mender Committing left answer faults due h = step (is_ok answer) UnlockingCandidate answer faults refl
ends mender UnlockingCandidate left answer faults due h = step (is_ok answer) UnlockingRunning answer faults refl
ends mender UnlockingRunning left answer faults due h = step (is_ok answer) Closing answer faults refl
ends mender Closing left answer faults due h = closes (is_ok answer) answer faults
ends mender Over left answer faults due h = absurd (false≢true h)

pub ends_always : EndsWhereItSays
ends_always mender answer faults h = ends mender mender.stage mender.left answer faults h h
