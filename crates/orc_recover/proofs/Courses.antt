-- What a mender asks for along all replies.
use Rattle.std.proofs.Common.{◌≡◌, ℕ, Bool, true, false, cond, List, [], ◌∷◌, refl, ap, ◌∙◌}
use Rattle.orc_path.specs.Configurations.{Config}
use Rattle.orc_tree.specs.Sameness.{equal_configs}
use Rattle.orc_device.specs.Operations.{is_ok, is_resolved}
use Rattle.orc_device.specs.declared.op.Op.{Op}
use Rattle.orc_device.specs.declared.op.Op.TheVariants.{OpenSession, LockRunning, LockCandidate, Edit, Validate, Commit, UnlockCandidate, UnlockRunning, CloseSession, GetRunning}
use Rattle.orc_device.specs.declared.reply.Reply.{Reply}
use Rattle.orc_device.specs.declared.reply.Reply.TheVariants as reply
use Rattle.orc_recover.specs.Menders.{MenderState, differences, goes_on, read_stage, resolved_one, resolving_op}
use Rattle.orc_recover.specs.Courses.{ReconcilesAlongReplies, after_reading, bringing, each_ok, mender_asks, reconciling, resolving_each}
use Rattle.orc_recover.specs.declared.stage.MendStage.{MendStage}
use Rattle.orc_recover.specs.declared.stage.MendStage.TheVariants.{Opening, Resolving, LockingRunning, LockingCandidate, Editing, Validating, Committing, UnlockingCandidate, UnlockingRunning, Closing, Over}

abbrev no_ops : List Op
no_ops = []

module _ (due : Config) where
  -- the mender at this stage, where these transactions are left
  abbrev at : List (ℕ × Bool) → MendStage → MenderState
  at left stage = record { left = left; due = due; stage = stage }

  module _ (left : List (ℕ × Bool)) where
    over : (replies : List Reply) → mender_asks (at left Over) replies ≡ []
    over [] = refl
    over (answer ∷ later) = refl

    either : (good : Bool) → no_ops ≡ cond good no_ops no_ops
    either true = refl
    either false = refl

    step : (good : Bool) (stage : MendStage) (ops : List Op) (later : List Reply) → mender_asks (at left stage) later ≡ each_ok ops later
        → mender_asks (at left (goes_on good stage)) later ≡ cond good (each_ok ops later) []
    step true stage ops later same = same
    step false stage ops later same = over later

    closing : (replies : List Reply) → mender_asks (at left Closing) replies ≡ each_ok (CloseSession ∷ []) replies
    closing [] = refl
    closing (answer ∷ later) = ap (λ (ops : List Op). CloseSession ∷ ops) (over later ∙ either (is_ok answer))

    unlocking_running : (replies : List Reply) → mender_asks (at left UnlockingRunning) replies ≡ each_ok (UnlockRunning ∷ CloseSession ∷ []) replies
    unlocking_running [] = refl
    unlocking_running (answer ∷ later) = ap (λ (ops : List Op). UnlockRunning ∷ ops) (step (is_ok answer) Closing (CloseSession ∷ []) later (closing later))

    unlocking_candidate : (replies : List Reply)
        → mender_asks (at left UnlockingCandidate) replies ≡ each_ok (UnlockCandidate ∷ UnlockRunning ∷ CloseSession ∷ []) replies
    unlocking_candidate [] = refl
    unlocking_candidate (answer ∷ later) =
        ap (λ (ops : List Op). UnlockCandidate ∷ ops) (step (is_ok answer) UnlockingRunning (UnlockRunning ∷ CloseSession ∷ []) later (unlocking_running later))

    committing : (replies : List Reply)
        → mender_asks (at left Committing) replies ≡ each_ok (Commit ∷ UnlockCandidate ∷ UnlockRunning ∷ CloseSession ∷ []) replies
    committing [] = refl
    committing (answer ∷ later) =
        ap (λ (ops : List Op). Commit ∷ ops)
        (step (is_ok answer) UnlockingCandidate (UnlockCandidate ∷ UnlockRunning ∷ CloseSession ∷ []) later (unlocking_candidate later))

    validating : (replies : List Reply)
        → mender_asks (at left Validating) replies ≡ each_ok (Validate ∷ Commit ∷ UnlockCandidate ∷ UnlockRunning ∷ CloseSession ∷ []) replies
    validating [] = refl
    validating (answer ∷ later) =
        ap (λ (ops : List Op). Validate ∷ ops)
        (step (is_ok answer) Committing (Commit ∷ UnlockCandidate ∷ UnlockRunning ∷ CloseSession ∷ []) later (committing later))

    module _ (running : Config) where
      editing : (replies : List Reply)
          → mender_asks (at left (Editing running)) replies
          ≡ each_ok (Edit (differences running due) ∷ Validate ∷ Commit ∷ UnlockCandidate ∷ UnlockRunning ∷ CloseSession ∷ []) replies
      editing [] = refl
      editing (answer ∷ later) =
          ap (λ (ops : List Op). Edit (differences running due) ∷ ops)
          (step (is_ok answer) Validating (Validate ∷ Commit ∷ UnlockCandidate ∷ UnlockRunning ∷ CloseSession ∷ []) later (validating later))

      locking_candidate : (replies : List Reply)
          → mender_asks (at left (LockingCandidate running)) replies
          ≡ each_ok (LockCandidate ∷ Edit (differences running due) ∷ Validate ∷ Commit ∷ UnlockCandidate ∷ UnlockRunning ∷ CloseSession ∷ []) replies
      locking_candidate [] = refl
      locking_candidate (answer ∷ later) =
          ap (λ (ops : List Op). LockCandidate ∷ ops)
          (step (is_ok answer) (Editing running) (Edit (differences running due) ∷ Validate ∷ Commit ∷ UnlockCandidate ∷ UnlockRunning ∷ CloseSession ∷ []) later (editing later))

      locking_running : (replies : List Reply) → mender_asks (at left (LockingRunning running)) replies ≡ each_ok (bringing running due) replies
      locking_running [] = refl
      locking_running (answer ∷ later) =
          ap (λ (ops : List Op). LockRunning ∷ ops)
          (step (is_ok answer) (LockingCandidate running)
          (LockCandidate ∷ Edit (differences running due) ∷ Validate ∷ Commit ∷ UnlockCandidate ∷ UnlockRunning ∷ CloseSession ∷ []) later (locking_candidate later))

      compared : (same : Bool) (later : List Reply)
          → mender_asks (at left (cond same Closing (LockingRunning running))) later ≡ each_ok (cond same (CloseSession ∷ []) (bringing running due)) later
      compared true later = closing later
      compared false later = locking_running later

    reading : (answer : Reply) (later : List Reply) → mender_asks (at left (read_stage equal_configs due answer)) later ≡ after_reading due answer later
    reading reply.Ok later = over later
    reading (reply.Tree running) later = compared running (equal_configs running due) later
    reading (reply.Refused tag) later = over later
    reading reply.Fault later = over later
    reading reply.Memory later = over later

  resolved : (intent : ℕ × Bool) (left : List (ℕ × Bool)) (good : Bool) (later : List Reply) → mender_asks (at left Resolving) later ≡ resolving_each left due later
      → mender_asks (resolved_one (at (intent ∷ left) Resolving) left good) later ≡ cond good (resolving_each left due later) []
  resolved intent left true later same = same
  resolved intent left false later same = over (intent ∷ left) later

  resolving : (left : List (ℕ × Bool)) (replies : List Reply) → mender_asks (at left Resolving) replies ≡ resolving_each left due replies
  resolving [] [] = refl
  resolving [] (answer ∷ later) = ap (λ (ops : List Op). GetRunning ∷ ops) (reading [] answer later)
  resolving (intent ∷ left) [] = refl
  resolving (intent ∷ left) (answer ∷ later) =
      ap (λ (ops : List Op). resolving_op intent ∷ ops) (resolved intent left (is_resolved answer) later (resolving left later))

  opened : (left : List (ℕ × Bool)) (good : Bool) (later : List Reply) → mender_asks (at left (goes_on good Resolving)) later ≡ cond good (resolving_each left due later) []
  opened left true later = resolving left later
  opened left false later = over left later

  opening : (left : List (ℕ × Bool)) (replies : List Reply) → mender_asks (at left Opening) replies ≡ reconciling left due replies
  opening left [] = refl
  opening left (answer ∷ later) = ap (λ (ops : List Op). OpenSession ∷ ops) (opened left (is_ok answer) later)

pub courses : ReconcilesAlongReplies
courses intents due replies = opening due intents replies
