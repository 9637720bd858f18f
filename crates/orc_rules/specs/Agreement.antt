-- How a reconciliation of a device stands in the code that does it.
use Rattle.std.specs.Prelude.{ℕ, ◌≡◌, Bool, Option, List, [], ◌∷◌, is_some}
use Rattle.orc_path.specs.Configurations.{Config}
use Rattle.orc_recover.specs.Menders.{MenderState}
use Rattle.orc_recover.specs.declared.stage.MendStage.{MendStage}
use Rattle.orc_recover.specs.declared.stage.MendStage.TheVariants as stage
use Rattle.orc_rules.specs.Works.{Mend}
use Rattle.orc_rules.specs.Works.Mend.{Mopening, Mresolving, MlockingRunning, MlockingCandidate, Mediting, Mvalidating, Mcommitting, MunlockingCandidate, MunlockingRunning, Mclosing}
use Rattle.orc_rules.specs.Cells.{Mended}
use Rattle.orc_rules.specs.Cells.Mended.{Goes, Whole, Fails}

-- each intent that is left, with whether it is decided
abbrev pub with_decisions : (ℕ → Option ℕ) → List ℕ → List (ℕ × Bool)
with_decisions place [] = []
with_decisions place (t ∷ later) = (t, is_some (place t)) ∷ with_decisions place later

-- the intents that are left at a place of a reconciliation, with whether each is decided
abbrev pub left_of : (ℕ → Option ℕ) → Mend → List (ℕ × Bool)
left_of place (Mopening later) = with_decisions place later
left_of place (Mresolving later) = with_decisions place later
left_of place mend = []

-- the stage of the mender at that place
abbrev pub mend_stage_of : Mend → MendStage
mend_stage_of (Mopening later) = stage.Opening
mend_stage_of (Mresolving later) = stage.Resolving
mend_stage_of (MlockingRunning read) = stage.LockingRunning read
mend_stage_of (MlockingCandidate read) = stage.LockingCandidate read
mend_stage_of (Mediting read) = stage.Editing read
mend_stage_of Mvalidating = stage.Validating
mend_stage_of Mcommitting = stage.Committing
mend_stage_of MunlockingCandidate = stage.UnlockingCandidate
mend_stage_of MunlockingRunning = stage.UnlockingRunning
mend_stage_of Mclosing = stage.Closing

-- the mender for a device on which this tree is due
abbrev pub mender_of : (ℕ → Option ℕ) → Config → Mend → MenderState
mender_of place due mend = record { left = left_of place mend; due = due; stage = mend_stage_of mend }

-- a mender that has come to this
abbrev pub HasCome : (ℕ → Option ℕ) → Config → MenderState → Mended → Type 0
HasCome place due mender (Goes mend) = mender ≡ mender_of place due mend
HasCome place due mender Whole = mender.stage ≡ stage.Over
HasCome place due mender (Fails fault) = mender.stage ≡ stage.Over
