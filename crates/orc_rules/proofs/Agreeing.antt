-- A mender does what a reconciliation of the device asks.
use Rattle.std.proofs.Common.{ℕ, ◌≡◌, Bool, true, false, Option, Some, None, List, [], ◌∷◌, refl, ap, cond}
use Rattle.std.specs.Prelude.{is_some}
use Rattle.orc_path.specs.Configurations.{Config}
use Rattle.orc_device.specs.Operations.{is_ok, is_fault, is_resolved}
use Rattle.orc_device.specs.declared.reply.Reply.{Reply}
use Rattle.orc_device.specs.declared.reply.Reply.TheVariants as reply
use Rattle.orc_device.specs.Nodes.{DeviceKind}
use Rattle.orc_recover.specs.Menders as real
use Rattle.orc_recover.specs.Menders.{MenderState}
use Rattle.orc_recover.specs.declared.stage.MendStage.{MendStage}
use Rattle.orc_recover.specs.declared.stage.MendStage.TheVariants as stage
use Rattle.orc_rules.specs.Works.{Mend, resolve, mend_operation}
use Rattle.orc_rules.specs.Works.Mend.{Mopening, Mresolving, MlockingRunning, MlockingCandidate, Mediting, Mvalidating, Mcommitting, MunlockingCandidate, MunlockingRunning, Mclosing}
use Rattle.orc_rules.specs.Cells.{mended_if, mender_after}
use Rattle.orc_rules.specs.Cells.Mended.{Goes, Whole, Fails}
use Rattle.orc_rules.specs.Agreement.{with_decisions, mender_of, HasCome}

resolves : (place : ℕ → Option ℕ) (t : ℕ) (o : Option ℕ) → place t ≡ o → real.resolving_op (t, is_some o) ≡ resolve o t
resolves place t None e = refl
resolves place t (Some n) e = refl

pub orders_agree : (k : DeviceKind) (place : ℕ → Option ℕ) (due : Config) (m : Mend) → real.mender_order k.between (mender_of place due m) ≡ Some (mend_operation k place due m)
orders_agree k place due (Mopening ts) = refl
orders_agree k place due (Mresolving []) = refl
orders_agree k place due (Mresolving (t ∷ ts)) = ap Some (resolves place t (place t) refl)
orders_agree k place due (MlockingRunning read) = refl
orders_agree k place due (MlockingCandidate read) = refl
orders_agree k place due (Mediting read) = refl
orders_agree k place due Mvalidating = refl
orders_agree k place due Mcommitting = refl
orders_agree k place due MunlockingCandidate = refl
orders_agree k place due MunlockingRunning = refl
orders_agree k place due Mclosing = refl

module _ (k : DeviceKind) (place : ℕ → Option ℕ) (due : Config) where
  abbrev Comes : Mend → Reply → Type 0
  Comes m r = HasCome place due (real.mender_took k.same (mender_of place due m) r) (mender_after k due m r)

  steps : (b : Bool) (r : Reply) (m : Mend) (here : MenderState) (next : MendStage) → record here { stage = next } ≡ mender_of place due m →
      HasCome place due (record here { stage = real.goes_on b next }) (mended_if b r m)
  steps true r m here next e = e
  steps false r m here next e = refl

  resolved : (b : Bool) (r : Reply) (t : ℕ) (ts : List ℕ) →
      HasCome place due (real.resolved_one (mender_of place due (Mresolving (t ∷ ts))) (with_decisions place ts) b) (mended_if b r (Mresolving ts))
  resolved true r t ts = refl
  resolved false r t ts = refl

  read_by : (r : Reply) → Comes (Mresolving []) r
  read_by reply.Ok = refl
  read_by (reply.Refused tag) = refl
  read_by reply.Fault = refl
  read_by reply.Memory = refl
  read_by (reply.Tree running) = go (k.same running due)
    where
      go : (b : Bool) → HasCome place due (record { left = []; due = due; stage = cond b stage.Closing (stage.LockingRunning running) }) (cond b (Goes Mclosing) (Goes (MlockingRunning running)))
      go true = refl
      go false = refl

  closes : (b f : Bool) → HasCome place due (record { left = []; due = due; stage = stage.Over }) (cond b Whole (Fails f))
  closes true f = refl
  closes false f = refl

  pub takes_agree : (m : Mend) (r : Reply) → Comes m r
  takes_agree (Mopening ts) r = steps (is_ok r) r (Mresolving ts) (mender_of place due (Mopening ts)) stage.Resolving refl
  takes_agree (Mresolving []) r = read_by r
  takes_agree (Mresolving (t ∷ ts)) r = resolved (is_resolved r) r t ts
  takes_agree (MlockingRunning read) r = steps (is_ok r) r (MlockingCandidate read) (mender_of place due (MlockingRunning read)) (stage.LockingCandidate read) refl
  takes_agree (MlockingCandidate read) r = steps (is_ok r) r (Mediting read) (mender_of place due (MlockingCandidate read)) (stage.Editing read) refl
  takes_agree (Mediting read) r = steps (is_ok r) r Mvalidating (mender_of place due (Mediting read)) stage.Validating refl
  takes_agree Mvalidating r = steps (is_ok r) r Mcommitting (mender_of place due Mvalidating) stage.Committing refl
  takes_agree Mcommitting r = steps (is_ok r) r MunlockingCandidate (mender_of place due Mcommitting) stage.UnlockingCandidate refl
  takes_agree MunlockingCandidate r = steps (is_ok r) r MunlockingRunning (mender_of place due MunlockingCandidate) stage.UnlockingRunning refl
  takes_agree MunlockingRunning r = steps (is_ok r) r Mclosing (mender_of place due MunlockingRunning) stage.Closing refl
  takes_agree Mclosing r = closes (is_ok r) (is_fault r)
