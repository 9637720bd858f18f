-- Whatever happens to the operation that is due, the invariant is kept.
use Rattle.std.proofs.Common.{ℕ, ◌≡◌, Option, Some, None, List, [], ◌∷◌, refl}
use Rattle.orc_device.specs.Nodes.{DeviceKind}
use Rattle.orc_device.specs.Links.{Way}
use Rattle.orc_rules.specs.Cells.{MayHappen}
use Rattle.orc_rules.specs.Works.{resolve}
use Rattle.orc_worker.specs.declared.stage.Stage.TheVariants.{Opening, LockingRunning, LockingCandidate, Editing, Validating, Committing, Refusing, Prepared, Lost, Confirming, Cancelling, Reopening, Recancelling, UnlockingCandidate, UnlockingRunning, Closing, Over}
use Rattle.orc_rules.specs.Works.Mend.{Mopening, Mresolving, MlockingRunning, MlockingCandidate, Mediting, Mvalidating, Mcommitting, MunlockingCandidate, MunlockingRunning, Mclosing}
use Rattle.orc_rules.specs.Cells.{Cell, DeviceRole, performed, mended, due_op, PossibleDue}
use Rattle.orc_rules.specs.Cells.DeviceRole.{Free, Works, Mends}
use Rattle.orc_rules.specs.Invariant.{Invariant, RoleFacts, IsLawful}
use Rattle.orc_rules.proofs.Working.{opening, locking_running, locking_candidate, editing, validating, committing}
use Rattle.orc_rules.proofs.Resolving.{refusing, confirming, cancelling, reopening, recancelling, unlocking_candidate, unlocking_running, closing}
use Rattle.orc_rules.proofs.Mending.{mopening, reading, resolving_confirm, resolving_cancel, mlocking_running, mlocking_candidate, mediting, mvalidating, mcommitting, munlocking_candidate, munlocking_running, mclosing}
use Rattle.orc_path.specs.Configurations.{Config}

module _ {Call : Type 0} (k : DeviceKind) (over : List Call → Config) (lawful : IsLawful k over) (c : Cell Call) (inv : Invariant over c) where
  pub performed_role : (r : DeviceRole Call) → RoleFacts over c r → (way : Way) → PossibleDue k c.node c.session (due_op k over c r) way → Invariant over (performed k over c r way)
  performed_role Free f way p = inv
  performed_role (Works o Opening) f way p = opening k over lawful c o inv f.0 way p f.1
  performed_role (Works o LockingRunning) f way p = locking_running k over lawful c o inv f.0 way p f.1
  performed_role (Works o LockingCandidate) f way p = locking_candidate k over lawful c o inv f.0 way p f.1
  performed_role (Works o Editing) f way p = editing k over lawful c o inv f.0 way p f.1
  performed_role (Works o Validating) f way p = validating k over lawful c o inv f.0 way p f.1
  performed_role (Works o Committing) f way p = committing k over lawful c o inv f.0 way p f.1
  performed_role (Works o Refusing) f way p = refusing k over c o inv f.0 way p f.1
  performed_role (Works o Prepared) f way p = inv
  performed_role (Works o Lost) f way p = inv
  performed_role (Works o Confirming) f way p = confirming k over c o inv f.0 way p f.1
  performed_role (Works o Cancelling) f way p = cancelling k over c o inv f.0 way p f.1
  performed_role (Works o Reopening) f way p = reopening k over c o inv f.0 way p f.1
  performed_role (Works o Recancelling) f way p = recancelling k over c o inv f.0 way p f.1
  performed_role (Works o UnlockingCandidate) f way p = unlocking_candidate k over c o inv f.0 way p f.1
  performed_role (Works o UnlockingRunning) f way p = unlocking_running k over c o inv f.0 way p f.1
  performed_role (Works o Closing) f way p = closing k over c o inv f.0 way p f.1
  performed_role (Works o Over) f way p = inv
  performed_role (Mends (Mopening ts)) f way p = mopening k over lawful c inv f.0 ts way p f.1
  performed_role (Mends (Mresolving [])) f way p = reading k over lawful c inv f.0 way p f.1
  performed_role (Mends (Mresolving (t ∷ ts))) f way p = go (c.place t) refl p
    where
      go : (q : Option ℕ) → c.place t ≡ q → MayHappen k c.node c.session (resolve q t) way → Invariant over (mended k (over c.history) c (Mresolving (t ∷ ts)) (resolve q t) way)
      go None e p' = resolving_cancel k over lawful c inv f.0 t ts way p' f.1
      go (Some n) e p' = resolving_confirm k over lawful c inv f.0 t n ts e way p' f.1
  performed_role (Mends (MlockingRunning read)) f way p = mlocking_running k over lawful c inv f.0 read way p f.1
  performed_role (Mends (MlockingCandidate read)) f way p = mlocking_candidate k over lawful c inv f.0 read way p f.1
  performed_role (Mends (Mediting read)) f way p = mediting k over lawful c inv f.0 read way p f.1
  performed_role (Mends Mvalidating) f way p = mvalidating k over lawful c inv f.0 way p f.1
  performed_role (Mends Mcommitting) f way p = mcommitting k over lawful c inv f.0 way p f.1
  performed_role (Mends MunlockingCandidate) f way p = munlocking_candidate k over lawful c inv f.0 way p f.1
  performed_role (Mends MunlockingRunning) f way p = munlocking_running k over lawful c inv f.0 way p f.1
  performed_role (Mends Mclosing) f way p = mclosing k over lawful c inv f.0 way p f.1

  -- an operation that is due is performed
  pub performed_keeps : (way : Way) → PossibleDue k c.node c.session (due_op k over c c.role) way → Invariant over (performed k over c c.role way)
  performed_keeps way p = performed_role c.role inv.role way p
