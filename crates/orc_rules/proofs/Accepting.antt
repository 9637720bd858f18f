-- What a device runs it accepts.
use Rattle.std.proofs.Common.{ℕ, ◌-◌, ◌≡◌, Bool, true, false, not, ◌&&◌, ◌||◌, nat_eq, nat_lt, Option, Some, None, refl, sym, ◌∙◌, ap, cond}
use Rattle.orc_device.specs.declared.op.Op.{Op}
use Rattle.orc_device.specs.Nodes.{DeviceKind, NodeState, PendingCommit, op_refusal, effect, kept_by, reverted_by, ticked, ticked_by, restarted, is_pending, is_locked_by_other, is_pending_under}
use Rattle.orc_device.specs.declared.op.Op.TheVariants.{CommitConfirmed, Commit, Confirm, Cancel}
use Rattle.orc_call.specs.declared.answer.Tag.TheVariants.{InUse, InvalidValue, OperationFailed}
use Rattle.orc_rules.specs.Facts.{SameTrees}
use Rattle.orc_rules.specs.Invariant.{RunsAccepted}
use Rattle.orc_rules.proofs.NodeLaws.{unrefused, allowed, effect_trees}
use Rattle.orc_rules.proofs.Resolving.{not_true}
use Rattle.orc_path.specs.Configurations.{Config}

module _ (k : DeviceKind) where
  accepted_goes : (n m : NodeState) → SameTrees n m → RunsAccepted k n → RunsAccepted k m
  accepted_goes n m h a = record {
    running = ap k.accepts h.running ∙ a.running;
    kept = ap (λ p. k.accepts (kept_by p m.running)) h.pending ∙ ap (λ r. k.accepts (kept_by n.pending r)) h.running ∙ a.kept;
  }

  pub commits_confirmed : (n : NodeState) (s t seconds : ℕ) → op_refusal k n s (CommitConfirmed t seconds) ≡ None → k.accepts n.candidate ≡ true
  commits_confirmed n s t seconds h =
      not_true _ (unrefused (not (k.accepts n.candidate)) OperationFailed None
      (unrefused (nat_eq seconds 0) InvalidValue _ (unrefused (is_locked_by_other n s || (is_pending n.pending && not (is_pending_under n.pending t))) InUse _ (allowed k n s (CommitConfirmed t seconds) h)).1).1).0

  commits : (n : NodeState) (s : ℕ) → op_refusal k n s Commit ≡ None → k.accepts n.candidate ≡ true
  commits n s h = not_true _ (unrefused (not (k.accepts n.candidate)) OperationFailed None (unrefused (is_locked_by_other n s || is_pending n.pending) InUse _ (allowed k n s Commit h)).1).0

  confirms : (n : NodeState) (s t : ℕ) → op_refusal k n s (Confirm t) ≡ None → k.accepts n.candidate ≡ true
  confirms n s t h = not_true _ (unrefused (not (k.accepts n.candidate)) OperationFailed None
      (unrefused (not (is_pending_under n.pending t)) InvalidValue _ (unrefused (is_locked_by_other n s) InUse _ (allowed k n s (Confirm t) h)).1).1).0

  none_kept : (p : Option (PendingCommit)) (r : Config) → is_pending p ≡ false → kept_by p r ≡ r
  none_kept None r e = refl
  none_kept (Some x) r e = cc

  neither : (a b : Bool) → (a || b) ≡ false → b ≡ false
  neither true b h = cc
  neither false b h = h

  -- every operation keeps it
  pub effect_accepted : (n : NodeState) (s : ℕ) (op : Op) → op_refusal k n s op ≡ None → RunsAccepted k n → RunsAccepted k (effect k n s op)
  effect_accepted n s (CommitConfirmed t seconds) h a = record { running = commits_confirmed n s t seconds h; kept = a.kept }
  effect_accepted n s Commit h a = record {
    running = commits n s h;
    kept = ap k.accepts (none_kept n.pending n.candidate (neither (is_locked_by_other n s) _ (unrefused (is_locked_by_other n s || is_pending n.pending) InUse _ (allowed k n s Commit h)).0)) ∙ commits n s h;
  }
  effect_accepted n s (Confirm t) h a = record { running = confirms n s t h; kept = confirms n s t h }
  effect_accepted n s (Cancel t) h a = record { running = a.kept; kept = a.kept }
  effect_accepted n s op h a = accepted_goes n (effect k n s op) (effect_trees k n s op refl) a

  pub reverted_accepted : (n : NodeState) (p : Option (PendingCommit)) → n.pending ≡ p → RunsAccepted k n → RunsAccepted k (reverted_by n p)
  reverted_accepted n None e a = a
  reverted_accepted n (Some p) e a =
      let h : k.accepts p.kept ≡ true = ap (λ q. k.accepts (kept_by q n.running)) (sym e) ∙ a.kept in
      record { running = h; kept = h }

  pub ticked_accepted : (n : NodeState) (seconds : ℕ) → RunsAccepted k n → RunsAccepted k (ticked n seconds)
  ticked_accepted n seconds a = go n.pending refl
    where
      by : (p : PendingCommit) → n.pending ≡ Some p → (b : Bool) → RunsAccepted k (cond b (record n { pending = Some (record p { left = p.left - seconds }) }) (reverted_by n (Some p)))
      by p e true = record { running = a.running; kept = ap (λ q. k.accepts (kept_by q n.running)) (sym e) ∙ a.kept }
      by p e false = reverted_accepted n (Some p) e a

      go : (q : Option (PendingCommit)) → n.pending ≡ q → RunsAccepted k (ticked_by n seconds q)
      go None e = a
      go (Some p) e = by p e (nat_lt seconds p.left)

  pub restarted_accepted : (n : NodeState) → RunsAccepted k n → RunsAccepted k (restarted n)
  restarted_accepted n a = let b = reverted_accepted n n.pending refl a in record { running = b.running; kept = b.kept }
