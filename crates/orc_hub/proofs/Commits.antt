-- A transaction whose decision is due is committed, or given up: said of the hub before.
use Rattle.std.proofs.Common.{◌≡◌, ◌⊎◌, ⊎_elim, inl, inr, ℕ, ◌+◌, false, true, ◌||◌, List, [], ◌∷◌, ◌++◌, None, length, refl, sym, ap, subst, ◌∙◌, arith}
use Rattle.std.specs.declared.result.Result.TheVariants.{Ok, Err}
use Rattle.std.proofs.lemmas.List.{length-append}
use Rattle.orc_call.specs.Answers.{HoldsText}
use Rattle.orc_call.specs.declared.answer.Answer.{Answer}
use Rattle.orc_call.specs.declared.answer.Answer.TheVariants as answer
use Rattle.orc_disk.specs.Meanings.{DiskMeaning}
use Rattle.orc_rules.specs.Due.{is_decision_due, is_entry_due}
use Rattle.orc_rules.specs.Transactions.{is_settling}
use Rattle.orc_rules.specs.Verdicts.{verdict}
use Rattle.orc_rules.specs.declared.duty.Duty.{Duty}
use Rattle.orc_rules.specs.declared.transaction.Transaction.{Transaction}
use Rattle.orc_state.specs.Commits.{IsCommitted}
use Rattle.orc_state.specs.States.{State}
use Rattle.orc_hub_parts.specs.Askers.{named_at}
use Rattle.orc_hub.specs.Decisions.{CommitsOne, GivesUp, GivesUpFor, WritesAbort, WritesDecide, asker_name}
use Rattle.orc_hub.specs.declared.hub.Decided.{Decided}
use Rattle.orc_hub.specs.declared.hub.Hub.{Hub}
use Rattle.orc_hub.proofs.Plainly.{verdict_plain}

-- where it isn't to be settled, its decision is due
pub decision_due : (duties : List Duty) (it : Transaction) → is_settling it.phase ≡ false → is_entry_due duties it ≡ true → is_decision_due duties it ≡ true
decision_due duties it going due = sym (ap (λ b. b || is_decision_due duties it) going) ∙ due

module _ {D : Type 0} (disk : DiskMeaning D) (hub : Hub D) (it : Transaction) (named : named_at hub.askers it.asker ≡ asker_name it) where
  pub committed : verdict hub.duties it.t it.plan.held.devices ≡ None → (behind : State) (n : ℕ) (between : Hub D) (result : Decided) (new : Hub D)
      → between ≡ record hub { state = behind } → IsCommitted hub.decls hub.state it.call n behind
      → WritesDecide disk between it.t it.asker (named_at between.askers it.asker) n result new → CommitsOne disk hub it result new
  committed prepared behind n between result new is c w =
      let more : length (hub.state.history ++ it.call ∷ []) ≡ length hub.state.history + 1 = simp length-append (omega arith) in
      let count : n ≡ length hub.state.history + 1 = c.last ∙ ap length c.history ∙ more in
      record {
        prepared = prepared;
        behind = behind;
        committed = subst (λ (m : ℕ). IsCommitted hub.decls hub.state it.call m behind) count c;
        written = subst (λ (m : ℕ). WritesDecide disk (record hub { state = behind }) it.t it.asker (asker_name it) m result new) count
            (subst (λ (name : List ℕ × ℕ). WritesDecide disk (record hub { state = behind }) it.t it.asker name n result new) named
            (subst (λ (h : Hub D). WritesDecide disk h it.t it.asker (named_at h.askers it.asker) n result new) is w));
      }

  pub given_up : (given : Answer) (between : Hub D) (result : Decided) (new : Hub D) → between ≡ hub → GivesUpFor disk hub it given
      → WritesAbort disk between it.t it.asker (named_at between.askers it.asker) given result new
      ⊎ (HoldsText given × WritesAbort disk between it.t it.asker (named_at between.askers it.asker) answer.Memory result new)
      → GivesUp disk hub it result new
  given_up given between result new is cause (inl w) = record { given = given; cause = cause; written = back given w }
    where
      back : (a : Answer) → WritesAbort disk between it.t it.asker (named_at between.askers it.asker) a result new → WritesAbort disk hub it.t it.asker (asker_name it) a result new
      back a v = subst (λ (name : List ℕ × ℕ). WritesAbort disk hub it.t it.asker name a result new) named
          (subst (λ (h : Hub D). WritesAbort disk h it.t it.asker (named_at h.askers it.asker) a result new) is v)
  given_up given between result new is cause (inr w) = record {
    given = answer.Memory;
    cause = ⊎_elim (λ said. absurd (verdict_plain hub.duties it.t it.plan.held.devices given said w.0)) (λ prepared. inr (prepared.0, inl refl)) cause;
    written = back answer.Memory w.1;
  }
    where
      back : (a : Answer) → WritesAbort disk between it.t it.asker (named_at between.askers it.asker) a result new → WritesAbort disk hub it.t it.asker (asker_name it) a result new
      back a v = subst (λ (name : List ℕ × ℕ). WritesAbort disk hub it.t it.asker name a result new) named
          (subst (λ (h : Hub D). WritesAbort disk h it.t it.asker (named_at h.askers it.asker) a result new) is v)
