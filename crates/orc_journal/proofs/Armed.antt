-- An append is stopped where an operation among its four is armed, and nowhere else.
use Rattle.std.specs.Prelude.{◌≡◌, ◌⊎◌, ℕ, ◌+◌, ◌<◌, ◌≤◌, List}
use Rattle.std.proofs.Common.{arith, refl, inl, inr, ⊎_elim}
use Rattle.orc_disk.specs.Meanings.{DiskMeaning}
use Rattle.orc_journal.specs.declared.entry.Entry.{Entry}
use Rattle.orc_journal.specs.Views.{JournalView}
use Rattle.orc_journal.specs.Outcomes.{Appends, FailsAppend, ops_to_append}
use Rattle.orc_journal.specs.declared.outcome.Appended.{Appended}
use Rattle.orc_journal.specs.declared.outcome.Appended.TheVariants.{Done, Stopped, Failed, Full, Memory}

module _ {D : Type 0} (disk : DiskMeaning D) (decls : List ℕ) (old : JournalView D) (entry : Entry) where
  pub only : (outcome : Appended) (new : JournalView D) → Appends disk decls old entry outcome new → outcome ≡ Stopped → (1 ≤ old.armed) × (old.armed ≤ ops_to_append)
  only Done new is stopped = absurd cc
  only Stopped new is stopped = (is.one, is.among)
  only Failed new is stopped = absurd cc
  only (Full len) new is stopped = absurd cc
  only Memory new is stopped = absurd cc

  pub always : (outcome : Appended) (new : JournalView D) → Appends disk decls old entry outcome new → 1 ≤ old.armed → old.armed ≤ ops_to_append
      → (outcome ≡ Stopped) ⊎ ((fails : FailsAppend disk decls old entry new) × (fails.done + 1 < old.armed)) ⊎ (new ≡ old)
  always Done new is one among = absurd (⊎_elim (λ none. omega (arith, none, one)) (λ later. omega (arith, later, among)) is.nearer.later)
  always Stopped new is one among = inl refl
  always Failed new is one among = inr (inl (is, ⊎_elim (λ none. absurd (omega (arith, none, one))) (λ later. later) is.nearer.later))
  always (Full len) new is one among = inr (inr is.same)
  always Memory new is one among = inr (inr is.1)
