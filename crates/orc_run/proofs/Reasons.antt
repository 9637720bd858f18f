-- Why a journal isn't opened, said of the disk inside the one that can be stopped.
use Rattle.std.specs.Prelude.{◌≡◌, ℕ, ◌≤◌, Bool, true, false, ◌||◌, List, IfSome}
use Rattle.std.proofs.Common.{refl, sym, subst, ◌∙◌, arith, inl, ⊎_elim}
use Rattle.std.proofs.lemmas.Option.{IfSome_then}
use Rattle.orc_disk.specs.Rows.{Course, joined, row}
use Rattle.orc_disk.specs.Meanings.{DiskMeaning}
use Rattle.orc_disk.specs.Course.{Counted}
use Rattle.orc_disk.specs.Stops.{Stopping, Led, inside}
use Rattle.orc_journal.specs.Journals.{IsForeign, IsNotJournal, IsDamaged}
use Rattle.orc_journal.specs.Hearing.{Heard, IsSynced}
use Rattle.orc_journal.specs.Operations.{LedBy, FailsBefore}
use Rattle.orc_journal.specs.Opening.{HasRefused}
use Rattle.orc_journal.specs.declared.fault.OpenFault.{OpenFault}
use Rattle.orc_journal.specs.declared.fault.OpenFault.TheVariants.{Foreign, NotJournal, DiskFault, Memory, Full, Damaged}
use Rattle.orc_journal.specs.Views.{unstopped}
use Rattle.orc_decls.specs.declared.declarations.Decls.{Decls}
use Rattle.orc_run.specs.Opening.{IsRefusedBecause, stop_of}
use Rattle.orc_run.specs.declared.opening.TheConstants.{LARGEST_JOURNAL}
use Rattle.orc_run.specs.declared.stop.Stop.{Stop}

or_true : (a b : Bool) → b ≡ true → (a || b) ≡ true
or_true true b h = refl
or_true false b h = h

module _ {D : Type 0} (disk : DiskMeaning D) where
  -- what it gave from its first sync on is what it held
  pub told : (old : D) (synced last : Stopping D) (file : List ℕ) → IsSynced (inside disk) (unstopped old) synced last
      → Heard (inside disk) synced last file → IfSome (disk.content old) (λ held. file ≡ held)
  told old synced last file looked heard =
      ⊎_elim
      (λ was. subst (λ (s : Stopping D). IfSome (disk.content s.inner) (λ held. file ≡ held)) was.at_once heard.told)
      (λ was. subst (λ c. IfSome c (λ held. file ≡ held)) was.unchanged.same heard.told)
      looked

  module _ (goes_on : (first second : Course) (a b c : D) → disk.leads first a b → disk.leads second b c → disk.leads (joined first second) a c)
      (counts : (course : Course) (a b : D) → disk.leads course a b → Counted course.failed (disk.faults a) (disk.faults b)) where
    -- where no stop is armed, an operation that failed failed in the disk inside
    failed_inside : (operations : ℕ) (old new : Stopping D) (led : Led disk (row operations true) old new) → old.stopped ≡ false → old.op ≡ 0
        → led.inner_course.failed ≡ true
    failed_inside operations old new led running none =
        ⊎_elim (λ is. is) (λ stopped. absurd (omega (arith, (led.comes running stopped.0).0, none))) (led.cause refl)

    -- what was counted up to an operation that failed
    failed_counts : (old : D) (new : Stopping D) → FailsBefore (inside disk) 3 2 (unstopped old) new → Counted true (disk.faults old) (disk.faults new.inner)
    failed_counts old new fails =
        let ran = fails.ran.1 in
        let running : fails.last.stopped ≡ false = ran.runs refl refl in
        let none : fails.last.op ≡ 0 = omega (arith, (ran.passes refl running).0) in
        let failed = failed_inside fails.operations fails.last new fails.failed running none in
        subst (λ (b : Bool). Counted b (disk.faults old) (disk.faults new.inner)) (or_true ran.inner_course.failed fails.failed.inner_course.failed failed)
        (counts (joined ran.inner_course fails.failed.inner_course) old new.inner
        (goes_on ran.inner_course fails.failed.inner_course old fails.last.inner new.inner ran.inner fails.failed.inner))

    pub led_later : (operations : ℕ) (old : D) (new : Stopping D) → LedBy (inside disk) operations (unstopped old) new
        → disk.faults old ≤ disk.faults new.inner
    led_later operations old new led = (counts led.1.inner_course old new.inner led.1.inner).later

    module _ (text : List ℕ) (limit : ℕ) (old : D) (last : Stopping D) where
      later_by : (fault : OpenFault) → HasRefused (inside disk) text limit (unstopped old) last fault
          → disk.faults old ≤ disk.faults last.inner
      later_by (Foreign at) refused = led_later _ old last (refused.course (λ is. cc is))
      later_by NotJournal refused = led_later _ old last (refused.course (λ is. cc is))
      later_by DiskFault refused = (failed_counts old last (refused.failed refl)).later
      later_by Memory refused = led_later _ old last (refused.course (λ is. cc is))
      later_by (Full len) refused = led_later _ old last (refused.course (λ is. cc is))
      later_by (Damaged at) refused = led_later _ old last (refused.course (λ is. cc is))

    because_of : (decls : Decls) (old : D) (last : Stopping D) (fault : OpenFault)
        → HasRefused (inside disk) decls.text LARGEST_JOURNAL (unstopped old) last fault
        → IsRefusedBecause disk decls old last.inner (stop_of fault)
    because_of decls old last (Foreign at) refused =
        IfSome_then (disk.content old) (told old refused.synced last refused.cause.0 (refused.looked (λ is. cc is)) refused.cause.1)
        (λ held same. subst (λ (f : List ℕ). IsForeign f decls.text at) same refused.cause.2)
    because_of decls old last NotJournal refused =
        IfSome_then (disk.content old) (told old refused.synced last refused.cause.0 (refused.looked (λ is. cc is)) refused.cause.1)
        (λ held same. subst (λ (f : List ℕ). IsNotJournal f) same refused.cause.2)
    because_of decls old last DiskFault refused = (failed_counts old last (refused.failed refl)).rose refl
    because_of decls old last Memory refused = tt
    because_of decls old last (Full len) refused =
        let heard = refused.cause.2 in (
          refused.cause.0,
          refused.cause.1,
          IfSome_then (disk.content old) (told old refused.synced last heard.0 (refused.looked (λ is. cc is)) heard.1)
              (λ held same. sym same ∙ heard.2),
        )
    because_of decls old last (Damaged at) refused =
        IfSome_then (disk.content old) (told old refused.synced last refused.cause.0 (refused.looked (λ is. cc is)) refused.cause.1)
        (λ held same. inl (subst (λ (f : List ℕ). IsDamaged f decls.text at) same refused.cause.2))

    module _ (decls : Decls) (old : D) (text : List ℕ) (is : text ≡ decls.text) (last : Stopping D) (new : D) (fault : OpenFault) (disk_is : new ≡ last.inner)
        (refused : HasRefused (inside disk) text LARGEST_JOURNAL (unstopped old) last fault) where
      pub refused_because : (end : Stop) → end ≡ stop_of fault → IsRefusedBecause disk decls old new end
      refused_because end end_is =
          subst (λ (e : Stop). IsRefusedBecause disk decls old new e) (sym end_is)
          (subst (λ (d : D). IsRefusedBecause disk decls old d (stop_of fault)) (sym disk_is)
          (because_of decls old last fault (subst (λ (l : List ℕ). HasRefused (inside disk) l LARGEST_JOURNAL (unstopped old) last fault) is refused)))

      pub refused_later : disk.faults old ≤ disk.faults new
      refused_later = subst (λ (d : D). disk.faults old ≤ disk.faults d) (sym disk_is) (later_by text LARGEST_JOURNAL old last fault refused)
