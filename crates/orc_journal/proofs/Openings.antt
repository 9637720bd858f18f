-- What is known of a disk whose journal was opened, from how it was read and what was then done.
use Rattle.std.specs.Prelude.{◌≡◌, ◌↔◌, ℕ, ◌+◌, ◌≤◌, Bool, true, false, List, [], length, All, IsTrue}
use Rattle.std.proofs.Common.{inr, refl, sym, subst, arith}
use Rattle.orc_disk.specs.Rows.{Course, joined}
use Rattle.orc_disk.specs.Meanings.{DiskMeaning}
use Rattle.orc_disk.specs.Course.{Counted}
use Rattle.orc_disk.specs.Moments.{Unchanged}
use Rattle.orc_journal.specs.Entries.{IsWritable}
use Rattle.orc_journal.specs.Orders.{is_ordered}
use Rattle.orc_journal.specs.Journals.{header}
use Rattle.orc_journal.specs.Hearing.{Heard, IsSynced, syncs}
use Rattle.orc_journal.specs.Operations.{LedBy}
use Rattle.orc_journal.specs.Opening.{AreEntriesOf, LeavesOpening, HasRefused}
use Rattle.orc_journal.specs.inside.ReadFaults.{IsDiskFault, IsFileFault}
use Rattle.orc_journal.specs.inside.Steps.{FailsAfter, IsUntouched, HasLoaded, HasGivenUp, IsStored, IsOpenedAs}
use Rattle.orc_journal.specs.declared.entry.Entry.{Entry}
use Rattle.orc_journal.specs.declared.fault.OpenFault.{OpenFault}
use Rattle.orc_journal.specs.declared.fault.OpenFault.TheVariants.{Foreign, NotJournal, DiskFault, Memory, Full, Damaged}
use Rattle.orc_journal.proofs.Causes.{IsOpenFault-heard}
use Rattle.orc_journal.proofs.Leaving.{LeavesOpening-later}
use Rattle.orc_journal.proofs.Operations.{fails_weaker, fails_later, few_syncs, synced_more}
use Rattle.orc_journal.proofs.Synced.{since_synced, Heard-later}

module _ {D : Type 0} (disk : DiskMeaning D) (decls : List ℕ) (limit : ℕ) where
  -- it was not read
  pub refused_unread : (old new : D) (fault : OpenFault) → IsDiskFault disk old new fault → (fault ≡ Memory → HasGivenUp disk old new)
      → LeavesOpening disk decls old new → FailsAfter disk 2 2 old new fault → HasRefused disk decls limit old new fault
  refused_unread old new (Foreign at) cause given leaves fails = absurd cause
  refused_unread old new NotJournal cause given leaves fails = absurd cause
  refused_unread old new DiskFault cause given leaves fails = record {
    synced = old;
    looked = λ other. absurd (other refl);
    cause = cause;
    kept = λ other. absurd (other refl);
    leaves = leaves;
    course = λ other. absurd (other refl);
    failed = λ is. fails_weaker disk 2 3 2 2 old new (omega arith) (omega arith) (fails is);
  }
  refused_unread old new Memory cause given leaves fails =
      let up = given refl in
      record {
        synced = up.synced;
        looked = λ other. inr up.looked;
        cause = tt;
        kept = λ other. up.behind;
        leaves = leaves;
        course = λ other. up.course;
        failed = λ is. absurd cc;
      }
  refused_unread old new (Full len) cause given leaves fails = absurd cause
  refused_unread old new (Damaged at) cause given leaves fails = absurd cause

  module _ (only_now : (at : D) (file : List ℕ) → disk.left_since at (disk.moment at) file → disk.may_leave at file)
      (goes_on : (first second : Course) (a b c : D) → disk.leads first a b → disk.leads second b c → disk.leads (joined first second) a c)
      (old mid new : D) (file : List ℕ) (loaded : HasLoaded disk old mid file) (behind : Unchanged disk old mid)
      (leaves : LeavesOpening disk decls mid new) where
    -- how it was looked at, with so many writes and syncs
    abbrev Looked : D → Type 0
    Looked at = (looked : IsSynced disk old loaded.synced at) × LedBy disk (syncs disk looked) old at

    -- it was read, and then refused
    pub refused_read : ((course : Course) (a b : D) → disk.leads course a b → Counted course.failed (disk.faults a) (disk.faults b))
        → (fault : OpenFault) → IsFileFault disk mid new file decls limit fault → IsUntouched disk mid new fault → FailsAfter disk 2 0 mid new fault
        → HasRefused disk decls limit old new fault
    refused_read counts fault cause untouched fails =
        let made = syncs disk loaded.looked in
        let counted = counts (record { operations = made; failed = false; gave = loaded.course.0 }) old mid loaded.course.1 in
        let looked : (fault ≡ DiskFault → ⊥) → Looked new = λ other. subst Looked (sym (untouched other)) (loaded.looked, loaded.course) in
        record {
          synced = loaded.synced;
          looked = λ other. (looked other).0;
          cause = IsOpenFault-heard disk old loaded.synced mid new file decls limit counted.later fault
              (λ other. subst (λ (d : D). Heard disk loaded.synced d file) (sym (untouched other)) loaded.heard) cause;
          kept = λ other. subst (λ (d : D). Unchanged disk loaded.synced d) (sym (untouched other)) loaded.behind;
          leaves = LeavesOpening-later disk only_now decls old mid new behind leaves;
          course = λ other. (looked other).1;
          failed = λ is.
              let few = few_syncs disk old loaded.synced mid loaded.looked in
              fails_weaker disk (made + 2) 3 (made + 0) 2 old new (omega (arith, few)) (omega (arith, few))
              (fails_later disk goes_on made 2 0 old mid new loaded.course (fails is));
        }

    -- it was read, and opened
    pub opened_read : (entries : List Entry) (len : ℕ) (fresh : Bool) → IsStored disk mid new file decls entries len → AreEntriesOf file decls entries
        → ((fresh ≡ true) ↔ (file ≡ [])) → (file ≡ [] → length (header decls) + 1 ≤ limit) → All IsWritable entries → IsTrue (is_ordered entries)
        → IsOpenedAs disk decls limit old new entries len fresh
    opened_read entries len fresh stored read empty room writable ordered =
        let more = synced_more disk goes_on old loaded.synced mid new stored.puts loaded.looked loaded.course stored.course in
        record {
          synced = loaded.synced;
          looked = more.0;
          file = file;
          heard = Heard-later disk goes_on loaded.synced mid new file loaded.heard (stored.puts, stored.course);
          read = read;
          was_empty = empty;
          room = room;
          gated = stored.gated;
          becomes = stored.becomes;
          durable = stored.durable;
          counted = stored.counted;
          writable = writable;
          ordered = ordered;
          since = since_synced disk only_now decls old loaded.synced mid new loaded.looked loaded.behind leaves;
          leaves = LeavesOpening-later disk only_now decls old mid new behind leaves;
          puts = stored.puts;
          put_by = stored.put_by;
          course = more.1;
        }
