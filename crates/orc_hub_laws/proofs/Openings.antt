-- What an opening on a disk that no stop came to was on the disk inside.
use Rattle.std.specs.Prelude.{◌≡◌, ◌⊎◌, ℕ, ◌+◌, Bool, true, false, List, [], ◌∷◌}
use Rattle.std.proofs.Common.{inl, inr, refl, sym, ap, subst, ◌∙◌}
use Rattle.orc_disk.specs.Course.{Hears}
use Rattle.orc_disk.specs.Meanings.{DiskMeaning}
use Rattle.orc_disk.specs.Moments.{LeavesOnly, Unchanged}
use Rattle.orc_disk.specs.Rows.{Course}
use Rattle.orc_disk.specs.Stops.{Led, Stopping, inside}
use Rattle.orc_journal.specs.Faults.{OfHeard}
use Rattle.orc_journal.specs.Hearing.{Heard, IsSynced, syncs}
use Rattle.orc_journal.specs.Opened.{Holds, OpenJournal}
use Rattle.orc_journal.specs.Opening.{HasOpened, LeavesOpening}
use Rattle.orc_journal.specs.declared.entry.Entry.{Entry}

-- the open journal, on the disk inside
abbrev pub journal_inside : {D : Type 0} → OpenJournal (Stopping D) → OpenJournal D
journal_inside journal = record {
  disk = journal.disk.inner;
  start = journal.start;
  len = journal.len;
  limit = journal.limit;
  fresh = journal.fresh;
  spent = journal.spent;
}

module _ {D : Type 0} (disk : DiskMeaning D) where
  led_inside : (course : Course) (old new : Stopping D) → course.failed ≡ false → old.stopped ≡ false → Led disk course old new → disk.leads course old.inner new.inner
  led_inside course old new fine running led =
      subst (λ (c : Course). disk.leads c old.inner new.inner) (led.whole running (led.runs fine running)) led.inner

  hears_inside : (reads : List (ℕ × List ℕ)) (old new : Stopping D) → old.stopped ≡ false → Hears (inside disk) false reads old new → Hears disk false reads old.inner new.inner
  hears_inside reads old new running (operations, led) =
      (operations, led_inside (record { operations = operations; failed = false; gave = reads }) old new refl running led)

  heard_inside : (old new : Stopping D) (file : List ℕ) → old.stopped ≡ false → Heard (inside disk) old new file → Heard disk old.inner new.inner file
  heard_inside old new file running heard = record {
    reads = heard.reads;
    pieces = heard.pieces;
    course = hears_inside _ old new running heard.course;
    told = heard.told;
  }

  unchanged_inside : (old new : Stopping D) → Unchanged (inside disk) old new → Unchanged disk old.inner new.inner
  unchanged_inside old new same = record {
    same = same.same;
    crash = same.crash;
    time = record { later = same.time.later; nothing_else = same.time.nothing_else; keeps = same.time.keeps };
  }

  leaves_inside : (old new : Stopping D) (P : List ℕ → Type 0) → LeavesOnly (inside disk) old new P → LeavesOnly disk old.inner new.inner P
  leaves_inside old new P leaves = record { later = leaves.later; each = leaves.each; earlier_rows = leaves.earlier_rows }

  -- the disk inside was synced too, by as many syncs
  synced_there : (old synced new : Stopping D) → old.stopped ≡ false → (looked : IsSynced (inside disk) old synced new)
      → (there : IsSynced disk old.inner synced.inner new.inner) × (syncs disk there ≡ syncs (inside disk) looked)
  synced_there old synced new running (inl was) = (
    inl (record {
      at_once = ap (λ (s : Stopping D). s.inner) was.at_once;
      empty = was.empty;
      looked = hears_inside _ old new running was.looked;
    }),
    refl,
  )
  synced_there old synced new running (inr was) = (
    inr (record {
      first = was.first;
      one = was.one;
      looked = led_inside (record { operations = 1; failed = false; gave = (0, was.first) ∷ [] }) old synced refl running was.looked;
      unchanged = unchanged_inside old synced was.unchanged;
      durable = was.durable;
    }),
    refl,
  )

  pub synced_inside : (old synced new : Stopping D) → old.stopped ≡ false → IsSynced (inside disk) old synced new → IsSynced disk old.inner synced.inner new.inner
  synced_inside old synced new running looked = (synced_there old synced new running looked).0

  -- the synced disk isn't stopped
  runs_synced : (old synced new : Stopping D) → old.stopped ≡ false → IsSynced (inside disk) old synced new → synced.stopped ≡ false
  runs_synced old synced new running (inl was) = ap (λ (s : Stopping D). s.stopped) was.at_once ∙ running
  runs_synced old synced new running (inr was) = was.looked.runs refl running

  -- what was heard was heard there
  pub of_heard_inside : (old synced new : Stopping D) (P : List ℕ → Type 0) → old.stopped ≡ false → IsSynced (inside disk) old synced new → OfHeard (inside disk) synced new P
      → OfHeard disk synced.inner new.inner P
  of_heard_inside old synced new P running looked (file, heard, so) =
      (file, heard_inside synced new file (runs_synced old synced new running looked) heard, so)

  -- the journal was opened there
  pub opened_inside : (text : List ℕ) (limit : ℕ) (old : Stopping D) (journal : OpenJournal (Stopping D)) (entries : List Entry) → old.stopped ≡ false
      → HasOpened (inside disk) text limit old journal entries → HasOpened disk text limit old.inner (journal_inside journal) entries
  opened_inside text limit old journal entries running has = record {
    synced = has.synced.inner;
    looked = (synced_there old has.synced journal.disk running has.looked).0;
    file = has.file;
    heard = heard_inside has.synced journal.disk has.file (runs_synced old has.synced journal.disk running has.looked) has.heard;
    read = has.read;
    fresh = has.fresh;
    room = has.room;
    becomes = has.becomes;
    holds = record {
      unspent = has.holds.unspent;
      start = has.holds.start;
      len = has.holds.len;
      limit = has.holds.limit;
      file = has.holds.file;
      durable = has.holds.durable;
    };
    limited = has.limited;
    writable = has.writable;
    ordered = has.ordered;
    since = leaves_inside has.synced journal.disk _ has.since;
    leaves = record {
      still_tells = has.leaves.still_tells;
      any_moment = leaves_inside old journal.disk _ has.leaves.any_moment;
      left = has.leaves.left;
    };
    puts = has.puts;
    put_by = has.put_by;
    course = subst (λ (n : ℕ). (gave : List (ℕ × List ℕ)) × disk.leads (record { operations = n; failed = false; gave = gave }) old.inner journal.disk.inner)
        (ap (λ (n : ℕ). n + has.puts) (sym (synced_there old has.synced journal.disk running has.looked).1))
        (has.course.0, led_inside _ old journal.disk refl running has.course.1);
  }
