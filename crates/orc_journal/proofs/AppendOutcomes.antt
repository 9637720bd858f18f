-- What the operations of a disk that stops another one were on the disk inside, as an append comes to its outcome.
use Rattle.std.specs.Prelude.{◌≡◌, ◌⊎◌, ℕ, ◌+◌, ◌-◌, ◌<◌, ◌≤◌, min, Bool, true, false, List, [], ◌∷◌, ◌++◌, take, Option, Some, None, IfSome}
use Rattle.std.specs.Option.{option_map}
use Rattle.std.proofs.Common.{arith, inl, inr, refl, sym, subst, ap, ◌∙◌, ⊎_elim}
use Rattle.std.proofs.lemmas.Bool.{cases_eq, cases_lt, false≢true}
use Rattle.std.proofs.lemmas.List.{take_all}
use Rattle.orc_disk.specs.Files.{written}
use Rattle.orc_text.specs.Counts.{capped}
use Rattle.orc_disk.specs.Rows.{Course, row, joined}
use Rattle.orc_disk.specs.Crashes.{LeavesAsRead}
use Rattle.orc_disk.specs.Course.{Counted}
use Rattle.orc_disk.specs.Meanings.{DiskMeaning}
use Rattle.orc_disk.specs.Stops.{Stopping, CutShort, Led, Reached, inside}
use Rattle.orc_disk.specs.laws.Stops.{Led-trans}
use Rattle.orc_disk.proofs.Courses.{FailsBehind-led, stopped_behind}
use Rattle.orc_journal.specs.Opened.{OpenJournal}
use Rattle.orc_journal.specs.Appends.{block_bytes, with_entry, IsTooLong, LeavesBeforeOrAfter, IsLeftBehind, HasAppended, HasFailed, PutsShort, opens_gate}
use Rattle.orc_journal.specs.Journals.{IsGated}
use Rattle.orc_journal.specs.declared.entry.Entry.{Entry}
use Rattle.orc_journal.proofs.Puts.{with_entry-done}
use Rattle.orc_journal.specs.Views.{journal_view, IsOpen}
use Rattle.orc_journal.specs.Outcomes.{ComesNearer, Did, LeavesOldOrNew, BecomesUntil, IsAppendedTo, IsStoppedAt, StopsAppend, FailsAppend, FindsNoRoom}
use Rattle.orc_journal.proofs.Until.{until_cut, until_closed, until_opened, written_nothing, sync_of_four}

-- what the file is where the armed operation came, by what is left of the append and by what the opening of the gate made of it
stopped_file : (decls : List ℕ) (entries : List Entry) (entry : Entry) (op bytes : ℕ) (failed : Bool) (done : ℕ) → op ≡ done + 1
    → (content : Option (List ℕ)) → IfSome content (IsLeftBehind done decls entries entry)
    → (op ≡ opens_gate → bytes ≡ 0 → IfSome content (λ file. IsGated file decls entries))
    → (op ≡ opens_gate → 0 < bytes → failed ≡ false → IfSome content (λ file. IsGated file decls (entries ++ entry ∷ [])))
    → IfSome content (IsStoppedAt op bytes failed decls entries entry)
stopped_file decls entries entry op bytes failed done is None left unopened opened = tt
stopped_file decls entries entry op bytes failed done is (Some file) left unopened opened = record {
  before = λ early. left.before (omega (arith, early, is));
  unopened = unopened;
  opened = opened;
  after = λ late. left.after (omega (arith, late, is));
}

module _ {D : Type 0} (disk : DiskMeaning D)
    (goes_on : (first second : Course) (a b c : D) → disk.leads first a b → disk.leads second b c → disk.leads (joined first second) a c)
    (counts : (course : Course) (a b : D) → disk.leads course a b → Counted course.failed (disk.faults a) (disk.faults b))
    (counts_ops : (course : Course) (a b : D) → disk.leads course a b → disk.ops b ≡ capped (disk.ops a + course.operations)) where
  -- a row of which no read gave anything, with what it adds to the counts
  pub did : (n : ℕ) (x : Bool) (a b : D) → disk.leads (row n x) a b → Did disk n x a b
  did n x a b led = record { course = led; ops = counts_ops (row n x) a b led; faults = counts (row n x) a b led }

  -- the disk inside did the whole row of one that still runs
  pub inner_row : (n : ℕ) (x : Bool) (a b : Stopping D) → Led disk (row n x) a b → a.stopped ≡ false → b.stopped ≡ false → disk.leads (row n x) a.inner b.inner
  inner_row n x a b led running still = subst (λ (c : Course). disk.leads c a.inner b.inner) (led.whole running still) led.inner

  nearer : (n : ℕ) (x : Bool) (old new : OpenJournal (Stopping D)) (entries after : List Entry) → Led disk (row n x) old.disk new.disk → old.disk.stopped ≡ false
      → new.disk.stopped ≡ false → ComesNearer n (journal_view old entries) (journal_view new after)
  nearer n x old new entries after led running still =
      let passed = led.passes running still in record { later = passed.1; armed = passed.0; bytes = led.bytes }

  module _ (stays : (d : D) → disk.leads (row 0 false) d d)
      (counts_now : (d : D) (since : ℕ) (file : List ℕ) → since ≤ disk.moment d → disk.may_leave d file → disk.left_since d since file)
      (old new : OpenJournal (Stopping D)) (entry : Entry) (leaves : LeavesBeforeOrAfter (inside disk) old new entry)
      (decls : List ℕ) (entries : List Entry) (is : IsOpen disk old decls entries) where
    either : (after : List Entry) → LeavesOldOrNew disk decls (journal_view old entries) entry (journal_view new after)
    either after =
        let moments = leaves.any_moment decls entries is.holds in
        record {
          any_moment = record { later = moments.later; each = moments.each; earlier_rows = moments.earlier_rows };
          crash = λ file left. moments.each file (counts_now new.disk.inner (disk.moment old.disk.inner) file moments.later left);
          read = leaves.left decls entries is.holds;
          still_tells = leaves.still_tells;
        }

    -- no operation failed
    pub whole : HasAppended (inside disk) old new entry
        → IsAppendedTo disk decls (journal_view old entries) entry (journal_view new (entries ++ entry ∷ []))
    whole has =
        let still = has.course.runs refl is.running in
        let after = has.holds decls entries is.holds in
        record {
          known = refl;
          limit = ap (λ (j : OpenJournal (Stopping D)). j.limit) has.state;
          fits = omega (arith, has.fits, ap (λ (j : OpenJournal (Stopping D)). j.len) has.state, is.holds.len);
          nearer = nearer 4 false old new entries (entries ++ entry ∷ []) has.course is.running still;
          did = did 4 false old.disk.inner new.disk.inner (inner_row 4 false old.disk new.disk has.course is.running still);
          becomes = subst (λ (n : ℕ). disk.content new.disk.inner ≡ option_map (with_entry n entry) (disk.content old.disk.inner)) is.holds.len has.becomes;
          reads = after.file;
          durable = after.durable;
          leaves = either (entries ++ entry ∷ []);
        }

    -- what the disk inside holds where the armed operation came and did not fail in it
    record AtStop : Type 0 where
      pub unopened : old.disk.op ≡ opens_gate → old.disk.bytes ≡ 0 → IfSome (disk.content new.disk.inner) (λ file. IsGated file decls entries)
      pub opened : old.disk.op ≡ opens_gate → 0 < old.disk.bytes → IfSome (disk.content new.disk.inner) (λ file. IsGated file decls (entries ++ entry ∷ []))
      pub becomes : BecomesUntil old.disk.op old.disk.bytes old.len entry (disk.content old.disk.inner) (disk.content new.disk.inner)
      pub synced : 1 ≤ old.disk.bytes → (old.disk.op ≡ 2) ⊎ (old.disk.op ≡ 4) → LeavesAsRead (disk.content new.disk.inner) (disk.may_leave new.disk.inner)

    -- what it did up to that operation
    record Until : Type 0 where
      pub failed : Bool
      pub before : D
      pub ran : disk.leads (row (old.disk.op - 1) false) old.disk.inner before
      pub last : disk.leads (row (min old.disk.bytes 1) failed) before new.disk.inner
      pub undone : old.disk.bytes ≡ 0 → new.disk.inner ≡ before
      pub reached : failed ≡ true → 1 ≤ old.disk.bytes
      pub idle : old.disk.bytes ≡ 0 → failed ≡ false
      pub left : failed ≡ false → AtStop

    -- the armed operation came after this state: it was not done, or it reached the disk inside
    until_by : (P : Type 0) (before : D) → disk.leads (row (old.disk.op - 1) false) old.disk.inner before
        → (old.disk.bytes ≡ 0 → new.disk.inner ≡ before) → (0 < old.disk.bytes → Reached disk P before new.disk.inner)
        → ((old.disk.bytes ≡ 0) × (new.disk.inner ≡ before) ⊎ (0 < old.disk.bytes) × P → AtStop) → Until
    until_by P before ran undone reached left = ⊎_elim
        (λ some.
        let done = reached some in
        let one : 1 ≡ min old.disk.bytes 1 = omega (arith, some) in
        record {
          failed = done.failed;
          before = before;
          ran = ran;
          last = subst (λ (n : ℕ). disk.leads (row n done.failed) before new.disk.inner) one done.course;
          undone = λ none. absurd (omega (arith, some, none));
          reached = λ _. some;
          idle = λ none. absurd (omega (arith, some, none));
          left = λ well. left (inr (some, done.done well));
        })
        (λ le.
        let none : old.disk.bytes ≡ 0 = omega (arith, le) in
        let same = undone none in
        let nothing : 0 ≡ min old.disk.bytes 1 = omega (arith, none) in
        record {
          failed = false;
          before = before;
          ran = ran;
          last = subst (λ (n : ℕ). disk.leads (row n false) before new.disk.inner) nothing
              (subst (λ (d : D). disk.leads (row 0 false) before d) (sym same) (stays before));
          undone = λ _. same;
          reached = λ fails. absurd (false≢true fails);
          idle = λ _. refl;
          left = λ _. left (inl (none, same));
        })
        (cases_lt 0 old.disk.bytes)

    -- it was a write, and put its first bytes
    until_write : (mid : Stopping D) (at : ℕ) (put : List ℕ) → disk.leads (row (old.disk.op - 1) false) old.disk.inner mid.inner → mid.stopped ≡ false → mid.op ≡ 1 → mid.bytes ≡ old.disk.bytes
        → CutShort disk at put mid new.disk
        → (disk.content new.disk.inner ≡ option_map (written at (take old.disk.bytes put)) (disk.content mid.inner) → AtStop) → Until
    until_write mid at put ran running armed same cut left =
        until_by (disk.content new.disk.inner ≡ option_map (written at (take mid.bytes put)) (disk.content mid.inner)) mid.inner ran
        (λ none. cut.undone running armed (same ∙ none)) (λ some. cut.front running armed (omega (arith, some, same)))
        (⊎_elim
        (λ idle. left (ap disk.content idle.1 ∙ written_nothing (disk.content mid.inner) at old.disk.bytes put idle.0))
        (λ done. left (subst (λ (n : ℕ). disk.content new.disk.inner ≡ option_map (written at (take n put)) (disk.content mid.inner)) same done.1)))

    -- the write that opens the gate is no sync
    no_sync : old.disk.op ≡ opens_gate → (old.disk.op ≡ 2) ⊎ (old.disk.op ≡ 4) → ⊥
    no_sync third which = ⊎_elim (λ two. omega (arith, third, two)) (λ four. omega (arith, third, four)) which

    -- what the write that opens the gate left
    opened_by : old.disk.op ≡ opens_gate → (mid : D) → disk.content mid ≡ option_map (written old.len (block_bytes entry)) (disk.content old.disk.inner)
        → IfSome (disk.content mid) (λ file. IsGated file decls entries)
        → IfSome (option_map (written (old.len - 1) (1 ∷ [])) (disk.content mid)) (λ file. IsGated file decls (entries ++ entry ∷ []))
        → disk.content new.disk.inner ≡ option_map (written (old.len - 1) (take old.disk.bytes (1 ∷ []))) (disk.content mid) → AtStop
    opened_by third mid put closed opened cut = ⊎_elim
        (λ some.
        let whole : take old.disk.bytes (1 ∷ []) ≡ 1 ∷ [] = take_all old.disk.bytes (1 ∷ []) (omega (arith, some)) in
        let done = cut ∙ ap (λ (l : List ℕ). option_map (written (old.len - 1) l) (disk.content mid)) whole in
        record {
          unopened = λ _ none. absurd (omega (arith, some, none));
          opened = λ _ _. subst (λ (o : Option (List ℕ)). IfSome o (λ file. IsGated file decls (entries ++ entry ∷ []))) (sym done) opened;
          becomes = until_opened old.disk.op old.disk.bytes old.len entry (disk.content old.disk.inner) (disk.content new.disk.inner) (omega (arith, third)) (λ _. some)
              (with_entry-done (disk.content old.disk.inner) (disk.content mid) (disk.content new.disk.inner) old.len (block_bytes entry) entry refl put done);
          synced = λ _ which. absurd (no_sync third which);
        })
        (λ le.
        let none : old.disk.bytes ≡ 0 = omega (arith, le) in
        let same = cut ∙ sym (written_nothing (disk.content mid) (old.len - 1) old.disk.bytes (1 ∷ []) none) in
        record {
          unopened = λ _ _. subst (λ (o : Option (List ℕ)). IfSome o (λ file. IsGated file decls entries)) (sym same) closed;
          opened = λ _ some. absurd (omega (arith, some, none));
          becomes = until_closed old.disk.op old.disk.bytes old.len entry (disk.content old.disk.inner) (disk.content new.disk.inner) (omega (arith, third)) (omega (arith, third)) (λ _. none)
              (same ∙ put);
          synced = λ _ which. absurd (no_sync third which);
        })
        (cases_lt 0 old.disk.bytes)

    module _ (has : HasFailed (inside disk) old new entry) (fits : IsTooLong old entry → ⊥) where
      -- it was the write that opens the gate
      until_open : old.disk.op ≡ opens_gate → new.disk.stopped ≡ true → Until
      until_open third stops =
          let at = stopped_behind disk has.course.done old.disk new.disk has.course.failed is.running stops in
          let here = sym at.0 ∙ third in
          let gate = has.puts.opening here in
          let held = has.behind here in
          let running = gate.ran.runs refl is.running in
          let armed : gate.before.op ≡ 1 = omega (arith, (gate.ran.passes is.running running).0, third) in
          let two : 2 ≡ old.disk.op - 1 = omega (arith, third) in
          until_write gate.before (old.len - 1) (1 ∷ [])
          (subst (λ (n : ℕ). disk.leads (row n false) old.disk.inner gate.before.inner) two (inner_row 2 false old.disk gate.before gate.ran is.running running))
          running armed gate.ran.bytes gate.cut
          (opened_by third gate.before.inner gate.put (held.closed decls entries is.holds) (held.opened decls entries is.holds))

      -- it was the write of the entry
      until_first : old.disk.op ≡ 1 → new.disk.stopped ≡ true → Until
      until_first first stops =
          let at = stopped_behind disk has.course.done old.disk new.disk has.course.failed is.running stops in
          let none_ran : 0 ≡ old.disk.op - 1 = omega (arith, first) in
          until_write old.disk old.len (block_bytes entry) (subst (λ (n : ℕ). disk.leads (row n false) old.disk.inner old.disk.inner) none_ran (stays old.disk.inner))
          is.running first refl (has.puts.cut (omega (arith, at.0, first)))
          (λ put. record {
            unopened = λ third. absurd (omega (arith, first, third));
            opened = λ third. absurd (omega (arith, first, third));
            becomes = until_cut old.disk.op old.disk.bytes old.len entry (disk.content old.disk.inner) (disk.content new.disk.inner) first put;
            synced = λ some which. absurd (⊎_elim (λ two. omega (arith, first, two)) (λ four. omega (arith, first, four)) which);
          })

      -- or a sync
      until_sync : (old.disk.op ≡ 1 → ⊥) → (old.disk.op ≡ opens_gate → ⊥) → new.disk.stopped ≡ true → Until
      until_sync first other stops =
          let at = stopped_behind disk has.course.done old.disk new.disk has.course.failed is.running stops in
          let done : has.course.done ≡ old.disk.op - 1 = omega (arith, at.0) in
          let which = sync_of_four old.disk.op has.course.done at.0 has.course.fewer first other in
          let sync = has.puts.syncing which in
          let running = sync.ran.runs refl is.running in
          let armed : sync.before.op ≡ 1 = omega (arith, (sync.ran.passes is.running running).0, at.0) in
          let becomes : BecomesUntil old.disk.op old.disk.bytes old.len entry (disk.content old.disk.inner) (disk.content new.disk.inner) = ⊎_elim
          (λ one. until_closed old.disk.op old.disk.bytes old.len entry (disk.content old.disk.inner) (disk.content new.disk.inner) (omega (arith, at.0, one)) (omega (arith, at.0, one))
          (λ third. absurd (other third)) (has.puts.put one))
          (λ three. until_opened old.disk.op old.disk.bytes old.len entry (disk.content old.disk.inner) (disk.content new.disk.inner) (omega (arith, at.0, three))
          (λ third. absurd (other third)) (has.puts.opened three))
          which in
          until_by (LeavesAsRead (disk.content new.disk.inner) (disk.may_leave new.disk.inner)) sync.before.inner
          (subst (λ (n : ℕ). disk.leads (row n false) old.disk.inner sync.before.inner) done (inner_row has.course.done false old.disk sync.before sync.ran is.running running))
          (λ none. sync.cut.undone running armed (sync.ran.bytes ∙ none)) (λ some. sync.cut.reached running armed (omega (arith, some, sync.ran.bytes)))
          (λ came. record {
            unopened = λ third. absurd (other third);
            opened = λ third. absurd (other third);
            becomes = becomes;
            synced = λ some which. ⊎_elim (λ idle. absurd (omega (arith, some, idle.0))) (λ done. done.1) came;
          })

      until_stop : new.disk.stopped ≡ true → Until
      until_stop stops = ⊎_elim
          (λ first. until_first first stops)
          (λ other. ⊎_elim (λ third. until_open third stops) (λ sync. until_sync other sync stops) (cases_eq old.disk.op opens_gate))
          (cases_eq old.disk.op 1)

      -- the armed operation came
      pub stopped : new.disk.stopped ≡ true → StopsAppend disk decls (journal_view old entries) entry (journal_view new entries)
      stopped stops =
          let at = stopped_behind disk has.course.done old.disk new.disk has.course.failed is.running stops in
          let until = until_stop stops in
          record {
            known = refl;
            limit = ap (λ (j : OpenJournal (Stopping D)). j.limit) has.spent;
            fits = omega (arith, fits, is.holds.len);
            one = omega (arith, at.0);
            among = omega (arith, at.0, has.course.fewer);
            came = at.1;
            bytes = (FailsBehind-led (inside disk) (Led-trans disk goes_on) has.course.done old.disk new.disk has.course.failed).bytes;
            failed = until.failed;
            before = until.before;
            ran = until.ran;
            last = until.last;
            did = did (old.disk.op - 1 + min old.disk.bytes 1) until.failed old.disk.inner new.disk.inner
                (goes_on (row (old.disk.op - 1) false) (row (min old.disk.bytes 1) until.failed) old.disk.inner until.before new.disk.inner until.ran until.last);
            undone = until.undone;
            reached = until.reached;
            becomes = λ well. subst (λ (n : ℕ). BecomesUntil old.disk.op old.disk.bytes n entry (disk.content old.disk.inner) (disk.content new.disk.inner)) is.holds.len ((until.left well).becomes);
            reads = stopped_file decls entries entry old.disk.op old.disk.bytes until.failed has.course.done at.0 (disk.content new.disk.inner)
                (has.course.known decls entries is.holds)
                (λ third none. (until.left (until.idle none)).unopened third none) (λ third some well. (until.left well).opened third some);
            synced = λ well some which. (until.left well).synced some which;
            leaves = either entries;
          }

      -- after so many operations the armed one is not the next
      unarmed : (n : ℕ) (mid : Stopping D) → Led disk (row n false) old.disk mid → mid.stopped ≡ false → (old.disk.op ≡ 0) ⊎ (n + 1 < old.disk.op) → mid.op ≡ 1 → ⊥
      unarmed n mid led running later armed =
          let at = (led.passes is.running running).0 in
          ⊎_elim (λ none. omega (arith, at, armed, none)) (λ more. omega (arith, at, armed, more)) later

      -- what the disk inside put of an append that it failed
      puts_short : (old.disk.op ≡ 0) ⊎ (has.course.done + 1 < old.disk.op) → PutsShort disk has.course.done old.len entry old.disk.inner new.disk.inner
      puts_short later = record {
        cut = λ none. (has.puts.cut none).passed is.running (λ first. ⊎_elim (λ zero. omega (arith, first, zero)) (λ more. omega (arith, first, more)) later);
        syncing = λ which.
            let sync = has.puts.syncing which in
            let running = sync.ran.runs refl is.running in
            record {
              before = sync.before.inner;
              ran = inner_row has.course.done false old.disk sync.before sync.ran is.running running;
              cut = sync.cut.passed running (unarmed has.course.done sync.before sync.ran running later);
            };
        put = has.puts.put;
        opening = λ third.
            let gate = has.puts.opening third in
            let running = gate.ran.runs refl is.running in
            record {
              before = gate.before.inner;
              ran = inner_row 2 false old.disk gate.before gate.ran is.running running;
              put = gate.put;
              cut = gate.cut.passed running (unarmed 2 gate.before gate.ran running (⊎_elim (λ zero. inl zero) (λ more. inr (omega (arith, more, third))) later));
            };
        opened = has.puts.opened;
      }

      -- the disk inside failed
      pub failed : new.disk.stopped ≡ false → FailsAppend disk decls (journal_view old entries) entry (journal_view new entries)
      failed still =
          let done = has.course.done in
          let fails = has.course.failed in
          let mid = fails.1.runs refl is.running in
          let led = FailsBehind-led (inside disk) (Led-trans disk goes_on) done old.disk new.disk fails in
          record {
            known = refl;
            limit = ap (λ (j : OpenJournal (Stopping D)). j.limit) has.spent;
            fits = omega (arith, fits, is.holds.len);
            done = done;
            fewer = has.course.fewer;
            nearer = nearer (done + 1) true old new entries entries led is.running still;
            fails = (fails.0.inner, inner_row done false old.disk fails.0 fails.1 is.running mid, inner_row 1 true fails.0 new.disk fails.2 mid still);
            did = did (done + 1) true old.disk.inner new.disk.inner (inner_row (done + 1) true old.disk new.disk led is.running still);
            puts = subst (λ (n : ℕ). PutsShort disk done n entry old.disk.inner new.disk.inner) is.holds.len (puts_short (led.passes is.running still).1);
            reads = has.course.known decls entries is.holds;
            leaves = either entries;
          }

-- the entry doesn't fit
pub no_room : {D : Type 0} (disk : DiskMeaning D) (len : ℕ) (old new : OpenJournal (Stopping D)) (entry : Entry)
    → (len ≡ old.len) × IsTooLong old entry × (new ≡ old) → (decls : List ℕ) (entries : List Entry) → IsOpen disk old decls entries
    → FindsNoRoom disk decls len (journal_view old entries) entry (journal_view new entries)
no_room {D = D} disk len old new entry full decls entries is = record {
  length = full.0 ∙ is.holds.len;
  no_room = omega (arith, full.1, is.holds.len);
  same = ap (λ (j : OpenJournal (Stopping D)). journal_view j entries) full.2;
}
