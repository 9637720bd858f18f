-- The journal is opened again.
use Rattle.std.specs.Prelude.{◌≡◌, ◌⊎◌, ℕ, ◌+◌, ◌-◌, ◌≤◌, Bool, true, false, cond, Option, None, Some, is_some, List, [], ◌∷◌, ◌++◌, IfSome, map}
use Rattle.std.proofs.Common.{arith, inl, inr, refl, sym, ap, subst, ◌∙◌, ⊎_elim}
use Rattle.std.proofs.lemmas.Bool.{false≢true}
use Rattle.std.proofs.lemmas.Option.{none-some}
use Rattle.std.proofs.lemmas.List.{append_assoc, append-nil}
use Rattle.orc_journal.specs.Rows.{HasSomeOf}
use Rattle.orc_call.specs.declared.answer.Why.TheVariants as why
use Rattle.orc_call.specs.declared.call.Call.{Call}
use Rattle.orc_datastore.specs.Legal.{IsLegal}
use Rattle.orc_decls.specs.declared.declarations.Decls.{Decls}
use Rattle.orc_disk.specs.Moments.{LeavesOnly}
use Rattle.orc_disk.specs.Rows.{Course}
use Rattle.orc_disk.specs.Stops.{Led, Stopping, inside}
use Rattle.orc_hub.specs.Hubs.{record_of}
use Rattle.orc_hub.specs.Keeps.{IsHub}
use Rattle.orc_hub.specs.Starts.{HasStarted, known_at_start}
use Rattle.orc_hub.specs.declared.hub.Hub.{Hub}
use Rattle.orc_journal.specs.Committed.{history_of}
use Rattle.orc_journal.specs.Journals.{IsGated, journal_bytes}
use Rattle.orc_journal.specs.Opened.{OpenJournal}
use Rattle.orc_journal.specs.Opening.{HasOpened, HasRefused, IsOpening, LeavesOpening, MayBecome}
use Rattle.orc_journal.specs.Operations.{LedBy}
use Rattle.orc_journal.specs.declared.entry.Entry.{Entry}
use Rattle.orc_journal.specs.declared.fault.OpenFault.{OpenFault}
use Rattle.orc_journal.specs.declared.fault.OpenFault.TheVariants as open_fault
use Rattle.orc_journal.proofs.Unique.{gated_is_journal, one_journal}
use Rattle.orc_rules.specs.Events.{Steps}
use Rattle.orc_rules.specs.Hubs.{Hub as HubState}
use Rattle.orc_rules.specs.Journals.{HoldsEntries, IsReadBack, Journal, OutlivesRow, Reopens, StaysClosed, entries_read}
use Rattle.orc_rules.specs.Worlds.{Setting, World, declared, new_hub}
use Rattle.orc_rules.specs.declared.duty.Duty.TheVariants as duty
use Rattle.orc_rules.specs.declared.event.Event.TheVariants as event
use Rattle.orc_hub_laws.specs.Turns.{OpeningStaysDown, RefusalStaysDown, StartIsRecovery, world_with}
use Rattle.orc_hub_laws.specs.Under.{GoesOnUnder, IsWorldOf, StaysDown, journal_of, with_journal}
use Rattle.orc_hub_laws.proofs.Going.{DiskLaws}
use Rattle.orc_hub_laws.proofs.Openings.{journal_inside, opened_inside}

gated_more : (decls held more : List ℕ) (entries : List Entry) → IsGated held decls entries → IsGated (held ++ more) decls entries
gated_more decls held more entries is = record {
  gate = is.gate;
  rest = is.rest ++ more;
  bytes = ap (λ (l : List ℕ). l ++ more) is.bytes ∙ append_assoc (journal_bytes decls entries) (is.gate ∷ is.rest) more;
  closed = is.closed;
  writable = is.writable;
}

some_read : (decls file : List ℕ) (synced cut : List Entry) (b : Bool) → IsGated file decls (cond b (synced ++ cut) synced) → HasSomeOf decls synced (cut ++ []) file
some_read decls file synced cut true is = record { front = cut; rest = []; parts = refl; gated = is }
some_read decls file synced cut false is =
    record { front = []; rest = cut ++ []; parts = refl; gated = subst (λ (l : List Entry). IsGated file decls l) (sym (append-nil synced)) is }

module _ {D : Type 0} (here : Setting D) (laws : DiskLaws here.disk) where
  -- what was opened: the disk, and what it is then, where a journal stood on it
  module _ (from to : Stopping D) (leaves : LeavesOpening (inside here.disk) here.decls.text from to) (old : Journal D) (same : from.inner ≡ old.disk)
      (holds : HoldsEntries here.disk here.decls.text here.limit old) where
    abbrev text : List ℕ
    text = here.decls.text

    abbrev HasSome : List ℕ → Type 0
    HasSome file = HasSomeOf text old.synced (old.cut ++ []) file

    was_read : IfSome (here.disk.content from.inner) (λ file. IsGated file text (entries_read old))
    was_read = subst (λ (d : D). IfSome (here.disk.content d) (λ file. IsGated file text (entries_read old))) (sym same) holds.read

    was_left : (file : List ℕ) → here.disk.may_leave from.inner file → HasSomeOf text old.synced old.cut file
    was_left = subst (λ (d : D). (file : List ℕ) → here.disk.may_leave d file → HasSomeOf text old.synced old.cut file) (sym same) holds.crash

    may_become : (file : List ℕ) → MayBecome (inside here.disk) text from file → is_some (here.disk.content from.inner) ≡ true → IsGated file text (entries_read old)
    may_become file become some = on (here.disk.content from.inner) become was_read some
      where
        on : (o : Option (List ℕ)) → IfSome o (λ held. IsOpening text held file) → IfSome o (λ f. IsGated f text (entries_read old)) → is_some o ≡ true
            → IsGated file text (entries_read old)
        on None m r is = absurd (false≢true is)
        on (Some held) m r is = subst (λ (f : List ℕ). IsGated f text (entries_read old)) (sym m.bytes) (gated_more text held m.more (entries_read old) r)

    told : (since : ℕ) (file : List ℕ) → here.disk.left_since to.inner since file → is_some (here.disk.content from.inner) ≡ true
    told since file left = sym leaves.still_tells ∙ laws.untold to.inner since file left

    either : (since : ℕ) (file : List ℕ) → here.disk.left_since to.inner since file → here.disk.may_leave from.inner file ⊎ MayBecome (inside here.disk) text from file → HasSome file
    either since file left which = ⊎_elim
        (λ may. subst (λ (l : List Entry). HasSomeOf text old.synced l file) (sym (append-nil old.cut)) (was_left file may))
        (λ become. some_read text file old.synced old.cut old.cut_is_read (may_become file become (told since file left))) which

    moments : LeavesOnly here.disk from.inner to.inner HasSome
    moments = record {
      later = leaves.any_moment.later;
      each = λ file left. either (here.disk.moment from.inner) file left (leaves.any_moment.each file left);
      earlier_rows = λ since file le left. ⊎_elim (λ past. inl past) (λ which. inr (either since file left which)) (leaves.any_moment.earlier_rows since file le left);
    }

    pub read_now : IfSome (here.disk.content to.inner) (λ file. IsGated file text (entries_read old))
    read_now = on (here.disk.content to.inner) refl leaves.left
      where
        on : (o : Option (List ℕ)) → here.disk.content to.inner ≡ o → IfSome o (MayBecome (inside here.disk) text from) → IfSome o (λ file. IsGated file text (entries_read old))
        on None e left = tt
        on (Some file) e left = may_become file left (sym leaves.still_tells ∙ ap is_some e)

    pub crash_now : (file : List ℕ) → here.disk.may_leave to.inner file → HasSomeOf text old.synced old.cut file
    crash_now file may =
        subst (λ (l : List Entry). HasSomeOf text old.synced l file) (append-nil old.cut)
        (moments.each file (laws.counts_now to.inner (here.disk.moment from.inner) file moments.later may))

    pub outlives : here.disk.faults from.inner ≤ here.disk.faults to.inner → (new : Journal D) → HoldsEntries here.disk text here.limit (record new { disk = to.inner })
        → OutlivesRow here.disk text here.limit old [] (record new { disk = to.inner })
    outlives faults new holds_new =
        subst (λ (d : D). OutlivesRow here.disk text here.limit (record old { disk = d }) [] (record new { disk = to.inner })) same
        (record { each_moment = moments; holds = holds_new; tells = leaves.still_tells; later = faults })

    -- the journal isn't opened
    pub stays_closed : here.disk.faults from.inner ≤ here.disk.faults to.inner → StaysClosed here.disk text here.limit old (record old { disk = to.inner })
    stays_closed faults = record { synced = refl; cut = (refl, refl); outlives = outlives faults old (record { read = read_now; crash = crash_now }) }

    -- where a disk reports what it holds, it reads what was written
    pub same_entries : (entries : List Entry) → IfSome (here.disk.content to.inner) (λ file. IsGated file text entries) → is_some (here.disk.content old.disk) ≡ true → entries ≡ entries_read old
    same_entries entries gated some =
        on (here.disk.content to.inner) gated read_now (leaves.still_tells ∙ ap (λ (d : D). is_some (here.disk.content d)) same ∙ some)
      where
        on : (o : Option (List ℕ)) → IfSome o (λ file. IsGated file text entries) → IfSome o (λ file. IsGated file text (entries_read old)) → is_some o ≡ true → entries ≡ entries_read old
        on None a b is = absurd (false≢true is)
        on (Some file) a b is = one_journal file text entries (entries_read old) (gated_is_journal file text entries a) (gated_is_journal file text (entries_read old) b)

  led_later : (n : ℕ) (from to : Stopping D) → LedBy (inside here.disk) n from to → here.disk.faults from.inner ≤ here.disk.faults to.inner
  led_later n from to led = (laws.counts led.1.inner_course from.inner to.inner led.1.inner).later

  course_later : (course : Course) (from to : Stopping D) → Led here.disk course from to → here.disk.faults from.inner ≤ here.disk.faults to.inner
  course_later course from to led = (laws.counts led.inner_course from.inner to.inner led.inner).later

  refused_later : (from to : Stopping D) (fault : OpenFault) → HasRefused (inside here.disk) here.decls.text here.limit from to fault
      → here.disk.faults from.inner ≤ here.disk.faults to.inner
  refused_later from to open_fault.DiskFault has =
      let f = has.failed refl in
      let first = led_later f.done from f.last f.ran in
      let second = course_later _ f.last to f.failed in
      omega (arith, first, second)
  refused_later from to (open_fault.Foreign at) has = led_later _ from to (has.course (λ no. cc))
  refused_later from to open_fault.NotJournal has = led_later _ from to (has.course (λ no. cc))
  refused_later from to open_fault.Memory has = led_later _ from to (has.course (λ no. cc))
  refused_later from to (open_fault.Full len) has = led_later _ from to (has.course (λ no. cc))
  refused_later from to (open_fault.Damaged at) has = led_later _ from to (has.course (λ no. cc))

  down_again : (world : World D) (from to : Stopping D) → world.hub ≡ None → HoldsEntries here.disk here.decls.text here.limit world.journal → from.inner ≡ world.journal.disk
      → LeavesOpening (inside here.disk) here.decls.text from to → here.disk.faults from.inner ≤ here.disk.faults to.inner → StaysDown here world to.inner
  down_again world from to none holds same leaves faults =
      let journal = record world.journal { disk = to.inner } in
      let closed = stays_closed from to leaves world.journal same holds faults in
      record {
        journal = journal;
        comes = Steps.unopened (with_journal journal world) none refl closed refl;
        is = refl;
        holds = closed.outlives.holds;
      }

  pub refusal_stays_down_so : RefusalStaysDown here
  refusal_stays_down_so world from to cause none holds same has = down_again world from to none holds same has.leaves (refused_later from to cause has)

  pub opening_stays_down_so : OpeningStaysDown here
  opening_stays_down_so world from journal entries none holds same has =
      down_again world from journal.disk none holds same has.leaves (led_later _ from journal.disk has.course)

  -- the journal is opened, and a hub starts over it

  -- the journal of a world after this opening
  abbrev opened_as : OpenJournal (Stopping D) → List Entry → Journal D
  opened_as journal entries = record {
    disk = journal.disk.inner;
    synced = entries;
    cut = [];
    cut_is_read = false;
    armed = journal.disk.op;
    bytes = journal.disk.bytes;
  }

  module _ (world : World D) (from : Stopping D) (journal : OpenJournal (Stopping D)) (entries : List Entry) (holds : HoldsEntries here.disk here.decls.text here.limit world.journal)
      (same : from.inner ≡ world.journal.disk) (unarmed : from.op ≡ 0) (running : from.stopped ≡ false)
      (has : HasOpened (inside here.disk) here.decls.text here.limit from journal entries) where
    still : journal.disk.stopped ≡ false
    still = has.course.1.runs refl running

    reopens : journal.fresh ≡ false → IsLegal here.decls (history_of entries) → (here.granted ≡ true → entries ≡ entries_read world.journal)
        → Reopens here.disk here.decls here.limit here.granted world.journal (opened_as journal entries)
    reopens stale legal granted =
        let passed = (has.course.1.passes running still).0 in
        let now : HoldsEntries here.disk here.decls.text here.limit (opened_as journal entries) = record {
          read = has.holds.file;
          crash = λ file may. record {
            front = [];
            rest = [];
            parts = refl;
            gated = subst (λ (l : List Entry). IsGated file here.decls.text l) (sym (append-nil entries))
                (subst (λ (o : Option (List ℕ)). IfSome o (λ (f : List ℕ). IsGated f here.decls.text entries)) (has.holds.durable file may) has.holds.file);
          };
        } in
        record {
          journal = journal_inside journal;
          opened = subst (λ (d : D). HasOpened here.disk here.decls.text here.limit d (journal_inside journal) entries) same
              (opened_inside here.disk here.decls.text here.limit from journal entries running has);
          on = refl;
          stood = stale;
          legal = legal;
          synced = λ back. ⊎_elim granted (same_entries from journal.disk has.leaves world.journal same holds entries has.holds.file) back;
          cut = refl;
          unarmed = omega (arith, passed, unarmed);
          outlives = outlives from journal.disk has.leaves world.journal same holds (led_later _ from journal.disk has.course) (opened_as journal entries) now;
        }

    pub recovers : world.hub ≡ None → journal.fresh ≡ false → (here.granted ≡ true → entries ≡ entries_read world.journal) → (hub : Hub (Stopping D))
        → IsHub (inside here.disk) hub entries → HasStarted here.decls journal hub → GoesOnUnder here world (world_with hub world) event.Recover hub
    recovers none stale granted hub sound started =
        let j = journal_of hub entries in
        let legal : IsLegal here.decls (history_of entries) = subst (λ (d : Decls). IsLegal d (history_of entries)) started.decls_are
        (subst (λ (history : List Call). IsLegal hub.decls history) (sym sound.history) sound.state.legal) in
        let hub_is : record_of hub ≡ new_hub (map (λ device. duty.Free) (declared here.decls)) (map (λ device. Some why.Recovered) (declared here.decls)) =
        started.hub_is
        ∙ ap (λ (b : Bool). new_hub (map (λ device. duty.Free) (declared here.decls)) (map (λ device. known_at_start b) (declared here.decls))) stale in
        record {
          journal = j;
          comes = Steps.recovers (with_journal j (world_with hub world)) none refl
              (subst (λ (o : OpenJournal (Stopping D)). Reopens here.disk here.decls here.limit here.granted world.journal (opened_as o entries)) (sym started.journal_is) (reopens stale legal granted))
              (ap (λ (h : HubState). record world { journal = j; hub = Some h }) hub_is);
          is = record {
            up = started.up;
            is = refl;
            decls = started.decls_are;
            journal = refl;
            limit = ap (λ (o : OpenJournal (Stopping D)). o.limit) started.journal_is ∙ has.limited;
            running = ap (λ (o : OpenJournal (Stopping D)). o.disk.stopped) started.journal_is ∙ still;
            met = λ met begun. absurd (none-some (Some met) (sym (ap (λ (h : HubState). h.mends) hub_is) ∙ begun));
            sound = sound;
          };
        }

  pub start_is_recovery_so : StartIsRecovery here
  start_is_recovery_so world from journal entries hub none holds at has stale granted sound started =
      recovers world from journal entries holds at.0 at.1 at.2 has none stale granted hub sound started
