-- Events of a hub: without an entry, and with one that is appended, fails or has no room.
use Rattle.std.specs.Prelude.{◌≡◌, ◌⊎◌, ℕ, ◌+◌, ◌≤◌, Bool, true, false, Option, None, Some, is_some, List, [], ◌∷◌, ◌++◌}
use Rattle.std.proofs.Common.{inl, inr, refl, sym, ap, subst, ◌∙◌}
use Rattle.orc_journal.specs.Outcomes.{FailsAppend, FindsNoRoom, IsAppendedTo, StopsAppend}
use Rattle.orc_journal.specs.Views.{IsOpen, JournalView, journal_view}
use Rattle.orc_journal.specs.declared.outcome.Appended.{Appended}
use Rattle.orc_journal.specs.declared.outcome.Appended.TheVariants as appended
use Rattle.orc_journal.proofs.AppendOutcomes.{failed, no_room, stopped as stopped_append, whole}
use Rattle.orc_call.specs.declared.call.Call.{Call}
use Rattle.orc_decls.specs.declared.declarations.Decls.{Decls}
use Rattle.orc_disk.specs.Course.{Counted}
use Rattle.orc_disk.specs.Meanings.{DiskMeaning}
use Rattle.orc_disk.specs.Rows.{Course, joined, row}
use Rattle.orc_disk.specs.Stops.{Stopping, inside}
use Rattle.orc_io.specs.Counts.{Rose}
use Rattle.orc_text.specs.Counts.{capped}
use Rattle.orc_journal.specs.Appends.{HasAppended, HasFailed, IsTooLong, LeavesBeforeOrAfter}
use Rattle.orc_journal.specs.Opened.{Holds, OpenJournal}
use Rattle.orc_journal.specs.declared.entry.Entry.{Entry}
use Rattle.orc_hub.specs.Hubs.{record_of}
use Rattle.orc_hub.specs.Keeps.{IsHub}
use Rattle.orc_hub.specs.declared.hub.Hub.{Hub}
use Rattle.orc_hub_parts.specs.declared.log.Log.{Log}
use Rattle.orc_rules.specs.Events.{DoesUnderHub, Steps, seen_failing}
use Rattle.orc_rules.specs.Journals.{AppendsRow, Journal, entries_read, history_read}
use Rattle.orc_rules.specs.Worlds.{Setting, World, stopped, without_hub}
use Rattle.orc_rules.specs.declared.event.Event.{Event}
use Rattle.orc_rules.specs.declared.event.Event.TheVariants as event
use Rattle.orc_hub_laws.specs.Under.{FailsIn, GoesDown, GoesOnUnder, IsWorldOf, LacksRoomFor, NamesMet, journal_of, with_journal}
use Rattle.orc_hub_laws.proofs.Rows.{IsHeld, RowDone, RowLaws, journal_cut, none_done, one_more, row_done, row_failed, row_full, row_stopped}

-- what each disk promises
pub record DiskLaws {D : Type 0} (disk : DiskMeaning D) : Type 0 where
  pub goes_on : (first second : Course) (a b c : D) → disk.leads first a b → disk.leads second b c → disk.leads (joined first second) a c
  pub counts : (course : Course) (a b : D) → disk.leads course a b → Counted course.failed (disk.faults a) (disk.faults b)
  pub counts_ops : (course : Course) (a b : D) → disk.leads course a b → disk.ops b ≡ capped (disk.ops a + course.operations)
  pub stays : (d : D) → disk.leads (row 0 false) d d
  pub counts_now : (d : D) (since : ℕ) (file : List ℕ) → since ≤ disk.moment d → disk.may_leave d file → disk.left_since d since file
  pub untold : (d : D) (since : ℕ) (file : List ℕ) → disk.left_since d since file → is_some (disk.content d) ≡ true
  pub only_now : (d : D) (file : List ℕ) → disk.left_since d (disk.moment d) file → disk.may_leave d file

-- the failure that a reconciliation has met stays the same
pub same_met : {D : Type 0} (old new : Hub (Stopping D)) → new.decls ≡ old.decls → new.mends ≡ old.mends → NamesMet old.decls old.mends → NamesMet new.decls new.mends
same_met old new decls mends names =
    subst (λ (d : Decls). NamesMet d new.mends) (sym decls) (subst (NamesMet old.decls) (sym mends) names)

-- what can be said of a hub's journal
abbrev pub view_of : {D : Type 0} → Hub (Stopping D) → List Entry → JournalView D
view_of hub entries = journal_view hub.log.journal entries

module _ {D : Type 0} (here : Setting D) (laws : DiskLaws here.disk) where
  pub row_laws : RowLaws here.disk here.decls.text
  row_laws = record { on = laws.goes_on; counts = laws.counts; counts_ops = laws.counts_ops }

  pub held_of : (journal : OpenJournal (Stopping D)) (entries : List Entry) → IsOpen here.disk journal here.decls.text entries
      → IsHeld here.disk here.decls.text (journal_view journal entries)
  held_of journal entries is = record { reads = is.holds.file; durable = is.holds.durable }

  pub open_behind : (old new : OpenJournal (Stopping D)) (entry : Entry) (entries : List Entry) → IsOpen here.disk old here.decls.text entries → HasAppended (inside here.disk) old new entry
      → IsOpen here.disk new here.decls.text (entries ++ entry ∷ [])
  open_behind old new entry entries is has = record { holds = has.holds here.decls.text entries is.holds; running = has.course.runs refl is.running }

  pub appended_of : (old new : OpenJournal (Stopping D)) (entry : Entry) (entries : List Entry) → IsOpen here.disk old here.decls.text entries → HasAppended (inside here.disk) old new entry
      → LeavesBeforeOrAfter (inside here.disk) old new entry
      → IsAppendedTo here.disk here.decls.text (journal_view old entries) entry (journal_view new (entries ++ entry ∷ []))
  appended_of old new entry entries is has leaves =
      whole here.disk laws.goes_on laws.counts laws.counts_ops laws.stays laws.counts_now old new entry leaves here.decls.text entries is has

  pub stopped_of : (old new : OpenJournal (Stopping D)) (entry : Entry) (entries : List Entry) → IsOpen here.disk old here.decls.text entries → HasFailed (inside here.disk) old new entry
      → (IsTooLong old entry → ⊥) → LeavesBeforeOrAfter (inside here.disk) old new entry → new.disk.stopped ≡ true
      → StopsAppend here.disk here.decls.text (journal_view old entries) entry (journal_view new entries)
  stopped_of old new entry entries is has fits leaves stops =
      stopped_append here.disk laws.goes_on laws.counts laws.counts_ops laws.stays laws.counts_now old new entry leaves here.decls.text entries is has fits stops

  pub failed_of : (old new : OpenJournal (Stopping D)) (entry : Entry) (entries : List Entry) → IsOpen here.disk old here.decls.text entries → HasFailed (inside here.disk) old new entry
      → (IsTooLong old entry → ⊥) → LeavesBeforeOrAfter (inside here.disk) old new entry → new.disk.stopped ≡ false
      → FailsAppend here.disk here.decls.text (journal_view old entries) entry (journal_view new entries)
  failed_of old new entry entries is has fits leaves still =
      failed here.disk laws.goes_on laws.counts laws.counts_ops laws.stays laws.counts_now old new entry leaves here.decls.text entries is has fits still

  module _ (world : World D) (old : Hub (Stopping D)) (own : IsWorldOf here world old) where
    pub is_open : IsOpen here.disk old.log.journal here.decls.text world.journal.synced
    is_open = record {
      holds = subst (λ (d : Decls). Holds (inside here.disk) old.log.journal d.text world.journal.synced) own.decls own.sound.log.holds;
      running = own.running;
    }

    pub history_is : history_read world.journal ≡ old.state.history
    history_is = ap history_read own.journal ∙ own.sound.history

    pub entries_are : entries_read world.journal ≡ world.journal.synced
    entries_are = ap entries_read own.journal

    -- the row of an event comes out so in the world's journal
    abbrev pub Row : List Entry → Appended → Journal D → Type 0
    Row row outcome journal = AppendsRow here.disk here.decls.text here.limit world.journal row outcome journal

    pub in_world : (row : List Entry) (outcome : Appended) (journal : Journal D)
        → AppendsRow here.disk here.decls.text here.limit (journal_of old world.journal.synced) row outcome journal → Row row outcome journal
    in_world row outcome journal is = subst (λ (j : Journal D). AppendsRow here.disk here.decls.text here.limit j row outcome journal) (sym own.journal) is

    pub none_yet : RowDone here.disk here.decls.text (view_of old world.journal.synced) [] (view_of old world.journal.synced)
    none_yet = none_done here.disk here.decls.text row_laws laws.stays laws.only_now (view_of old world.journal.synced) (held_of old.log.journal world.journal.synced is_open)

    -- no entry
    pub quiet : (next : World D) (meant : Event) (new : Hub (Stopping D)) → DoesUnderHub here world (record_of old) meant [] next → next.hub ≡ Some (record_of new)
        → new.log ≡ old.log → new.down ≡ false → new.decls ≡ old.decls → NamesMet new.decls new.mends → IsHub (inside here.disk) new world.journal.synced → GoesOnUnder here world next meant new
    quiet next meant new does hub log up decls met sound =
        let journal = journal_of old world.journal.synced in
        record {
          journal = journal;
          comes = Steps.done (record_of old) [] next (with_journal journal next) own.is does
              (in_world [] appended.Done journal
              (row_done here.disk here.decls.text here.limit (view_of old world.journal.synced) own.limit (view_of old world.journal.synced) [] none_yet
              (held_of old.log.journal world.journal.synced is_open))) refl;
          is = record {
            up = up;
            is = hub;
            decls = decls ∙ own.decls;
            journal = sym (ap (λ (l : Log (Stopping D)). record journal { disk = l.journal.disk.inner; armed = l.journal.disk.op; bytes = l.journal.disk.bytes }) log);
            limit = ap (λ (l : Log (Stopping D)). l.journal.limit) log ∙ own.limit;
            running = ap (λ (l : Log (Stopping D)). l.journal.disk.stopped) log ∙ own.running;
            met = met;
            sound = sound;
          };
        }

    -- an entry
    module _ (entry : Entry) (next : World D) (meant : Event) (does : DoesUnderHub here world (record_of old) meant (entry ∷ []) next) where
      pub written : (new : Hub (Stopping D)) → next.hub ≡ Some (record_of new) → HasAppended (inside here.disk) old.log.journal new.log.journal entry
          → LeavesBeforeOrAfter (inside here.disk) old.log.journal new.log.journal entry → new.down ≡ false → new.decls ≡ old.decls
          → NamesMet new.decls new.mends
          → IsHub (inside here.disk) new (world.journal.synced ++ entry ∷ []) → GoesOnUnder here world next meant new
      written new hub has leaves up decls met sound =
          let entries = world.journal.synced in
          let is = appended_of old.log.journal new.log.journal entry entries is_open has leaves in
          let behind = open_behind old.log.journal new.log.journal entry entries is_open has in
          let journal = journal_of new (entries ++ entry ∷ []) in
          record {
            journal = journal;
            comes = Steps.done (record_of old) (entry ∷ []) next (with_journal journal next) own.is does
                (in_world (entry ∷ []) appended.Done journal
                (row_done here.disk here.decls.text here.limit (view_of old entries) own.limit (view_of new (entries ++ entry ∷ [])) (entry ∷ [])
                (one_more here.disk here.decls.text row_laws (view_of old entries) (view_of old entries) (view_of new (entries ++ entry ∷ [])) [] entry none_yet is)
                (held_of new.log.journal (entries ++ entry ∷ []) behind))) refl;
            is = record {
              up = up;
              is = hub;
              decls = decls ∙ own.decls;
              journal = refl;
              limit = is.limit ∙ own.limit;
              running = behind.running;
              met = met;
              sound = sound;
            };
          }

      pub broken : (new : Hub (Stopping D)) → HasFailed (inside here.disk) old.log.journal new.log.journal entry → (IsTooLong old.log.journal entry → ⊥)
          → LeavesBeforeOrAfter (inside here.disk) old.log.journal new.log.journal entry → new.down ≡ true → FailsIn here world meant new
      broken new has fits leaves down = (down, on new.log.journal.disk.stopped refl)
        where
          entries : List Entry
          entries = world.journal.synced

          on : (b : Bool) → new.log.journal.disk.stopped ≡ b
              → ((new.log.journal.disk.stopped ≡ true) × GoesDown here world (stopped world) meant (Some event.Stop) new)
              ⊎ ((new.log.journal.disk.stopped ≡ false) × GoesDown here world (without_hub world) meant (seen_failing meant) new
              × Rose (here.disk.faults world.journal.disk) (here.disk.faults new.log.journal.disk.inner))
          on true stops =
              let row = row_stopped here.disk here.decls.text here.limit (view_of old entries) own.limit (view_of old entries) (view_of new entries) [] entry [] none_yet
              (stopped_of old.log.journal new.log.journal entry entries is_open has fits leaves stops) in
              let journal = journal_cut (view_of new entries) entry row.read in
              inl (
                stops,
                record {
                  journal = journal;
                  comes = Steps.cut (record_of old) (entry ∷ []) next (with_journal journal (stopped world)) own.is does (in_world (entry ∷ []) appended.Stopped journal row.row) refl;
                  disk = refl;
                  holds = row.row.outlives.holds;
                },
              )
          on false still =
              let row = row_failed here.disk here.decls.text here.limit (view_of old entries) own.limit (view_of old entries) (view_of new entries) [] entry [] none_yet
              (failed_of old.log.journal new.log.journal entry entries is_open has fits leaves still) in
              let journal = journal_cut (view_of new entries) entry row.read in
              inr (
                still,
                record {
                  journal = journal;
                  comes = Steps.failed (record_of old) (entry ∷ []) next (with_journal journal (without_hub world)) own.is does (in_world (entry ∷ []) appended.Failed journal row.row) refl;
                  disk = refl;
                  holds = row.row.outlives.holds;
                },
                subst (λ (d : D). Rose (here.disk.faults d) (here.disk.faults new.log.journal.disk.inner)) (sym (ap (λ (j : Journal D). j.disk) own.journal)) row.row.ends.1,
              )

      pub roomless : (new : Hub (Stopping D)) (len : ℕ) → len ≡ old.log.journal.len → IsTooLong old.log.journal entry → new.log.journal ≡ old.log.journal → new.down ≡ true
          → LacksRoomFor here world meant len new
      roomless new len length long same down =
          let entries = world.journal.synced in
          let full : FindsNoRoom here.disk here.decls.text len (view_of old entries) entry (view_of new entries) =
          no_room here.disk len old.log.journal new.log.journal entry (length, long, same) here.decls.text entries is_open in
          let journal = journal_of old entries in
          let row = row_full here.disk here.decls.text here.limit (view_of old entries) own.limit (view_of old entries) (view_of new entries) [] entry [] none_yet len
          (held_of old.log.journal entries is_open) full in (
            down,
            record {
              journal = journal;
              comes = Steps.full (record_of old) (entry ∷ []) next len (with_journal journal (without_hub world)) own.is does (in_world (entry ∷ []) (appended.Full len) journal row) refl;
              disk = ap (λ (j : OpenJournal (Stopping D)). j.disk.inner) (sym same);
              holds = row.outlives.holds;
            },
            record_of old,
            entry ∷ [],
            next,
            own.is,
            does,
            in_world (entry ∷ []) (appended.Full len) journal row,
          )
