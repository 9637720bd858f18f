-- A reconciliation begins and ends: each is an event.
use Rattle.std.specs.Prelude.{◌≡◌, ◌⊎◌, ℕ, zero, suc, ◌+◌, ◌*◌, ◌<◌, ◌≤◌, Bool, true, false, not, nat_lt, Option, None, Some, List, [], ◌∷◌, ◌++◌, All, Result, Ok, Err, IsTrue, length, map}
use Rattle.std.specs.List.{list_all, range_with_len}
use Rattle.std.specs.Cmp.{first_so, second_so}
use Rattle.std.proofs.Common.{arith, inl, inr, refl, sym, ap, subst, ◌∙◌, ⊎_elim, lt-ltb}
use Rattle.std.proofs.lemmas.Bool.{false≢true}
use Rattle.std.proofs.lemmas.Option.{none-some}
use Rattle.std.proofs.lemmas.List.{append_assoc, append-nil}
use Rattle.std.proofs.lemmas.List.Elements.{All-cons, All-nil}
use Rattle.orc_journal.specs.Views.{IsOpen, JournalView, journal_view}
use Rattle.orc_journal.specs.declared.outcome.Appended.{Appended}
use Rattle.orc_journal.specs.declared.outcome.Appended.TheVariants as appended
use Rattle.orc_journal.proofs.AppendOutcomes.{no_room}
use Rattle.orc_call.specs.declared.answer.RecFault.{RecFault}
use Rattle.orc_call.specs.declared.answer.RecFault.TheVariants as fault
use Rattle.orc_call.specs.declared.call.Call.{Call}
use Rattle.orc_datastore.specs.Legal.{IsLegal, state_of}
use Rattle.orc_datastore.specs.States.{Datastore, tree_due}
use Rattle.orc_decls.specs.declared.declarations.Decls.{Decls}
use Rattle.orc_disk.specs.Stops.{Stopping, inside}
use Rattle.orc_journal.specs.Committed.{history_of}
use Rattle.orc_journal.specs.Laws.{KeepsOrder}
use Rattle.orc_journal.specs.Opened.{Holds, OpenJournal}
use Rattle.orc_journal.specs.declared.entry.Entry.{Entry}
use Rattle.orc_journal.specs.declared.entry.Entry.TheVariants as entry
use Rattle.orc_hub.specs.Hubs.{record_of}
use Rattle.orc_hub.specs.Keeps.{IsHub}
use Rattle.orc_hub.specs.Laws.{MendingBegunKeeps, MendingEndedKeeps}
use Rattle.orc_hub.specs.Mends.{EndsMending, SettlesAll, SettlesOne, begun_on, begun_to_mend, mending_ended, resolved_on, row_ended, settled_ones}
use Rattle.orc_hub.specs.Mends.SettlesAll.{fails, none_left, one_less}
use Rattle.orc_hub.specs.declared.hub.Hub.{Hub}
use Rattle.orc_hub_parts.specs.declared.log.Log.{Log}
use Rattle.orc_hub_parts.specs.declared.log.Unsettled.{Unsettled}
use Rattle.orc_hub.proofs.Ending.{behind_first}
use Rattle.orc_io.specs.Counts.{Rose}
use Rattle.orc_path.specs.Configurations.{Config}
use Rattle.orc_recover.specs.Menders.{new_mender}
use Rattle.orc_rules.specs.Duties.{is_busy}
use Rattle.orc_rules.specs.Events.{DoesUnderHub, Steps, mender_freed, mender_on, seen_failing, told_now}
use Rattle.orc_rules.specs.Hubs.{Hub as HubState, has_met_failure}
use Rattle.orc_rules.specs.Journals.{AppendsRow, HoldsEntries, Journal, entries_read}
use Rattle.orc_rules.specs.Told.{Told, told_by}
use Rattle.orc_rules.specs.Worlds.{AreUnsettled, IsIdle, Setting, World, declared, over, stopped, without_hub}
use Rattle.orc_rules.specs.declared.duty.Duty.{Duty}
use Rattle.orc_rules.specs.declared.duty.Duty.TheVariants as duty
use Rattle.orc_rules.specs.declared.event.Event.{Event}
use Rattle.orc_rules.specs.declared.event.Event.TheVariants as event
use Rattle.orc_rules.proofs.Devices.{over_is_due, told_history}
use Rattle.orc_hub_laws.specs.Turns.{ComesToEnd, MendingBegins, MendingEnds, world_with}
use Rattle.orc_hub_laws.specs.Under.{FailsIn, GoesDown, GoesOnUnder, IsWorldOf, LacksRoomFor, journal_of, with_journal}
use Rattle.orc_hub_laws.proofs.Going.{DiskLaws, appended_of, entries_are, failed_of, held_of, history_is, in_world, is_open, none_yet, open_behind, quiet, row_laws, stopped_of, view_of}
use Rattle.orc_hub_laws.proofs.Rows.{RowDone, journal_cut, one_more, row_done, row_failed, row_full, row_stopped}
use Rattle.orc_hub_laws.proofs.Telling.{AreNoted, are_unsettled, noted_so, number, resolved_same}

-- two functions that agree on each number of a range map it to the same
map_range : {A : Type 0} (f g : ℕ → A) (start len : ℕ) → ((n : ℕ) → n < start + len → f n ≡ g n) → map f (range_with_len start len) ≡ map g (range_with_len start len)
map_range f g start zero same = refl
map_range f g start (suc len) same = λ i. same start (omega arith) i ∷ map_range f g (start + 1) len (λ n less. same n (omega (arith, less))) i

settled_numbers : (xs : List Unsettled) → map entry.Settled (map number xs) ≡ settled_ones xs
settled_numbers [] = refl
settled_numbers (x ∷ xs) = ap (λ (l : List Entry). entry.Settled x.t ∷ l) (settled_numbers xs)

all_free : (duties : List Duty) → list_all (λ on. not (is_busy on)) duties ≡ true → All (λ on. is_busy on ≡ false) duties
all_free [] is = All-nil (λ (on : Duty). is_busy on ≡ false)
all_free (on ∷ duties) is =
    All-cons (λ (one : Duty). is_busy one ≡ false) on duties (none (is_busy on) (first_so (not (is_busy on)) (list_all (λ one. not (is_busy one)) duties) is))
    (all_free duties (second_so (not (is_busy on)) (list_all (λ one. not (is_busy one)) duties) is))
  where
    none : (b : Bool) → not b ≡ true → b ≡ false
    none false is' = refl
    none true is' = absurd (false≢true is')

module _ {D : Type 0} (here : Setting D) (laws : DiskLaws here.disk) (order : KeepsOrder) where
  module _ (world : World D) (old : Hub (Stopping D)) (own : IsWorldOf here world old) where
    abbrev pub told : Told
    told = told_now here world

    noted : AreNoted told old.log.unsettled
    noted =
        subst (λ (l : List Entry). AreNoted (told_by l) old.log.unsettled) (sym (entries_are here laws world old own))
        (subst (AreNoted (told_by world.journal.synced)) (sym own.sound.log.unsettled) (noted_so order world.journal.synced own.sound.log.ordered))

    pub unsettled : AreUnsettled told (map number old.log.unsettled)
    unsettled = are_unsettled told old.log.unsettled noted

    -- the tree that is due
    due_there : (device : ℕ) → device < length here.decls.names → over here.decls device told.history ≡ tree_due old.state.datastore device
    due_there device within =
        let told_is : told.history ≡ old.state.history = told_history (entries_read world.journal) ∙ history_is here laws world old own in
        let legal : IsLegal here.decls old.state.history = subst (λ (d : Decls). IsLegal d old.state.history) own.decls own.sound.state.legal in
        ap (over here.decls device) told_is
        ∙ over_is_due here.decls old.state.history device legal (lt-ltb device (length here.decls.names) within)
        ∙ sym (ap (λ (s : Datastore). tree_due s device) (own.sound.state.datastore ∙ ap (λ (d : Decls). state_of d old.state.history) own.decls))

    mender_same : (device : ℕ) → device < length here.decls.names → mender_on (over here.decls) told (map number old.log.unsettled) device ≡ begun_on old device
    mender_same device within = λ i. duty.Mends (new_mender (resolved_same told device old.log.unsettled noted.each i) (due_there device within i))

    duties_same : map (mender_on (over here.decls) told (map number old.log.unsettled)) (declared here.decls) ≡ map (begun_on old) (range_with_len 0 (length old.decls.names))
    duties_same =
        map_range (mender_on (over here.decls) told (map number old.log.unsettled)) (begun_on old) 0 (length here.decls.names) (λ device within. mender_same device (omega (arith, within)))
        ∙ ap (λ (d : Decls). map (begun_on old) (range_with_len 0 (length d.names))) (sym own.decls)

  pub mending_begins_so : MendingBegunKeeps (inside here.disk) → MendingBegins here
  mending_begins_so keeps world old new own idle is =
      let numbers = map number old.log.unsettled in
      quiet here laws world old own (world_with new world) (event.Reconcile None) new
      (subst (λ (h : Hub (Stopping D)). DoesUnderHub here world (record_of old) (event.Reconcile None) [] (world_with h world)) (sym is)
      (subst (λ (l : List Duty). DoesUnderHub here world (record_of old) (event.Reconcile None) [] (record world { hub = Some (record (record_of old) { duties = l; mends = Some None }) }))
      (duties_same world old own) (DoesUnderHub.mends numbers idle (unsettled world old own))))
      refl (ap (λ (h : Hub (Stopping D)). h.log) is) (ap (λ (h : Hub (Stopping D)). h.down) is ∙ own.up) (ap (λ (h : Hub (Stopping D)). h.decls) is)
      (λ met begun. absurd (let no : ◌≡◌ {A = Option (Option RecFault)} (Some None) (Some (Some met)) = sym (ap (λ (h : Hub (Stopping D)). h.mends) is) ∙ begun in cc))
      (subst (λ (h : Hub (Stopping D)). IsHub (inside here.disk) h world.journal.synced) (sym is) (keeps old world.journal.synced own.sound idle))

  -- the end

  -- an append of the row failed
  pub record FailsAll (from : JournalView D) (row : List Entry) (new : Hub (Stopping D)) : Type 0 where
    pub down : new.down ≡ true
    pub outcome : Appended
    pub journal : Journal D
    pub row_so : AppendsRow here.disk here.decls.text here.limit (record { disk = from.disk; synced = from.entries; cut = []; cut_is_read = false; armed = from.armed; bytes = from.bytes })
        row outcome journal
    pub disk : journal.disk ≡ new.log.journal.disk.inner
    pub which : ((new.log.journal.disk.stopped ≡ true) × (outcome ≡ appended.Stopped)) ⊎ ((new.log.journal.disk.stopped ≡ false) × (outcome ≡ appended.Failed))

  -- or had no room
  pub record FillsAll (from : JournalView D) (row : List Entry) (len : ℕ) (new : Hub (Stopping D)) : Type 0 where
    pub down : new.down ≡ true
    pub journal : Journal D
    pub row_so : AppendsRow here.disk here.decls.text here.limit (record { disk = from.disk; synced = from.entries; cut = []; cut_is_read = false; armed = from.armed; bytes = from.bytes })
        row (appended.Full len) journal
    pub disk : journal.disk ≡ new.log.journal.disk.inner

  -- all was appended
  pub record SettledAll (from : JournalView D) (row : List Entry) (old : Hub (Stopping D)) (entries : List Entry) (new : Hub (Stopping D)) : Type 0 where
    pub rest : new ≡ record old { log = new.log }
    pub is_open : IsOpen here.disk new.log.journal here.decls.text (entries ++ settled_ones old.log.unsettled)
    pub done : RowDone here.disk here.decls.text from row (view_of new (entries ++ settled_ones old.log.unsettled))

  abbrev pub Comes : JournalView D → List Entry → Hub (Stopping D) → List Entry → Result Unit RecFault → Hub (Stopping D) → Type 0
  Comes from row old entries (Ok done) new = SettledAll from row old entries new
  Comes from row old entries (Err fault.DiskFault) new = FailsAll from row new
  Comes from row old entries (Err (fault.Full len)) new = FillsAll from row len new
  Comes from row old entries (Err fault.Memory) new = ⊥
  Comes from row old entries (Err (fault.LinkFault device count)) new = ⊥
  Comes from row old entries (Err (fault.Refused device tag)) new = ⊥

  module _ (from : JournalView D) (limited : from.limit ≡ here.limit) where
    one_fails : (old new : Hub (Stopping D)) (added entries later : List Entry) (t : ℕ) (met : RecFault) → RowDone here.disk here.decls.text from added (view_of old entries)
        → IsOpen here.disk old.log.journal here.decls.text entries → SettlesOne (inside here.disk) old t (Err met) new
        → Comes from (added ++ entry.Settled t ∷ later) old entries (Err met) new
    one_fails old new added entries later t fault.DiskFault done is w = on new.log.journal.disk.stopped refl
      where
        on : (b : Bool) → new.log.journal.disk.stopped ≡ b → FailsAll from (added ++ entry.Settled t ∷ later) new
        on true stops =
            let row = row_stopped here.disk here.decls.text here.limit from limited (view_of old entries) (view_of new entries) added (entry.Settled t) later done
            (stopped_of here laws old.log.journal new.log.journal (entry.Settled t) entries is w.failed w.fits w.leaves stops) in
            record {
              down = w.down;
              outcome = appended.Stopped;
              journal = journal_cut (view_of new entries) (entry.Settled t) row.read;
              row_so = row.row;
              disk = refl;
              which = inl (stops, refl);
            }
        on false still =
            let row = row_failed here.disk here.decls.text here.limit from limited (view_of old entries) (view_of new entries) added (entry.Settled t) later done
            (failed_of here laws old.log.journal new.log.journal (entry.Settled t) entries is w.failed w.fits w.leaves still) in
            record {
              down = w.down;
              outcome = appended.Failed;
              journal = journal_cut (view_of new entries) (entry.Settled t) row.read;
              row_so = row.row;
              disk = refl;
              which = inr (still, refl);
            }
    one_fails old new added entries later t (fault.Full len) done is w = record {
      down = w.down;
      journal = journal_of old entries;
      row_so = row_full here.disk here.decls.text here.limit from limited (view_of old entries) (view_of new entries) added (entry.Settled t) later done len
          (held_of here laws old.log.journal entries is)
          (no_room here.disk len old.log.journal new.log.journal (entry.Settled t) (w.length, w.too_long, w.journal) here.decls.text entries is);
      disk = ap (λ (j : OpenJournal (Stopping D)). j.disk.inner) (sym w.journal);
    }
    one_fails old new added entries later t fault.Memory done is w = absurd w
    one_fails old new added entries later t (fault.LinkFault device count) done is w = absurd w
    one_fails old new added entries later t (fault.Refused device tag) done is w = absurd w

    -- the same row, with the first of those that were left
    same_row : (added : List Entry) (e : Entry) (rest rest' : List Entry) → rest ≡ rest' → (added ++ e ∷ []) ++ rest ≡ added ++ e ∷ rest'
    same_row added e rest rest' same = append_assoc added (e ∷ []) rest ∙ ap (λ (l : List Entry). added ++ e ∷ l) same

    goes_back : (old between new : Hub (Stopping D)) (added entries : List Entry) (first : Unsettled) (later : List Unsettled) (result : Result Unit RecFault)
        → old.log.unsettled ≡ first ∷ later → between.log.unsettled ≡ later → between ≡ record old { log = between.log }
        → Comes from ((added ++ entry.Settled first.t ∷ []) ++ settled_ones between.log.unsettled) between (entries ++ entry.Settled first.t ∷ []) result new
        → Comes from (added ++ settled_ones old.log.unsettled) old entries result new
    goes_back old between new added entries first later result is less rest comes = on result comes
      where
        row_is : (l : List Entry) → (l ++ entry.Settled first.t ∷ []) ++ settled_ones between.log.unsettled ≡ l ++ settled_ones old.log.unsettled
        row_is l =
            same_row l (entry.Settled first.t) (settled_ones between.log.unsettled) (settled_ones later) (ap settled_ones less)
            ∙ ap (λ (u : List Unsettled). l ++ settled_ones u) (sym is)

        on : (r : Result Unit RecFault) → Comes from ((added ++ entry.Settled first.t ∷ []) ++ settled_ones between.log.unsettled) between (entries ++ entry.Settled first.t ∷ []) r new
            → Comes from (added ++ settled_ones old.log.unsettled) old entries r new
        on (Ok done) c = record {
          rest = c.rest ∙ ap (λ (h : Hub (Stopping D)). record h { log = new.log }) rest;
          is_open = subst (IsOpen here.disk new.log.journal here.decls.text) (row_is entries) c.is_open;
          done = subst (λ (l : List Entry). RowDone here.disk here.decls.text from l (view_of new (entries ++ settled_ones old.log.unsettled))) (row_is added)
              (subst (λ (l : List Entry). RowDone here.disk here.decls.text from ((added ++ entry.Settled first.t ∷ []) ++ settled_ones between.log.unsettled) (view_of new l)) (row_is entries) c.done);
        }
        on (Err fault.DiskFault) c = subst (λ (l : List Entry). FailsAll from l new) (row_is added) c
        on (Err (fault.Full len)) c = subst (λ (l : List Entry). FillsAll from l len new) (row_is added) c
        on (Err fault.Memory) c = absurd c
        on (Err (fault.LinkFault device count)) c = absurd c
        on (Err (fault.Refused device tag)) c = absurd c

    pub settles_so : (old new : Hub (Stopping D)) (result : Result Unit RecFault) → SettlesAll (inside here.disk) old result new → (added entries : List Entry)
        → RowDone here.disk here.decls.text from added (view_of old entries) → IsOpen here.disk old.log.journal here.decls.text entries
        → Comes from (added ++ settled_ones old.log.unsettled) old entries result new
    settles_so _ _ _ (none_left hub none) added entries done is =
        let no_more : (l : List Entry) → l ≡ l ++ settled_ones hub.log.unsettled = λ l. sym (ap (λ (u : List Unsettled). l ++ settled_ones u) none ∙ append-nil l) in
        record {
          rest = refl;
          is_open = subst (IsOpen here.disk hub.log.journal here.decls.text) (no_more entries) is;
          done = subst (λ (l : List Entry). RowDone here.disk here.decls.text from l (view_of hub (entries ++ settled_ones hub.log.unsettled))) (no_more added)
              (subst (λ (l : List Entry). RowDone here.disk here.decls.text from added (view_of hub l)) (no_more entries) done);
        }
    settles_so _ _ _ (one_less old between new result first later is one rest) added entries done open_now =
        let e = entry.Settled first.t in
        let behind = open_behind here laws old.log.journal between.log.journal e entries open_now one.0.appended in
        let appends = appended_of here laws old.log.journal between.log.journal e entries open_now one.0.appended one.0.leaves in
        let more = one_more here.disk here.decls.text (row_laws here laws) from (view_of old entries) (view_of between (entries ++ e ∷ [])) added e done appends in
        goes_back old between new added entries first later result is (behind_first (inside here.disk) old between first later is one.0) one.1
        (settles_so between new result rest (added ++ e ∷ []) (entries ++ e ∷ []) more behind)
    settles_so _ _ _ (fails old new met first later is one) added entries done open_now =
        subst (λ (u : List Unsettled). Comes from (added ++ settled_ones u) old entries (Err met) new) (sym is)
        (one_fails old new added entries (settled_ones later) first.t met done open_now one)

  -- the end of a reconciliation
  module _ (keeps : MendingEndedKeeps (inside here.disk)) (world : World D) (old new : Hub (Stopping D)) (own : IsWorldOf here world old)
      (unheard : (device : ℕ) → (world.links device).unheard ≡ None) where
    abbrev numbers : List ℕ
    numbers = map number old.log.unsettled

    met_one : (result : Result Unit RecFault) → (met : RecFault) → old.mends ≡ Some (Some met) → result ≡ Err met → new ≡ mending_ended old
        → EndsMending (inside here.disk) old result new → ComesToEnd here world result new
    met_one result met mends is same so =
        let up : new.down ≡ false = ap (λ (h : Hub (Stopping D)). h.down) same ∙ own.up in
        let sound = subst (λ (r : Result Unit RecFault). IsHub (inside here.disk) new (world.journal.synced ++ row_ended r old)) is (keeps old new world.journal.synced result own.sound so up) in
        inl (quiet here laws world old own (world_with new world) (event.Reconcile (Some result)) new
        (subst (λ (r : Result Unit RecFault). DoesUnderHub here world (record_of old) (event.Reconcile (Some r)) [] (world_with new world)) (sym is)
        (subst (λ (h : Hub (Stopping D)). DoesUnderHub here world (record_of old) (event.Reconcile (Some (Err met))) [] (world_with h world)) (sym same)
        (DoesUnderHub.fails_to_mend met mends unheard)))
        refl (ap (λ (h : Hub (Stopping D)). h.log) same) up (ap (λ (h : Hub (Stopping D)). h.decls) same)
        (λ met begun. absurd (none-some (Some met) (sym (ap (λ (h : Hub (Stopping D)). h.mends) same) ∙ begun)))
        (subst (IsHub (inside here.disk) new) (append-nil world.journal.synced) sound))

    module _ (mends : old.mends ≡ Some None) (free : All (λ on. is_busy on ≡ false) old.duties) where
      -- the world in which nothing is left
      abbrev ended : World D
      ended = record world { hub = Some (record (record_of old) { active = []; mends = None; duties = map mender_freed old.duties }) }

      does : DoesUnderHub here world (record_of old) (event.Reconcile (Some (Ok tt))) (settled_ones old.log.unsettled) ended
      does =
          subst (λ (row : List Entry). DoesUnderHub here world (record_of old) (event.Reconcile (Some (Ok tt))) row ended) (settled_numbers old.log.unsettled)
          (DoesUnderHub.mended numbers mends free unheard (unsettled world old own))

      well : (result : Result Unit RecFault) → (behind : Hub (Stopping D)) → SettlesAll (inside here.disk) old (Ok tt) behind → result ≡ Ok tt
          → new ≡ mending_ended (record behind { active = [] }) → EndsMending (inside here.disk) old result new → ComesToEnd here world result new
      well result behind all is same so =
          let entries = world.journal.synced in
          let row = settled_ones old.log.unsettled in
          let done = settles_so (view_of old entries) own.limit old behind (Ok tt) all [] entries (none_yet here laws world old own) (is_open here laws world old own) in
          let whole : new ≡ mending_ended (record (record old { log = behind.log }) { active = [] }) = same ∙ ap (λ (h : Hub (Stopping D)). mending_ended (record h { active = [] })) done.rest in
          let up : new.down ≡ false = ap (λ (h : Hub (Stopping D)). h.down) whole ∙ own.up in
          let log : behind.log ≡ new.log = sym (ap (λ (h : Hub (Stopping D)). h.log) whole) in
          let sound = subst (λ (r : Result Unit RecFault). IsHub (inside here.disk) new (entries ++ row_ended r old)) is (keeps old new entries result own.sound so up) in
          let journal = journal_of new (entries ++ row) in
          let row_new = subst (λ (l : Log (Stopping D)). RowDone here.disk here.decls.text (view_of old entries) row (journal_view l.journal (entries ++ row))) log done.done in
          let open_new = subst (λ (l : Log (Stopping D)). IsOpen here.disk l.journal here.decls.text (entries ++ row)) log done.is_open in
          inl (record {
            journal = journal;
            comes = Steps.done (record_of old) row (world_with new world) (with_journal journal (world_with new world)) own.is
                (subst (λ (r : Result Unit RecFault). DoesUnderHub here world (record_of old) (event.Reconcile (Some r)) row (world_with new world)) (sym is)
                (subst (λ (h : Hub (Stopping D)). DoesUnderHub here world (record_of old) (event.Reconcile (Some (Ok tt))) row (world_with h world)) (sym whole) does))
                (in_world here laws world old own row appended.Done journal
                (row_done here.disk here.decls.text here.limit (view_of old entries) own.limit (view_of new (entries ++ row)) row row_new (held_of here laws new.log.journal (entries ++ row) open_new)))
                refl;
            is = record {
              up = up;
              is = refl;
              decls = ap (λ (h : Hub (Stopping D)). h.decls) whole ∙ own.decls;
              journal = refl;
              limit = row_new.limit ∙ own.limit;
              running = open_new.running;
              met = λ met begun. absurd (none-some (Some met) (sym (ap (λ (h : Hub (Stopping D)). h.mends) whole) ∙ begun));
              sound = sound;
            };
          })

      -- the hub of which the last append was tried, and the one after the end
      failed_one : (behind : Hub (Stopping D)) → FailsAll (view_of old world.journal.synced) (settled_ones old.log.unsettled) behind → new ≡ mending_ended behind
          → FailsIn here world (event.Reconcile (Some (Ok tt))) new
      failed_one behind f same =
          let row = settled_ones old.log.unsettled in
          let down : new.down ≡ true = ap (λ (h : Hub (Stopping D)). h.down) same ∙ f.down in
          let disk : f.journal.disk ≡ new.log.journal.disk.inner = f.disk ∙ sym (ap (λ (h : Hub (Stopping D)). h.log.journal.disk.inner) same) in
          let stops : new.log.journal.disk.stopped ≡ behind.log.journal.disk.stopped = ap (λ (h : Hub (Stopping D)). h.log.journal.disk.stopped) same in (
            down,
            ⊎_elim
                (λ s.
                let row_so = subst (λ (o : Appended). AppendsRow here.disk here.decls.text here.limit (journal_of old world.journal.synced) row o f.journal) s.1 f.row_so in
                inl (
                  stops ∙ s.0,
                  record {
                    journal = f.journal;
                    comes = Steps.cut (record_of old) row ended (with_journal f.journal (stopped world)) own.is does (in_world here laws world old own row appended.Stopped f.journal row_so) refl;
                    disk = disk;
                    holds = row_so.outlives.holds;
                  },
                ))
                (λ s.
                let row_so = subst (λ (o : Appended). AppendsRow here.disk here.decls.text here.limit (journal_of old world.journal.synced) row o f.journal) s.1 f.row_so in
                inr (
                  stops ∙ s.0,
                  record {
                    journal = f.journal;
                    comes = Steps.failed (record_of old) row ended (with_journal f.journal (without_hub world)) own.is does (in_world here laws world old own row appended.Failed f.journal row_so) refl;
                    disk = disk;
                    holds = row_so.outlives.holds;
                  },
                  subst (λ (d : D). Rose (here.disk.faults d) (here.disk.faults new.log.journal.disk.inner)) (sym (ap (λ (j : Journal D). j.disk) own.journal))
                      (subst (λ (d : D). Rose (here.disk.faults old.log.journal.disk.inner) (here.disk.faults d)) disk row_so.ends.1),
                )) f.which,
          )

      full_one : (behind : Hub (Stopping D)) (len : ℕ) → FillsAll (view_of old world.journal.synced) (settled_ones old.log.unsettled) len behind → new ≡ mending_ended behind
          → LacksRoomFor here world (event.Reconcile (Some (Ok tt))) len new
      full_one behind len f same =
          let row = settled_ones old.log.unsettled in (
            ap (λ (h : Hub (Stopping D)). h.down) same ∙ f.down,
            record {
              journal = f.journal;
              comes = Steps.full (record_of old) row ended len (with_journal f.journal (without_hub world)) own.is does (in_world here laws world old own row (appended.Full len) f.journal f.row_so) refl;
              disk = f.disk ∙ sym (ap (λ (h : Hub (Stopping D)). h.log.journal.disk.inner) same);
              holds = f.row_so.outlives.holds;
            },
            record_of old,
            row,
            ended,
            own.is,
            does,
            in_world here laws world old own row (appended.Full len) f.journal f.row_so,
          )

      ill : (result : Result Unit RecFault) (met : RecFault) (behind : Hub (Stopping D)) → result ≡ Err met → SettlesAll (inside here.disk) old (Err met) behind
          → new ≡ mending_ended behind → ComesToEnd here world result new
      ill result met behind is all same =
          on met is (settles_so (view_of old world.journal.synced) own.limit old behind (Err met) all [] world.journal.synced (none_yet here laws world old own) (is_open here laws world old own))
        where
          on : (m : RecFault) → result ≡ Err m → Comes (view_of old world.journal.synced) (settled_ones old.log.unsettled) old world.journal.synced (Err m) behind → ComesToEnd here world result new
          on fault.DiskFault e c = inr (inl (e, failed_one behind c same))
          on (fault.Full len) e c = inr (inr (len, e, full_one behind len c same))
          on fault.Memory e c = absurd c
          on (fault.LinkFault device count) e c = absurd c
          on (fault.Refused device tag) e c = absurd c

  pub mending_ends_so : MendingEndedKeeps (inside here.disk) → MendingEnds here
  mending_ends_so keeps world old new result own done unheard so = ⊎_elim
      (λ met. met_one keeps world old new own unheard result met.0 met.1 met.2 met.3 so)
      (λ rest.
      let free = all_free old.duties (done (ap has_met_failure rest.0)) in
      ⊎_elim
      (λ ok. well keeps world old new own unheard rest.0 free result ok.1.0 ok.1.1 ok.0 ok.1.2 so)
      (λ bad. ill keeps world old new own unheard rest.0 free result bad.0 bad.2.0 bad.1 bad.2.1 bad.2.2) rest.1) so
