-- The journal is opened again.
use Rattle.std.proofs.Common.{[], ◌≡◌, ◌<◌, ◌≤◌, ◌+◌, ◌-◌, ◌⊎◌, inl, inr, ℕ, Bool, true, false, cond, Option, Some, None, List, ◌∷◌, ◌++◌, All, length, is_some, take, refl, sym, ap, subst, ◌∙◌, arith}
use Rattle.std.specs.Prelude.{◌^◌, min, slice_get}
use Rattle.std.specs.List.{find}
use Rattle.std.specs.Option.{option_map}
use Rattle.std.specs.Cmp.Lexicographic.{bytes_decides}
use Rattle.std.proofs.lemmas.Bool.{false≢true}
use Rattle.std.proofs.lemmas.List.Elements.{All-nil}
use Rattle.std.proofs.lemmas.Option.{none-some}
use Rattle.orc_journal.specs.Views.{unstopped}
use Rattle.orc_decls.specs.Declarations.{AreDecls}
use Rattle.orc_decls.specs.Devices.{is_same_text}
use Rattle.orc_decls.specs.declared.declarations.Decls.{Decls}
use Rattle.orc_disk.specs.Course.{Counted}
use Rattle.orc_disk.specs.Meanings.{DiskMeaning}
use Rattle.orc_disk.specs.Rows.{Course}
use Rattle.orc_disk.specs.Stops.{Stopping, inside}
use Rattle.orc_hub.specs.Starts.{IsStartFault}
use Rattle.orc_hub.specs.declared.hub.Hub.{Hub}
use Rattle.orc_hub.specs.declared.starting.StartFault.{StartFault}
use Rattle.orc_hub.specs.declared.starting.StartFault.TheVariants as start
use Rattle.orc_hub_parts.specs.Pasts.{IsIllegalDecide}
use Rattle.orc_hub_laws.specs.Turns.{OpeningStaysDown, RefusalStaysDown, StartIsRecovery, world_with}
use Rattle.orc_hub_laws.specs.Under.{GoesOnUnder, StaysDown, with_journal}
use Rattle.orc_hub_laws.proofs.Openings.{of_heard_inside, synced_inside}
use Rattle.orc_io.specs.Counts.{Rose}
use Rattle.orc_journal.specs.Faults.{OfHeard}
use Rattle.orc_journal.specs.Hearing.{IsSynced}
use Rattle.orc_journal.specs.Journals.{IsForeign, IsNotJournal, journal_bytes}
use Rattle.orc_journal.specs.Opened.{OpenJournal}
use Rattle.orc_journal.specs.Opening.{AreEntriesOf, HasOpened, HasRefused}
use Rattle.orc_journal.specs.declared.entry.Entry.{Entry}
use Rattle.orc_journal.specs.declared.entry.Entry.TheVariants as entry
use Rattle.orc_journal.specs.declared.fault.OpenFault.{OpenFault}
use Rattle.orc_journal.specs.declared.fault.OpenFault.TheVariants as opening
use Rattle.orc_rules.specs.Events.{Comes, Turn}
use Rattle.orc_rules.specs.Hubs.{Hub as HubState}
use Rattle.orc_rules.specs.Journals.{HoldsEntries, Journal, history_read}
use Rattle.orc_rules.specs.Worlds.{Setting, World as Seen}
use Rattle.orc_rules.specs.declared.event.Event.TheVariants as event
use Rattle.orc_runs.specs.Ends.{EndedBecause, IsIllegal, IsUnfit}
use Rattle.orc_runs.specs.Laws.{RunsAreCarried}
use Rattle.orc_state.specs.States.{IsSnapshotAt}
use Rattle.orc_scene.specs.Courses.{EndsUnopened}
use Rattle.orc_scene.specs.inside.Openings.{IsStartedAgain, IsUnstartedAgain}
use Rattle.orc_scene.specs.Snapshots.{fronts_of, is_taken_by}
use Rattle.orc_scene.specs.Effects.{hub_in}
use Rattle.orc_scene.specs.Stands.{IsPlaceSeenAs, IsSeenAs, IsSoundScene, IsNotReconciling, run_setting}
use Rattle.orc_scene.specs.inside.Effects.{IsClosed}
use Rattle.orc_scene.specs.RunEnds.{end_of_run, stop_of_opening, stop_of_start}
use Rattle.orc_scene.specs.declared.snapshots.Taken.{Taken}
use Rattle.orc_scene.specs.declared.stop.WorldStop.{WorldStop}
use Rattle.orc_scene.specs.declared.stop.WorldStop.TheVariants as stop
use Rattle.orc_scene.specs.declared.scene.Place.{Place}
use Rattle.orc_scene.specs.declared.scene.Place.TheVariants.{Up, Down, Ended, Moved}
use Rattle.orc_scene.specs.declared.scene.Scene.{Scene}
use Rattle.orc_scene.proofs.Carrying.{carried_on}
use Rattle.orc_scene.proofs.Numbering.{numbered_on}

-- the journal was opened over this text and this disk
pub opened_at : {D : Type 0} (disk : DiskMeaning D) (text other : List ℕ) (limit : ℕ) (from made : Stopping D) (journal : OpenJournal (Stopping D)) (entries : List Entry) → other ≡ text → made ≡ from
    → HasOpened (inside disk) other limit made journal entries → HasOpened (inside disk) text limit from journal entries
opened_at {D} disk text other limit from made journal entries same_text same opened =
    subst (λ (s : Stopping D). HasOpened (inside disk) text limit s journal entries) same
    (subst (λ (t : List ℕ). HasOpened (inside disk) t limit made journal entries) same_text opened)

-- or refused so
pub refused_at : {D : Type 0} (disk : DiskMeaning D) (text other : List ℕ) (limit : ℕ) (from made last : Stopping D) (fault : OpenFault) → other ≡ text → made ≡ from
    → HasRefused (inside disk) other limit made last fault → HasRefused (inside disk) text limit from last fault
refused_at {D} disk text other limit from made last fault same_text same refused =
    subst (λ (s : Stopping D). HasRefused (inside disk) text limit s last fault) same
    (subst (λ (t : List ℕ). HasRefused (inside disk) t limit made last fault) same_text refused)

-- no caller has a snapshot where none has a front
none_taken : (taken : List Taken) → ((caller : List ℕ) → fronts_of taken caller ≡ None) → taken ≡ []
none_taken [] none = refl
none_taken (one ∷ taken) none = absurd (on (is_same_text one.caller one.caller) ((bytes_decides one.caller one.caller).1 refl) (none one.caller))
  where
    on : (b : Bool) → b ≡ true → option_map (λ (it : Taken). it.snapshot.front) (cond b (Some one) (find (is_taken_by one.caller) taken)) ≡ None → ⊥
    on true is wrong = none-some one.snapshot.front (sym wrong)
    on false is wrong = false≢true is

-- the count of faults rose after one that was no less
rose_from : (a b c most : ℕ) → a ≤ b → min (b + 1) most ≤ c → min (a + 1) most ≤ c
rose_from a b c most less rose = omega (arith, less, rose)

module _ {D : Type 0} (here : Setting D) where
  -- A refused journal on a disk that failed: the disk has counted that.
  rose_inside : ((course : Course) (a b : D) → here.disk.leads course a b → Counted course.failed (here.disk.faults a) (here.disk.faults b))
      → (disk : D) (last : Stopping D) → HasRefused (inside here.disk) here.decls.text here.limit (unstopped disk) last opening.DiskFault
      → Rose (here.disk.faults disk) (here.disk.faults last.inner)
  rose_inside counts disk last has =
      let failing = has.failed refl in
      let ran = failing.ran.1 in
      let running : failing.last.stopped ≡ false = ran.runs refl refl in
      let unarmed = (ran.passes refl running).0 in
      let before = (counts ran.inner_course disk failing.last.inner ran.inner).later in
      elim (failing.failed.cause refl) [
        | inl inner ↦ rose_from (here.disk.faults disk) (here.disk.faults failing.last.inner) (here.disk.faults last.inner) (2 ^ 64 - 1) before
            ((counts failing.failed.inner_course failing.last.inner last.inner failing.failed.inner).rose inner)
        | inr was ↦ absurd (let came = (failing.failed.comes running was.0).0 in omega (arith, came, unarmed))
      ]

  module _ (law : RunsAreCarried here) (counts : (course : Course) (a b : D) → here.disk.leads course a b → Counted course.failed (here.disk.faults a) (here.disk.faults b))
      (seen : Seen D) (old : Scene D) (disk : D) (decls : Decls) (is : IsSeenAs here seen old) (down : old.place ≡ Down disk decls) where
    at_down : (seen.hub ≡ None) × (decls ≡ here.decls) × (seen.journal.disk ≡ disk) × HoldsEntries here.disk here.decls.text here.limit seen.journal
        × ((caller : List ℕ) → seen.snapshots caller ≡ None)
    at_down = subst (IsPlaceSeenAs here seen) down is.place

    none_there : old.snapshots.taken ≡ []
    none_there = none_taken old.snapshots.taken (λ caller. sym (is.snapshots caller) ∙ at_down.4 caller)

    -- a hub is up again, and the rules see it
    pub opened_again : StartIsRecovery here → here.granted ≡ false → (hub : Hub (Stopping D)) → IsStartedAgain here.disk decls disk old.limit hub
        → (next : Seen D) × Comes here (record { before = seen; meant = event.Recover; seen = Some event.Recover; behind = next })
        × IsSeenAs here next (record old { place = Up hub }) × IsNotReconciling (Up hub) × (old.limit ≡ old.limit) × (old.links ≡ old.links) × (old.events ≡ old.events)
    opened_again starts denied hub again_as =
        let again : IsStartedAgain here.disk here.decls disk here.limit hub = subst (λ (d : Decls). IsStartedAgain here.disk d disk here.limit hub) at_down.1
        (subst (λ (l : ℕ). IsStartedAgain here.disk decls disk l hub) is.limit.0 again_as) in
        let went : GoesOnUnder here seen (world_with hub seen) event.Recover hub =
        starts seen (unstopped disk) again.started.journal again.started.entries hub at_down.0 at_down.3 (sym at_down.2, refl, refl) again.started.opened again.stood
        (λ granted. absurd (false≢true (sym denied ∙ granted))) again.started.sound again.started.started in
        let next : Seen D = with_journal went.journal (world_with hub seen) in (
          next,
          went.comes,
          record {
            decls = is.decls;
            short = is.short;
            limit = is.limit;
            place = went.is;
            snapshots = is.snapshots;
            fronts = subst (λ (taken : List Taken). All (λ one. IsSnapshotAt here.decls (history_read went.journal) one.snapshot) taken) (sym none_there)
                (All-nil (λ (one : Taken). IsSnapshotAt here.decls (history_read went.journal) one.snapshot));
            nodes = is.nodes;
            links = is.links;
            accepts = is.accepts;
            logs = is.logs;
            numbered = numbered_on here seen event.Recover (Some event.Recover) next went.comes (λ other up. absurd (none-some other (sym at_down.0 ∙ up))) is.numbered;
            kept = carried_on here law seen next event.Recover (Some event.Recover) is.kept went.comes;
          },
          ap (λ (h : HubState). h.mends) again.started.started.hub_is,
          refl,
          refl,
          refl,
        )

    -- the journal stays as it is, and the run ends
    abbrev turn_unopened : Journal D → Turn D
    turn_unopened journal = record { before = seen; meant = event.Recover; seen = None; behind = with_journal journal seen }

    stays_ended : (to : D) (why : WorldStop) (stays : StaysDown here seen to) → EndedBecause here (turn_unopened stays.journal ∷ []) (end_of_run why)
        → EndsUnopened here seen old (record old { place = Ended to }) why
    stays_ended to why stays because = record { last = with_journal stays.journal seen; comes = stays.comes; because = because; disk = sym stays.is; events = refl }

    -- what was heard as the journal was opened, on a disk that no stop came to, is what the recovery read
    abbrev ReadsOf : D → (List ℕ → Type 0) → Type 0
    ReadsOf to P = (from : D) × IsSynced here.disk seen.journal.disk from to × OfHeard here.disk from to P

    read_so : (synced now : Stopping D) (to : D) → to ≡ now.inner → (P : List ℕ → Type 0) → IsSynced (inside here.disk) (unstopped disk) synced now → OfHeard (inside here.disk) synced now P
        → ReadsOf to P
    read_so synced now to same P looked heard =
        subst (λ (d : D). ReadsOf d P) (sym same) (subst (λ (d : D). (from : D) × IsSynced here.disk d from now.inner × OfHeard here.disk from now.inner P) (sym at_down.2) (
          synced.inner,
          synced_inside here.disk (unstopped disk) synced now refl looked,
          of_heard_inside here.disk (unstopped disk) synced now P refl looked heard,
        ))

    refused_because : (last : Stopping D) (fault : OpenFault) → HasRefused (inside here.disk) here.decls.text here.limit (unstopped disk) last fault
        → (journal : Journal D) → journal.disk ≡ last.inner → EndedBecause here (turn_unopened journal ∷ []) (end_of_run (stop_of_opening fault))
    refused_because last (opening.Foreign at) has journal same = ([], turn_unopened journal, refl, (refl, refl, read_so has.synced last journal.disk same (λ file. IsForeign file here.decls.text at) (has.looked (λ no. cc)) has.cause))
    refused_because last opening.NotJournal has journal same = ([], turn_unopened journal, refl, (refl, refl, read_so has.synced last journal.disk same (λ file. IsNotJournal file) (has.looked (λ no. cc)) has.cause))
    refused_because last opening.DiskFault has journal same = (
      [],
      turn_unopened journal,
      refl,
      (
        at_down.0,
        subst (λ (d : D). Rose (here.disk.faults seen.journal.disk) (here.disk.faults d)) (sym same)
            (subst (λ (d : D). Rose (here.disk.faults d) (here.disk.faults last.inner)) (sym at_down.2) (rose_inside counts disk last has)),
      ),
    )
    refused_because last opening.Memory has journal same = tt
    refused_because last (opening.Full len) has journal same = (
      [],
      turn_unopened journal,
      refl,
      inr (
        has.cause.0,
        has.cause.1,
        (
          refl,
          refl,
          read_so has.synced last journal.disk same (λ file. file ≡ []) (has.looked (λ no. cc)) has.cause.2,
        ),
      ),
    )
    refused_because last (opening.Damaged at) has journal same = (
      [],
      turn_unopened journal,
      refl,
      (
        refl,
        refl,
        read_so has.synced last journal.disk same (λ file. IsUnfit here file at) (has.looked (λ no. cc)) (has.cause.0, has.cause.1, inl has.cause.2),
      ),
    )

    module _ (journal : OpenJournal (Stopping D)) (entries : List Entry) (has : HasOpened (inside here.disk) here.decls.text here.limit (unstopped disk) journal entries)
        (last : Journal D) (same : last.disk ≡ journal.disk.inner) where
      reads_have : (P : List ℕ → Type 0) → P has.file → ReadsOf last.disk P
      reads_have P so = read_so has.synced journal.disk last.disk same P has.looked (has.file, has.heard, so)

      -- the entries are those of a journal that was read, where one is a Decide
      illegal_read : (place : ℕ) → IsIllegalDecide here.decls entries place → (at : ℕ) → at ≡ length (journal_bytes here.decls.text (take place entries)) + 1
          → AreEntriesOf has.file here.decls.text entries → IsIllegal here.decls has.file at
      illegal_read place illegal at offset (inl none) = absurd (nowhere entries none.1 illegal.decide)
        where
          nowhere : (rows : List Entry) → rows ≡ [] → slice_get rows place ≡ Some (entry.Decide illegal.t) → ⊥
          nowhere rows is there = nothing (subst (λ (l : List Entry). slice_get l place ≡ Some (entry.Decide illegal.t)) is there)
            where
              nothing : ◌≡◌ {A = Option Entry} (slice_get [] place) (Some (entry.Decide illegal.t)) → ⊥
              nothing wrong = cc
      illegal_read place illegal at offset (inr journal_is) = record {
        entries = entries;
        journal = journal_is;
        ordered = has.ordered;
        place = place;
        illegal = record { t = illegal.t; decide = illegal.decide; before = illegal.before; illegal = illegal.illegal };
        offset = offset;
      }

      unstarted_because : (fault : StartFault) → IsStartFault here.decls entries fault → EndedBecause here (turn_unopened last ∷ []) (end_of_run (stop_of_start fault))
      unstarted_because start.Memory cause = tt
      unstarted_because (start.Damaged n at) cause = (
        [],
        turn_unopened last,
        refl,
        (
          refl,
          refl,
          reads_have (λ file. IsUnfit here file at) (inr (inl (illegal_read cause.0 cause.1 at cause.3 has.read))),
        ),
      )

      -- nothing was read where a journal stood
      gone_because : journal.fresh ≡ true → EndedBecause here (turn_unopened last ∷ []) (end_of_run (stop.Damaged 0))
      gone_because fresh = ([], turn_unopened last, refl, (refl, refl, reads_have (λ file. IsUnfit here file 0) (inr (inr (has.fresh.0 fresh, refl)))))

    -- the recovery came to nothing, and the run ended
    pub ends_unopened : RefusalStaysDown here → OpeningStaysDown here → (why : WorldStop) (to : D) → IsUnstartedAgain here.disk decls disk old.limit why to
        → EndsUnopened here seen old (record old { place = Ended to }) why
    ends_unopened refusal unopening why to unstarted_as =
        on (subst (λ (d : Decls). IsUnstartedAgain here.disk d disk here.limit why to) at_down.1 (subst (λ (l : ℕ). IsUnstartedAgain here.disk decls disk l why to) is.limit.0 unstarted_as))
      where
        moved : (to : D) (last : WorldStop) (now : D) → to ≡ now → why ≡ last → EndsUnopened here seen old (record old { place = Ended now }) last
            → EndsUnopened here seen old (record old { place = Ended to }) why
        moved to last now at is ends = subst (λ (d : D). EndsUnopened here seen old (record old { place = Ended d }) why) (sym at)
            (subst (λ (w : WorldStop). EndsUnopened here seen old (record old { place = Ended now }) w) (sym is) ends)

        on : IsUnstartedAgain here.disk here.decls disk here.limit why to → EndsUnopened here seen old (record old { place = Ended to }) why
        on (inl unstarted) = elim unstarted.cause [
          | inl refused ↦ (let stays = refusal seen (unstopped disk) refused.1 refused.0 at_down.0 at_down.3 (sym at_down.2) refused.4 in
              moved to (stop_of_opening refused.0) refused.1.inner refused.2 refused.3
              (stays_ended refused.1.inner (stop_of_opening refused.0) stays (refused_because refused.1 refused.0 refused.4 stays.journal stays.is)))
          | inr made ↦ (let stays = unopening seen (unstopped disk) made.1 made.2 at_down.0 at_down.3 (sym at_down.2) made.5 in
              moved to (stop_of_start made.0) made.1.disk.inner made.3 made.4
              (stays_ended made.1.disk.inner (stop_of_start made.0) stays (unstarted_because made.1 made.2 made.5 stays.journal stays.is made.0 made.6)))
        ]
        on (inr empty) =
            (let stays = unopening seen (unstopped disk) empty.0 empty.1 at_down.0 at_down.3 (sym at_down.2) empty.5 in
            moved to (stop.Damaged 0) empty.0.disk.inner empty.2 empty.3
            (stays_ended empty.0.disk.inner (stop.Damaged 0) stays (gone_because empty.0 empty.1 empty.5 stays.journal stays.is empty.4)))

    pub opened_into : StartIsRecovery here → here.granted ≡ false → (hub : Hub (Stopping D)) → IsStartedAgain here.disk decls disk old.limit hub → (place : Place D) → place ≡ Up hub
        → (next : Seen D) × Comes here (record { before = seen; meant = event.Recover; seen = Some event.Recover; behind = next })
        × IsSeenAs here next (record old { place = place }) × IsNotReconciling place × (old.limit ≡ old.limit) × (old.links ≡ old.links) × (old.events ≡ old.events)
    opened_into starts denied hub again place placed =
        subst (λ (p : Place D). (next : Seen D) × Comes here (record { before = seen; meant = event.Recover; seen = Some event.Recover; behind = next })
        × IsSeenAs here next (record old { place = p }) × IsNotReconciling p × (old.limit ≡ old.limit) × (old.links ≡ old.links) × (old.events ≡ old.events)) (sym placed)
        (opened_again starts denied hub again)

    pub ends_into : RefusalStaysDown here → OpeningStaysDown here → (why : WorldStop) (to : D) → IsUnstartedAgain here.disk decls disk old.limit why to → (place : Place D) → place ≡ Ended to
        → EndsUnopened here seen old (record old { place = place }) why
    ends_into refusal unopening why to unstarted place placed =
        subst (λ (p : Place D). EndsUnopened here seen old (record old { place = p }) why) (sym placed) (ends_unopened refusal unopening why to unstarted)

-- what is so of a controller that is down
module _ {D : Type 0} (meaning : DiskMeaning D) (old : Scene D) (sound : IsSoundScene meaning old) where
  abbrev setting_of : Setting D
  setting_of = run_setting meaning sound.0 old.limit sound.1

  pub decls_down : (disk : D) (decls : Decls) → old.place ≡ Down disk decls → AreDecls decls × (length decls.text < 2 ^ 32)
  decls_down disk decls down =
      let own = subst (IsPlaceSeenAs setting_of sound.2) down sound.3.place in
      (subst (λ (d : Decls). AreDecls d) (sym own.1) sound.3.decls, subst (λ (d : Decls). length d.text < 2 ^ 32) (sym own.1) sound.3.short)

  pub closed_there : is_some (hub_in old.place) ≡ false → IsClosed old.place
  closed_there down = on old.place down sound.3.place
    where
      on : (place : Place D) → is_some (hub_in place) ≡ false → IsPlaceSeenAs setting_of sound.2 place → IsClosed place
      on (Up hub) none is = absurd (false≢true (sym none))
      on (Down disk decls) none is = tt
      on (Ended disk) none is = absurd is
      on Moved none is = absurd is
