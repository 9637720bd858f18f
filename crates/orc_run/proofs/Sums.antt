-- The run of a bundle that was made, and its summary.
use Rattle.std.proofs.Common.{◌≡◌, ◌⊎◌, inr, ⊎_elim, ℕ, ◌+◌, true, false, List, [], ◌∷◌, ◌++◌, length, Some, None, Option, Ok, Err, Result, refl, sym, ap, subst, ◌∙◌}
use Rattle.std.specs.Prelude.{MatchResult, ◌≢◌, count_by, if◌then◌else◌}
use Rattle.std.specs.FinMap.{entries}
use Rattle.std.specs.Option.{option_map, option_map_or}
use Rattle.std.proofs.lemmas.Bool.{false≢true}
use Rattle.std.proofs.lemmas.List.Sums.{sum_by-cons}
use Rattle.orc_bundle.specs.declared.scripted.ScriptedBundle.{ScriptedBundle}
use Rattle.orc_decls.specs.declared.declarations.Decls.{Decls}
use Rattle.orc_disk.specs.Course.{Counted}
use Rattle.orc_disk.specs.Meanings.{DiskMeaning}
use Rattle.orc_disk.specs.Rows.{Course, joined}
use Rattle.orc_hub_laws.specs.Under.{IsWorldOf}
use Rattle.orc_hub.specs.declared.hub.Hub.{Hub}
use Rattle.orc_disk.specs.Stops.{Stopping}
use Rattle.orc_io.specs.Counts.{Rose}
use Rattle.orc_journal.specs.Committed.{history_of}
use Rattle.orc_links.specs.Networks.{node_states}
use Rattle.orc_node.specs.LinkStates.{LinkState}
use Rattle.orc_print.specs.Printed.{recovered_line}
use Rattle.orc_rules.specs.Hubs.{Hub as HubState}
use Rattle.orc_rules.specs.Journals.{Journal, history_read}
use Rattle.orc_rules.specs.Worlds.{Setting, World as Seen}
use Rattle.orc_rules.specs.declared.event.Event.{Event}
use Rattle.orc_runs.specs.Ends.{EndOfRun}
use Rattle.orc_run.specs.ReadBack.{ReadBackRunsHaveTheHeadline}
use Rattle.orc_runs.specs.Runs.{EndsFor, LineDone, Run, turns_of}
use Rattle.orc_script.specs.declared.step.ScriptStep.{ScriptStep}
use Rattle.orc_text.specs.Counts.{capped}
use Rattle.orc_scene.proofs.Allowed.{links_long}
use Rattle.orc_scene.specs.Begins.{HasBegun}
use Rattle.orc_scene.specs.Effects.{hub_in}
use Rattle.orc_scene.specs.Courses.{events_in}
use Rattle.orc_world.specs.Scripts.{KeepsLogs, RunsInWorld, RunsScript}
use Rattle.orc_scene.specs.Stands.{HasDisk, IsPlaceSeenAs, IsSeenAs, IsNotReconciling, is_somewhere, run_setting}
use Rattle.orc_scene.specs.RunEnds.{end_of_run}
use Rattle.orc_scene.specs.declared.stop.WorldStop.{WorldStop}
use Rattle.orc_scene.specs.declared.stop.WorldStop.TheVariants as stop
use Rattle.orc_scene.specs.declared.scene.Place.{Place}
use Rattle.orc_scene.specs.declared.scene.Place.TheVariants.{Up, Down, Ended, Moved}
use Rattle.orc_scene.specs.declared.scene.Scene.{Scene}
use Rattle.orc_run.specs.Ends.{EndsSummed, Outside, ScriptRun, SummedRun, WroteSummary, stop_of_end}
use Rattle.orc_run.specs.Summaries.{RunCounts, counts_of, is_call_line, is_commit, items_on, summary_text}
use Rattle.orc_run.specs.declared.opening.TheConstants.{LARGEST_JOURNAL}
use Rattle.orc_run.specs.declared.stop.Done.{Done}
use Rattle.orc_run.specs.declared.stop.Stop.{Stop}
use Rattle.orc_run.specs.declared.stop.Stop.TheVariants as ending
use Rattle.orc_run.specs.inside.Scripts.{Greets, stop_of_world}
use Rattle.orc_run.specs.inside.Sums.{SumsOrNeverBegins, counted, counts_in, items_over}
use Rattle.orc_run.proofs.Beginning.{begins_over}
use Rattle.orc_run.proofs.Finishing.{disk_somewhere, disk_there, one_disk, seen_somewhere}
use Rattle.orc_run.proofs.Lined.{stop_is}
use Rattle.orc_run.proofs.Rising.{rose_later, script_rose}

-- ---- what is counted

-- the items of the devices, by their numbers and by their links
items_are : (links : List LinkState) → items_on (node_states links) (length links) ≡ items_over links
items_are [] = refl
items_are (link ∷ links) =
    ap (λ (n : ℕ). length (entries link.node.state.running) + n) (items_are links)
    ∙ sym (sum_by-cons (λ (l : LinkState). length (entries l.node.state.running)) link links)

module _ {D : Type 0} (here : Setting D) where
  -- the entries of the history, where the hub is up
  hub_knows : (last : Seen D) (hub : Hub (Stopping D)) → IsWorldOf here last hub → length hub.state.history ≡ length (history_read last.journal)
  hub_knows last hub is =
      let history_is : history_of last.journal.synced ≡ history_read last.journal = sym (ap (λ (j : Journal D). history_read j) is.journal) in
      ap length (sym is.sound.history ∙ history_is)

  entries_known : (last : Seen D) (place : Place D) → IsPlaceSeenAs here last place
      → option_map_or (λ (hub : Hub (Stopping D)). length hub.state.history) (hub_in place) 0
      ≡ option_map_or (λ (hub : HubState). length (history_read last.journal)) last.hub 0
  entries_known last (Up hub) is =
      hub_knows last hub is ∙ sym (ap (λ (o : Option HubState). option_map_or (λ (h : HubState). length (history_read last.journal)) o 0) is.is)
  entries_known last (Down disk decls) is =
      sym (ap (λ (o : Option HubState). option_map_or (λ (h : HubState). length (history_read last.journal)) o 0) is.0)
  entries_known last (Ended disk) is = absurd is
  entries_known last Moved is = absurd is

  -- what is counted in a world is what is counted of its run
  counts_are : (first last : Seen D) (script : List ScriptStep) (run : Run here script first last) (new : Scene D) → IsSeenAs here last new
      → new.events.items.items ≡ events_in (turns_of run) → counts_in script new ≡ counts_of run
  counts_are first last script run new is events =
      let committed : capped (count_by is_commit new.events.items.items) ≡ capped (count_by is_commit (events_in (turns_of run))) =
      ap (λ (l : List Event). capped (count_by is_commit l)) events in
      let known = entries_known last new.place is.place in
      let items : capped (items_over new.links.links) ≡ capped (items_on last.nodes (length here.decls.names)) =
      ap capped (sym (items_are new.links.links)
      ∙ ap (λ (n : ℕ). items_on (node_states new.links.links) n) (links_long here last new is)
      ∙ ap (λ nodes. items_on nodes (length here.decls.names)) (sym is.nodes)) in
      ap (λ (n : ℕ). counted (capped (count_by is_call_line script)) n (option_map_or (λ hub. length hub.state.history) (hub_in new.place) 0) (capped (items_over new.links.links))) committed
      ∙ ap (λ (n : ℕ). counted (capped (count_by is_call_line script)) (capped (count_by is_commit (events_in (turns_of run)))) n (capped (items_over new.links.links))) known
      ∙ ap (λ (n : ℕ). counted (capped (count_by is_call_line script)) (capped (count_by is_commit (events_in (turns_of run)))) (option_map_or (λ hub. length (history_read last.journal)) last.hub 0) n) items

-- ---- the run

module _ {D : Type 0} (disk : DiskMeaning D) where
  -- what `run_steps` did, in the setting of a limit
  abbrev RunsAt : List ScriptStep → Scene D → Result (Unit {0}) WorldStop → Scene D → List ℕ → List ℕ → ℕ → Type 0
  RunsAt script old result new before after limit = (decls : Decls) (seen : Seen D)
      → IsSeenAs (run_setting disk decls limit false) seen old
      → (last : Seen D)
      × (does : RunsInWorld (run_setting disk decls limit false) script seen old new before after last)
      × MatchResult result
      (λ done. (does.run.end ≡ None) × IsSeenAs (run_setting disk decls limit false) last new × IsNotReconciling new.place
      × KeepsLogs old new does.run.lines)
      (λ why. (does.run.why ≡ Some (end_of_run why)) × HasDisk new.place last.journal.disk)

  runs_at : (script : List ScriptStep) (old : Scene D) (result : Result (Unit {0}) WorldStop) (new : Scene D) (before after : List ℕ)
      → RunsScript disk script old result new before after → (limit : ℕ) → old.limit ≡ limit → RunsAt script old result new before after limit
  runs_at script old result new before after runs limit same =
      subst (RunsAt script old result new before after) same (λ decls seen is. runs decls false seen is (λ wrong. absurd (false≢true wrong)))

  -- what is printed as a run begins with this hub
  greeting_at : Place D → List ℕ
  greeting_at (Up hub) = if hub.log.journal.fresh then [] else recovered_line (length hub.state.history)
  greeting_at other = []

  greets_at : (place : Place D) → Greets place (greeting_at place)
  unfolding greeting_at
  greets_at (Up hub) = refl
  greets_at (Down held decls) = refl
  greets_at (Ended held) = refl
  greets_at Moved = refl

  -- no line ended it, so nothing says why
  no_why : (here : Setting D) (end : Option (LineDone D)) (why : Option EndOfRun) → EndsFor here end why → end ≡ None → why ≡ None
  no_why here None why because is = because
  no_why here (Some line) why because is = absurd cc

  module _ (law : ReadBackRunsHaveTheHeadline disk) (decls : Decls) (from : D) (old : Scene D) (begun : HasBegun disk decls from LARGEST_JOURNAL old)
      (script : List ScriptStep) (new : Scene D) (before after : List ℕ) (last : D) (has : HasDisk new.place last) where
    -- the script came to its end
    pub ran_whole : RunsScript disk script old (Ok tt) new before after
        → ScriptRun (run_setting disk decls LARGEST_JOURNAL false) begun.seen script (summary_text (counts_in script new)) None last
    ran_whole runs =
        let here = run_setting disk decls LARGEST_JOURNAL false in
        let all = runs_at script old (Ok tt) new before after runs LARGEST_JOURNAL begun.limit_is decls begun.seen (begun.is false) in
        let seen = all.0 in
        let does = all.1 in
        let ends = all.2 in
        let events : new.events.items.items ≡ events_in (turns_of does.run) = does.events ∙ ap (λ (l : List Event). l ++ events_in (turns_of does.run)) begun.events in
        record {
          last = seen;
          run = does.run;
          unnoted = λ device. does.noted device ∙ begun.noted device;
          why = sym (ap (option_map stop_of_end) (no_why here does.run.end does.run.why does.run.because ends.0));
          disk_is = disk_there here seen new.place last ends.1.place has;
          summary_is = λ none. ap summary_text (counts_are here begun.seen seen script does.run new ends.1 events);
          claim = law decls LARGEST_JOURNAL script begun.seen seen does.run (begun.is false).decls begun.starts;
        }

    -- the script came to a line in which it ended
    pub ran_broken : (why : WorldStop) → RunsScript disk script old (Err why) new before after
        → ScriptRun (run_setting disk decls LARGEST_JOURNAL false) begun.seen script [] (Some (stop_of_world why)) last
    ran_broken why runs =
        let here = run_setting disk decls LARGEST_JOURNAL false in
        let all = runs_at script old (Err why) new before after runs LARGEST_JOURNAL begun.limit_is decls begun.seen (begun.is false) in
        let seen = all.0 in
        let does = all.1 in
        let ends = all.2 in
        record {
          last = seen;
          run = does.run;
          unnoted = λ device. does.noted device ∙ begun.noted device;
          why = ap (λ (s : Stop). Some s) (sym (stop_is why)) ∙ sym (ap (option_map stop_of_end) ends.0);
          disk_is = one_disk new.place seen.journal.disk last ends.1 has;
          summary_is = λ none. absurd cc;
          claim = law decls LARGEST_JOURNAL script begun.seen seen does.run (begun.is false).decls begun.starts;
        }

  -- the disk is there after a script
  pub script_somewhere : (decls : Decls) (from : D) (old : Scene D) (begun : HasBegun disk decls from LARGEST_JOURNAL old) → (script : List ScriptStep)
      (result : Result (Unit {0}) WorldStop) (new : Scene D) (before after : List ℕ) → RunsScript disk script old result new before after → is_somewhere new.place ≡ true
  script_somewhere decls from old begun script result new before after runs =
      on result (runs_at script old result new before after runs LARGEST_JOURNAL begun.limit_is decls begun.seen (begun.is false))
    where
      on : (result : Result (Unit {0}) WorldStop)
          → (last : Seen D)
          × (does : RunsInWorld (run_setting disk decls LARGEST_JOURNAL false) script begun.seen old new before after last)
          × MatchResult result
          (λ done. (does.run.end ≡ None) × IsSeenAs (run_setting disk decls LARGEST_JOURNAL false) last new × IsNotReconciling new.place
          × KeepsLogs old new does.run.lines)
          (λ why. (does.run.why ≡ Some (end_of_run why)) × HasDisk new.place last.journal.disk)
          → is_somewhere new.place ≡ true
      on (Ok done) all = seen_somewhere (run_setting disk decls LARGEST_JOURNAL false) all.0 new.place all.2.1.place
      on (Err why) all = disk_somewhere new.place all.0.journal.disk all.2.1

  -- nothing was written where the run ended
  wrote_none : (why : WorldStop) (held : Option (List ℕ)) → WroteSummary held held [] (Some (stop_of_world why)) (Err (stop_of_world why))
  wrote_none stop.JournalFault held = (refl, refl)
  wrote_none (stop.Full len) held = (refl, refl)
  wrote_none stop.Memory held = refl
  wrote_none (stop.Foreign at) held = (refl, refl)
  wrote_none stop.NotJournal held = (refl, refl)
  wrote_none (stop.Damaged at) held = (refl, refl)

  summed_so : (bundle : ScriptedBundle) (before after : Outside D) (status : Result Done Stop) → SummedRun disk bundle before after status → EndsSummed disk bundle before after status
  summed_so bundle before after (Ok done) run = run
  summed_so bundle before after (Err ending.WriteFault) run = run
  summed_so bundle before after (Err other) run = inr run

  module _ (goes_on : (first second : Course) (a b c : D) → disk.leads first a b → disk.leads second b c → disk.leads (joined first second) a c)
      (counts : (course : Course) (a b : D) → disk.leads course a b → Counted course.failed (disk.faults a) (disk.faults b))
      (law : ReadBackRunsHaveTheHeadline disk) (decls : Decls) (from : D) (old : Scene D) (begun : HasBegun disk decls from LARGEST_JOURNAL old)
      (script : List ScriptStep) (new : Scene D) (text text' : List ℕ) (last : D) (has : HasDisk new.place last) where
    -- the summary was printed, or wasn't
    pub summed_whole : RunsScript disk script old (Ok tt) new text text' → (left left' a b : Option (List ℕ)) (status : Result Done Stop)
        → WroteSummary a b (summary_text (counts_in script new)) None status
        → EndsSummed disk (record { decls = decls; steps = script }) (record { left = left; held = a; disk = from }) (record { left = left'; held = b; disk = last }) status
    summed_whole runs left left' a b status wrote = summed_so _ _ _ status (record {
      first = begun.seen;
      greeting = greeting_at old.place;
      begins = begins_over disk goes_on counts decls from old begun (greeting_at old.place) (greets_at old.place);
      summary = summary_text (counts_in script new);
      end = None;
      ran = ran_whole law decls from old begun script new text text' last has runs;
      wrote = wrote;
    })

    -- the run ended in a line
    pub summed_broken : (why : WorldStop) → RunsScript disk script old (Err why) new text text' → (left left' a : Option (List ℕ))
        → EndsSummed disk (record { decls = decls; steps = script }) (record { left = left; held = a; disk = from }) (record { left = left'; held = a; disk = last })
        (Err (stop_of_world why))
    summed_broken why runs left left' a = summed_so _ _ _ (Err (stop_of_world why)) (record {
      first = begun.seen;
      greeting = greeting_at old.place;
      begins = begins_over disk goes_on counts decls from old begun (greeting_at old.place) (greets_at old.place);
      summary = [];
      end = Some (stop_of_world why);
      ran = ran_broken law decls from old begun script new text text' last has why runs;
      wrote = wrote_none why a;
    })

  -- a fault of the journal's disk was counted
  pub summed_rose : (bundle : ScriptedBundle) (before after : Outside D) (status : Result Done Stop) → SumsOrNeverBegins disk bundle before after status
      → status ≡ Err ending.JournalFault → Rose (disk.faults before.disk) (disk.faults after.disk)
  summed_rose bundle before after status ends is =
      ⊎_elim never (λ not. ⊎_elim (λ unopened. unopened.cause) fault not) (subst (SumsOrNeverBegins disk bundle before after) is ends)
    where
      never : (◌≡◌ {A = Result Done Stop} (Err ending.JournalFault) (Err ending.Memory)) × (after.held ≡ before.held) × (after.disk ≡ before.disk)
          → Rose (disk.faults before.disk) (disk.faults after.disk)
      never so = absurd (apart so.0)
        where
          apart : ◌≡◌ {A = Result Done Stop} (Err ending.JournalFault) (Err ending.Memory) → ⊥
          apart wrong = cc

      fault : SummedRun disk bundle before after (Err ending.JournalFault) → Rose (disk.faults before.disk) (disk.faults after.disk)
      fault run = rose_later (disk.faults before.disk) (disk.faults run.first.journal.disk) (disk.faults after.disk) run.begins.later
          (script_rose (run_setting disk bundle.decls LARGEST_JOURNAL false) run.first bundle.steps run.summary run.end after.disk run.ran run.wrote.0)
