-- The run of a bundle: how it ended, by the status.
use Rattle.std.proofs.Common.{◌≡◌, ◌⊎◌, ℕ, ◌+◌, true, false, List, [], Some, None, Ok, Err, Option, Result, IfErr, OnOk, OnErr, is_err, inl, inr, ⊎_elim, refl, sym, subst, append-nil, arith}
use Rattle.std.specs.Io.KnownBytes.{Appends, Consumes}
use Rattle.std.proofs.lemmas.Bool.{false≢true}
use Rattle.orc_io.specs.Counts.{Rose}
use Rattle.orc_io.specs.Pieces.{GivesUpTo, TakesFront}
use Rattle.orc_lines.specs.declared.lines.TheConstants.{LARGEST_BUNDLE}
use Rattle.orc_disk.specs.Course.{Counted}
use Rattle.orc_disk.specs.Meanings.{DiskMeaning}
use Rattle.orc_disk.specs.Moments.{LeavesOnly}
use Rattle.orc_disk.specs.Rows.{Course, joined}
use Rattle.orc_bundle.specs.declared.scripted.ScriptedBundle.{ScriptedBundle}
use Rattle.orc_decls.specs.declared.declarations.Decls.{Decls}
use Rattle.orc_decls.specs.declared.rule.Rule.{Rule}
use Rattle.orc_run.specs.ReadBack.{ReadBackRunsHaveTheHeadline}
use Rattle.orc_script.specs.declared.step.ScriptStep.{ScriptStep}
use Rattle.orc_words.specs.declared.words.Command.{Command}
use Rattle.orc_words.specs.declared.words.Command.TheVariants.{Check, Run, History, Gen}
use Rattle.orc_scene.specs.Begins.{HasBegun}
use Rattle.orc_scene.specs.Stands.{HasDisk, run_setting}
use Rattle.orc_scene.specs.declared.scene.Scene.{Scene}
use Rattle.orc_run.specs.Checks.{EndsCheck}
use Rattle.orc_run.specs.Ends.{BundleRun, EndsBy, EndsOver, EndsSummed, GivesBundle, GivesBundleFor, GivesFaultFor, Outside, WholeCheck, WholeGeneration, WholeHistory, WholeRun, asking_history}
use Rattle.orc_run.specs.Opening.{IsRefused, MayBeOpening}
use Rattle.orc_run.specs.declared.opening.TheConstants.{LARGEST_JOURNAL}
use Rattle.orc_run.specs.declared.stop.Done.{Done}
use Rattle.orc_run.specs.declared.stop.Stop.{Stop}
use Rattle.orc_run.specs.declared.stop.Stop.TheVariants as ending
use Rattle.std.specs.Prelude.{is_some}
use Rattle.orc_run.specs.inside.Inputs.{IsInputStop, IsRunStop, numbers_of}
use Rattle.orc_run.specs.inside.Scripts.{EndsOrNeverBegins, Finishes, Greets}
use Rattle.orc_run.specs.inside.Sums.{SumsOrNeverBegins}
use Rattle.orc_run.proofs.Beginning.{begins_over, given, is_first, none_done, opening_over}
use Rattle.orc_run.proofs.Finishing.{disk_there, runs_so_far}
use Rattle.orc_run.proofs.Rising.{rose_later, run_rose}
use Rattle.orc_run.proofs.Writing.{all_of, took_behind, took_one, wrote_more}

-- ---- how it ends

module _ {D : Type 0} (meaning : DiskMeaning D) where
  over_run : (bundle : ScriptedBundle) (before after : Outside D) (status : Result Done Stop) → BundleRun meaning bundle before after status
      → EndsOver meaning bundle before after status
  over_run bundle before after (Ok done) run = run
  over_run bundle before after (Err ending.WriteFault) run = run
  over_run bundle before after (Err other) run = inr run

  module _ (goes_on : (first second : Course) (a b c : D) → meaning.leads first a b → meaning.leads second b c → meaning.leads (joined first second) a c)
      (counts : (course : Course) (a b : D) → meaning.leads course a b → Counted course.failed (meaning.faults a) (meaning.faults b)) where
    -- memory ran out for what is printed at first
    pub wanting_over : (decls : Decls) (from : D) (world : Scene D) (begun : HasBegun meaning decls from LARGEST_JOURNAL world) (steps : List ScriptStep)
        (left left' held : Option (List ℕ)) (last : D) → HasDisk world.place last
        → EndsOver meaning (record { decls = decls; steps = steps }) (record { left = left; held = held; disk = from }) (record { left = left'; held = held; disk = last })
        (Err ending.Memory)
    wanting_over decls from world begun steps left left' held last has =
        let same : begun.seen.journal.disk ≡ last = disk_there (run_setting meaning decls LARGEST_JOURNAL false) begun.seen world.place last (begun.is false).place has in
        inl (record {
          cause = tt;
          refused = subst (λ (d : D). IsRefused meaning decls from d ending.Memory) same
              (inr (begun.seen.journal.synced, (given meaning goes_on counts decls from world begun).opened, tt));
          opening = subst (λ (d : D). LeavesOnly meaning from d (MayBeOpening meaning decls from)) same (opening_over meaning goes_on counts decls from world begun);
          same = refl;
        })

    -- what is printed at first could not be written
    pub nothing_written : ReadBackRunsHaveTheHeadline meaning → (decls : Decls) (from : D) (world : Scene D) (begun : HasBegun meaning decls from LARGEST_JOURNAL world)
        (steps : List ScriptStep) (left left' a b : Option (List ℕ)) (text : List ℕ) → Greets world.place text → (last : D) → HasDisk world.place last → TakesFront a b text
        → EndsOver meaning (record { decls = decls; steps = steps }) (record { left = left; held = a; disk = from }) (record { left = left'; held = b; disk = last })
        (Err ending.WriteFault)
    nothing_written law decls from world begun steps left left' a b text greets last has front = record {
      first = begun.seen;
      greeting = text;
      begins = begins_over meaning goes_on counts decls from world begun text greets;
      done = [];
      rest = steps;
      parts = refl;
      texts = [];
      end = None;
      ran = runs_so_far meaning law decls begun.seen world (is_first meaning decls from world begun) [] [] world last
          (none_done meaning decls begun.seen world (is_first meaning decls from world begun)) has;
      wrote = subst (TakesFront a b) (sym (append-nil text)) front;
      whole = λ ok. absurd (false≢true ok);
      unwritten = λ failed. took_one a b text front;
    }

    -- what is printed at first was written, and the lines were done
    pub finished_over : (decls : Decls) (from : D) (world : Scene D) (begun : HasBegun meaning decls from LARGEST_JOURNAL world)
        (steps : List ScriptStep) (left left' a b c : Option (List ℕ)) (text : List ℕ) → Greets world.place text → Appends a b text → (last : D) (status : Result Done Stop)
        → Finishes meaning decls begun.seen b c steps last status
        → EndsOver meaning (record { decls = decls; steps = steps }) (record { left = left; held = a; disk = from }) (record { left = left'; held = c; disk = last }) status
    finished_over decls from world begun steps left left' a b c text greets took last status fin = over_run _ _ _ status (record {
      first = begun.seen;
      greeting = text;
      begins = begins_over meaning goes_on counts decls from world begun text greets;
      done = fin.done;
      rest = fin.rest;
      parts = fin.parts;
      texts = fin.texts;
      end = fin.end;
      ran = fin.ran;
      wrote = wrote_more a b c text (all_of fin.texts) fin.end status took fin.wrote;
      whole = fin.whole;
      unwritten = λ failed. took_behind a b c text fin.texts took (fin.unwritten failed);
    })

  -- a fault of the journal's disk was counted
  pub over_rose : (bundle : ScriptedBundle) (before after : Outside D) (status : Result Done Stop) → EndsOrNeverBegins meaning bundle before after status
      → status ≡ Err ending.JournalFault → Rose (meaning.faults before.disk) (meaning.faults after.disk)
  over_rose bundle before after status ends is =
      ⊎_elim never (λ not. ⊎_elim (λ unopened. unopened.cause) fault not) (subst (EndsOrNeverBegins meaning bundle before after) is ends)
    where
      never : (◌≡◌ {A = Result Done Stop} (Err ending.JournalFault) (Err ending.Memory)) × (after.held ≡ before.held) × (after.disk ≡ before.disk)
          → Rose (meaning.faults before.disk) (meaning.faults after.disk)
      never so = absurd (apart so.0)
        where
          apart : ◌≡◌ {A = Result Done Stop} (Err ending.JournalFault) (Err ending.Memory) → ⊥
          apart wrong = cc

      fault : BundleRun meaning bundle before after (Err ending.JournalFault) → Rose (meaning.faults before.disk) (meaning.faults after.disk)
      fault run = rose_later (meaning.faults before.disk) (meaning.faults run.first.journal.disk) (meaning.faults after.disk) run.begins.later
          (run_rose (run_setting meaning bundle.decls LARGEST_JOURNAL false) run.first run.done run.texts run.end after.disk run.ran run.wrote.0)

  -- by the status, where the script of a bundle was run
  by_run : (before after : Outside D) (status : Result Done Stop) → IfErr status IsRunStop
      → WholeRun meaning before after status → EndsBy meaning (Some Run) before after status
  by_run before after (Ok done) why ends = ends
  by_run before after (Err (ending.Bundle line rule)) why ends = absurd why
  by_run before after (Err ending.Usage) why ends = absurd why
  by_run before after (Err ending.ReadFault) why ends = absurd why
  by_run before after (Err ending.Memory) why ends = inr ends
  by_run before after (Err ending.WriteFault) why ends = ends
  by_run before after (Err ending.JournalFault) why ends = ends
  by_run before after (Err (ending.Foreign at)) why ends = ends
  by_run before after (Err (ending.Full len)) why ends = ends
  by_run before after (Err ending.NotJournal) why ends = ends
  by_run before after (Err (ending.Damaged at)) why ends = ends

  -- where a bundle was made
  by_generation : (number devices calls : ℕ) (before after : Outside D) (status : Result Done Stop) → IfErr status IsRunStop
      → WholeGeneration meaning number devices calls before after status → EndsBy meaning (Some (Gen number devices calls)) before after status
  by_generation number devices calls before after (Ok done) why ends = ends
  by_generation number devices calls before after (Err (ending.Bundle line rule)) why ends = absurd why
  by_generation number devices calls before after (Err ending.Usage) why ends = absurd why
  by_generation number devices calls before after (Err ending.ReadFault) why ends = absurd why
  by_generation number devices calls before after (Err ending.Memory) why ends = inr ends
  by_generation number devices calls before after (Err ending.WriteFault) why ends = ends
  by_generation number devices calls before after (Err ending.JournalFault) why ends = ends
  by_generation number devices calls before after (Err (ending.Foreign at)) why ends = ends
  by_generation number devices calls before after (Err (ending.Full len)) why ends = ends
  by_generation number devices calls before after (Err ending.NotJournal) why ends = ends
  by_generation number devices calls before after (Err (ending.Damaged at)) why ends = ends

  generation_by : (number devices calls : ℕ) (bundle : ScriptedBundle) (before after : Outside D) (status : Result Done Stop) → IfErr status IsRunStop
      → GivesBundleFor (Gen number devices calls) before.left after.left bundle
      → GivesUpTo (LARGEST_BUNDLE + 1) before.left after.left → (steps : List ScriptStep) → steps ≡ bundle.steps
      → SumsOrNeverBegins meaning (record { decls = bundle.decls; steps = steps }) before after status
      → EndsBy meaning (Some (Gen number devices calls)) before after status
  generation_by number devices calls bundle before after status why gives most steps same ends = ⊎_elim
      (λ never. subst (λ (s : Result Done Stop). EndsBy meaning (Some (Gen number devices calls)) before after s) (sym never.0) (inl (most, never.1, never.2)))
      (λ over. by_generation number devices calls before after status why (record {
        bundle = bundle;
        made = gives.0;
        unread = gives.1;
        ends = subst (λ (l : List ScriptStep). EndsSummed meaning (record { decls = bundle.decls; steps = l }) before after status) same over;
      }))
      ends

  -- whatever its numbers are
  pub made_by : (command : Command) → is_some (numbers_of command) ≡ true → (bundle : ScriptedBundle) (before after : Outside D) (status : Result Done Stop)
      → IfErr status IsRunStop → GivesBundleFor command before.left after.left bundle
      → GivesUpTo (LARGEST_BUNDLE + 1) before.left after.left → (steps : List ScriptStep) → steps ≡ bundle.steps
      → SumsOrNeverBegins meaning (record { decls = bundle.decls; steps = steps }) before after status
      → EndsBy meaning (Some command) before after status
  made_by Check is bundle before after status why gives most steps same ends = absurd (false≢true is)
  made_by Run is bundle before after status why gives most steps same ends = absurd (false≢true is)
  made_by History is bundle before after status why gives most steps same ends = absurd (false≢true is)
  made_by (Gen number devices calls) is bundle before after status why gives most steps same ends =
      generation_by number devices calls bundle before after status why gives most steps same ends

  -- where the history was asked for
  by_history : (before after : Outside D) (status : Result Done Stop) → IfErr status IsRunStop
      → WholeHistory meaning before after status → EndsBy meaning (Some History) before after status
  by_history before after (Ok done) why ends = ends
  by_history before after (Err (ending.Bundle line rule)) why ends = absurd why
  by_history before after (Err ending.Usage) why ends = absurd why
  by_history before after (Err ending.ReadFault) why ends = absurd why
  by_history before after (Err ending.Memory) why ends = inr ends
  by_history before after (Err ending.WriteFault) why ends = ends
  by_history before after (Err ending.JournalFault) why ends = ends
  by_history before after (Err (ending.Foreign at)) why ends = ends
  by_history before after (Err (ending.Full len)) why ends = ends
  by_history before after (Err ending.NotJournal) why ends = ends
  by_history before after (Err (ending.Damaged at)) why ends = ends

  -- whatever became of the run
  pub run_by : (bundle : ScriptedBundle) (before after : Outside D) (status : Result Done Stop) → IfErr status IsRunStop → GivesBundle before.left after.left bundle
      → GivesUpTo (LARGEST_BUNDLE + 1) before.left after.left → (steps : List ScriptStep) → steps ≡ bundle.steps
      → EndsOrNeverBegins meaning (record { decls = bundle.decls; steps = steps }) before after status
      → EndsBy meaning (Some Run) before after status
  run_by bundle before after status why gives most steps same ends = ⊎_elim
      (λ never. subst (λ (s : Result Done Stop). EndsBy meaning (Some Run) before after s) (sym never.0) (inl (most, never.1, never.2)))
      (λ over. by_run before after status why (record {
        bundle = bundle;
        gives = gives;
        ends = subst (λ (l : List ScriptStep). EndsOver meaning (record { decls = bundle.decls; steps = l }) before after status) same over;
      }))
      ends

  pub history_by : (bundle : ScriptedBundle) (before after : Outside D) (status : Result Done Stop) → IfErr status IsRunStop → GivesBundle before.left after.left bundle
      → GivesUpTo (LARGEST_BUNDLE + 1) before.left after.left → EndsOrNeverBegins meaning (asking_history bundle) before after status
      → EndsBy meaning (Some History) before after status
  history_by bundle before after status why gives most ends = ⊎_elim
      (λ never. subst (λ (s : Result Done Stop). EndsBy meaning (Some History) before after s) (sym never.0) (inl (most, never.1, never.2)))
      (λ over. by_history before after status why (record { bundle = bundle; gives = gives; ends = over }))
      ends

  -- where memory ran out for the command of the words
  pub by_words : (command : Option Command) (outside : Outside D) → GivesUpTo (LARGEST_BUNDLE + 1) outside.left outside.left
      → EndsBy meaning command outside outside (Err ending.Memory)
  by_words None outside none = refl
  by_words (Some command) outside none = inl (none, refl, refl)

  -- where it was checked
  pub by_check : (before after : Outside D) (status : Result Done Stop) → WholeCheck meaning before after status → EndsBy meaning (Some Check) before after status
  by_check before after (Ok done) ends = ends
  by_check before after (Err (ending.Bundle line rule)) ends = absurd ends.ends
  by_check before after (Err ending.Usage) ends = absurd ends.ends
  by_check before after (Err ending.ReadFault) ends = absurd ends.ends
  by_check before after (Err ending.Memory) ends = inr ends
  by_check before after (Err ending.WriteFault) ends = ends
  by_check before after (Err ending.JournalFault) ends = ends
  by_check before after (Err (ending.Foreign at)) ends = ends
  by_check before after (Err (ending.Full len)) ends = ends
  by_check before after (Err ending.NotJournal) ends = ends
  by_check before after (Err (ending.Damaged at)) ends = ends

  -- where no bundle was read
  pub by_input : (command : Command) (before after : Outside D) (end : Stop) → IsInputStop end
      → ((line : ℕ) (rule : Rule) → end ≡ ending.Bundle line rule → GivesFaultFor command before.left after.left line rule)
      → GivesUpTo (LARGEST_BUNDLE + 1) before.left after.left → after.held ≡ before.held → after.disk ≡ before.disk
      → EndsBy meaning (Some command) before after (Err end)
  by_input command before after (ending.Bundle line rule) why fault took held disk = fault line rule refl
  by_input command before after ending.Usage why fault took held disk = absurd why
  by_input command before after ending.ReadFault why fault took held disk = took
  by_input command before after ending.Memory why fault took held disk = inl (took, held, disk)
  by_input command before after ending.WriteFault why fault took held disk = absurd why
  by_input command before after ending.JournalFault why fault took held disk = absurd why
  by_input command before after (ending.Foreign at) why fault took held disk = absurd why
  by_input command before after (ending.Full len) why fault took held disk = absurd why
  by_input command before after ending.NotJournal why fault took held disk = absurd why
  by_input command before after (ending.Damaged at) why fault took held disk = absurd why

-- ---- small facts

-- a check ends so
pub check_is : (bundle : ScriptedBundle) (held now : Option (List ℕ)) (status : Result Done Stop) (end : Stop) → EndsCheck bundle held now status → status ≡ Err end → EndsCheck bundle held now (Err end)
check_is bundle held now status end ends is = subst (λ (s : Result Done Stop). EndsCheck bundle held now s) is ends

-- a source that was not asked gave no byte
pub gives_none : (most : ℕ) (left : Option (List ℕ)) → GivesUpTo most left left
gives_none most left = ([], omega arith, none left)
  where
    none : (left : Option (List ℕ)) → Consumes left left []
    none None = tt
    none (Some bytes) = refl

pub ok_of : {T E P : Type 0} (r : Result T E) → is_err r ≡ false → OnOk r P → P
ok_of (Ok x) e h = h
ok_of (Err x) e h = absurd (apart e)
  where
    apart : true ≡ false → ⊥
    apart h = cc

pub err_of : {T E P : Type 0} (r : Result T E) → is_err r ≡ true → OnErr r P → P
err_of (Ok x) e h = absurd (apart e)
  where
    apart : false ≡ true → ⊥
    apart h = cc
err_of (Err x) e h = h
