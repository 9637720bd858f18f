-- Lines of a script, one more, and the run that they are.
use Rattle.std.proofs.Common.{◌≡◌, ◌⊎◌, inl, inr, ⊎_elim, ℕ, false, List, [], ◌∷◌, ◌++◌, map, None, Some, refl, sym, ap, ◌∙◌, append-nil}
use Rattle.std.proofs.lemmas.List.{map-append}
use Rattle.std.proofs.lemmas.List.Sums.{fold-append}
use Rattle.orc_decls.specs.Devices.{name_of}
use Rattle.orc_device.specs.declared.reply.Logged.{Logged}
use Rattle.orc_print.specs.Logs.{log_text}
use Rattle.orc_rules.specs.Worlds.{Setting, World as Seen}
use Rattle.orc_run.specs.Reads.{ReadsGiveWhatWasWritten}
use Rattle.orc_runs.specs.Headline.{Headline}
use Rattle.orc_runs.specs.Runs.{AreDone, IsDone, LineDone, PrintLogs, Run, logged, logged_with, turns_of}
use Rattle.orc_script.specs.declared.step.ScriptStep.{ScriptStep}
use Rattle.orc_script.specs.declared.step.ScriptStep.TheVariants as step
use Rattle.orc_world.specs.Lines.{DoesLine, EndsInLine}
use Rattle.orc_scene.specs.RunEnds.{end_of_run}
use Rattle.orc_scene.specs.declared.stop.WorldStop.{WorldStop}
use Rattle.orc_scene.specs.declared.stop.WorldStop.TheVariants as stop
use Rattle.orc_scene.specs.declared.scene.Scene.{Scene}
use Rattle.orc_run.specs.Ends.{LinesRun, stop_of_end}
use Rattle.orc_run.specs.declared.stop.Stop.{Stop}
use Rattle.orc_run.specs.inside.Scripts.{HasDone, stop_of_world}

-- one more after a list, cut in two at an element: that is the one, or stands before it
split_last : {A : Type 0} (xs : List A) (x : A) (earlier later : List A) (y : A) → xs ++ x ∷ [] ≡ earlier ++ y ∷ later
    → ((earlier ≡ xs) × (y ≡ x)) ⊎ ((more : List A) × (xs ≡ earlier ++ y ∷ more))
split_last [] x [] later y is = inl (refl, cc)
split_last [] x (e ∷ []) later y is = absurd cc
split_last [] x (e ∷ f ∷ es) later y is = absurd cc
split_last (z ∷ zs) x [] later y is =
    let same : z ≡ y = cc in
    inr (zs, ap (λ a. a ∷ zs) same)
split_last (z ∷ zs) x (e ∷ es) later y is =
    let first : z ≡ e = cc in
    let rest : zs ++ x ∷ [] ≡ es ++ y ∷ later = cc in
    ⊎_elim
    (λ here. inl (ap (λ a. a ∷ es) (sym first) ∙ ap (λ l. z ∷ l) here.0, here.1))
    (λ before. inr (before.0, ap (λ a. a ∷ zs) first ∙ ap (λ l. e ∷ l) before.1))
    (split_last zs x es later y rest)

-- how the program ends, as the world and as the rules have it
pub stop_is : (why : WorldStop) → stop_of_end (end_of_run why) ≡ stop_of_world why
stop_is stop.JournalFault = refl
stop_is (stop.Full len) = refl
stop_is stop.Memory = refl
stop_is (stop.Foreign at) = refl
stop_is stop.NotJournal = refl
stop_is (stop.Damaged at) = refl

module _ {D : Type 0} (here : Setting D) where
  -- one more line
  are_more : (first middle : Seen D) (lines : List (LineDone D)) (line : LineDone D) → AreDone here first lines middle
      → line.before ≡ middle → IsDone here false line → AreDone here first (lines ++ line ∷ []) line.behind
  are_more first middle [] line are before is = (before ∙ sym are, is, refl)
  are_more first middle (one ∷ lines) line are before is = (are.0, are.1, are_more one.behind middle lines line are.2 before is)

  -- the logs of one more
  logs_more : (names : List (List ℕ)) (lines : List (LineDone D)) (last : LineDone D) → PrintLogs names (λ device. []) lines
      → ((device : ℕ) → last.step ≡ step.Log device → last.text ≡ log_text (name_of names device) (logged device [] lines))
      → PrintLogs names (λ device. []) (lines ++ last ∷ [])
  logs_more names lines last before prints earlier later line device split log = ⊎_elim
      (λ is.
      let text : last.text ≡ log_text (name_of names device) (logged device [] lines) = prints device (ap (λ (l : LineDone D). l.step) (sym is.1) ∙ log) in
      ap (λ (l : LineDone D). l.text) is.1 ∙ text ∙ ap (λ (l : List (LineDone D)). log_text (name_of names device) (logged device [] l)) (sym is.0))
      (λ inner. before earlier inner.0 line device inner.1 log)
      (split_last lines last earlier later line split)

  -- a line was done after others
  pub one_more : (first : Seen D) (done : List ScriptStep) (texts : List (List ℕ)) (line : ScriptStep) (old new : Scene D) (text : List ℕ)
      (so : HasDone here first done texts old) → DoesLine here line so.seen old new [] text → HasDone here first (done ++ line ∷ []) (texts ++ text ∷ []) new
  one_more first done texts line old new text so does =
      let last : LineDone D = record { step = line; before = so.seen; turns = does.turns; behind = does.next; text = does.text } in
      record {
        lines = so.lines ++ last ∷ [];
        seen = does.next;
        are = are_more first so.seen so.lines last so.are refl does.done;
        steps_are = map-append (λ (l : LineDone D). l.step) so.lines (last ∷ []) ∙ ap (λ (l : List ScriptStep). l ++ line ∷ []) so.steps_are;
        texts_are = map-append (λ (l : LineDone D). l.text) so.lines (last ∷ []) ∙ ap (λ (l : List (List ℕ)). l ++ does.text ∷ []) so.texts_are
            ∙ ap (λ (t : List ℕ). texts ++ t ∷ []) (sym does.printed);
        is = does.is;
        unmended = does.unmended;
        noted = λ device. does.logs device
            ∙ ap (λ (rows : List Logged). logged_with device rows last) (so.noted device)
            ∙ sym (fold-append (logged_with device) [] so.lines (last ∷ []));
        logs = logs_more here.decls.names so.lines last so.logs (λ device log. does.log device log ∙ ap (λ (rows : List Logged). log_text (name_of here.decls.names device) rows) (so.noted device));
      }

  module _ (first : Seen D) (claim : (script : List ScriptStep) (last : Seen D) (run : Run here script first last)
      → ReadsGiveWhatWasWritten here.disk first (turns_of run) → Headline here script first last run) where
    -- the run that lines are, where it didn't end in them
    pub ran_so_far : (done : List ScriptStep) (texts : List (List ℕ)) (world : Scene D) (disk : D) (so : HasDone here first done texts world)
        → so.seen.journal.disk ≡ disk → LinesRun here first done texts None disk
    ran_so_far done texts world disk so left =
        let run : Run here done first so.seen = record {
          lines = so.lines;
          middle = so.seen;
          done = so.are;
          end = None;
          ends = refl;
          why = None;
          because = refl;
          rest = [];
          parts = sym (append-nil (map (λ (l : LineDone D). l.step) (so.lines ++ [])) ∙ ap (map (λ (l : LineDone D). l.step)) (append-nil so.lines) ∙ so.steps_are);
          whole = λ none. refl;
          noted = λ device. [];
          logs = so.logs;
        } in
        record {
          last = so.seen;
          run = run;
          each = refl;
          unnoted = λ device. refl;
          prints = sym (ap (map (λ (l : LineDone D). l.text)) (append-nil so.lines) ∙ so.texts_are);
          why = refl;
          disk_is = left;
          claim = claim done so.seen run;
        }

    -- a run of lines and of one after them, in which it ended
    pub ran_to_end : (done : List ScriptStep) (texts : List (List ℕ)) (line : ScriptStep) (old new : Scene D) (text : List ℕ) (why : WorldStop) (disk : D)
        (so : HasDone here first done texts old) (ends : EndsInLine here line so.seen old new [] text why)
        → ends.last.journal.disk ≡ disk → LinesRun here first (done ++ line ∷ []) (texts ++ text ∷ []) (Some (stop_of_world why)) disk
    ran_to_end done texts line old new text why disk so ends left =
        let last : LineDone D = record { step = line; before = so.seen; turns = ends.turns; behind = ends.last; text = ends.text } in
        let steps : map (λ (l : LineDone D). l.step) (so.lines ++ last ∷ []) ≡ done ++ line ∷ [] =
        map-append (λ (l : LineDone D). l.step) so.lines (last ∷ []) ∙ ap (λ (l : List ScriptStep). l ++ line ∷ []) so.steps_are in
        let texts_are : map (λ (l : LineDone D). l.text) (so.lines ++ last ∷ []) ≡ texts ++ text ∷ [] =
        map-append (λ (l : LineDone D). l.text) so.lines (last ∷ []) ∙ ap (λ (l : List (List ℕ)). l ++ ends.text ∷ []) so.texts_are
        ∙ ap (λ (t : List ℕ). texts ++ t ∷ []) (sym ends.printed) in
        let run : Run here (done ++ line ∷ []) first ends.last = record {
          lines = so.lines;
          middle = so.seen;
          done = so.are;
          end = Some last;
          ends = (refl, ends.done, refl);
          why = Some (end_of_run why);
          because = (ends.because, ends.says);
          rest = [];
          parts = sym (append-nil (map (λ (l : LineDone D). l.step) (so.lines ++ last ∷ [])) ∙ steps);
          whole = λ none. absurd cc;
          noted = λ device. [];
          logs = so.logs;
        } in
        record {
          last = ends.last;
          run = run;
          each = refl;
          unnoted = λ device. refl;
          prints = sym texts_are;
          why = ap (λ (s : Stop). Some s) (sym (stop_is why));
          disk_is = left;
          claim = claim (done ++ line ∷ []) ends.last run;
        }
